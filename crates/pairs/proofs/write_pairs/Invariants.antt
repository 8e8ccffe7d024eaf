use Rattle.std.proofs.Common.{◌≡◌, take}
use Rattle.lists.specs.Onto.{onto}
use Rattle.pairs.specs.Pairs.{pairs_of}
use Rattle.pairs.proofs.write_pairs.Given as goal

abbrev pub invariant-loop-i : goal.invariant-loop-i
invariant-loop-i l = l.out ≡ onto (pairs_of (take l.i l.symbols)) l.initial.out
