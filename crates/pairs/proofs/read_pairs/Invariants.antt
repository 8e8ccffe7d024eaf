use Rattle.std.proofs.Common.{◌≡◌}
use Rattle.lists.specs.Onto.{onto}
use Rattle.pairs.specs.Pairs.{symbols_in}
use Rattle.pairs.proofs.read_pairs.Given as goal

abbrev pub invariant-loop-i : goal.invariant-loop-i
invariant-loop-i l = l.symbols ≡ onto (symbols_in l.i l.bytes) l.initial.symbols
