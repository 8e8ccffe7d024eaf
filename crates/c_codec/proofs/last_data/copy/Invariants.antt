use Rattle.std.proofs.Common.{◌≡◌, length, take}
use Rattle.lists.specs.Onto.{onto}
use Rattle.c_codec.proofs.last_data.copy.Given as goal

abbrev pub invariant-loop-i : goal.invariant-loop-i
invariant-loop-i l = (length l.out ≡ length l.initial.out) × (l.out ≡ onto (take l.i l.bytes) l.initial.out)
