use Rattle.std.proofs.Common.{length, drop, ◌≡◌}
use Rattle.scan.specs.Handed.{lows}
use Rattle.lists.specs.Onto.{onto}
use Rattle.decode.proofs.copy_data.Given as goal

abbrev pub invariant-loop-j : goal.invariant-loop-j
invariant-loop-j l = (length l.buf ≡ length l.initial.buf) × (l.buf ≡ onto (lows l.j (drop l.from l.tr)) l.initial.buf)
