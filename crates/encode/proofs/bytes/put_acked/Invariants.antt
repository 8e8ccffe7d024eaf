use Rattle.std.proofs.Common.{◌≡◌, ◌++◌, ◌≤◌, ◌-◌, ◌*◌, ◌+◌, length, take}
use Rattle.trace.specs.Trace.{acked}
use Rattle.lists.specs.Onto.{onto}
use Rattle.encode.proofs.bytes.put_acked.Given as goal

abbrev pub invariant-loop-i : goal.invariant-loop-i
invariant-loop-i l = (l.i ≤ length l.s) × (l.j ≡ l.at + 2 * l.i) × (length l.out ≡ length l.initial.out) × (l.out ≡ onto (take l.at l.initial.out ++ acked (take l.i l.s)) l.initial.out)

abbrev pub decreases-loop-i : goal.decreases-loop-i
decreases-loop-i l = length l.s - l.i
