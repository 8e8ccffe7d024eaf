use Rattle.std.proofs.Common.{◌*◌, ◌-◌, ◌≤◌, ◌≡◌, ◌++◌, length, drop}
use Rattle.bindings.specs.Entries.{rows_of}
use Rattle.report.specs.Report.{entry_at}
use Rattle.report.proofs.bindings_of.put_rows.Given as goal

abbrev pub invariant-loop-a : goal.invariant-loop-a
invariant-loop-a l = (length l.out ≡ length l.initial.out) × (l.out ≡ rows_of (entry_at l.slots) l.a ++ drop (l.a * 16) l.initial.out)
