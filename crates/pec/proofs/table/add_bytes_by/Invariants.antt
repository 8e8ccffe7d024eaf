use Rattle.std.proofs.Common.{◌≡◌, drop}
use Rattle.pec.specs.Table.{from_by}
use Rattle.pec.proofs.table.add_bytes_by.Given as goal

abbrev pub invariant-loop-b : goal.invariant-loop-b
invariant-loop-b l = from_by l.t l.c l.s ≡ from_by l.t l.z (drop l.b-index l.s)
