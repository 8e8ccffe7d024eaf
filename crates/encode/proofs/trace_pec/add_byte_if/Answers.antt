use Rattle.pec.specs.Pec.{pec_from}
use Rattle.encode.proofs.trace_pec.add_byte_if.Goals as goal

pub returns-then-there : goal.returns-then-there
unfolding pec_from
returns-then-there c = rw c.if-there.true c.add_byte.ensures

pub returns-else-there : goal.returns-else-there
unfolding pec_from
returns-else-there c = rw c.if-there.false
