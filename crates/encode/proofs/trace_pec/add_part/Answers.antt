use Rattle.encode.proofs.PecLaws.{part_pec}
use Rattle.encode.proofs.trace_pec.add_part.Goals as goal

pub returns : goal.returns
returns c = part_pec _ _ _ c.args.a c.args.s.now _ _ c.is_counted.ensures c.count_of.ensures c.add_byte_if.ensures c.add_bytes.ensures
