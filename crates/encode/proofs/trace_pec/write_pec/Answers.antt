use Rattle.encode.proofs.PecLaws.{write_pec}
use Rattle.encode.proofs.trace_pec.write_pec.Goals as goal

pub returns : goal.returns
returns c =
    let k = c.args in
    write_pec k.sh k.first.0 k.command k.sent.now _ _ _ c.add_byte.ensures c.add_byte_if-c.ensures c.add_part.ensures
