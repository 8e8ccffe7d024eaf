use Rattle.std.proofs.Common.{arith}
use Rattle.trace.specs.Trace.{acked, in_place}
use Rattle.trace.proofs.LengthLaws.{length_acked}
use Rattle.encode.proofs.WriterLaws.{onto_stop}
use Rattle.encode.proofs.read.put_end.Goals as goal

pub put_byte_if-e-requires : goal.put_byte_if-e-requires
put_byte_if-e-requires c = omega arith

pub returns : goal.returns
returns c =
    let e = c.put_byte_if-e.ensures in
    let q = in_place c.args.pec c.args.pecbyte in
    onto_stop (acked q) c.args.out.now c.put_byte_if-e.new.out _ e.1 (omega (arith, e.0, length_acked q)) (omega (arith, e.0, c.requires))
