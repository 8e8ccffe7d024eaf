use Rattle.std.proofs.Common.{◌<◌, arith}
use Rattle.trace.specs.Trace.{Message}
use Rattle.encode.specs.Encode.{message}
use Rattle.lists.specs.EachLaws.{all_bytes}
use Rattle.c_codec.specs.Numbers.{truth}
use Rattle.c_codec.proofs.CodecLaws.{small_symbols}
use Rattle.c_codec.proofs.symbols.encode_symbols.Goals as goal

pub overflow_cast-n : goal.overflow_cast-n
overflow_cast-n c =
    let a = c.args in
    let t : Message = message a.address a.direction a.command a.sent.now a.received.now in
    let cb : a.command < 256 = omega arith in
    let sb = all_bytes a.sent.now (λ i. (c.shared_slice_known-1.given i).fits) in
    let rb = all_bytes a.received.now (λ i. (c.shared_slice_known-2-1.given i).fits) in
    omega (arith, small_symbols a.protocol (truth a.pec) t cb sb rb _ _ _ c.encode-r.ensures _ c.in-Ok.is)
