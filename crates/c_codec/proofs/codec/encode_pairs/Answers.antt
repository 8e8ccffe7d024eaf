use Rattle.std.proofs.Common.{refl, sym, ◌<◌, arith, length-take-le}
use Rattle.trace.specs.Trace.{Message}
use Rattle.encode.specs.Encode.{message}
use Rattle.lists.specs.EachLaws.{all_bytes}
use Rattle.c_codec.specs.Numbers.{truth}
use Rattle.c_codec.proofs.CodecLaws.{refused_pairs, small, short_pairs, done_pairs}
use Rattle.c_codec.proofs.codec.encode_pairs.Goals as goal

pub returns-in_default : goal.returns-in_default
returns-in_default c =
    let a = c.args in
    let t : Message = message a.address a.direction a.command a.sent.now a.received.now in
    let cb : a.command < 256 = omega arith in
    let sb = all_bytes a.sent.now (λ i. (c.shared_slice_known-1.given i).fits) in
    let rb = all_bytes a.received.now (λ i. (c.shared_slice_known-2-1.given i).fits) in
    refused_pairs a.protocol (truth a.pec) t cb sb rb _ refl _ _ c.encode-r.ensures a.out.now _ c.in_default.is _ c.written.ensures

pub slice_bounds-buf-end : goal.slice_bounds-buf-end
slice_bounds-buf-end c =
    let a = c.args in
    let t : Message = message a.address a.direction a.command a.sent.now a.received.now in
    let cb : a.command < 256 = omega arith in
    let sb = all_bytes a.sent.now (λ i. (c.shared_slice_known-1.given i).fits) in
    let rb = all_bytes a.received.now (λ i. (c.shared_slice_known-2-1.given i).fits) in
    omega (arith, small a.protocol (truth a.pec) t cb sb rb _ refl _ _ c.encode-r.ensures _ c.in-Ok.is, c.buf-2-1.given)

pub slice_bounds-put_pairs-end : goal.slice_bounds-put_pairs-end
slice_bounds-put_pairs-end c =
    let a = c.args in
    let t : Message = message a.address a.direction a.command a.sent.now a.received.now in
    let cb : a.command < 256 = omega arith in
    let sb = all_bytes a.sent.now (λ i. (c.shared_slice_known-1.given i).fits) in
    let rb = all_bytes a.received.now (λ i. (c.shared_slice_known-2-1.given i).fits) in
    sym (length-take-le _ _ (omega (arith, small a.protocol (truth a.pec) t cb sb rb _ refl _ _ c.encode-r.ensures _ c.in-Ok.is, c.buf-2-1.given)))

pub overflow_cast-n : goal.overflow_cast-n
overflow_cast-n c =
    let a = c.args in
    let t : Message = message a.address a.direction a.command a.sent.now a.received.now in
    let cb : a.command < 256 = omega arith in
    let sb = all_bytes a.sent.now (λ i. (c.shared_slice_known-1.given i).fits) in
    let rb = all_bytes a.received.now (λ i. (c.shared_slice_known-2-1.given i).fits) in
    omega (arith, small a.protocol (truth a.pec) t cb sb rb _ refl _ _ c.encode-r.ensures _ c.in-Ok.is)

pub returns-then-put_pairs : goal.returns-then-put_pairs
returns-then-put_pairs c =
    let a = c.args in
    let t : Message = message a.address a.direction a.command a.sent.now a.received.now in
    let cb : a.command < 256 = omega arith in
    let sb = all_bytes a.sent.now (λ i. (c.shared_slice_known-1.given i).fits) in
    let rb = all_bytes a.received.now (λ i. (c.shared_slice_known-2-1.given i).fits) in
    done_pairs a.protocol (truth a.pec) t cb sb rb _ refl _ _ c.encode-r.ensures a.out.now _ c.in-Ok.is _ _ c.put_pairs.ensures c.if-put_pairs.true _ c.written-then-put_pairs.ensures

pub returns : goal.returns
returns c =
    let a = c.args in
    let t : Message = message a.address a.direction a.command a.sent.now a.received.now in
    let cb : a.command < 256 = omega arith in
    let sb = all_bytes a.sent.now (λ i. (c.shared_slice_known-1.given i).fits) in
    let rb = all_bytes a.received.now (λ i. (c.shared_slice_known-2-1.given i).fits) in
    short_pairs a.protocol (truth a.pec) t cb sb rb _ refl _ _ c.encode-r.ensures a.out.now _ c.in-Ok.is _ _ c.put_pairs.ensures c.if-put_pairs.false _ c.written-2.ensures
