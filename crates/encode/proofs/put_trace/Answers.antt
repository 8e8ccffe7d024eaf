use Rattle.std.proofs.Common.{arith}
use Rattle.trace.specs.Trace.{Message}
use Rattle.encode.specs.Encode.{message}
use Rattle.encode.proofs.WholeLaws.{write_asks, place_fits, rest_asks, trace_put}
use Rattle.encode.proofs.put_trace.Goals as goal

pub put_write_phase-n-requires : goal.put_write_phase-n-requires
put_write_phase-n-requires c =
    let a = c.args in
    let t : Message = message a.address.0 a.direction a.command a.sent.now a.received.now in
    write_asks a.sh a.pec t a.out.now c.requires _ _ _ c.first_byte-first.ensures c.for_read-second.ensures c.pec_of-pecbyte.ensures

pub offset_bounds-out-n : goal.offset_bounds-out-n
offset_bounds-out-n c =
    let a = c.args in
    let t : Message = message a.address.0 a.direction a.command a.sent.now a.received.now in
    let h = place_fits a.sh a.pec t a.out.now c.requires _ _ _ c.first_byte-first.ensures c.for_read-second.ensures c.pec_of-pecbyte.ensures _ c.put_write_phase-n.new.out c.put_write_phase-n.ensures.0 c.put_write_phase-n.ensures.1 c.put_write_phase-n.auto.out in omega arith

pub slice_bounds-put_rest-count : goal.slice_bounds-put_rest-count
slice_bounds-put_rest-count c =
    let a = c.args in
    let t : Message = message a.address.0 a.direction a.command a.sent.now a.received.now in
    let h = place_fits a.sh a.pec t a.out.now c.requires _ _ _ c.first_byte-first.ensures c.for_read-second.ensures c.pec_of-pecbyte.ensures _ c.put_write_phase-n.new.out c.put_write_phase-n.ensures.0 c.put_write_phase-n.ensures.1 c.put_write_phase-n.auto.out in omega arith

pub slice_bounds-put_rest-start : goal.slice_bounds-put_rest-start
slice_bounds-put_rest-start c =
    let a = c.args in
    let t : Message = message a.address.0 a.direction a.command a.sent.now a.received.now in
    let h = place_fits a.sh a.pec t a.out.now c.requires _ _ _ c.first_byte-first.ensures c.for_read-second.ensures c.pec_of-pecbyte.ensures _ c.put_write_phase-n.new.out c.put_write_phase-n.ensures.0 c.put_write_phase-n.ensures.1 c.put_write_phase-n.auto.out in omega arith

pub put_rest-requires : goal.put_rest-requires
put_rest-requires c =
    let a = c.args in
    let t : Message = message a.address.0 a.direction a.command a.sent.now a.received.now in
    rest_asks a.sh a.pec t a.out.now c.requires _ _ _ c.first_byte-first.ensures c.for_read-second.ensures c.pec_of-pecbyte.ensures _ c.put_write_phase-n.new.out c.put_write_phase-n.ensures.0 c.put_write_phase-n.ensures.1 c.put_write_phase-n.auto.out

pub returns : goal.returns
returns c =
    let a = c.args in
    let t : Message = message a.address.0 a.direction a.command a.sent.now a.received.now in
    trace_put a.sh a.pec t a.out.now c.requires _ _ _ c.first_byte-first.ensures c.for_read-second.ensures c.pec_of-pecbyte.ensures _ c.put_write_phase-n.new.out c.put_write_phase-n.ensures.0 c.put_write_phase-n.ensures.1 c.put_write_phase-n.auto.out _ c.put_rest.ensures
