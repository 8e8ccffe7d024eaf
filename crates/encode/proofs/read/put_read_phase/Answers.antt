use Rattle.encode.proofs.PhaseLaws.{turn_asks, received_asks, pec_asks, stop_asks, read_put}
use Rattle.encode.proofs.read.put_read_phase.Goals as goal

pub put_repeated_start-n-requires : goal.put_repeated_start-n-requires
put_repeated_start-n-requires c =
    turn_asks c.args.out.now c.args.received.now c.args.repeated c.args.second.0 c.args.a c.args.pec c.args.pecbyte c.requires.0

pub put_part-m-requires : goal.put_part-m-requires
put_part-m-requires c =
    received_asks c.args.out.now c.args.received.now c.args.repeated c.args.second.0 c.args.a c.args.pec c.args.pecbyte c.requires.0 _ _ c.put_repeated_start-n.ensures.0 c.put_repeated_start-n.ensures.1 c.put_repeated_start-n.auto.out

pub put_byte_if-e-requires : goal.put_byte_if-e-requires
put_byte_if-e-requires c =
    pec_asks c.args.out.now c.args.received.now c.args.repeated c.args.second.0 c.args.a c.args.pec c.args.pecbyte c.requires.0 _ _ c.put_repeated_start-n.ensures.0 c.put_repeated_start-n.ensures.1 c.put_repeated_start-n.auto.out _ _ c.put_part-m.ensures.0 c.put_part-m.ensures.1 c.put_part-m.auto.out

pub put_nack_stop-requires : goal.put_nack_stop-requires
put_nack_stop-requires c =
    stop_asks c.args.out.now c.args.received.now c.args.repeated c.args.second.0 c.args.a c.args.pec c.args.pecbyte c.requires.0 _ _ c.put_repeated_start-n.ensures.0 c.put_repeated_start-n.ensures.1 c.put_repeated_start-n.auto.out _ _ c.put_part-m.ensures.0 c.put_part-m.ensures.1 c.put_part-m.auto.out _ _ c.put_byte_if-e.ensures.0 c.put_byte_if-e.ensures.1 c.put_byte_if-e.auto.out c.requires.1

pub returns : goal.returns
returns c =
    read_put c.args.out.now c.args.received.now c.args.repeated c.args.second.0 c.args.a c.args.pec c.args.pecbyte c.requires.0 _ _ c.put_repeated_start-n.ensures.0 c.put_repeated_start-n.ensures.1 c.put_repeated_start-n.auto.out _ _ c.put_part-m.ensures.0 c.put_part-m.ensures.1 c.put_part-m.auto.out _ _ c.put_byte_if-e.ensures.0 c.put_byte_if-e.ensures.1 c.put_byte_if-e.auto.out c.requires.1 _ c.put_nack_stop.ensures
