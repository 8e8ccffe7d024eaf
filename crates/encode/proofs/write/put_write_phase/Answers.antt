use Rattle.std.proofs.Common.{◌∙◌, arith, length-set}
use Rattle.encode.proofs.PhaseLaws.{start_asks, command_asks, sent_asks, opened_length, phase_put}
use Rattle.encode.proofs.write.put_write_phase.Goals as goal

pub bounds-out-0 : goal.bounds-out-0
bounds-out-0 c =
    let h = start_asks c.args.out.now c.args.sent.now c.args.sh c.args.first.0 c.args.command c.requires in omega arith

pub bounds-out-1 : goal.bounds-out-1
bounds-out-1 c =
    let h = start_asks c.args.out.now c.args.sent.now c.args.sh c.args.first.0 c.args.command c.requires in simp length-set (omega arith)

pub bounds-out-2 : goal.bounds-out-2
bounds-out-2 c =
    let h = start_asks c.args.out.now c.args.sent.now c.args.sh c.args.first.0 c.args.command c.requires in simp length-set (omega arith)

pub put_byte_if-n-requires : goal.put_byte_if-n-requires
put_byte_if-n-requires c =
    command_asks c.args.out.now c.args.sent.now c.args.sh c.args.first.0 c.args.command c.requires

pub put_part-requires : goal.put_part-requires
put_part-requires c =
    sent_asks c.args.out.now c.args.sent.now c.args.sh c.args.first.0 c.args.command c.requires _ _ c.put_byte_if-n.ensures.0 c.put_byte_if-n.ensures.1 c.put_byte_if-n.auto.out

pub shape_of-out : goal.shape_of-out
shape_of-out c =
    c.put_part.auto.out ∙ c.put_byte_if-n.auto.out ∙ opened_length c.args.out.now c.args.sent.now c.args.sh c.args.first.0 c.args.command c.requires

pub returns : goal.returns
returns c =
    phase_put c.args.out.now c.args.sent.now c.args.sh c.args.first.0 c.args.command c.requires _ _ c.put_byte_if-n.ensures.0 c.put_byte_if-n.ensures.1 c.put_byte_if-n.auto.out _ _ c.put_part.ensures.0 c.put_part.ensures.1
