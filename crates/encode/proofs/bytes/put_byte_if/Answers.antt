use Rattle.std.proofs.Common.{arith, ◌≤◌, ◌+◌, length, length-set}
use Rattle.encode.proofs.WriterLaws.{put_byte, yes_room}
use Rattle.lists.specs.OntoLaws.{onto_front}
use Rattle.encode.proofs.bytes.put_byte_if.Goals as goal

pub offset_bounds-out-at : goal.offset_bounds-out-at
offset_bounds-out-at c =
    let h : c.args.at + 2 ≤ length c.args.out.now = yes_room _ _ _ _ c.if-there.true c.requires in
    omega arith

pub bounds-out-at : goal.bounds-out-at
bounds-out-at c =
    let h : c.args.at + 2 ≤ length c.args.out.now = yes_room _ _ _ _ c.if-there.true c.requires in
    omega arith

pub overflow_add-out : goal.overflow_add-out
overflow_add-out c =
    let h : c.args.at + 2 ≤ length c.args.out.now = yes_room _ _ _ _ c.if-there.true c.requires in
    omega arith

pub offset_bounds-out-at-then-there : goal.offset_bounds-out-at-then-there
offset_bounds-out-at-then-there c =
    let h : c.args.at + 2 ≤ length c.args.out.now = yes_room _ _ _ _ c.if-there.true c.requires in
    omega arith

pub bounds-out-at-then-there : goal.bounds-out-at-then-there
bounds-out-at-then-there c =
    let h : c.args.at + 2 ≤ length c.args.out.now = yes_room _ _ _ _ c.if-there.true c.requires in
    simp length-set (omega arith)

pub overflow_add-result : goal.overflow_add-result
overflow_add-result c =
    let h : c.args.at + 2 ≤ length c.args.out.now = yes_room _ _ _ _ c.if-there.true c.requires in
    omega arith

pub returns-then-there : goal.returns-then-there
returns-then-there c =
    let h : c.args.at + 2 ≤ length c.args.out.now = yes_room _ _ _ _ c.if-there.true c.requires in
    rw c.if-there.true (omega arith, put_byte c.args.out.now c.args.at c.args.b h)

pub returns-else-there : goal.returns-else-there
returns-else-there c = rw c.if-there.false (omega arith, onto_front c.args.out.now c.args.at (omega (arith, c.requires)))
