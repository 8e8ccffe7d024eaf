use Rattle.std.proofs.Common.{refl, arith, ◌≤◌, length, length-set}
use Rattle.encode.proofs.WriterLaws.{put_start, turn_room}
use Rattle.encode.proofs.read.put_repeated_start.Goals as goal

pub bounds-out-0 : goal.bounds-out-0
bounds-out-0 c =
    let h : 3 ≤ length c.args.out.now = turn_room _ _ _ c.if-repeated.true c.requires in
    omega arith

pub bounds-out-1 : goal.bounds-out-1
bounds-out-1 c =
    let h : 3 ≤ length c.args.out.now = turn_room _ _ _ c.if-repeated.true c.requires in
    simp length-set (omega arith)

pub bounds-out-2 : goal.bounds-out-2
bounds-out-2 c =
    let h : 3 ≤ length c.args.out.now = turn_room _ _ _ c.if-repeated.true c.requires in
    simp length-set (omega arith)

pub returns-then-repeated : goal.returns-then-repeated
returns-then-repeated c =
    let h : 3 ≤ length c.args.out.now = turn_room _ _ _ c.if-repeated.true c.requires in
    rw c.if-repeated.true (refl, put_start c.args.out.now c.args.second.0 h)

pub returns-else-repeated : goal.returns-else-repeated
returns-else-repeated c = rw c.if-repeated.false (refl, refl)
