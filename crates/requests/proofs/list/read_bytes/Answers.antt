use Rattle.std.proofs.Common.{◌≡◌, ◌+◌, ◌-◌, length, arith}
use Rattle.writing.specs.WrittenLaws.{came_start, came_turn, came_done, put_within}
use Rattle.requests.specs.Lists.{bytes_from}
use Rattle.requests.specs.ListLaws.{numbers_on, numbers_over, numbers_full}
use Rattle.requests.proofs.list.read_bytes.Goals as goal

pub loop-n-init : goal.loop-n-init
loop-n-init c =
    let e : length c.args.out.now - 0 ≡ length c.args.out.now = omega arith in rw e (came_start c.args.out.now 0 (bytes_from (length c.args.out.now) c.args.line.now c.args.from))

pub loop-n-smaller : goal.loop-n-smaller
loop-n-smaller c = omega (arith, c.loop-n.invariant.size)

pub loop-n-preserved : goal.loop-n-preserved
loop-n-preserved c =
    came_turn c.loop-n.invariant
    (numbers_on 256 (length c.args.out.now - c.loop-n.n) (length c.args.out.now - (c.loop-n.n + 1)) c.args.line.now c.loop-n.at _ (omega (arith, c.loop-n.invariant.size)) c.in-Ok.ensures)
    (put_within c.loop-n-test.true)

pub shape_of-out-in-Err : goal.shape_of-out-in-Err
shape_of-out-in-Err c = c.loop-n.invariant.size

pub returns-in-Err : goal.returns-in-Err
returns-in-Err c = came_done c.loop-n.invariant (numbers_over 256 (length c.args.out.now - c.loop-n.n) c.args.line.now c.loop-n.at _ c.in-Err.ensures)

pub shape_of-out : goal.shape_of-out
shape_of-out c = c.loop-n.invariant.size

pub returns : goal.returns
returns c = came_done c.loop-n.invariant (numbers_full 256 (length c.args.out.now - c.loop-n.n) c.args.line.now c.loop-n.at (omega (arith, c.loop-n.invariant.size)))
