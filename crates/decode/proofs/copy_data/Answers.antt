use Rattle.std.proofs.Common.{length-set, arith}
use Rattle.decode.proofs.Copies.{copy_turn}
use Rattle.decode.proofs.copy_data.Goals as goal

pub loop-j-preserved : goal.loop-j-preserved
loop-j-preserved c =
    let l = c.loop-j in
    let a = c.args in (
      simp length-set l.invariant.0,
      rw l.invariant.1 (copy_turn a.buf.now a.tr.now a.from l.j (omega arith)),
    )
