use Rattle.std.proofs.Common.{arith, length-set}
use Rattle.c_codec.proofs.LastLaws.{copy_turn}
use Rattle.c_codec.proofs.last_data.copy.Goals as goal

pub loop-i-preserved : goal.loop-i-preserved
loop-i-preserved c =
    let l = c.loop-i in
    let a = c.args in (
      simp length-set l.invariant.0,
      rw l.invariant.1 (copy_turn a.bytes.now a.out.now l.i (omega arith) (omega arith)),
    )
