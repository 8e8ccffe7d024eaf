use Rattle.std.proofs.Common.{rules}
use Rattle.pec.proofs.TableLaws.{by_turn, by_end}
use Rattle.pec.proofs.table.add_bytes_by.Goals as goal

pub loop-b-preserved : goal.loop-b-preserved
loop-b-preserved c =
    let a = c.args in
    let l = c.loop-b in
    cc (by_turn a.t.now a.s.now l.z l.b-index (search rules))

pub returns : goal.returns
returns c =
    let a = c.args in
    let l = c.loop-b in
    cc (by_end a.t.now a.s.now l.z l.b-index (search rules))
