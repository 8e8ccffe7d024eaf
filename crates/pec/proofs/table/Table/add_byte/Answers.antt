use Rattle.std.proofs.Common.{◌∙◌, arith}
use Rattle.pec.proofs.TableLaws.{step_by_lem}
use Rattle.pec.proofs.table.Table.add_byte.Goals as goal

pub returns : goal.returns
returns c =
    let t = c.args.self.now in
    c.add_byte_by.ensures ∙ step_by_lem t.entries t.remainders c.args.c c.args.b (omega arith) (omega arith)
