use Rattle.std.proofs.Common.{◌∙◌, arith}
use Rattle.lists.specs.EachLaws.{all_bytes}
use Rattle.pec.proofs.TableLaws.{from_by_lem}
use Rattle.pec.proofs.table.Table.add_bytes.Goals as goal

pub returns : goal.returns
returns c =
    let a = c.args in
    let t = a.self.now in
    let bytes = all_bytes a.s.now (λ i. (c.type_inv.s i).fits) in
    c.add_bytes_by.ensures ∙ from_by_lem t.entries t.remainders a.c a.s.now (omega arith) bytes
