use Rattle.std.proofs.Common.{arith}
use Rattle.writing.specs.PageLaws.{pages}
use Rattle.writing.specs.WrittenLaws.{decimal_digit, decimal_more}
use Rattle.writing.proofs.page.Page.+put_decimal.Goals.{then-n-ge10, else-n-ge10}
use Rattle.writing.proofs.page.Page.+put_decimal.Goals as goal

pub returns : goal.returns
returns t c = elim c.if-n-ge10.branch [
  | then-n-ge10 w ↦ grind (arith, pages, decimal_more c.args.n w.if-n-ge10.true)
  | else-n-ge10 w ↦ grind (arith, pages, decimal_digit c.args.n w.if-n-ge10.false)
]
