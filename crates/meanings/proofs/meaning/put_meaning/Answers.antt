use Rattle.std.proofs.Common.{ap, sym, ◌∙◌, arith}
use Rattle.writing.specs.Pages.{with_text}
use Rattle.writing.specs.PageLaws.{text_none}
use Rattle.meanings.specs.MeaningLaws.{above_none}
use Rattle.meanings.proofs.meaning.put_meaning.Goals as goal

pub returns-in-22-to-18446744073709551615 : goal.returns-in-22-to-18446744073709551615
returns-in-22-to-18446744073709551615 c = sym (ap (with_text c.args.page.now) (above_none c.args.n (omega arith)) ∙ text_none c.args.page.now)
