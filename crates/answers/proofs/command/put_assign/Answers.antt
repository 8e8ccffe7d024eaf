use Rattle.writing.specs.PageLaws.{then_text}
use Rattle.answers.proofs.command.put_assign.Goals as goal

pub returns : goal.returns
returns c = then_text c.args.page.now _ _ _ _ c.put_udid.ensures c.hex_line.ensures
