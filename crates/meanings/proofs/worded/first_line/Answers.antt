use Rattle.std.proofs.Common.{◌∙◌}
use Rattle.meanings.specs.WordedLaws.{first_part}
use Rattle.meanings.proofs.worded.first_line.Goals as goal

pub returns : goal.returns
returns c = c.part.ensures ∙ first_part c.args.answer.now _ c.line_end.ensures
