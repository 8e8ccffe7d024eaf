use Rattle.std.proofs.Common.{◌∙◌}
use Rattle.meanings.specs.WordedLaws.{rest_part}
use Rattle.meanings.proofs.worded.rest_of.Goals as goal

pub returns : goal.returns
returns c = c.part.ensures ∙ rest_part c.args.answer.now _ c.line_end.ensures
