use Rattle.std.proofs.Common.{◌∙◌}
use Rattle.hearing.proofs.Steps.{told_is}
use Rattle.hearing.proofs.told.after.Goals as goal

pub returns : goal.returns
returns c = c.after_answer.ensures ∙ told_is c.args.k c.args.trace.now _ _ _ _ c.protocol_of.ensures c.decode-answer.ensures
