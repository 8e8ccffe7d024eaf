use Rattle.std.proofs.Common.{◌∙◌}
use Rattle.module.specs.ByteAt.{high_byte_lem, low_byte}
use Rattle.module.proofs.byte.byte_of.Goals as goal

pub returns-then-k-lt8 : goal.returns-then-k-lt8
returns-then-k-lt8 c = c.half_byte.ensures ∙ high_byte_lem c.args.u c.args.k c.if-k-lt8.true

pub returns-else-k-lt8 : goal.returns-else-k-lt8
returns-else-k-lt8 c = c.half_byte-else-k-lt8.ensures ∙ low_byte c.args.u c.args.k c.if-k-lt8.false
