use Rattle.std.proofs.Common.{rules}
use Rattle.arbitration.proofs.DropOutLaws.{drop_out_in_high_half, drop_out_in_low_half}
use Rattle.arbitration.proofs.leave.drop_out.Goals as goal

pub returns-then-a-b : goal.returns-then-a-b
returns-then-a-b c = drop_out_in_low_half c.args.a c.args.b (search rules) (search rules) c.if-a-b.true

pub returns-else-a-b : goal.returns-else-a-b
returns-else-a-b c = drop_out_in_high_half c.args.a c.args.b (search rules) (search rules) c.if-a-b.false
