use Rattle.std.proofs.Common.{ap}
use Rattle.commands.proofs.Requests.{wrote_same_command}
use Rattle.commands.specs.declared.command.Command.TheVariants.{Prepare, GetUdid}
use Rattle.commands.specs.declared.command.Handed.TheVariants.{Send}
use Rattle.commands.proofs.request.put_sent.Goals as goal

pub returns-in-Prepare : goal.returns-in-Prepare
returns-in-Prepare c = let s = c.args in wrote_same_command (Send s.k) (Send Prepare) s.reply.now _ _ _ (ap Send c.in-Prepare.is) c.put_prepare.ensures

pub returns-in-GetUdid : goal.returns-in-GetUdid
returns-in-GetUdid c = let s = c.args in wrote_same_command (Send s.k) (Send GetUdid) s.reply.now _ _ _ (ap Send c.in-GetUdid.is) c.put_get.ensures

pub returns-in-Assign : goal.returns-in-Assign
returns-in-Assign c = let s = c.args in wrote_same_command (Send s.k) _ s.reply.now _ _ _ (ap Send c.in-Assign.is) c.put_assign.ensures
