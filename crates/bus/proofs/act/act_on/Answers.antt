use Rattle.std.proofs.Common.{sym, ap, ◌∙◌}
use Rattle.commands.specs.declared.command.Command.{Command}
use Rattle.commands.specs.declared.command.Handed.TheVariants.{Send}
use Rattle.targets.specs.Records.{targets_of, records_with}
use Rattle.rule.specs.Acted.{acted}
use Rattle.bus.specs.TurnLaws.{own_targets_stored}
use Rattle.bus.proofs.act.act_on.Goals as goal

pub returns-in-GetUdid : goal.returns-in-GetUdid
returns-in-GetUdid c = let s = c.args in own_targets_stored s.records.now ∙ ap (λ (x : Command). records_with (acted (Send x) (targets_of s.records.now)) s.records.now) (sym c.in-GetUdid.is)
