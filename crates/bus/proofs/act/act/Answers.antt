use Rattle.std.proofs.Common.{sym, ap, ◌∙◌}
use Rattle.commands.specs.declared.command.Handed.{Handed}
use Rattle.targets.specs.Records.{targets_of, records_with}
use Rattle.rule.specs.Acted.{acted}
use Rattle.bus.specs.TurnLaws.{own_targets_stored}
use Rattle.bus.proofs.act.act.Goals as goal

pub returns-in_default : goal.returns-in_default
returns-in_default c = let s = c.args in own_targets_stored s.records.now ∙ ap (λ (x : Handed). records_with (acted x (targets_of s.records.now)) s.records.now) (sym c.in_default.is)
