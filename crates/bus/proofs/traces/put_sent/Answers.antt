use Rattle.std.proofs.Common.{sym, ap, ◌∙◌, arith}
use Rattle.targets.specs.Records.{targets_of}
use Rattle.commands.specs.declared.command.Handed.TheVariants.{Send}
use Rattle.bus.specs.TurnLaws.{assign_on_bus, assign_written, assign_length_44}
use Rattle.bus.proofs.traces.put_sent.Goals as goal

pub put_whole-requires : goal.put_whole-requires
put_whole-requires c = let s = c.args in assign_written (Send s.k) _ _ (ap Send c.in-Assign.is) (targets_of s.records.now) c.requires.1 s.out.now c.requires.2

pub returns-in-Assign : goal.returns-in-Assign
returns-in-Assign c = let s = c.args in (omega (arith, c.put_whole.ensures.0, assign_length_44 (Send s.k) _ _ (ap Send c.in-Assign.is)), c.put_whole.ensures.1 ∙ sym (assign_on_bus (Send s.k) _ _ (ap Send c.in-Assign.is) (targets_of s.records.now) c.requires.1))
