use Rattle.std.proofs.Common.{sym, ◌∙◌, ap}
use Rattle.c_arp.specs.Pass.{pass_command, told_pass}
use Rattle.c_arp.proofs.PassLaws.{pass_done, pass_refused}
use Rattle.c_arp.proofs.pass.pass_command.Goals as goal

pub returns-in-Some : goal.returns-in-Some
unfolding pass_command
returns-in-Some c = let p = pass_done _ _ _ _ c.run_pass.ensures c.in-Some.is in rw p.0 (c.into.ensures ∙ ap told_pass (sym p.1))

pub returns-in-None : goal.returns-in-None
unfolding pass_command
returns-in-None c = rw (pass_refused _ _ _ c.run_pass.ensures c.in-None.is)
