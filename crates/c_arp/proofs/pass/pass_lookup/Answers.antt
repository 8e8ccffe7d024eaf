use Rattle.std.proofs.Common.{sym, ◌∙◌, ap}
use Rattle.arp.specs.Lookup.{looked_up}
use Rattle.arp.specs.declared.state.Stepped.{Stepped}
use Rattle.c_arp.specs.Pass.{pass_found, told_found}
use Rattle.c_arp.proofs.PassLaws.{pass_done, pass_refused}
use Rattle.c_arp.proofs.pass.pass_lookup.Goals as goal

pub returns-in-Some : goal.returns-in-Some
unfolding pass_found
returns-in-Some c =
    let p = pass_done _ _ _ _ c.run_pass.ensures c.in-Some.is in
    rw p.0 (c.into.ensures ∙ ap told_found (c.lookup.ensures ∙ ap (λ (s : Stepped). looked_up s.state c.args.address) (sym p.1)))

pub returns-in-None : goal.returns-in-None
unfolding pass_found
returns-in-None c = rw (pass_refused _ _ _ c.run_pass.ensures c.in-None.is) c.into-in-None.ensures
