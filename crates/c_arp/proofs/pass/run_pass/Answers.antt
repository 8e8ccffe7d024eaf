use Rattle.std.proofs.Common.{le-ltb, ap, ◌∙◌, Some}
use Rattle.pool.specs.declared.Pool.{Pool}
use Rattle.arp.specs.Controller.{new_controller}
use Rattle.c_arp.proofs.PassLaws.{leads_turn, leads_end, from_start}
use Rattle.c_arp.proofs.pass.run_pass.Goals as goal

pub loop-entry-preserved : goal.loop-entry-preserved
loop-entry-preserved c = leads_turn _ _ _ c.loop-entry.invariant _ _ c.in-Some.ensures _ c.take_entry-st.ensures

pub returns : goal.returns
returns c =
    let made = c.new.ensures ∙ ap (λ (p : Pool). new_controller p c.args.last) c.into.ensures in
    rw (le-ltb _ _ c.if-last-gt127.false)
    (ap Some (from_start _ _ c.args.bytes.now _ _ _ made c.start-st.ensures (leads_end _ _ _ c.loop-entry.invariant c.in_default.ensures)))
