use Rattle.std.specs.Prelude.{Some}
use Rattle.std.proofs.Common.{ℕ, sym, ap, ◌∙◌}
use Rattle.picking.proofs.PickingLaws.{chosen_picked, chosen_own}
use Rattle.picking.proofs.choose.choose.Goals as goal

pub returns-then-has_to_pick : goal.returns-then-has_to_pick
returns-then-has_to_pick c =
    let a = c.args in
    c.next_free.ensures ∙ sym (chosen_picked a.pool a.last a.u a.b (sym c.has_to_pick.ensures ∙ c.if-has_to_pick.true))

pub returns : goal.returns
returns c =
    let a = c.args in
    ap (λ (x : ℕ). Some (record { 0 = x })) c.from_wire.ensures ∙ sym (chosen_own a.pool a.last a.u a.b (sym c.has_to_pick.ensures ∙ c.if-has_to_pick.false))
