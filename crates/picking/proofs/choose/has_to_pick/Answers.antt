use Rattle.std.proofs.Common.{sym, ap, ◌∙◌}
use Rattle.pool.specs.Pools.{member}
use Rattle.picking.proofs.PickingLaws.{ff_picks, fixed_picks_none, movable_picks}
use Rattle.picking.specs.Picking.{has_to_pick}
use Rattle.picking.proofs.choose.has_to_pick.Goals as goal

pub returns-then-b-eq255 : goal.returns-then-b-eq255
returns-then-b-eq255 c = let a = c.args in sym (ap (has_to_pick a.pool a.u) c.if-b-eq255.true ∙ ff_picks a.pool a.u)

pub returns-then-is_fixed : goal.returns-then-is_fixed
returns-then-is_fixed c =
    let a = c.args in
    sym (fixed_picks_none a.pool a.u a.b c.if-b-eq255.false (sym c.is_fixed.ensures ∙ c.if-is_fixed.true))

pub returns : goal.returns
returns c =
    let a = c.args in
    c.has.ensures
    ∙ ap (member a.pool) c.from_wire.ensures
    ∙ sym (movable_picks a.pool a.u a.b c.if-b-eq255.false (sym c.is_fixed.ensures ∙ c.if-is_fixed.false))
