use Rattle.picking.proofs.claim.binding_for.Goals as goal

pub returns-else-taken : goal.returns-else-taken
returns-else-taken c = simp c.if-taken.false
