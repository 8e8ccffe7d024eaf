use Rattle.std.proofs.Common.{sym, ◌∙◌}
use Rattle.picking.proofs.claim.makes_claim.Goals as goal

pub returns-then-has : goal.returns-then-has
returns-then-has c = simp (← c.barred-barred.ensures, sym c.has.ensures ∙ c.if-has.true)

pub returns : goal.returns
returns c = simp (c.is_held.ensures, ← c.barred-barred.ensures, sym c.has.ensures ∙ c.if-has.false)
