use Rattle.std.proofs.Common.{sym, ◌∙◌}
use Rattle.arp.proofs.state.Controller.vacate.Goals as goal

pub returns-then-has : goal.returns-then-has
returns-then-has c = simp (c.put-self.ensures, ← c.starting-starting.ensures, sym c.has.ensures ∙ c.if-has.true)

pub returns : goal.returns
returns c = simp (c.put-self.ensures, ← c.starting-starting.ensures, sym c.has.ensures ∙ c.if-has.false, c.without-self.ensures)
