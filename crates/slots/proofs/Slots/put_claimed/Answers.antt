use Rattle.slots.specs.Slots.{with_binding}
use Rattle.slots.proofs.Slots.put_claimed.Goals as goal

pub returns : goal.returns
unfolding with_binding
returns c = simp (c.without-self.ensures, c.with-self.ensures)
