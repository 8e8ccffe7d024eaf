use Rattle.slots.specs.Slots.{with_binding}
use Rattle.slots.proofs.Slots.put_left.Goals as goal

pub returns : goal.returns
unfolding with_binding
returns c = simp (c.without-self.ensures, c.without-self-2.ensures, c.with-self.ensures)
