use Rattle.slots.specs.Slots.{no_bindings}
use Rattle.slots.proofs.Slots.none.Goals as goal

pub returns : goal.returns
unfolding no_bindings
returns c = simp (c.empty.ensures, c.empty-2.ensures, c.empty-3.ensures)
