-- An Assign that completes makes a claim if its address is barred, and if somebody holds it.
use Rattle.std.specs.Prelude.{ℕ, ◌≡◌, Bool, true}
use Rattle.std.proofs.Common.{ap, ◌∙◌}
use Rattle.lists.specs.Choice.{or}
use Rattle.lists.specs.ChoiceLaws.{or_last}
use Rattle.pool.specs.Pools.{member}
use Rattle.pool.specs.Start.{barred_pool}
use Rattle.pool.specs.declared.Pool.{Pool}
use Rattle.slots.specs.declared.Binding.{Binding}
use Rattle.picking.specs.Claims.{is_held, makes_claim}

pub barred_makes_claim : (occupied : Pool) (h : Binding) (a : ℕ) → member (barred_pool occupied) a ≡ true → makes_claim occupied h a ≡ true
barred_makes_claim occupied h a e = ap (λ (x : Bool). or x (is_held h)) e

pub held_makes_claim : (occupied : Pool) (h : Binding) (a : ℕ) → is_held h ≡ true → makes_claim occupied h a ≡ true
held_makes_claim occupied h a e = ap (or (member (barred_pool occupied) a)) e ∙ or_last (member (barred_pool occupied) a)
