-- Where a target is bound, by what the slots keep.
use Rattle.std.specs.Prelude.{ℕ, ◌≡◌, refl, Bool, true, false, eqb}
use Rattle.std.proofs.Common.{◌∙◌}
use Rattle.lists.specs.Choice.{pick, and}
use Rattle.pool.specs.Pools.{member}
use Rattle.udid.specs.Udids.{same_udid}
use Rattle.udid.specs.declared.Udid.{Udid}
use Rattle.slots.specs.Finding.{bound_to}
use Rattle.slots.specs.Slots.{kept_udid, held_at}
use Rattle.slots.proofs.SlotsLaws.{by_bound}
use Rattle.slots.specs.declared.Slots.{Slots}
use Rattle.slots.specs.declared.Binding.TheVariants.{Bound}

-- bound to u: the address is in the set of bound ones, and the identifier kept for it is u
pub bound_by_udid : (s : Slots) (a : ℕ) (u : Udid) → bound_to u (held_at s a) ≡ and (member s.bound a) (same_udid (kept_udid s a) u)
bound_by_udid s a u = by_bound (bound_to u) false refl refl refl s a ∙ both (member s.bound a)
  where
    both : (b : Bool) → pick b (bound_to u (Bound (kept_udid s a))) false ≡ and b (same_udid (kept_udid s a) u)
    both true = refl
    both false = refl

-- that is: both halves of what is kept for the address are those of u
pub bound_by_halves : (s : Slots) (a : ℕ) (u : Udid) → bound_to u (held_at s a) ≡ and (member s.bound a) (and (eqb (kept_udid s a).high u.high) (eqb (kept_udid s a).low u.low))
bound_by_halves s a u = bound_by_udid s a u
