-- Where a target is bound.
use Rattle.std.specs.Prelude.{ℕ, zero, suc, Bool, false, List, [], ◌∷◌, ltb, Option, Some, None}
use Rattle.lists.specs.Choice.{pick}
use Rattle.wire.specs.declared.address.Address.{Address}
use Rattle.udid.specs.Udids.{same_udid}
use Rattle.udid.specs.declared.Udid.{Udid}
use Rattle.slots.specs.Slots.{held_at}
use Rattle.slots.specs.declared.Slots.{Slots}
use Rattle.slots.specs.declared.Binding.{Binding}
use Rattle.slots.specs.declared.Binding.TheVariants.{Open, Bound, Claimed, Left}

-- the target that is bound, where one is
abbrev pub bound_in : Binding → List Udid
bound_in Open = []
bound_in (Bound u) = u ∷ []
bound_in Claimed = []
bound_in Left = []

-- the list is of this one
abbrev pub is_only : Udid → List Udid → Bool
is_only u [] = false
is_only u (v ∷ vs) = same_udid v u

abbrev pub bound_to : Udid → Binding → Bool
bound_to u h = is_only u (bound_in h)

-- the first of the n addresses from a on that u is bound to, or 128
unfoldable pub find_from : Udid → Slots → ℕ → ℕ → ℕ
find_from u slots zero a = 128
find_from u slots (suc n) a = pick (bound_to u (held_at slots a)) a (find_from u slots n (suc a))

-- that address, where it is one
abbrev pub address_found : ℕ → Option Address
address_found n = pick (ltb 127 n) None (Some (record { 0 = n }))
