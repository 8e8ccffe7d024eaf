-- The slots: what each address is known for. held_at is their one reader, with_binding their one writer, and no_bindings where a pass begins;
-- SlotsLaws says what they give each other, and nothing else looks inside.
use Rattle.std.specs.Prelude.{ℕ, ◌≡◌, length, get_or, set, replicate}
use Rattle.lists.specs.Choice.{pick}
use Rattle.pool.specs.Pools.{member, with_address, without_address}
use Rattle.pool.specs.Start.{empty_pool}
use Rattle.udid.specs.declared.Udid.{Udid}
use Rattle.slots.specs.declared.Slots.{Slots}
use Rattle.slots.specs.declared.Binding.{Binding}
use Rattle.slots.specs.declared.Binding.TheVariants.{Open, Bound, Claimed, Left}

-- there is a place for each of the 128 addresses
pub record Sized128 (s : Slots) : Type 0 where
  pub udids : length s.udids ≡ 128

abbrev pub zero_udid : Udid
zero_udid = record { high = 0; low = 0 }

-- the identifier that is kept for an address
abbrev pub kept_udid : Slots → ℕ → Udid
kept_udid s a = get_or s.udids a zero_udid

-- what an address is known for
unfoldable pub held_at : Slots → ℕ → Binding
held_at s a = pick (member s.bound a) (Bound (kept_udid s a)) (pick (member s.claimed a) Claimed (pick (member s.left a) Left Open))

-- the slots with an address known for this
unfoldable pub with_binding : Slots → ℕ → Binding → Slots
with_binding s a Open = record { bound = without_address s.bound a; claimed = without_address s.claimed a; left = without_address s.left a; udids = s.udids }
with_binding s a (Bound u) = record { bound = with_address s.bound a; claimed = s.claimed; left = s.left; udids = set s.udids a u }
with_binding s a Claimed = record { bound = without_address s.bound a; claimed = with_address s.claimed a; left = s.left; udids = s.udids }
with_binding s a Left = record { bound = without_address s.bound a; claimed = without_address s.claimed a; left = with_address s.left a; udids = s.udids }

-- nothing is bound, claimed or left
unfoldable pub no_bindings : Slots
no_bindings = record { bound = empty_pool; claimed = empty_pool; left = empty_pool; udids = replicate 128 zero_udid }
