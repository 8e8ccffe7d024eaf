-- What holds of a state that is reached, as the proofs carry it from step to step: the slots and the pool fit together, and an Assign that is
-- outstanding, or waits as a choice, can be bound.
use Rattle.std.specs.Prelude.{ℕ, ◌≤◌, ◌<◌, ◌≡◌, true, false}
use Rattle.lists.specs.Choice.{or}
use Rattle.pool.specs.Pools.{member}
use Rattle.pool.specs.Start.{starting_pool, barred_pool}
use Rattle.pool.specs.declared.Pool.{Pool}
use Rattle.udid.specs.Udids.{Fits, is_fixed}
use Rattle.udid.specs.declared.Udid.{Udid}
use Rattle.slots.specs.Finding.{bound_to}
use Rattle.slots.specs.Slots.{Sized128, held_at}
use Rattle.commands.specs.declared.command.Command.TheVariants.{Prepare, GetUdid, Assign}
use Rattle.commands.specs.declared.command.End.{End}
use Rattle.commands.specs.declared.command.End.TheVariants.{Nothing, Ended, NoneFree, Abandoned, NotOutstanding, Chosen}
use Rattle.commands.specs.declared.command.Handed.{Handed}
use Rattle.commands.specs.declared.command.Handed.TheVariants.{Send, Wait}
use Rattle.slots.specs.declared.Binding.TheVariants.{Bound}
use Rattle.picking.specs.Claims.{is_held}
use Rattle.arp.specs.declared.state.Controller.{Controller}
use Rattle.slots.specs.declared.Slots.{Slots}

-- of the occupied addresses, the pool and the slots: the pool has the starting pool and the addresses that are bound or claimed, and no others
pub record Sound (occupied pool : Pool) (slots : Slots) : Type 0 where
  pub size : Sized128 slots
  pub once : (i j : ℕ) (u : Udid) → held_at slots i ≡ Bound u → held_at slots j ≡ Bound u → i ≡ j
  -- nobody is bound to a barred address; who is bound to one of the starting pool is a fixed target
  pub unbarred : (a : ℕ) (u : Udid) → held_at slots a ≡ Bound u → member (barred_pool occupied) a ≡ false
  pub starting_fixed : (a : ℕ) (u : Udid) → held_at slots a ≡ Bound u → member (starting_pool occupied) a ≡ true → is_fixed u ≡ true
  -- an identifier that is bound has two halves of 64 bits
  pub fits : (a : ℕ) (u : Udid) → held_at slots a ≡ Bound u → Fits u
  pub exact : (a : ℕ) → member pool a ≡ or (member (starting_pool occupied) a) (is_held (held_at slots a))

abbrev pub SoundIn : Controller → Type 0
SoundIn s = Sound s.occupied s.pool s.slots

-- u is bound nowhere
abbrev pub Unbound : Udid → Slots → Type 0
Unbound u slots = (i : ℕ) → bound_to u (held_at slots i) ≡ false

-- u is bound to none of the addresses from a on
abbrev pub Nowhere : Udid → Slots → ℕ → Type 0
Nowhere u slots a = (j : ℕ) → a ≤ j → j < 128 → bound_to u (held_at slots j) ≡ false

-- a state without what was handed out last
pub record Good (occupied : Pool) (s : Controller) : Type 0 where
  pub sound : SoundIn s
  pub gets : s.gets ≤ 128
  pub occupies : s.occupied ≡ occupied
  pub picked : s.picked < 128

-- an Assign that is outstanding names a seven-bit address, an identifier of two halves that is bound nowhere, and, if that is movable, a free address
pub record Pending (s : Controller) (u : Udid) (a : ℕ) : Type 0 where
  pub small : a < 128
  pub unbound : Unbound u s.slots
  pub fits : Fits u
  pub free : is_fixed u ≡ false → member s.pool a ≡ false

-- and so does a choice that waits
abbrev pub WaitingIn : Controller → End → Type 0
WaitingIn s Nothing = Unit
WaitingIn s Ended = Unit
WaitingIn s (NoneFree u) = Unit
WaitingIn s Abandoned = Unit
WaitingIn s NotOutstanding = Unit
WaitingIn s (Chosen u a r) = Pending s u a.0

abbrev pub PendingIn : Controller → Handed → Type 0
PendingIn s (Send Prepare) = Unit
PendingIn s (Send GetUdid) = Unit
PendingIn s (Send (Assign u a)) = Pending s u a.0
PendingIn s (Wait e) = WaitingIn s e

abbrev pub GoodState : Pool → Controller → Type 0
GoodState occupied s = Good occupied s × PendingIn s s.last
