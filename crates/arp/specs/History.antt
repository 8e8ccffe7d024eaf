-- The states that a controller reaches, by starts, received traces, reports, issues and declines in any order, and what holds in all of them.
use Rattle.std.specs.Prelude.{ℕ, ◌+◌, ◌≤◌, ◌<◌, ◌≡◌, Bool, true, false, List, [], ◌∷◌}
use Rattle.lists.specs.Choice.{and, not}
use Rattle.pool.specs.Counts.{count}
use Rattle.pool.specs.Free.{used}
use Rattle.pool.specs.Pools.{member}
use Rattle.pool.specs.Start.{starting_pool, barred_pool}
use Rattle.pool.specs.declared.Pool.{Pool}
use Rattle.udid.specs.Udids.{is_fixed}
use Rattle.udid.specs.declared.Udid.{Udid}
use Rattle.slots.specs.Slots.{Sized128, held_at}
use Rattle.picking.specs.Claims.{is_held}
use Rattle.arp.specs.Choosing.{first_half, issuing, declining}
use Rattle.arp.specs.Controller.{new_controller, started, stepped}
use Rattle.arp.specs.Gone.{reported}
use Rattle.commands.specs.declared.command.Command.TheVariants.{Prepare, GetUdid, Assign}
use Rattle.commands.specs.declared.command.End.TheVariants.{Nothing}
use Rattle.commands.specs.declared.command.Handed.{Handed}
use Rattle.commands.specs.declared.command.Handed.TheVariants.{Send, Wait}
use Rattle.slots.specs.declared.Binding.TheVariants.{Open, Bound, Claimed, Left}
use Rattle.arp.specs.declared.state.Controller.{Controller}
use Rattle.arp.specs.declared.state.Stepped.{Stepped}

-- a received trace is taken by the whole step, or by its first half alone
pub data By : Type 0 where
  Step : By
  Choose : By

abbrev pub heard : By → Controller → List ℕ → Stepped
heard Step s tr = stepped s tr
heard Choose s tr = first_half s tr

-- what can happen to a controller
pub data Event : Type 0 where
  Start : Event
  Received : By → List ℕ → Event
  -- the module at the address is reported gone
  Gone : ℕ → Event
  -- the choice that waits, if one does, is issued or declined
  Issue : Event
  Decline : Event

-- anything but a start
abbrev pub NoStart : List Event → Type 0
NoStart [] = Unit
NoStart (Start ∷ es) = ⊥
NoStart (Received w tr ∷ es) = NoStart es
NoStart (Gone a ∷ es) = NoStart es
NoStart (Issue ∷ es) = NoStart es
NoStart (Decline ∷ es) = NoStart es

-- the state after events, the latest first, of a controller that was made with these addresses occupied and this last pick
unfoldable pub run : Pool → ℕ → List Event → Controller
run occupied last [] = new_controller occupied last
run occupied last (Start ∷ es) = (started (run occupied last es)).state
run occupied last (Received w tr ∷ es) = (heard w (run occupied last es) tr).state
run occupied last (Gone a ∷ es) = (reported (run occupied last es) a).state
run occupied last (Issue ∷ es) = (issuing (run occupied last es)).state
run occupied last (Decline ∷ es) = (declining (run occupied last es)).state

-- a new controller: these addresses occupied, the starting pool in use, nothing bound, claimed or left, no Get UDID counted, nothing handed out, and the last pick as given;
-- one above 127 counts as 127, never picked
pub record New (occupied : Pool) (l : ℕ) (s : Controller) : Type 0 where
  pub occupies : s.occupied ≡ occupied
  pub pool : s.pool ≡ starting_pool occupied
  pub held : (a : ℕ) → held_at s.slots a ≡ Open
  pub gets : s.gets ≡ 0
  pub last : s.last ≡ Wait Nothing
  pub picked : l < 128 → s.picked ≡ l
  pub never : 127 < l → s.picked ≡ 127

-- bound or claimed, and not in the starting pool
abbrev pub is_new : Pool → Controller → ℕ → Bool
is_new occupied s a = and (not (member (starting_pool occupied) a)) (is_held (held_at s.slots a))

-- what holds in every state
pub record Invariant (occupied : Pool) (s : Controller) : Type 0 where
  -- the occupied addresses stay, and the pool contains the starting pool
  pub occupies : s.occupied ≡ occupied
  pub contains : (a : ℕ) → member (starting_pool occupied) a ≡ true → member s.pool a ≡ true
  -- a bound address is in the pool, is not barred, holds one identifier and is no claim; in the starting pool it is a fixed target's
  pub bound_used : (a : ℕ) (u : Udid) → held_at s.slots a ≡ Bound u → member s.pool a ≡ true
  pub bound_unbarred : (a : ℕ) (u : Udid) → held_at s.slots a ≡ Bound u → member (barred_pool occupied) a ≡ false
  pub starting_fixed : (a : ℕ) (u : Udid) → held_at s.slots a ≡ Bound u → member (starting_pool occupied) a ≡ true → is_fixed u ≡ true
  pub bound_one : (a : ℕ) (u v : Udid) → held_at s.slots a ≡ Bound u → held_at s.slots a ≡ Bound v → u ≡ v
  pub bound_unclaimed : (a : ℕ) (u : Udid) → held_at s.slots a ≡ Bound u → held_at s.slots a ≡ Claimed → ⊥
  -- no identifier is bound twice
  pub bound_once : (a b : ℕ) (u : Udid) → held_at s.slots a ≡ Bound u → held_at s.slots b ≡ Bound u → a ≡ b
  -- a claimed address is in the pool
  pub claimed_used : (a : ℕ) → held_at s.slots a ≡ Claimed → member s.pool a ≡ true
  -- an address that is left is free, unless the starting pool has it
  pub left_free : (a : ℕ) → held_at s.slots a ≡ Left → member s.pool a ≡ member (starting_pool occupied) a
  -- the used addresses are those of the starting pool and the bound and claimed ones: together they number the used ones
  pub number : used s.pool ≡ used (starting_pool occupied) + count (is_new occupied s) 128
  -- there is a slot for each address, and at most 128 Get UDIDs were sent
  pub size : Sized128 s.slots
  pub gets : s.gets ≤ 128
  -- the last pick is an address
  pub picked : s.picked < 128

-- 1 for a Get UDID
abbrev pub one_get : Handed → ℕ
one_get (Send Prepare) = 0
one_get (Send GetUdid) = 1
one_get (Send (Assign u a)) = 0
one_get (Wait e) = 0

-- how many Get UDIDs were handed out since the latest start
unfoldable pub gets_sent : Pool → ℕ → List Event → ℕ
gets_sent occupied last [] = 0
gets_sent occupied last (Start ∷ es) = 0
gets_sent occupied last (Received w tr ∷ es) = gets_sent occupied last es + one_get (heard w (run occupied last es) tr).command
gets_sent occupied last (Gone a ∷ es) = gets_sent occupied last es
gets_sent occupied last (Issue ∷ es) = gets_sent occupied last es
gets_sent occupied last (Decline ∷ es) = gets_sent occupied last es
