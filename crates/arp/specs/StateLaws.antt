-- A state with one field changed (specs/State.antt): that field is as given, and every other as it was.
use Rattle.std.specs.Prelude.{ℕ, ◌≡◌, refl}
use Rattle.pool.specs.declared.Pool.{Pool}
use Rattle.arp.specs.State.{with_pool, with_slots, with_gets, with_last, with_picked}
use Rattle.commands.specs.declared.command.Handed.{Handed}
use Rattle.slots.specs.declared.Slots.{Slots}
use Rattle.arp.specs.declared.state.Controller.{Controller}

-- t has the occupied addresses of s, and beside them these
pub record Has (s t : Controller) (p : Pool) (x : Slots) (n : ℕ) (k : Handed) (l : ℕ) : Type 0 where
  pub occupied : t.occupied ≡ s.occupied
  pub pool : t.pool ≡ p
  pub slots : t.slots ≡ x
  pub gets : t.gets ≡ n
  pub last : t.last ≡ k
  pub picked : t.picked ≡ l

pub with_pool_lem : (s : Controller) (x : Pool) → Has s (with_pool s x) x s.slots s.gets s.last s.picked
with_pool_lem s x = record { occupied = refl; pool = refl; slots = refl; gets = refl; last = refl; picked = refl }

pub with_slots_lem : (s : Controller) (x : Slots) → Has s (with_slots s x) s.pool x s.gets s.last s.picked
with_slots_lem s x = record { occupied = refl; pool = refl; slots = refl; gets = refl; last = refl; picked = refl }

pub with_gets_lem : (s : Controller) (x : ℕ) → Has s (with_gets s x) s.pool s.slots x s.last s.picked
with_gets_lem s x = record { occupied = refl; pool = refl; slots = refl; gets = refl; last = refl; picked = refl }

pub with_last_lem : (s : Controller) (x : Handed) → Has s (with_last s x) s.pool s.slots s.gets x s.picked
with_last_lem s x = record { occupied = refl; pool = refl; slots = refl; gets = refl; last = refl; picked = refl }

pub with_picked_lem : (s : Controller) (x : ℕ) → Has s (with_picked s x) s.pool s.slots s.gets s.last x
with_picked_lem s x = record { occupied = refl; pool = refl; slots = refl; gets = refl; last = refl; picked = refl }
