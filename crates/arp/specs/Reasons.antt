-- Why an address is chosen, in the scope's words: fixed, kept, picked or claimed by two. Nothing here cites how the reason is worked out.
use Rattle.std.specs.Prelude.{ℕ, ◌/◌, ◌≤◌, ◌<◌, ◌≡◌, true, false, ◌⊎◌, ◌↔◌, get_or}
use Rattle.pool.specs.NextFree.{Next}
use Rattle.pool.specs.Pools.{member}
use Rattle.pool.specs.Start.{barred_pool}
use Rattle.pool.specs.declared.Pool.{Pool}
use Rattle.udid.specs.Bytes.{udid_bytes}
use Rattle.udid.specs.declared.Udid.{Udid}
use Rattle.slots.specs.Slots.{held_at}
use Rattle.slots.specs.declared.Binding.TheVariants as binding
use Rattle.commands.specs.declared.command.Reason.{Reason}
use Rattle.commands.specs.declared.command.Reason.TheVariants.{Fixed, Kept, Picked, Claimed}
use Rattle.arp.specs.declared.state.Controller.{Controller}

-- an address has to be picked: the reply has FFh, or the target is movable (its first byte 64 or more) with its own address in the pool
abbrev pub MustPick : Pool → Udid → ℕ → Type 0
MustPick p u b = (b ≡ 0xFF) ⊎ ((64 ≤ get_or (udid_bytes u) 0 0) × (member p (b / 2) ≡ true))

-- the address is barred, or a target is bound there, or two claim it
abbrev pub Contested : Controller → ℕ → Type 0
Contested t a = (member (barred_pool t.occupied) a ≡ true) ⊎ (((w : Udid) × (held_at t.slots a ≡ binding.Bound w)) ⊎ (held_at t.slots a ≡ binding.Claimed))

-- x is why the address a is chosen for u, which replied with the address byte b in the state s; t is the state after the first half, in which u is
-- bound nowhere
pub record Reasons (s t : Controller) (u : Udid) (b a : ℕ) (x : Reason) : Type 0 where
  pub claimed : (x ≡ Claimed) ↔ Contested t a
  pub picked : (x ≡ Picked) ↔ ((Contested t a → ⊥) × MustPick t.pool u b)
  pub fixed : (x ≡ Fixed) ↔ ((Contested t a → ⊥) × (b ≡ 0xFF → ⊥) × (get_or (udid_bytes u) 0 0 < 64))
  pub kept : (x ≡ Kept) ↔ ((Contested t a → ⊥) × (b ≡ 0xFF → ⊥) × (64 ≤ get_or (udid_bytes u) 0 0) × (member t.pool (b / 2) ≡ false))
  -- the first free one after the last pick, where one has to be picked; else its own
  pub next : MustPick t.pool u b → Next t.pool s.picked a
  pub own : (MustPick t.pool u b → ⊥) → a ≡ b / 2
