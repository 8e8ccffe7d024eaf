-- What a step does, and a report, in the scope's words: the decoder's number for a trace, what is handed out, and what becomes of each address. Nothing here
-- cites how the step is computed. The record Steps of crate promises puts the sentences together.
use Rattle.std.specs.Prelude.{ℕ, ◌+◌, ◌/◌, ◌≤◌, ◌<◌, ◌≡◌, true, false, List, ◌⊎◌, length, get_or}
use Rattle.scan.specs.Numbers.{decode_number}
use Rattle.scan.specs.Decoded.{Decoded}
use Rattle.decode.specs.Outcome.{Outcome}
use Rattle.pool.specs.NextFree.{Next}
use Rattle.pool.specs.Pools.{member}
use Rattle.pool.specs.Start.{starting_pool, barred_pool}
use Rattle.pool.specs.declared.Pool.{Pool}
use Rattle.udid.specs.Bytes.{udid_bytes}
use Rattle.udid.specs.declared.Udid.{Udid}
use Rattle.slots.specs.Slots.{held_at}
use Rattle.commands.specs.declared.command.Command.TheVariants.{GetUdid, Assign}
use Rattle.commands.specs.declared.command.End.TheVariants.{NoneFree, Abandoned}
use Rattle.commands.specs.declared.command.Handed.{Handed}
use Rattle.commands.specs.declared.command.Handed.TheVariants.{Send, Wait}
use Rattle.slots.specs.declared.Binding.TheVariants.{Open, Bound, Claimed, Left}
use Rattle.arp.specs.declared.state.Controller.{Controller}
use Rattle.slots.specs.declared.Slots.{Slots}
use Rattle.arp.specs.declared.state.Stepped.{Stepped}

-- ---- the decoder's number

-- a call of decode, told this protocol and PEC, and lent two buffers of at least 255 bytes, answers number n with v for the trace
pub record Gives (protocol : ℕ) (tr : List ℕ) (n v : ℕ) : Type 0 where
  pub sent₀ : List ℕ
  pub received₀ : List ℕ
  pub room_sent : 255 ≤ length sent₀
  pub room_received : 255 ≤ length received₀
  pub answer : Decoded
  pub sent : List ℕ
  pub received : List ℕ
  pub outcome : Outcome protocol true tr sent₀ received₀ answer sent received
  pub number : decode_number answer ≡ (n, v)

-- ---- what is handed out

-- k is handed out and kept as the last, and n Get UDIDs are counted; the occupied addresses stay
pub record Hands (s : Controller) (r : Stepped) (k : Handed) (n : ℕ) : Type 0 where
  pub command : r.command ≡ k
  pub last : r.state.last ≡ k
  pub gets : r.state.gets ≡ n
  pub occupied : r.state.occupied ≡ s.occupied

-- Get UDID, with the count one up; when it would be the 129th of the pass: 14
pub record Asks (s : Controller) (r : Stepped) : Type 0 where
  pub again : s.gets < 128 → Hands s r (Send GetUdid) (s.gets + 1)
  pub limit : 128 ≤ s.gets → Hands s r (Wait Abandoned) s.gets

-- for a target with this identifier and this address byte, where the addresses of p are in use and l is the last pick; m is the last pick after it
pub record Chooses (p : Pool) (l : ℕ) (u : Udid) (b : ℕ) (k : Handed) (m : ℕ) : Type 0 where
  -- FFh, or movable (the top two bits not 00) with its own address in the pool: the first free one after the last pick is assigned, and is the last
  -- pick then; 13 if none is free
  pub picked : (b ≡ 0xFF) ⊎ ((64 ≤ get_or (udid_bytes u) 0 0) × (member p (b / 2) ≡ true)) → (a : ℕ) → Next p l a → (k ≡ Send (Assign u (record { 0 = a }))) × (m ≡ a)
  pub none_free : (b ≡ 0xFF) ⊎ ((64 ≤ get_or (udid_bytes u) 0 0) × (member p (b / 2) ≡ true)) → ((a : ℕ) → a < 128 → member p a ≡ true) → (k ≡ Wait (NoneFree u)) × (m ≡ l)
  -- else fixed: its own
  pub fixed : (b ≡ 0xFF → ⊥) → get_or (udid_bytes u) 0 0 < 64 → (k ≡ Send (Assign u (record { 0 = b / 2 }))) × (m ≡ l)
  -- else movable with its own not in the pool: its own
  pub own : (b ≡ 0xFF → ⊥) → 64 ≤ get_or (udid_bytes u) 0 0 → member p (b / 2) ≡ false → (k ≡ Send (Assign u (record { 0 = b / 2 }))) × (m ≡ l)

-- ---- what becomes of the addresses

-- nothing is bound, unbound or claimed, and the pool and the last pick stay
pub record Keeps (s t : Controller) : Type 0 where
  pub slots : t.slots ≡ s.slots
  pub pool : t.pool ≡ s.pool
  pub picked : t.picked ≡ s.picked

-- what an address is known for and whether the pool has it are as they were
abbrev pub Same : Controller → Controller → ℕ → Type 0
Same s t a = (held_at t.slots a ≡ held_at s.slots a) × (member t.pool a ≡ member s.pool a)

-- the address that an identifier is bound to: the lowest one, and the only one in every state that is reached
pub record BoundAt (slots : Slots) (u : Udid) (a : ℕ) : Type 0 where
  pub here : held_at slots a ≡ Bound u
  pub lowest : (b : ℕ) → b < a → held_at slots b ≡ Bound u → ⊥

-- an identifier that was bound is unbound: its address is open, and out of the pool unless the starting pool has it; every other address is as it was
pub record Unbinds (u : Udid) (s t : Controller) : Type 0 where
  pub there : (a : ℕ) → BoundAt s.slots u a → held_at t.slots a ≡ Open
  pub out : (a : ℕ) → BoundAt s.slots u a → member (starting_pool s.occupied) a ≡ false → member t.pool a ≡ false
  pub stays : (a : ℕ) → BoundAt s.slots u a → member (starting_pool s.occupied) a ≡ true → member t.pool a ≡ member s.pool a
  pub elsewhere : (a : ℕ) → (BoundAt s.slots u a → ⊥) → Same s t a

-- the address is claimed by two if it is barred, or a target was bound there just before, or it was claimed; else it is bound to the identifier.
-- It is in the pool then, and every other address is as it was, and the last pick
pub record Binds (u : Udid) (a : ℕ) (s t : Controller) : Type 0 where
  pub free : member (barred_pool s.occupied) a ≡ false → (held_at s.slots a ≡ Open) ⊎ (held_at s.slots a ≡ Left) → held_at t.slots a ≡ Bound u
  pub barred : member (barred_pool s.occupied) a ≡ true → held_at t.slots a ≡ Claimed
  pub another : (w : Udid) → held_at s.slots a ≡ Bound w → held_at t.slots a ≡ Claimed
  pub marked : held_at s.slots a ≡ Claimed → held_at t.slots a ≡ Claimed
  pub used : member t.pool a ≡ true
  pub elsewhere : (b : ℕ) → (b ≡ a → ⊥) → Same s t b
  pub picked : t.picked ≡ s.picked

-- nothing changes but the addresses
pub record Rest (s t : Controller) : Type 0 where
  pub occupied : t.occupied ≡ s.occupied
  pub gets : t.gets ≡ s.gets
  pub last : t.last ≡ s.last
  pub picked : t.picked ≡ s.picked

-- the address is left, and out of the pool unless the starting pool has it; every other address is as it was
pub record Removes (a : ℕ) (s t : Controller) : Type 0 where
  pub left : held_at t.slots a ≡ Left
  pub out : member (starting_pool s.occupied) a ≡ false → member t.pool a ≡ false
  pub stays : member (starting_pool s.occupied) a ≡ true → member t.pool a ≡ member s.pool a
  pub elsewhere : (b : ℕ) → (b ≡ a → ⊥) → Same s t b

-- ---- both together

-- Get UDID comes next, and nothing else changes
abbrev pub Continues : Controller → Stepped → Type 0
Continues s r = Asks s r × Keeps s r.state

-- the pass ends with k, and what was bound stands
abbrev pub EndsWith : Controller → Stepped → Handed → Type 0
EndsWith s r k = Hands s r k s.gets × Keeps s r.state

-- a reply with this identifier and this address byte: the identifier is unbound first, then an address is chosen
pub record Replies (s : Controller) (u : Udid) (b : ℕ) (r : Stepped) : Type 0 where
  pub unbinds : Unbinds u s r.state
  pub chooses : Chooses r.state.pool s.picked u b r.command r.state.picked
  pub hands : Hands s r r.command s.gets

-- ---- two results are the same in all that these sentences speak of

pub record Alike (r q : Stepped) : Type 0 where
  pub command : r.command ≡ q.command
  pub last : r.state.last ≡ q.state.last
  pub gets : r.state.gets ≡ q.state.gets
  pub occupied : r.state.occupied ≡ q.state.occupied
  pub picked : r.state.picked ≡ q.state.picked
  pub same : (a : ℕ) → Same q.state r.state a
