-- What an address is known for by what happened since the start of the pass: what went over the wire, which reports were answered 0, and, for a
-- bind, what the address was known for just before. Nothing here cites how the controller binds or unbinds.
use Rattle.std.specs.Prelude.{ℕ, ◌*◌, ◌≡◌, false, List, [], ◌∷◌, ◌⊎◌}
use Rattle.pool.specs.Pools.{member}
use Rattle.pool.specs.Start.{barred_pool}
use Rattle.pool.specs.declared.Pool.{Pool}
use Rattle.udid.specs.Bytes.{udid_bytes}
use Rattle.udid.specs.declared.Udid.{Udid}
use Rattle.slots.specs.Slots.{held_at}
use Rattle.slots.specs.declared.Binding.TheVariants.{Open, Left}
use Rattle.commands.specs.CommandTraces.{assign_trace, ReplyOf}
use Rattle.commands.specs.declared.command.Command.TheVariants.{GetUdid, Assign}
use Rattle.commands.specs.declared.command.Handed.TheVariants.{Send}
use Rattle.arp.specs.Gone.{reported}
use Rattle.arp.specs.History.{Event, Start, Received, Gone, Issue, Decline, run}
use Rattle.arp.specs.Numbers.{lookup_number}
use Rattle.arp.specs.Replay.{handed_out}

-- the trace is the Assign of a to u that was handed out last, every byte acknowledged
abbrev pub Completes : Pool → ℕ → List Event → List ℕ → Udid → ℕ → Type 0
Completes occupied last es tr u a = (handed_out occupied last es ≡ Send (Assign u (record { 0 = a }))) × (tr ≡ assign_trace (udid_bytes u) (2 * a))

-- Get UDID was handed out last, and the trace is a reply of u
abbrev pub RepliedBy : Pool → ℕ → List Event → List ℕ → Udid → Type 0
RepliedBy occupied last es tr u = (handed_out occupied last es ≡ Send GetUdid) × ReplyOf u tr

-- a report of the address is answered 0
abbrev pub Removed : Pool → ℕ → List Event → ℕ → Type 0
Removed occupied last es a = (lookup_number (reported (run occupied last es) a).found).0 ≡ 0

-- the address is not barred, nobody is bound there, and two do not claim it
abbrev pub Untaken : Pool → ℕ → List Event → ℕ → Type 0
Untaken occupied last es a =
    (member (barred_pool occupied) a ≡ false) × ((held_at (run occupied last es).slots a ≡ Open) ⊎ (held_at (run occupied last es).slots a ≡ Left))

-- an Assign of a to u completed while a was untaken, and since then there was no start, no report of a that was answered 0, no reply of
-- u, and no other Assign of a that completed
unfoldable pub BoundSince : Pool → ℕ → List Event → Udid → ℕ → Type 0
BoundSince occupied last [] u a = ⊥
BoundSince occupied last (Start ∷ es) u a = ⊥
BoundSince occupied last (Received w tr ∷ es) u a =
    (Completes occupied last es tr u a × Untaken occupied last es a)
    ⊎ (BoundSince occupied last es u a × (RepliedBy occupied last es tr u → ⊥) × ((v : Udid) → Completes occupied last es tr v a → ⊥))
BoundSince occupied last (Gone b ∷ es) u a = BoundSince occupied last es u a × ((b ≡ a) × Removed occupied last es b → ⊥)
BoundSince occupied last (Issue ∷ es) u a = BoundSince occupied last es u a
BoundSince occupied last (Decline ∷ es) u a = BoundSince occupied last es u a

-- a report of a was answered 0, and since then there was no start, and no Assign of a that completed
unfoldable pub LeftSince : Pool → ℕ → List Event → ℕ → Type 0
LeftSince occupied last [] a = ⊥
LeftSince occupied last (Start ∷ es) a = ⊥
LeftSince occupied last (Received w tr ∷ es) a = LeftSince occupied last es a × ((v : Udid) → Completes occupied last es tr v a → ⊥)
LeftSince occupied last (Gone b ∷ es) a = ((b ≡ a) × Removed occupied last es b) ⊎ LeftSince occupied last es a
LeftSince occupied last (Issue ∷ es) a = LeftSince occupied last es a
LeftSince occupied last (Decline ∷ es) a = LeftSince occupied last es a
