-- Which buffer holds the last data phase, which part of it that is, and where the part begins.
use Rattle.std.specs.Prelude.{◌≡◌, Bool, List, [], ℕ, ◌≤◌, ◌<◌, length, take, ltb, leb}
use Rattle.lists.specs.Choice.{pick, and}
use Rattle.trace.specs.declared.transaction.Transaction.{Transaction}
use Rattle.trace.specs.Shapes.{protocols, reads, shape_of}
use Rattle.trace.specs.Allowed.{lengths_fit}
use Rattle.trace.specs.DataFits.{DataFits}

-- the protocol is known, both lengths belong to it, and buffers of s and r bytes have them
abbrev pub belongs : Transaction → ℕ → ℕ → Bool
belongs t s r =
    and (ltb t.protocol protocols) (and (lengths_fit (shape_of t.protocol) t.sent t.received) (and (leb t.sent s) (leb t.received r)))

-- the bytes, and where they begin: s and r are the buffers, p and q where those begin
abbrev pub last_data : Transaction → List ℕ → List ℕ → List ℕ
last_data t s r = pick (belongs t (length s) (length r)) (pick (reads (shape_of t.protocol)) (take t.received r) (take t.sent s)) []

abbrev pub last_place : Transaction → ℕ → ℕ → ℕ × ℕ → ℕ × ℕ → ℕ × ℕ
last_place t s r p q = pick (belongs t s r) (pick (reads (shape_of t.protocol)) q p) p

-- the last data phase of a protocol is data received
abbrev pub receives : ℕ → Bool
receives protocol = reads (shape_of protocol)

-- a known protocol whose two lengths belong to it and are in their buffers
pub record Whole (t : Transaction) (s r : ℕ) : Type 0 where
  pub known : t.protocol < protocols
  pub lengths : DataFits t.protocol t.sent t.received
  pub sent : t.sent ≤ s
  pub received : t.received ≤ r

-- the list l is handed back, and begins at the place at
abbrev pub Gives : Transaction → List ℕ → List ℕ → ℕ × ℕ → ℕ × ℕ → List ℕ → ℕ × ℕ → Type 0
Gives t s r p q l at = (last_data t s r ≡ l) × (last_place t (length s) (length r) p q ≡ at)
