-- Who wins on the wire, found over the records one after the other, and what a winner is.
use Rattle.std.specs.Prelude.{ℕ, zero, suc, ◌≤◌, ◌<◌, ◌≡◌, Bool, true, false, Option, Some, None, List, eqb}
use Rattle.lists.specs.Choice.{pick}
use Rattle.udid.specs.Udids.{value, is_below}
use Rattle.targets.specs.Cases.{NoneOf}
use Rattle.targets.specs.Records.{udid_of, flag_of, target_at, record_count}
use Rattle.targets.specs.Reply.{reply_bytes, OnWire, silence, shown}

-- record i comes before the best so far; where there is none yet, it does
abbrev pub is_before : List ℕ → ℕ → Option ℕ → Bool
is_before s i None = true
is_before s i (Some b) = is_below (udid_of s i) (udid_of s b)

-- it answers, and comes before it
unfoldable pub is_better : List ℕ → ℕ → Option ℕ → Bool
is_better s i best = pick (eqb (flag_of s i) 1) false (is_before s i best)

-- the best of the first n records
unfoldable pub least_of : List ℕ → ℕ → Option ℕ
least_of s zero = None
least_of s (suc n) = pick (is_better s n (least_of s n)) (Some n) (least_of s n)

-- the unresolved record with the least identifier
unfoldable pub winner_of : List ℕ → Option ℕ
winner_of s = least_of s (record_count s)

-- ---- what the winner is

abbrev pub Unresolved : List ℕ → ℕ → Type 0
Unresolved s i = flag_of s i ≡ 1 → ⊥

-- of the first n records, w is the unresolved one with the least identifier, and the first of those that have it
pub record Wins (s : List ℕ) (n w : ℕ) : Type 0 where
  pub below : w < n
  pub unresolved : Unresolved s w
  pub least : (j : ℕ) → j < n → Unresolved s j → value (udid_of s w) ≤ value (udid_of s j)
  pub earliest : (j : ℕ) → j < w → Unresolved s j → value (udid_of s w) < value (udid_of s j)

-- of the first n records: the winner, or that none is unresolved
abbrev pub WonOf : List ℕ → ℕ → Option ℕ → Type 0
WonOf s n None = NoneOf (Unresolved s) n
WonOf s n (Some w) = Wins s n w

abbrev pub Won : List ℕ → Option ℕ → Type 0
Won s r = WonOf s (record_count s) r

-- what stands on the wire: the reply of the winner
abbrev pub shown_by : List ℕ → Option ℕ → OnWire
shown_by s None = silence
shown_by s (Some w) = shown (reply_bytes (target_at s w))
