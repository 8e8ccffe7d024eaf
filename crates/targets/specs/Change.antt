-- What Prepare To ARP and Assign Address leave of the records, by their bytes.
use Rattle.std.specs.Prelude.{ℕ, ◌+◌, ◌*◌, ◌/◌, ◌≤◌, ◌<◌, ◌≡◌, List, length, get_or}
use Rattle.udid.specs.declared.Udid.{Udid}
use Rattle.targets.specs.Records.{record_count, target_at}
use Rattle.targets.specs.Target.{Target, assigned_to}

-- place k is neither the address byte nor the flag of record i
abbrev pub Elsewhere : ℕ → ℕ → Type 0
Elsewhere k i = (k ≡ i * 18 + 16 → ⊥) × (k ≡ i * 18 + 17 → ⊥)

-- each target of s is changed by f, and every byte that is no address byte or flag of a record is as it was
pub record Changed (f : Target → Target) (s t : List ℕ) : Type 0 where
  pub same_length : length t ≡ length s
  pub records : (i : ℕ) → i < record_count s → target_at t i ≡ f (target_at s i)
  pub others : (k : ℕ) → ((i : ℕ) → i < record_count s → Elsewhere k i) → get_or t k 0 ≡ get_or s k 0

-- byte 17 of each record is 0, and every other byte of the list is as it was
pub record FlagsCleared (s t : List ℕ) : Type 0 where
  pub same_length : length t ≡ length s
  pub flags : (i : ℕ) → i < length s / 18 → get_or t (18 * i + 17) 0 ≡ 0
  pub others : (k : ℕ) → ((i : ℕ) → i < length s / 18 → k ≡ 18 * i + 17 → ⊥) → get_or t k 0 ≡ get_or s k 0

-- what Assign leaves: of a number above 127 all as it was; of an address, each target with that identifier takes it and sets the flag
pub record Assigned (u : Udid) (a : ℕ) (s t : List ℕ) : Type 0 where
  pub above_127 : 127 < a → t ≡ s
  pub taken : a ≤ 127 → Changed (assigned_to u a) s t
