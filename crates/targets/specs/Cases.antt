-- When each refusal of a target list is given, in the words of the scope. RefusalLaws: the check answers with the case that holds.
use Rattle.std.specs.Prelude.{ℕ, ◌/◌, ◌%◌, ◌<◌, ◌≡◌, true, ◌⊎◌, List, length, Ok, Err}
use Rattle.pool.specs.Pools.{member}
use Rattle.pool.specs.declared.Pool.{Pool}
use Rattle.udid.specs.Udids.{is_fixed}
use Rattle.targets.specs.Records.{udid_of, address_byte, flag_of, record_count}
use Rattle.targets.specs.Checked.{Checked}
use Rattle.targets.specs.declared.admit.ListError.TheVariants.{BadLength, Malformed, Repeated, Taken}

-- 9: the list is not a multiple of 18 bytes, or over 2,160
abbrev pub LengthIsBad : List ℕ → Type 0
LengthIsBad s = (2160 < length s) ⊎ (length s % 18 ≡ 0 → ⊥)

-- 10: byte 16 is even, or byte 17 above 1
abbrev pub MalformedAt : List ℕ → ℕ → Type 0
MalformedAt s i = (address_byte s i % 2 ≡ 0) ⊎ (1 < flag_of s i)

-- 11: the identifier is that of an earlier record
abbrev pub RepeatedAt : List ℕ → ℕ → Type 0
RepeatedAt s i = (j : ℕ) × (j < i) × (udid_of s j ≡ udid_of s i)

-- 12: the target is fixed, and its address is barred or is that of an earlier fixed one
abbrev pub TakenAt : Pool → List ℕ → ℕ → Type 0
TakenAt barred s i =
    (is_fixed (udid_of s i) ≡ true)
    × ((member barred (address_byte s i / 2) ≡ true)
    ⊎ ((j : ℕ) × (j < i) × (is_fixed (udid_of s j) ≡ true) × (address_byte s j / 2 ≡ address_byte s i / 2)))

-- ---- over the whole list

-- none of the first n records is so
abbrev pub NoneOf : (ℕ → Type 0) → ℕ → Type 0
NoneOf P n = (i : ℕ) → i < n → P i → ⊥

-- of the first n records, i is the first that is so
pub record FirstOf (P : ℕ → Type 0) (n i : ℕ) : Type 0 where
  pub below : i < n
  pub holds : P i
  pub none_before : NoneOf P i

-- what each answer says of the list: each refusal is looked for over the whole list, and in their order
abbrev pub Given : Pool → List ℕ → Checked → Type 0
Given barred s (Err BadLength) = LengthIsBad s
Given barred s (Err (Malformed i)) = (LengthIsBad s → ⊥) × FirstOf (MalformedAt s) (record_count s) i
Given barred s (Err (Repeated i)) = (LengthIsBad s → ⊥) × NoneOf (MalformedAt s) (record_count s) × FirstOf (RepeatedAt s) (record_count s) i
Given barred s (Err (Taken i)) =
    (LengthIsBad s → ⊥) × NoneOf (MalformedAt s) (record_count s) × NoneOf (RepeatedAt s) (record_count s) × FirstOf (TakenAt barred s) (record_count s) i
Given barred s (Ok tt) =
    (LengthIsBad s → ⊥) × NoneOf (MalformedAt s) (record_count s) × NoneOf (RepeatedAt s) (record_count s) × NoneOf (TakenAt barred s) (record_count s)
