-- The cases of the refusals 10, 11 and 12 by the bytes of the list: record i is the 18 bytes from 18 i on. ByteCasesLaws: they are the cases
-- of Cases, whose definitions are shared with the code.
use Rattle.std.specs.Prelude.{ℕ, ◌+◌, ◌*◌, ◌/◌, ◌%◌, ◌<◌, ◌≡◌, true, ◌⊎◌, List, length, get_or, take, drop, Ok, Err}
use Rattle.pool.specs.Pools.{member}
use Rattle.pool.specs.declared.Pool.{Pool}
use Rattle.targets.specs.Cases.{LengthIsBad, NoneOf, FirstOf}
use Rattle.targets.specs.Checked.{Checked}
use Rattle.targets.specs.declared.admit.ListError.TheVariants.{BadLength, Malformed, Repeated, Taken}

-- 10: byte 16 is even, or byte 17 above 1
abbrev pub EvenOrFlag : List ℕ → ℕ → Type 0
EvenOrFlag s i = (get_or s (18 * i + 16) 0 % 2 ≡ 0) ⊎ (1 < get_or s (18 * i + 17) 0)

-- 11: the first 16 bytes are those of an earlier record
abbrev pub SameAsEarlier : List ℕ → ℕ → Type 0
SameAsEarlier s i = (j : ℕ) × (j < i) × (take 16 (drop (18 * j) s) ≡ take 16 (drop (18 * i) s))

-- a fixed target: the top two bits of its first byte are 00
abbrev pub FixedAt : List ℕ → ℕ → Type 0
FixedAt s i = get_or s (18 * i) 0 < 64

-- its address: the upper seven bits of byte 16; FFh counts as 7Fh
abbrev pub address_at : List ℕ → ℕ → ℕ
address_at s i = get_or s (18 * i + 16) 0 / 2

-- 12: a fixed target whose address is barred or is that of an earlier fixed one
abbrev pub FixedOnTaken : Pool → List ℕ → ℕ → Type 0
FixedOnTaken barred s i = FixedAt s i × ((member barred (address_at s i) ≡ true) ⊎ ((j : ℕ) × (j < i) × FixedAt s j × (address_at s j ≡ address_at s i)))

-- what each answer says of the list: each case is looked for over the whole list, and in their order
abbrev pub GivenByBytes : Pool → List ℕ → Checked → Type 0
GivenByBytes barred s (Err BadLength) = LengthIsBad s
GivenByBytes barred s (Err (Malformed i)) = (LengthIsBad s → ⊥) × FirstOf (EvenOrFlag s) (length s / 18) i
GivenByBytes barred s (Err (Repeated i)) = (LengthIsBad s → ⊥) × NoneOf (EvenOrFlag s) (length s / 18) × FirstOf (SameAsEarlier s) (length s / 18) i
GivenByBytes barred s (Err (Taken i)) =
    (LengthIsBad s → ⊥) × NoneOf (EvenOrFlag s) (length s / 18) × NoneOf (SameAsEarlier s) (length s / 18) × FirstOf (FixedOnTaken barred s) (length s / 18) i
GivenByBytes barred s (Ok tt) =
    (LengthIsBad s → ⊥) × NoneOf (EvenOrFlag s) (length s / 18) × NoneOf (SameAsEarlier s) (length s / 18) × NoneOf (FixedOnTaken barred s) (length s / 18)
