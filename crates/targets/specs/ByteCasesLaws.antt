-- The cases of the refusals by the bytes of the list are the cases of Cases.
use Rattle.std.specs.Prelude.{ℕ, ◌+◌, ◌*◌, ◌/◌, ◌%◌, ◌<◌, ◌≤◌, ◌≡◌, true, ◌⊎◌, ◌↔◌, List, eqb, length, get_or, take, drop, Ok, Err}
use Rattle.std.proofs.Common.{sym, ap, ◌∙◌, inl, inr, arith, eq-eqb, eqb-true}
use Rattle.lists.specs.Each.{Bytes}
use Rattle.pool.specs.Pools.{member}
use Rattle.pool.specs.declared.Pool.{Pool}
use Rattle.udid.specs.Udids.{is_fixed}
use Rattle.targets.specs.Records.{udid_of, address_byte, flag_of}
use Rattle.targets.specs.ByteCases.{EvenOrFlag, SameAsEarlier, FixedAt, address_at, FixedOnTaken, GivenByBytes}
use Rattle.targets.specs.Cases.{MalformedAt, RepeatedAt, TakenAt, NoneOf, FirstOf, Given}
use Rattle.targets.specs.Checked.{Checked}
use Rattle.targets.specs.declared.admit.ListError.TheVariants.{BadLength, Malformed, Repeated, Taken}
use Rattle.targets.specs.FieldLaws.{same_udid_bytes, fixed_by_first_byte}

record_place : (i k : ℕ) → i * 18 + k ≡ 18 * i + k
record_place i k = omega arith

-- the fields of record i, whatever i is: byte 16 and byte 17 of it, zero past the end of the list
pub address_byte_16 : (s : List ℕ) (i : ℕ) → address_byte s i ≡ get_or s (18 * i + 16) 0
address_byte_16 s i = ap (λ (k : ℕ). get_or s k 0) (record_place i 16)

pub flag_byte_17 : (s : List ℕ) (i : ℕ) → flag_of s i ≡ get_or s (18 * i + 17) 0
flag_byte_17 s i = ap (λ (k : ℕ). get_or s k 0) (record_place i 17)

pub malformed_by_bytes : (s : List ℕ) (i : ℕ) → MalformedAt s i ↔ EvenOrFlag s i
malformed_by_bytes s i = (there, back)
  where
    there : MalformedAt s i → EvenOrFlag s i
    there (inl e) = inl (ap (λ (x : ℕ). x % 2) (sym (address_byte_16 s i)) ∙ e)
    there (inr h) = inr (omega (arith, h, flag_byte_17 s i))

    back : EvenOrFlag s i → MalformedAt s i
    back (inl e) = inl (ap (λ (x : ℕ). x % 2) (address_byte_16 s i) ∙ e)
    back (inr h) = inr (omega (arith, h, flag_byte_17 s i))

module _ (s : List ℕ) (b : Bytes s) where
  -- record i is whole
  inside : (i : ℕ) → i < length s / 18 → i * 18 + 16 ≤ length s
  inside i h = omega arith

  udid_window : (i : ℕ) → take 16 (drop (i * 18) s) ≡ take 16 (drop (18 * i) s)
  udid_window i = let e : i * 18 ≡ 18 * i = omega arith in ap (λ (k : ℕ). take 16 (drop k s)) e

  pub repeated_by_bytes : (i : ℕ) → i < length s / 18 → RepeatedAt s i ↔ SameAsEarlier s i
  repeated_by_bytes i h = (
    λ r. (r.0, r.1, sym (udid_window r.0) ∙ (same_udid_bytes s b r.0 i (inside r.0 (omega (arith, r.1, h))) (inside i h)).1 r.2 ∙ udid_window i),
    λ r. (r.0, r.1, (same_udid_bytes s b r.0 i (inside r.0 (omega (arith, r.1, h))) (inside i h)).0 (udid_window r.0 ∙ r.2 ∙ sym (udid_window i))),
  )

  fixed_by_bytes : (i : ℕ) → i < length s / 18 → (is_fixed (udid_of s i) ≡ true) ↔ FixedAt s i
  fixed_by_bytes i h =
      let e : is_fixed (udid_of s i) ≡ eqb (get_or s (18 * i) 0 / 64) 0 = fixed_by_first_byte s b i (inside i h) ∙ (let k : i * 18 ≡ 18 * i = omega arith in ap (λ (k : ℕ). eqb (get_or s k 0 / 64) 0) k) in (
        λ f. small (eqb-true (get_or s (18 * i) 0 / 64) 0 (sym e ∙ f)),
        λ l. e ∙ eq-eqb (get_or s (18 * i) 0 / 64) 0 (zero l),
      )
    where
      small : get_or s (18 * i) 0 / 64 ≡ 0 → get_or s (18 * i) 0 < 64
      small q = omega arith

      zero : get_or s (18 * i) 0 < 64 → get_or s (18 * i) 0 / 64 ≡ 0
      zero l = omega arith

  address_by_bytes : (i : ℕ) → address_byte s i / 2 ≡ address_at s i
  address_by_bytes i = ap (λ (x : ℕ). x / 2) (address_byte_16 s i)

  pub taken_by_bytes : (barred : Pool) (i : ℕ) → i < length s / 18 → TakenAt barred s i ↔ FixedOnTaken barred s i
  taken_by_bytes barred i h = (λ t. ((fixed_by_bytes i h).0 t.0, there t.1), λ t. ((fixed_by_bytes i h).1 t.0, back t.1))
    where
      before : (j : ℕ) → j < i → j < length s / 18
      before j l = omega arith

      there : (member barred (address_byte s i / 2) ≡ true) ⊎ ((j : ℕ) × (j < i) × (is_fixed (udid_of s j) ≡ true) × (address_byte s j / 2 ≡ address_byte s i / 2))
          → (member barred (address_at s i) ≡ true) ⊎ ((j : ℕ) × (j < i) × FixedAt s j × (address_at s j ≡ address_at s i))
      there (inl m) = inl (ap (member barred) (sym (address_by_bytes i)) ∙ m)
      there (inr r) = inr (r.0, r.1, (fixed_by_bytes r.0 (before r.0 r.1)).0 r.2, sym (address_by_bytes r.0) ∙ r.3 ∙ address_by_bytes i)

      back : (member barred (address_at s i) ≡ true) ⊎ ((j : ℕ) × (j < i) × FixedAt s j × (address_at s j ≡ address_at s i))
          → (member barred (address_byte s i / 2) ≡ true) ⊎ ((j : ℕ) × (j < i) × (is_fixed (udid_of s j) ≡ true) × (address_byte s j / 2 ≡ address_byte s i / 2))
      back (inl m) = inl (ap (member barred) (address_by_bytes i) ∙ m)
      back (inr r) = inr (r.0, r.1, (fixed_by_bytes r.0 (before r.0 r.1)).1 r.2, address_by_bytes r.0 ∙ r.3 ∙ sym (address_by_bytes i))

-- ---- over the whole list

-- two cases that are the same for each of the first n records
abbrev Same : (ℕ → Type 0) → (ℕ → Type 0) → ℕ → Type 0
Same P Q n = (i : ℕ) → i < n → P i ↔ Q i

turned : {P Q : ℕ → Type 0} (n : ℕ) → Same P Q n → Same Q P n
turned n e = λ i h. ((e i h).1, (e i h).0)

none_same : {P Q : ℕ → Type 0} (n m : ℕ) → m ≤ n → Same P Q n → NoneOf P m → NoneOf Q m
none_same n m l e h = λ i k q. h i k ((e i (omega arith)).1 q)

first_same : {P Q : ℕ → Type 0} (n i : ℕ) → Same P Q n → FirstOf P n i → FirstOf Q n i
first_same n i e f = let l = f.below in record { below = l; holds = (e i l).0 f.holds; none_before = none_same n i (omega arith) e f.none_before }

-- each answer says the same of the list by bytes
pub given_by_bytes : (barred : Pool) (s : List ℕ) → Bytes s → (k : Checked) → Given barred s k ↔ GivenByBytes barred s k
given_by_bytes barred s b k = go k
  where
    malformed : Same (MalformedAt s) (EvenOrFlag s) (length s / 18)
    malformed = λ i h. malformed_by_bytes s i

    repeated : Same (RepeatedAt s) (SameAsEarlier s) (length s / 18)
    repeated = repeated_by_bytes s b

    taken : Same (TakenAt barred s) (FixedOnTaken barred s) (length s / 18)
    taken = taken_by_bytes s b barred

    all : {P Q : ℕ → Type 0} → Same P Q (length s / 18) → NoneOf P (length s / 18) → NoneOf Q (length s / 18)
    all e h = none_same (length s / 18) (length s / 18) (omega arith) e h

    go : (k : Checked) → Given barred s k ↔ GivenByBytes barred s k
    go (Err BadLength) = (λ h. h, λ h. h)
    go (Err (Malformed i)) = (
      λ h. (h.0, first_same (length s / 18) i malformed h.1),
      λ h. (h.0, first_same (length s / 18) i (turned (length s / 18) malformed) h.1),
    )
    go (Err (Repeated i)) = (
      λ h. (h.0, all malformed h.1, first_same (length s / 18) i repeated h.2),
      λ h. (h.0, all (turned (length s / 18) malformed) h.1, first_same (length s / 18) i (turned (length s / 18) repeated) h.2),
    )
    go (Err (Taken i)) = (
      λ h. (h.0, all malformed h.1, all repeated h.2, first_same (length s / 18) i taken h.3),
      λ h. (h.0, all (turned (length s / 18) malformed) h.1, all (turned (length s / 18) repeated) h.2, first_same (length s / 18) i (turned (length s / 18) taken) h.3),
    )
    go (Ok tt) = (
      λ h. (h.0, all malformed h.1, all repeated h.2, all taken h.3),
      λ h. (h.0, all (turned (length s / 18) malformed) h.1, all (turned (length s / 18) repeated) h.2, all (turned (length s / 18) taken) h.3),
    )
