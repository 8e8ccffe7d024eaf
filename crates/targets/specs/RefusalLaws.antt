-- Each answer of the check is given in its listed case, and in no other.
use Prim.Native.Nat.{ℕ, ◌/◌, ◌%◌, ◌<◌}
use Rattle.std.specs.Prelude.{◌≡◌, Bool, true, false, ◌↔◌, Option, Some, None, List, eqb, ltb, length, Ok, Err}
use Rattle.std.proofs.Math.Path.{refl}
use Rattle.std.proofs.Common.{sym, ap, ◌∙◌, subst, arith}
use Rattle.std.proofs.Math.Decide.{dec_lt}
use Rattle.lists.specs.Choice.{pick, or, not}
use Rattle.lists.specs.TestLaws.{eqb_is, ltb_is, or_is, and_is, not_is, false_is}
use Rattle.pool.specs.Pools.{member}
use Rattle.pool.specs.declared.Pool.{Pool}
use Rattle.udid.specs.Udids.{is_fixed}
use Rattle.udid.proofs.UdidLaws.{same_is}
use Rattle.targets.specs.First.{first, some}
use Rattle.targets.specs.FirstLaws.{Found, found, some_exactly}
use Rattle.targets.specs.Records.{udid_of, address_byte, flag_of, record_count}
use Rattle.targets.specs.Refusals.{is_bad_length, is_malformed, is_same_as, is_repeated, is_fixed_as, is_taken, checked_list, refused_by}
use Rattle.targets.specs.Cases.{LengthIsBad, MalformedAt, RepeatedAt, TakenAt, NoneOf, FirstOf, Given}
use Rattle.targets.specs.Numbers.{Answer, answer_of}
use Rattle.targets.specs.Checked.{Checked}
use Rattle.targets.specs.declared.admit.ListError.TheVariants.{BadLength, Malformed, Repeated, Taken}

-- ---- a test and what it is a test of

-- of the first n records none is so, or i is the first that is
abbrev FirstIs : (ℕ → Type 0) → ℕ → Option ℕ → Type 0
FirstIs P n None = NoneOf P n
FirstIs P n (Some i) = FirstOf P n i

one_first : (P : ℕ → Type 0) (n : ℕ) (r t : Option ℕ) → FirstIs P n r → FirstIs P n t → r ≡ t
one_first P n None None h g = refl
one_first P n None (Some i) h g = absurd (h i g.below g.holds)
one_first P n (Some i) None h g = absurd (g i h.below h.holds)
one_first P n (Some i) (Some j) h g = ap Some (go (dec_lt i j) (dec_lt j i))
  where
    go : Dec (i < j) → Dec (j < i) → i ≡ j
    go (yes l) d = absurd (g.none_before i l h.holds)
    go (no l) (yes k) = absurd (h.none_before j k g.holds)
    go (no l) (no k) = omega arith

module _ (test : ℕ → Bool) (P : ℕ → Type 0) (decides : (i : ℕ) → (test i ≡ true) ↔ P i) where
  false_then_not : (i : ℕ) → test i ≡ false → P i → ⊥
  false_then_not i e h = (false_is (test i) (decides i)).0 e h

  first_is : (n : ℕ) → FirstIs P n (first test n)
  first_is n = go (first test n) (found test n 0)
    where
      go : (r : Option ℕ) → Found test 0 n r → FirstIs P n r
      go None f = λ j l. false_then_not j (f j (omega arith) (omega arith))
      go (Some i) f = record { below = omega (arith, f.1); holds = (decides i).0 f.2; none_before = λ j l. false_then_not j (f.3 j (omega arith) l) }

  first_exactly : (n : ℕ) (r : Option ℕ) → FirstIs P n r → first test n ≡ r
  first_exactly n r h = one_first P n (first test n) r (first_is n) h

-- ---- the four tests

bad_length_exactly : (s : List ℕ) → (is_bad_length (length s) ≡ true) ↔ LengthIsBad s
bad_length_exactly s = or_is (ltb 2160 (length s)) (not (eqb (length s % 18) 0)) (ltb_is 2160 (length s)) (not_is (eqb (length s % 18) 0) (eqb_is (length s % 18) 0))

malformed_exactly : (s : List ℕ) (i : ℕ) → (is_malformed s i ≡ true) ↔ MalformedAt s i
malformed_exactly s i = or_is (eqb (address_byte s i % 2) 0) (ltb 1 (flag_of s i)) (eqb_is (address_byte s i % 2) 0) (ltb_is 1 (flag_of s i))

repeated_exactly : (s : List ℕ) (i : ℕ) → (is_repeated s i ≡ true) ↔ RepeatedAt s i
repeated_exactly s i = (
  λ e. let r = (some_exactly (is_same_as s i) i).0 e in (r.0, r.1, (same_is (udid_of s r.0) (udid_of s i)).0 r.2),
  λ h. (some_exactly (is_same_as s i) i).1 (h.0, h.1, (same_is (udid_of s h.0) (udid_of s i)).1 h.2),
)

fixed_as_exactly : (s : List ℕ) (i j : ℕ) → (is_fixed_as s i j ≡ true) ↔ ((is_fixed (udid_of s j) ≡ true) × (address_byte s j / 2 ≡ address_byte s i / 2))
fixed_as_exactly s i j = and_is (is_fixed (udid_of s j)) (eqb (address_byte s j / 2) (address_byte s i / 2)) (λ e. e, λ e. e) (eqb_is (address_byte s j / 2) (address_byte s i / 2))

taken_exactly : (barred : Pool) (s : List ℕ) (i : ℕ) → (is_taken barred s i ≡ true) ↔ TakenAt barred s i
taken_exactly barred s i =
    and_is (is_fixed (udid_of s i)) (or m (some (is_fixed_as s i) i)) (λ e. e, λ e. e) (or_is m (some (is_fixed_as s i) i) (λ e. e, λ e. e) earlier)
  where
    m : Bool
    m = member barred (address_byte s i / 2)

    earlier : (some (is_fixed_as s i) i ≡ true) ↔ ((j : ℕ) × (j < i) × (is_fixed (udid_of s j) ≡ true) × (address_byte s j / 2 ≡ address_byte s i / 2))
    earlier = (
      λ e. let r = (some_exactly (is_fixed_as s i) i).0 e in let q = (fixed_as_exactly s i r.0).0 r.2 in (r.0, r.1, q.0, q.1),
      λ h. (some_exactly (is_fixed_as s i) i).1 (h.0, h.1, (fixed_as_exactly s i h.0).1 (h.2, h.3)),
    )

-- ---- the answer

module _ (barred : Pool) (s : List ℕ) where
  good_length_not_bad : is_bad_length (length s) ≡ false → LengthIsBad s → ⊥
  good_length_not_bad e h = (false_is (is_bad_length (length s)) (bad_length_exactly s)).0 e h

  not_bad_length : (LengthIsBad s → ⊥) → is_bad_length (length s) ≡ false
  not_bad_length n = (false_is (is_bad_length (length s)) (bad_length_exactly s)).1 n

  malformed_is : (r : Option ℕ) → FirstIs (MalformedAt s) (record_count s) r → first (is_malformed s) (record_count s) ≡ r
  malformed_is r h = first_exactly (is_malformed s) (MalformedAt s) (malformed_exactly s) (record_count s) r h

  repeated_is : (r : Option ℕ) → FirstIs (RepeatedAt s) (record_count s) r → first (is_repeated s) (record_count s) ≡ r
  repeated_is r h = first_exactly (is_repeated s) (RepeatedAt s) (repeated_exactly s) (record_count s) r h

  taken_is : (r : Option ℕ) → FirstIs (TakenAt barred s) (record_count s) r → first (is_taken barred s) (record_count s) ≡ r
  taken_is r h = first_exactly (is_taken barred s) (TakenAt barred s) (taken_exactly barred s) (record_count s) r h

  -- what the check answers is so
  pub checked_then_given : Given barred s (checked_list barred s)
  unfolding checked_list
  checked_then_given =
      go (is_bad_length (length s)) refl (first (is_malformed s) n) (first (is_repeated s) n) (first (is_taken barred s) n)
      (first_is (is_malformed s) (MalformedAt s) (malformed_exactly s) n) (first_is (is_repeated s) (RepeatedAt s) (repeated_exactly s) n) (first_is (is_taken barred s) (TakenAt barred s) (taken_exactly barred s) n)
    where
      n : ℕ
      n = record_count s

      go : (a : Bool) → is_bad_length (length s) ≡ a → (b c d : Option ℕ) → FirstIs (MalformedAt s) n b → FirstIs (RepeatedAt s) n c → FirstIs (TakenAt barred s) n d
          → Given barred s (pick a (Err BadLength) (refused_by b Malformed (refused_by c Repeated (refused_by d Taken (Ok tt)))))
      go true e b c d f g h = (bad_length_exactly s).0 e
      go false e (Some i) c d f g h = (good_length_not_bad e, f)
      go false e None (Some i) d f g h = (good_length_not_bad e, f, g)
      go false e None None (Some i) f g h = (good_length_not_bad e, f, g, h)
      go false e None None None f g h = (good_length_not_bad e, f, g, h)

  -- and what is so is what it answers
  checked_as : (a : Bool) (b c d : Option ℕ) → is_bad_length (length s) ≡ a → first (is_malformed s) (record_count s) ≡ b → first (is_repeated s) (record_count s) ≡ c → first (is_taken barred s) (record_count s) ≡ d
      → pick a (Err BadLength) (refused_by b Malformed (refused_by c Repeated (refused_by d Taken (Ok tt)))) ≡ checked_list barred s
  unfolding checked_list
  checked_as a b c d p q r t =
      ap (λ (x : Bool). pick x (Err BadLength) (refused_by b Malformed (refused_by c Repeated (refused_by d Taken (Ok tt))))) (sym p)
      ∙ ap (λ (x : Option ℕ). pick (is_bad_length (length s)) (Err BadLength) (refused_by x Malformed (refused_by c Repeated (refused_by d Taken (Ok tt))))) (sym q)
      ∙ ap (λ (x : Option ℕ). pick (is_bad_length (length s)) (Err BadLength) (refused_by (first (is_malformed s) (record_count s)) Malformed (refused_by x Repeated (refused_by d Taken (Ok tt))))) (sym r)
      ∙ ap (λ (x : Option ℕ). pick (is_bad_length (length s)) (Err BadLength) (refused_by (first (is_malformed s) (record_count s)) Malformed (refused_by (first (is_repeated s) (record_count s)) Repeated (refused_by x Taken (Ok tt))))) (sym t)

  pub given_then_checked : (r : Checked) → Given barred s r → r ≡ checked_list barred s
  given_then_checked (Err BadLength) h = checked_as true _ _ _ ((bad_length_exactly s).1 h) refl refl refl
  given_then_checked (Err (Malformed i)) h = checked_as false (Some i) _ _ (not_bad_length h.0) (malformed_is (Some i) h.1) refl refl
  given_then_checked (Err (Repeated i)) h = checked_as false None (Some i) _ (not_bad_length h.0) (malformed_is None h.1) (repeated_is (Some i) h.2) refl
  given_then_checked (Err (Taken i)) h = checked_as false None None (Some i) (not_bad_length h.0) (malformed_is None h.1) (repeated_is None h.2) (taken_is (Some i) h.3)
  given_then_checked (Ok tt) h = checked_as false None None None (not_bad_length h.0) (malformed_is None h.1) (repeated_is None h.2) (taken_is None h.3)

  -- EACH OF 9, 10, 11 AND 12 IS GIVEN EXACTLY IN ITS LISTED CASE, with the first record, and in that order
  pub given_exactly : (r : Checked) → (r ≡ checked_list barred s) ↔ Given barred s r
  given_exactly r = (λ e. subst (Given barred s) (sym e) checked_then_given, given_then_checked r)

-- number and value tell the cases apart
case_of : Answer → Checked
case_of a =
    pick (eqb a.number 9) (Err BadLength)
    (pick (eqb a.number 10) (Err (Malformed a.value))
    (pick (eqb a.number 11) (Err (Repeated a.value)) (pick (eqb a.number 12) (Err (Taken a.value)) (Ok tt))))

case_back : (r : Checked) → case_of (answer_of r) ≡ r
unfolding case_of
case_back (Ok tt) = refl
case_back (Err BadLength) = refl
case_back (Err (Malformed i)) = refl
case_back (Err (Repeated i)) = refl
case_back (Err (Taken i)) = refl

pub answers_tell_apart : (r t : Checked) → answer_of r ≡ answer_of t → r ≡ t
answers_tell_apart r t e = sym (case_back r) ∙ ap case_of e ∙ case_back t
