-- ANY BITS CAN BE FLIPPED: of any message one bit, which lies within eight, and any two bits. So what is said of such changes is said of some.
use Rattle.std.specs.Prelude.{◌≡◌, refl, Bool, true, false, List, ◌⊎◌, ◌↔◌, ℕ, ◌+◌, ◌*◌, ◌/◌, ◌%◌, ◌^◌, ◌≤◌, ◌<◌, eqb, length, get_or, set}
use Rattle.std.proofs.Common.{sym, ap, ◌∙◌, subst, inl, inr, arith, length-set, get_or-set_same, get_or-set_other, eqb-true}
use Rattle.std.specs.Int.Bits.{bit_xor}
use Rattle.std.proofs.lemmas.Nat.{xor_lt}
use Rattle.std.proofs.Math.Pow.{pow-lt}
use Rattle.lists.specs.All.{all_below}
use Rattle.lists.specs.AllLaws.{at_below}
use Rattle.lists.specs.Choice.{and, pick}
use Rattle.lists.specs.ChoiceLaws.{false_not_true}
use Rattle.lists.specs.Each.{Bytes}
use Rattle.lists.specs.EachLaws.{byte_at, set_bytes}
use Rattle.lists.specs.TestLaws.{eqb_is, and_is}
use Rattle.catches.specs.Changes.{power, bit_of, Flipped, RightPec, Came, Within, TwoBits}
use Rattle.catches.specs.NumberBitsLaws.{bit_of_sum}

-- bit j of byte i is flipped
abbrev pub flip : List ℕ → ℕ → ℕ → List ℕ
flip xs i j = set xs i (bit_xor (2 ^ power j) (get_or xs i 0))

-- 1 at that bit, 0 at any other
abbrev mark : ℕ → ℕ → ℕ → ℕ → ℕ
mark i j a b = pick (and (eqb a i) (eqb b j)) 1 0

pub flip_bytes : (xs : List ℕ) (i j : ℕ) → Bytes xs → Bytes (flip xs i j)
flip_bytes xs i j h = set_bytes xs i _ h (xor_lt 8 (2 ^ power j) (get_or xs i 0) (pow-lt {i = power j} {j = 8} (omega arith)) (byte_at xs i h))

-- ---- the bits after a flip

bit_of_power : (j b : ℕ) → j < 8 → b < 8 → 2 ^ power j / 2 ^ power b % 2 ≡ pick (eqb b j) 1 0
bit_of_power j b h g =
    eqb-true (2 ^ power j / 2 ^ power b % 2) (pick (eqb b j) 1 0)
    (at_below (λ (b : ℕ). eqb (2 ^ power j / 2 ^ power b % 2) (pick (eqb b j) 1 0)) 8
    (at_below (λ (j : ℕ). all_below (λ (b : ℕ). eqb (2 ^ power j / 2 ^ power b % 2) (pick (eqb b j) 1 0)) 8) 8 refl j h) b g)

flip_bit : (xs : List ℕ) (i j : ℕ) → i < length xs → j < 8 → (a b : ℕ) → b < 8 → bit_of (flip xs i j) a b ≡ (mark i j a b + bit_of xs a b) % 2
flip_bit xs i j l h a b g = go (eqb a i) refl
  where
    go : (t : Bool) → eqb a i ≡ t → bit_of (flip xs i j) a b ≡ (pick (and t (eqb b j)) 1 0 + bit_of xs a b) % 2
    go true e =
        let q : i ≡ a = sym (eqb-true a i e) in
        subst (λ (n : ℕ). bit_of (flip xs i j) n b ≡ (pick (eqb b j) 1 0 + bit_of xs n b) % 2) q
        (ap (λ (x : ℕ). x / 2 ^ power b % 2) (get_or-set_same xs i (bit_xor (2 ^ power j) (get_or xs i 0)) 0 l)
        ∙ bit_of_sum (2 ^ power j) (get_or xs i 0) (power b)
        ∙ ap (λ (n : ℕ). (n + bit_of xs i b) % 2) (bit_of_power j b h g))
    go false e =
        ap (λ (x : ℕ). x / 2 ^ power b % 2) (get_or-set_other xs i a (bit_xor (2 ^ power j) (get_or xs i 0)) 0 (λ q. not_same e ((eqb_is a i).1 q))) ∙ none (get_or xs a 0 / 2 ^ power b)
      where
        not_same : eqb a i ≡ false → eqb a i ≡ true → ⊥
        not_same u v = let z : ◌≡◌ {A = ℕ} 0 1 = ap (λ (t : Bool). pick t 1 0) (sym u ∙ v) in omega (arith, z)

        none : (n : ℕ) → n % 2 ≡ (0 + n % 2) % 2
        none n = omega arith

-- ---- one bit, and two

-- a bit that a mark is added to is another, and one that two different marks are added to is another by either
one_mark : (t : Bool) (x y : ℕ) → y ≡ (pick t 1 0 + x % 2) % 2 → (x % 2 ≡ y → ⊥) ↔ (t ≡ true)
one_mark true x y e = (λ f. refl, λ q f. omega (arith, e, f))
one_mark false x y e = (λ f. absurd (f (omega (arith, e))), λ q f. false_not_true q)

two_marks : (u v : Bool) (x y : ℕ) → y ≡ (pick v 1 0 + (pick u 1 0 + x % 2) % 2) % 2 → (u ≡ true → v ≡ true → ⊥) → (x % 2 ≡ y → ⊥) ↔ ((u ≡ true) ⊎ (v ≡ true))
two_marks true true x y e n = absurd (n refl refl)
two_marks true false x y e n = (λ f. inl refl, λ q f. omega (arith, e, f))
two_marks false true x y e n = (λ f. inr refl, λ q f. omega (arith, e, f))
two_marks false false x y e n = (λ f. absurd (f (omega (arith, e))), none)
  where
    none : (◌≡◌ {A = Bool} false true) ⊎ (◌≡◌ {A = Bool} false true) → x % 2 ≡ y → ⊥
    none (inl q) f = false_not_true q
    none (inr q) f = false_not_true q

-- the mark is at the bit
marked : (i j a b : ℕ) → (and (eqb a i) (eqb b j) ≡ true) ↔ ((a ≡ i) × (b ≡ j))
marked i j a b = and_is (eqb a i) (eqb b j) (eqb_is a i) (eqb_is b j)

module _ (xs : List ℕ) (h : Bytes xs) (r : RightPec xs) where
  pub one_bit_is : (i j : ℕ) → i < length xs → j < 8 → Came xs (flip xs i j) × Within 8 xs (flip xs i j)
  one_bit_is i j l g = (
    record { sent = h; right = r; came = flip_bytes xs i j h; as_many = length-set xs i _ },
    record {
      from = 8 * i + j;
      among = λ a b m f. at a b ((marked i j a b).0 ((flips a b m).0 f));
      byte = i;
      bit = j;
      in_byte = g;
      one = (flips i j g).1 ((marked i j i j).1 (refl, refl));
    },
  )
    where
      flips : (a b : ℕ) → b < 8 → Flipped xs (flip xs i j) a b ↔ (and (eqb a i) (eqb b j) ≡ true)
      flips a b m = one_mark (and (eqb a i) (eqb b j)) (get_or xs a 0 / 2 ^ power b) (bit_of (flip xs i j) a b) (flip_bit xs i j l g a b m)

      at : (a b : ℕ) → (a ≡ i) × (b ≡ j) → (8 * i + j ≤ 8 * a + b) × (8 * a + b < 8 * i + j + 8)
      at a b e = (omega (arith, e.0, e.1), omega (arith, e.0, e.1))

  pub two_bits_are : (i j k l : ℕ) → j < 8 → l < 8 → 8 * i + j < 8 * k + l → k < length xs → Came xs (flip (flip xs i j) k l) × TwoBits xs (flip (flip xs i j) k l) i j k l
  two_bits_are i j k l hj hl o m =
      let n = length-set xs i (bit_xor (2 ^ power j) (get_or xs i 0)) in (
        record { sent = h; right = r; came = flip_bytes (flip xs i j) k l (flip_bytes xs i j h); as_many = length-set (flip xs i j) k _ ∙ n },
        record { first_in_byte = hj; second_in_byte = hl; order = omega (arith, o); flipped = λ a b g. (λ f. there a b ((flips a b g n).0 f), λ e. (flips a b g n).1 (back a b e)) },
      )
    where
      apart : (a b : ℕ) → (a ≡ i) × (b ≡ j) → (a ≡ k) × (b ≡ l) → ⊥
      apart a b e f = omega (arith, e.0, e.1, f.0, f.1, o)

      flips : (a b : ℕ) → b < 8 → length (flip xs i j) ≡ length xs → Flipped xs (flip (flip xs i j) k l) a b ↔ ((and (eqb a i) (eqb b j) ≡ true) ⊎ (and (eqb a k) (eqb b l) ≡ true))
      flips a b g n =
          two_marks (and (eqb a i) (eqb b j)) (and (eqb a k) (eqb b l)) (get_or xs a 0 / 2 ^ power b) (bit_of (flip (flip xs i j) k l) a b)
          (flip_bit (flip xs i j) k l (subst (λ (z : ℕ). k < z) (sym n) m) hl a b g ∙ ap (λ (z : ℕ). (mark k l a b + z) % 2) (flip_bit xs i j (omega (arith, o, hj, hl, m)) hj a b g))
          (λ u v. apart a b ((marked i j a b).0 u) ((marked k l a b).0 v))

      there : (a b : ℕ) → (and (eqb a i) (eqb b j) ≡ true) ⊎ (and (eqb a k) (eqb b l) ≡ true) → ((a ≡ i) × (b ≡ j)) ⊎ ((a ≡ k) × (b ≡ l))
      there a b (inl u) = inl ((marked i j a b).0 u)
      there a b (inr v) = inr ((marked k l a b).0 v)

      back : (a b : ℕ) → ((a ≡ i) × (b ≡ j)) ⊎ ((a ≡ k) × (b ≡ l)) → (and (eqb a i) (eqb b j) ≡ true) ⊎ (and (eqb a k) (eqb b l) ≡ true)
      back a b (inl e) = inl ((marked i j a b).1 e)
      back a b (inr e) = inr ((marked k l a b).1 e)
