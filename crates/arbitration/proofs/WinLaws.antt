-- Who stays of two: the identifier with a zero at the drop-out bit is the lower one.
use Rattle.std.specs.Prelude.{ℕ, zero, suc, ◌+◌, ◌-◌, ◌<◌, ◌≡◌, refl, Bool, true, false, List, [], ◌∷◌, ◌++◌, ltb, eqb, length, get_or}
use Rattle.std.proofs.Common.{sym, ap, ◌∙◌, append-nil, append_assoc, arith, get_or-append-add, lt-ltb, le-ltb, eq-eqb, ne_eqb}
use Rattle.std.proofs.Math.Decide.{dec_lt, ℕ_discrete}
use Rattle.std.specs.Int.Bits.{bit_xor, xor_self}
use Rattle.std.proofs.lemmas.Nat.{xor_lt, leading_top}
use Rattle.std.specs.Int.Count.{count_leading_zeros, leading_of_zero}
use Rattle.std.proofs.Math.ListN.{get_or-append}
use Rattle.lists.specs.Choice.{pick, not}
use Rattle.lists.specs.ChoiceLaws.{not_both}
use Rattle.pool.specs.Digits.{digit}
use Rattle.udid.specs.Udids.{Fits, same_udid, value, is_below}
use Rattle.udid.proofs.UdidLaws.{same_equal, same_refl, below_halves}
use Rattle.udid.specs.declared.Udid.{Udid}
use Rattle.arbitration.specs.Bits.{bits, udid_bits}
use Rattle.arbitration.specs.BitLaws.{length_bits, length_udid_bits}
use Rattle.arbitration.proofs.OrderLaws.{lower_number_stays, higher_number_leaves, no_later_same_front}
use Rattle.arbitration.specs.DropOut.{shared, no_later}
use Rattle.arbitration.proofs.DropOutLaws.{shared_after_same_front, shared_whatever_follows, drop_out_in_high_half, drop_out_in_low_half, xor_pos}

-- the first bit in which two senders differ drop_out_bit_decides
pub drop_out_bit_decides : (xs ys : List Bool) → length xs ≡ length ys → shared xs ys < length xs → not (get_or xs (shared xs ys) false) ≡ no_later xs ys
drop_out_bit_decides [] ys e h = absurd (omega arith)
drop_out_bit_decides (x ∷ xs) [] e h = absurd (omega arith)
drop_out_bit_decides (true ∷ xs) (true ∷ ys) e h = drop_out_bit_decides xs ys (omega arith) (omega arith)
drop_out_bit_decides (false ∷ xs) (false ∷ ys) e h = drop_out_bit_decides xs ys (omega arith) (omega arith)
drop_out_bit_decides (true ∷ xs) (false ∷ ys) e h = refl
drop_out_bit_decides (false ∷ xs) (true ∷ ys) e h = refl

-- the bit at a place
number_bit_digit : (n v k : ℕ) → k < n → get_or (bits n v) k false ≡ digit v (n - suc k)
unfolding bits
number_bit_digit zero v k h = absurd (omega arith)
number_bit_digit (suc n) v zero h = let e : suc n - 1 ≡ n = omega arith in ap (digit v) (sym e)
number_bit_digit (suc n) v (suc k) h = let e : suc n - suc (suc k) ≡ n - suc k = omega arith in number_bit_digit n v k (omega arith) ∙ ap (digit v) (sym e)

pub udid_bit_digit : (u : Udid) (j : ℕ) → j < 128 → get_or (udid_bits u) j false ≡ pick (ltb j 64) (digit u.high (63 - j)) (digit u.low (127 - j))
udid_bit_digit u j h = go (dec_lt j 64)
  where
    go : Dec (j < 64) → get_or (udid_bits u) j false ≡ pick (ltb j 64) (digit u.high (63 - j)) (digit u.low (127 - j))
    go (yes l) =
        let e : 64 - suc j ≡ 63 - j = omega arith in
        rw (lt-ltb j 64 l)
        (get_or-append (bits 64 u.high) (bits 64 u.low) false j (omega (arith, length_bits 64 u.high))
        ∙ number_bit_digit 64 u.high j l
        ∙ ap (digit u.high) e)
    go (no l) =
        let d : j ≡ length (bits 64 u.high) + (j - 64) = omega (arith, length_bits 64 u.high) in
        let e : 64 - suc (j - 64) ≡ 127 - j = omega arith in
        rw (le-ltb j 64 (omega arith))
        (ap (λ (i : ℕ). get_or (udid_bits u) i false) d
        ∙ get_or-append-add (bits 64 u.high) (bits 64 u.low) (j - 64) false
        ∙ number_bit_digit 64 u.low (j - 64) (omega arith)
        ∙ ap (digit u.low) e)

module _ (a b : Udid) (f : Fits a) (g : Fits b) where
  by_halves : a.high ≡ b.high → a.low ≡ b.low → a ≡ b
  by_halves h l = λ i. record { high = h i; low = l i }

  -- the bits of different identifiers are in the order of the identifiers, whatever is sent after them
  pub udid_order : (x y : List Bool) → (a ≡ b → ⊥) → no_later (udid_bits a ++ x) (udid_bits b ++ y) ≡ is_below a b
  udid_order x y n =
      rw (append_assoc (bits 64 a.high) (bits 64 a.low) x, append_assoc (bits 64 b.high) (bits 64 b.low) y)
      (go (ℕ_discrete a.high b.high) ∙ sym (below_halves a b f.low g.low))
    where
      p : List Bool
      p = bits 64 a.low ++ x

      q : List Bool
      q = bits 64 b.low ++ y

      low : Dec (a.low < b.low) → a.high ≡ b.high → no_later p q ≡ ltb a.low b.low
      low (yes l) e = lower_number_stays 64 a.low b.low x y l g.low ∙ sym (lt-ltb a.low b.low l)
      low (no l) e =
          let o : b.low < a.low = above a.low b.low l (λ (i : a.low ≡ b.low). n (by_halves e i)) in
          higher_number_leaves 64 a.low b.low x y o f.low ∙ sym (le-ltb a.low b.low (omega arith))
        where
          above : (i j : ℕ) → ¬ (i < j) → (i ≡ j → ⊥) → j < i
          above i j s t = omega arith

      high : Dec (a.high < b.high) → (a.high ≡ b.high → ⊥) → no_later (bits 64 a.high ++ p) (bits 64 b.high ++ q) ≡ ltb a.high b.high
      high (yes l) e = lower_number_stays 64 a.high b.high p q l g.high ∙ sym (lt-ltb a.high b.high l)
      high (no l) e = higher_number_leaves 64 a.high b.high p q (omega arith) f.high ∙ sym (le-ltb a.high b.high (omega arith))

      go : Dec (a.high ≡ b.high) → no_later (bits 64 a.high ++ p) (bits 64 b.high ++ q) ≡ pick (eqb a.high b.high) (ltb a.low b.low) (ltb a.high b.high)
      go (yes e) =
          rw (eq-eqb a.high b.high e)
          (ap (λ (z : ℕ). no_later (bits 64 z ++ p) (bits 64 b.high ++ q)) e ∙ no_later_same_front (bits 64 b.high) p q ∙ low (dec_lt a.low b.low) e)
      go (no e) = rw (ne_eqb a.high b.high e) (high (dec_lt a.high b.high) e)

  -- different identifiers drop out within their 128 bits
  pub drop_out_below_128 : (a ≡ b → ⊥) → shared (udid_bits a) (udid_bits b) < 128
  drop_out_below_128 n = go (ℕ_discrete a.high b.high)
    where
      go : Dec (a.high ≡ b.high) → shared (udid_bits a) (udid_bits b) < 128
      go (yes e) =
          let d : a.low ≡ b.low → ⊥ = λ q. n (by_halves e q) in
          omega (arith, drop_out_in_low_half a b f.low g.low e, (leading_top 64 (bit_xor a.low b.low) (xor_pos a.low b.low d) (xor_lt 64 a.low b.low f.low g.low)).1)
      go (no d) =
          omega (arith, drop_out_in_high_half a b f.high g.high d, (leading_top 64 (bit_xor a.high b.high) (xor_pos a.high b.high d) (xor_lt 64 a.high b.high f.high g.high)).1)

  -- whatever is sent before and after them, the same before
  pub drop_out_within : (p x y : List Bool) → (a ≡ b → ⊥) → shared (p ++ (udid_bits a ++ x)) (p ++ (udid_bits b ++ y)) ≡ length p + shared (udid_bits a) (udid_bits b)
  drop_out_within p x y n =
      shared_after_same_front p (udid_bits a ++ x) (udid_bits b ++ y)
      ∙ ap (λ (k : ℕ). length p + k)
      (shared_whatever_follows (udid_bits a) (udid_bits b) x y (length_udid_bits a ∙ sym (length_udid_bits b)) (omega (arith, drop_out_below_128 n, length_udid_bits a)))

  -- equal ones never do
  pub equal_share_128 : a ≡ b → shared (udid_bits a) (udid_bits b) ≡ 128
  equal_share_128 e =
      let x : bit_xor a.low b.low ≡ 0 = ap (λ (u : Udid). bit_xor u.low b.low) e ∙ xor_self b.low in
      sym (drop_out_in_low_half a b f.low g.low (ap (λ (u : Udid). u.high) e))
      ∙ ap (λ (y : ℕ). 64 + count_leading_zeros 64 y) x
      ∙ ap (λ (y : ℕ). 64 + y) (leading_of_zero 64)

  -- the test at the drop-out bit, as the code makes it
  pub drop_out_test_below : pick (ltb 127 (shared (udid_bits a) (udid_bits b))) false
      (pick (ltb (shared (udid_bits a) (udid_bits b)) 64) (not (digit a.high (63 - shared (udid_bits a) (udid_bits b)))) (not (digit a.low (127 - shared (udid_bits a) (udid_bits b)))))
      ≡ is_below a b
  drop_out_test_below = go (same_udid a b) refl
    where
      s : ℕ
      s = shared (udid_bits a) (udid_bits b)

      tested : Bool
      tested = pick (ltb 127 s) false (pick (ltb s 64) (not (digit a.high (63 - s))) (not (digit a.low (127 - s))))

      push : (t : Bool) → pick t (not (digit a.high (63 - s))) (not (digit a.low (127 - s))) ≡ not (pick t (digit a.high (63 - s)) (digit a.low (127 - s)))
      push true = refl
      push false = refl

      ordered : (a ≡ b → ⊥) → no_later (udid_bits a) (udid_bits b) ≡ is_below a b
      ordered n = simp append-nil at (udid_order [] [] n)

      differ : (a ≡ b → ⊥) → tested ≡ is_below a b
      differ n =
          let h : shared (udid_bits a) (udid_bits b) < 128 = drop_out_below_128 n in
          rw (le-ltb 127 s (omega arith))
          (push (ltb s 64)
          ∙ ap not (sym (udid_bit_digit a s h))
          ∙ drop_out_bit_decides (udid_bits a) (udid_bits b) (length_udid_bits a ∙ sym (length_udid_bits b)) (omega (arith, length_udid_bits a))
          ∙ ordered n)

      equal : a ≡ b → tested ≡ is_below a b
      equal e =
          let v : value a ≡ value b = ap value e in
          rw (lt-ltb 127 s (omega (arith, equal_share_128 e))) (sym (le-ltb (value a) (value b) (omega arith)))

      go : (t : Bool) → same_udid a b ≡ t → tested ≡ is_below a b
      go true e = equal (same_equal a b e)
      go false e = differ (λ q. not_both e (sym (ap (same_udid a) q) ∙ same_refl a))
