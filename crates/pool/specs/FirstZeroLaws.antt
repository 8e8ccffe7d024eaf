-- The first zero of a number from a place on: as many places on as there are zeros at the end of the number moved down and turned over.
use Rattle.std.specs.Prelude.{ℕ, zero, suc, ◌+◌, ◌-◌, ◌/◌, ◌%◌, ◌^◌, ◌<◌, ◌≤◌, ◌≡◌, refl, Bool, true, false, eqb}
use Rattle.std.proofs.Common.{sym, ap, ◌∙◌, pow-suc, div-one, arith, pow-add}
use Rattle.std.proofs.Math.Nat.{div-eq_of_lt, div-div-eq-div-mul}
use Rattle.std.proofs.Math.Decide.{dec_lt}
use Rattle.std.specs.Int.Count.{count_trailing_zeros, under}
use Rattle.std.proofs.lemmas.Nat.{trailing_le}
use Rattle.lists.specs.AbsurdLaws.{zero_is_one}
use Rattle.lists.specs.Choice.{not}
use Rattle.pool.specs.Digits.{digit, FirstZero}
use Rattle.pool.specs.DigitLaws.{digit_suc}

digit_shift : (n k j : ℕ) → digit (n / 2 ^ k) j ≡ digit n (k + j)
unfolding digit
digit_shift n k j = ap (λ (x : ℕ). eqb (x % 2) 1) (div-div-eq-div-mul n (2 ^ k) (2 ^ j) ∙ ap (λ (x : ℕ). n / x) (sym (pow-add 2 k j)))

digit_past : (n k : ℕ) → n < 2 ^ k → digit n k ≡ false
unfolding digit
digit_past n k h = rw (div-eq_of_lt h)

not_digit : (x y : ℕ) → x + y ≡ 1 → eqb x 1 ≡ not (eqb y 1)
not_digit zero zero e = absurd (omega arith)
not_digit zero (suc zero) e = refl
not_digit zero (suc (suc y)) e = absurd (omega arith)
not_digit (suc zero) zero e = refl
not_digit (suc zero) (suc y) e = absurd (omega arith)
not_digit (suc (suc x)) y e = absurd (omega arith)

-- two numbers that make 2 ^ k - 1 together have no digit alike
digit_not : (k n m j : ℕ) → suc (n + m) ≡ 2 ^ k → j < k → digit m j ≡ not (digit n j)
unfolding digit
digit_not zero n m j e h = absurd (omega arith)
digit_not (suc k) n m zero e h = rw (div-one n, div-one m) (not_digit (m % 2) (n % 2) (omega (arith, pow-suc 2 k)))
digit_not (suc k) n m (suc j) e h =
    digit_suc m j
    ∙ digit_not k (n / 2) (m / 2) j (omega (arith, pow-suc 2 k)) (omega arith)
    ∙ ap not (sym (digit_suc n j))

lowest_digit : (m d : ℕ) → m % 2 ≡ d → digit m 0 ≡ eqb d 1
unfolding digit
lowest_digit m d e = rw (div-one m) (ap (λ (x : ℕ). eqb x 1) e)

-- the zeros at the end, and the one above them
trailing_digits : (k m : ℕ) → ((j : ℕ) → j < count_trailing_zeros k m → digit m j ≡ false) × (count_trailing_zeros k m < k → digit m (count_trailing_zeros k m) ≡ true)
unfolding count_trailing_zeros
trailing_digits zero m = (λ j h. absurd (omega arith), λ h. absurd (omega arith))
trailing_digits (suc k) m = go (m % 2) (omega arith) refl (trailing_digits k (m / 2))
  where
    go : (d : ℕ) → d < 2 → m % 2 ≡ d
        → ((j : ℕ) → j < count_trailing_zeros k (m / 2) → digit (m / 2) j ≡ false) × (count_trailing_zeros k (m / 2) < k → digit (m / 2) (count_trailing_zeros k (m / 2)) ≡ true)
        → ((j : ℕ) → j < under d (count_trailing_zeros k (m / 2)) → digit m j ≡ false) × (under d (count_trailing_zeros k (m / 2)) < suc k → digit m (under d (count_trailing_zeros k (m / 2))) ≡ true)
    go zero h e r = (λ j l. at j l, λ l. digit_suc m (count_trailing_zeros k (m / 2)) ∙ r.1 (omega arith))
      where
        at : (j : ℕ) → j < suc (count_trailing_zeros k (m / 2)) → digit m j ≡ false
        at zero l = lowest_digit m 0 e
        at (suc j) l = digit_suc m j ∙ r.0 j (omega arith)
    go (suc zero) h e r = (λ j l. absurd (omega arith), λ l. lowest_digit m 1 e)
    go (suc (suc d)) h e r = absurd (omega arith)

-- the place of the first zero from k on
pub first_zero : (n k m : ℕ) → n < 2 ^ 64 → k < 64 → suc (n / 2 ^ k + m) ≡ 2 ^ 64 → FirstZero n k (k + count_trailing_zeros 64 m)
first_zero n k m h l e =
    record {
      from = omega arith;
      most = short (dec_lt 64 (k + t));
      ones = λ j p q. at (j - k) (omega arith) (ap (digit n) (fill j p));
      zero = λ p. sym (digit_shift n k t) ∙ turned t (omega arith) ∙ ap not (w.1 (omega arith));
    }
  where
    t : ℕ
    t = count_trailing_zeros 64 m

    w : ((j : ℕ) → j < t → digit m j ≡ false) × (t < 64 → digit m t ≡ true)
    w = trailing_digits 64 m

    turned : (j : ℕ) → j < 64 → digit (n / 2 ^ k) j ≡ not (digit m j)
    turned j p = digit_not 64 m (n / 2 ^ k) j (omega (arith, e)) p

    fill : (j : ℕ) → k ≤ j → j ≡ k + (j - k)
    fill j p = omega arith

    one_at : (j : ℕ) → j < t → j < 64 → digit n (k + j) ≡ true
    one_at j p q = sym (digit_shift n k j) ∙ turned j q ∙ ap not (w.0 j p)

    at : (i : ℕ) {x : Bool} → i < t → x ≡ digit n (k + i) → x ≡ true
    at i p q = q ∙ one_at i p (omega (arith, trailing_le 64 m))

    short : Dec (64 < k + t) → k + t ≤ 64
    short (no p) = omega arith
    short (yes p) =
        let a : digit n (k + (64 - k)) ≡ true = one_at (64 - k) (omega arith) (omega (arith, trailing_le 64 m)) in
        let b : digit n (k + (64 - k)) ≡ false = ap (digit n) (sym (fill 64 (omega arith))) ∙ digit_past n 64 h in
        zero_is_one (cc (a, b))
