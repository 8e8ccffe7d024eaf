-- The digits of a power of two, of two numbers joined, and of a number with one digit set or turned over. Digits make the number, and its ones
-- are the digits that are one.
use Rattle.std.specs.Prelude.{ℕ, zero, suc, ◌+◌, ◌-◌, ◌*◌, ◌/◌, ◌%◌, ◌^◌, ◌<◌, max, ◌≡◌, refl, Bool, true, false, ◌⊎◌, eqb}
use Rattle.std.proofs.Common.{sym, ap, ap₂, ◌∙◌, inl, inr, pow-suc, div-one, mul_comm, zero-mul, one-mul, one-add, arith, pow_pos, pow-add, eq-eqb, ne_eqb}
use Rattle.std.proofs.Math.Path.{fun_ext}
use Rattle.std.proofs.Math.Nat.{zero-div, div-eq_of_lt, div_self, mul-mod_left, div-div-eq-div-mul}
use Rattle.std.proofs.Math.Decide.{dec_lt, ℕ_discrete}
use Rattle.std.proofs.Math.Pow.{pow-lt}
use Rattle.std.proofs.lemmas.Nat.{shl-shr, mod-pow-add, or_shr, xor_shr}
use Rattle.std.specs.Int.Count.{ones, ones_step}
use Rattle.std.specs.Int.Bits.{bit_or, bit_xor, differ, or_step, xor_step}
use Rattle.lists.specs.Choice.{or, not}
use Rattle.pool.specs.Digits.{digit, plus, flip, differs}
use Rattle.pool.specs.Counts.{one, count}

-- ---- the digits of a power of two

power_same : (k : ℕ) → 2 ^ k / 2 ^ k % 2 ≡ 1
power_same k = rw (div_self (pow_pos k))

power_above : (k j : ℕ) → k < j → 2 ^ k / 2 ^ j % 2 ≡ 0
power_above k j h = rw (div-eq_of_lt (pow-lt h))

power_below : (k j : ℕ) → j < k → 2 ^ k / 2 ^ j % 2 ≡ 0
power_below k j h =
    let e : k ≡ suc (k - suc j) + j = omega arith in
    ap (λ (x : ℕ). 2 ^ x / 2 ^ j % 2) e
    ∙ ap (λ (x : ℕ). x / 2 ^ j % 2) (pow-add 2 (suc (k - suc j)) j)
    ∙ ap (λ (x : ℕ). x % 2) (shl-shr (2 ^ suc (k - suc j)) j)
    ∙ ap (λ (x : ℕ). x % 2) (pow-suc 2 (k - suc j))
    ∙ mul-mod_left (2 ^ (k - suc j)) 2

power_other : (k j : ℕ) → (j ≡ k → ⊥) → 2 ^ k / 2 ^ j % 2 ≡ 0
power_other k j n = go (dec_lt j k)
  where
    go : Dec (j < k) → 2 ^ k / 2 ^ j % 2 ≡ 0
    go (yes h) = power_below k j h
    go (no h) = power_above k j (omega arith)

-- 2 ^ k has digit k, and no other
pub digit_power : (k j : ℕ) → digit (2 ^ k) j ≡ eqb j k
unfolding digit
digit_power k j = go (ℕ_discrete j k)
  where
    go : Dec (j ≡ k) → eqb (2 ^ k / 2 ^ j % 2) 1 ≡ eqb j k
    go (yes e) = eq-eqb _ 1 (ap (λ (x : ℕ). 2 ^ k / 2 ^ x % 2) e ∙ power_same k) ∙ sym (eq-eqb j k e)
    go (no n) = ap (λ (x : ℕ). eqb x 1) (power_other k j n) ∙ sym (ne_eqb j k n)

-- ---- two numbers joined, digit by digit

or_at : (n m j : ℕ) → bit_or n m / 2 ^ j % 2 ≡ max (n / 2 ^ j % 2) (m / 2 ^ j % 2)
or_at n m j = rw (or_shr n m j) (omega (arith, or_step (n / 2 ^ j) (m / 2 ^ j)))

xor_at : (n m j : ℕ) → bit_xor n m / 2 ^ j % 2 ≡ differ (n / 2 ^ j % 2) (m / 2 ^ j % 2)
xor_at n m j =
    rw (xor_shr n m j)
    (go (bit_xor (n / 2 ^ j / 2) (m / 2 ^ j / 2)) (n / 2 ^ j % 2) (m / 2 ^ j % 2) (omega arith) (omega arith) (xor_step (n / 2 ^ j) (m / 2 ^ j)))
  where
    go : (q a b : ℕ) → a < 2 → b < 2 → {x : ℕ} → x ≡ q * 2 + differ a b → x % 2 ≡ differ a b
    go q zero b ha hb e = omega (arith, e)
    go q (suc zero) zero ha hb e = omega (arith, e)
    go q (suc zero) (suc b) ha hb e = omega (arith, e)
    go q (suc (suc a)) b ha hb e = absurd (omega arith)

or_digit : (x y : ℕ) → x < 2 → y < 2 → eqb (max x y) 1 ≡ or (eqb x 1) (eqb y 1)
or_digit zero zero h k = refl
or_digit zero (suc zero) h k = refl
or_digit zero (suc (suc y)) h k = absurd (omega arith)
or_digit (suc zero) zero h k = refl
or_digit (suc zero) (suc zero) h k = refl
or_digit (suc zero) (suc (suc y)) h k = absurd (omega arith)
or_digit (suc (suc x)) y h k = absurd (omega arith)

pub digit_or : (n m k : ℕ) → digit (bit_or n m) k ≡ or (digit n k) (digit m k)
unfolding digit
digit_or n m k = ap (λ (x : ℕ). eqb x 1) (or_at n m k) ∙ or_digit (n / 2 ^ k % 2) (m / 2 ^ k % 2) (omega arith) (omega arith)

differs_digit : (x y : ℕ) → x < 2 → y < 2 → eqb (differ x y) 1 ≡ differs (eqb x 1) (eqb y 1)
differs_digit zero y h k = refl
differs_digit (suc zero) zero h k = refl
differs_digit (suc zero) (suc zero) h k = refl
differs_digit (suc zero) (suc (suc y)) h k = absurd (omega arith)
differs_digit (suc (suc x)) y h k = absurd (omega arith)

-- the digits in which two numbers differ
pub digit_xor : (n m k : ℕ) → digit (bit_xor n m) k ≡ differs (digit n k) (digit m k)
unfolding digit
digit_xor n m k = ap (λ (x : ℕ). eqb x 1) (xor_at n m k) ∙ differs_digit (n / 2 ^ k % 2) (m / 2 ^ k % 2) (omega arith) (omega arith)

-- ---- a digit one, and a digit turned over

pub digit_plus_same : (n k : ℕ) → digit (plus n k) k ≡ true
unfolding digit plus
digit_plus_same n k = eq-eqb _ _ (or_at n (2 ^ k) k ∙ omega (arith, power_same k))

pub digit_plus_other : (n k j : ℕ) → (j ≡ k → ⊥) → digit (plus n k) j ≡ digit n j
unfolding digit plus
digit_plus_other n k j h =
    let e : bit_or n (2 ^ k) / 2 ^ j % 2 ≡ n / 2 ^ j % 2 = or_at n (2 ^ k) j ∙ omega (arith, power_other k j h) in
    ap (λ (x : ℕ). eqb x 1) e

not_one : (x : ℕ) → x < 2 → eqb (differ x 1) 1 ≡ not (eqb x 1)
not_one zero h = refl
not_one (suc zero) h = refl
not_one (suc (suc x)) h = absurd (omega arith)

differ_zero : (x : ℕ) → differ x 0 ≡ x
differ_zero zero = refl
differ_zero (suc x) = refl

pub digit_flip_same : (n k : ℕ) → digit (flip n k) k ≡ not (digit n k)
unfolding digit flip
digit_flip_same n k =
    ap (λ (x : ℕ). eqb x 1) (xor_at n (2 ^ k) k ∙ ap (λ (x : ℕ). differ (n / 2 ^ k % 2) x) (power_same k))
    ∙ not_one (n / 2 ^ k % 2) (omega arith)

pub digit_flip_other : (n k j : ℕ) → (j ≡ k → ⊥) → digit (flip n k) j ≡ digit n j
unfolding digit flip
digit_flip_other n k j h =
    ap (λ (x : ℕ). eqb x 1) (xor_at n (2 ^ k) j ∙ ap (λ (x : ℕ). differ (n / 2 ^ j % 2) x) (power_other k j h) ∙ differ_zero (n / 2 ^ j % 2))

-- ---- the digits make the number

one_eqb : (x : ℕ) → x < 2 → one (eqb x 1) ≡ x
one_eqb zero h = refl
one_eqb (suc zero) h = refl
one_eqb (suc (suc x)) h = absurd (omega arith)

digit_zero : (n : ℕ) → one (digit n 0) ≡ n % 2
unfolding digit
digit_zero n = rw (div-one n) (one_eqb (n % 2) (omega arith))

pub digit_suc : (n j : ℕ) → digit n (suc j) ≡ digit (n / 2) j
unfolding digit
digit_suc n j = ap (λ (x : ℕ). eqb (x % 2) 1) (ap (λ (x : ℕ). n / x) (pow-suc 2 j ∙ mul_comm (2 ^ j) 2) ∙ sym (div-div-eq-div-mul n 2 (2 ^ j)))

half_lt : (n k : ℕ) → n < 2 ^ suc k → n / 2 < 2 ^ k
half_lt n k h = omega (arith, pow-suc 2 k)

-- zero has no digit that is one
pub digit_of_zero : (k : ℕ) → digit 0 k ≡ false
unfolding digit
digit_of_zero k = rw (zero-div (2 ^ k))

-- two numbers of k digits that have the same digits are equal
pub same_digits : (k n m : ℕ) → n < 2 ^ k → m < 2 ^ k → ((j : ℕ) → j < k → digit n j ≡ digit m j) → n ≡ m
same_digits zero n m h g e = omega arith
same_digits (suc k) n m h g e =
    let q = same_digits k (n / 2) (m / 2) (half_lt n k h) (half_lt m k g) (λ j l. sym (digit_suc n j) ∙ e (suc j) (omega arith) ∙ digit_suc m j) in
    let r : n % 2 ≡ m % 2 = sym (digit_zero n) ∙ ap one (e 0 (omega arith)) ∙ digit_zero m in
    omega arith

-- the highest of k + 1 digits, and what the others make
pub top_digit : (n k : ℕ) → ((digit n k ≡ false) × (n % 2 ^ suc k ≡ n % 2 ^ k)) ⊎ ((digit n k ≡ true) × (n % 2 ^ suc k ≡ 2 ^ k + n % 2 ^ k))
unfolding digit
top_digit n k = go (n / 2 ^ k % 2) (omega arith) refl
  where
    e : n % 2 ^ suc k ≡ (n / 2 ^ k % 2) * 2 ^ k + n % 2 ^ k
    e = ap (λ (x : ℕ). n % 2 ^ x) (sym (one-add k)) ∙ mod-pow-add n 1 k

    go : (d : ℕ) → d < 2 → n / 2 ^ k % 2 ≡ d → ((digit n k ≡ false) × (n % 2 ^ suc k ≡ n % 2 ^ k)) ⊎ ((digit n k ≡ true) × (n % 2 ^ suc k ≡ 2 ^ k + n % 2 ^ k))
    go zero h q = inl (ap (λ (x : ℕ). eqb x 1) q, e ∙ ap (λ (x : ℕ). x * 2 ^ k + n % 2 ^ k) q ∙ omega (arith, zero-mul (2 ^ k)))
    go (suc zero) h q = inr (ap (λ (x : ℕ). eqb x 1) q, e ∙ ap (λ (x : ℕ). x * 2 ^ k + n % 2 ^ k) q ∙ omega (arith, one-mul (2 ^ k)))
    go (suc (suc d)) h q = absurd (omega arith)

-- the ones of a number are its digits that are one, counted
pub ones_count : (k n : ℕ) → n < 2 ^ k → ones n ≡ count (digit n) k
unfolding count ones
ones_count zero n h = let e : n ≡ 0 = omega arith in ap ones e
ones_count (suc k) n h =
    ones_step n
    ∙ ap₂ (λ (a b : ℕ). a + b) (sym (digit_zero n))
    (ones_count k (n / 2) (half_lt n k h) ∙ ap (λ (p : ℕ → Bool). count p k) (fun_ext (λ j. sym (digit_suc n j))))
