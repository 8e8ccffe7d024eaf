-- The order of numbers is the order of their bits, highest first: who has the lower_rest_stays number does not drop out.
use Rattle.std.specs.Prelude.{ℕ, zero, suc, ◌+◌, ◌%◌, ◌^◌, ◌<◌, ◌≡◌, refl, Bool, true, false, ◌⊎◌, List, [], ◌∷◌, ◌++◌}
use Rattle.std.proofs.Common.{inl, inr, mod-lt, mod-eq_of_lt, arith, pow_pos}
use Rattle.pool.specs.Digits.{digit}
use Rattle.pool.specs.DigitLaws.{top_digit}
use Rattle.arbitration.specs.Bits.{bits}
use Rattle.arbitration.specs.DropOut.{no_later}

pub no_later_refl : (xs : List Bool) → no_later xs xs ≡ true
no_later_refl [] = refl
no_later_refl (true ∷ xs) = no_later_refl xs
no_later_refl (false ∷ xs) = no_later_refl xs

-- a shared beginning does not decide
pub no_later_same_front : (xs ys zs : List Bool) → no_later (xs ++ ys) (xs ++ zs) ≡ no_later ys zs
no_later_same_front [] ys zs = refl
no_later_same_front (true ∷ xs) ys zs = no_later_same_front xs ys zs
no_later_same_front (false ∷ xs) ys zs = no_later_same_front xs ys zs

-- the highest of k + 1 bits
abbrev Top : ℕ → ℕ → Type 0
Top k n = ((digit n k ≡ false) × (n % 2 ^ suc k ≡ n % 2 ^ k)) ⊎ ((digit n k ≡ true) × (n % 2 ^ suc k ≡ 2 ^ k + n % 2 ^ k))

-- whatever follows the bits
lower_rest_stays : (k n m : ℕ) (xs ys : List Bool) → n % 2 ^ k < m % 2 ^ k → no_later (bits k n ++ xs) (bits k m ++ ys) ≡ true
unfolding bits
lower_rest_stays zero n m xs ys h = absurd (omega arith)
lower_rest_stays (suc k) n m xs ys h = go (λ q. lower_rest_stays k n m xs ys q) (top_digit n k) (top_digit m k)
  where
    go : (n % 2 ^ k < m % 2 ^ k → no_later (bits k n ++ xs) (bits k m ++ ys) ≡ true) → Top k n → Top k m
        → no_later (digit n k ∷ (bits k n ++ xs)) (digit m k ∷ (bits k m ++ ys)) ≡ true
    go ih (inl a) (inl b) = rw (a.0, b.0) (ih (omega arith))
    go ih (inl a) (inr b) = rw (a.0, b.0)
    go ih (inr a) (inl b) = absurd (omega (arith, mod-lt m (pow_pos k)))
    go ih (inr a) (inr b) = rw (a.0, b.0) (ih (omega arith))

higher_rest_leaves : (k n m : ℕ) (xs ys : List Bool) → m % 2 ^ k < n % 2 ^ k → no_later (bits k n ++ xs) (bits k m ++ ys) ≡ false
unfolding bits
higher_rest_leaves zero n m xs ys h = absurd (omega arith)
higher_rest_leaves (suc k) n m xs ys h = go (λ q. higher_rest_leaves k n m xs ys q) (top_digit n k) (top_digit m k)
  where
    go : (m % 2 ^ k < n % 2 ^ k → no_later (bits k n ++ xs) (bits k m ++ ys) ≡ false) → Top k n → Top k m
        → no_later (digit n k ∷ (bits k n ++ xs)) (digit m k ∷ (bits k m ++ ys)) ≡ false
    go ih (inl a) (inl b) = rw (a.0, b.0) (ih (omega arith))
    go ih (inl a) (inr b) = absurd (omega (arith, mod-lt n (pow_pos k)))
    go ih (inr a) (inl b) = rw (a.0, b.0)
    go ih (inr a) (inr b) = rw (a.0, b.0) (ih (omega arith))

pub lower_number_stays : (k n m : ℕ) (xs ys : List Bool) → n < m → m < 2 ^ k → no_later (bits k n ++ xs) (bits k m ++ ys) ≡ true
lower_number_stays k n m xs ys h l =
    let a : n % 2 ^ k ≡ n = mod-eq_of_lt (omega arith) in
    let b : m % 2 ^ k ≡ m = mod-eq_of_lt l in
    lower_rest_stays k n m xs ys (omega arith)

pub higher_number_leaves : (k n m : ℕ) (xs ys : List Bool) → m < n → n < 2 ^ k → no_later (bits k n ++ xs) (bits k m ++ ys) ≡ false
higher_number_leaves k n m xs ys h l =
    let a : n % 2 ^ k ≡ n = mod-eq_of_lt l in
    let b : m % 2 ^ k ≡ m = mod-eq_of_lt (omega arith) in
    higher_rest_leaves k n m xs ys (omega arith)
