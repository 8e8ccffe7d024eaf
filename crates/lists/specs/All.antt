-- A test that every element of a list passes, or every number below a bound, and what holds of every number below a bound.
use Rattle.std.specs.Prelude.{Bool, true, List, [], ◌∷◌, ℕ, zero, suc}
use Rattle.lists.specs.Choice.{and}

abbrev pub all : {A : Type 0} → (A → Bool) → List A → Bool
all test [] = true
all test (x ∷ xs) = and (test x) (all test xs)

-- a test of each element with its place
abbrev pub all_placed : {A : Type 0} → (ℕ → A → Bool) → List A → Bool
all_placed test [] = true
all_placed test (x ∷ xs) = and (test 0 x) (all_placed (λ (i : ℕ). test (suc i)) xs)

-- a test of 0, of 1 and so on, of n numbers
abbrev pub all_below : (ℕ → Bool) → ℕ → Bool
all_below test zero = true
all_below test (suc n) = and (test 0) (all_below (λ (i : ℕ). test (suc i)) n)

-- what holds of 0, of 1 and so on, of n numbers
abbrev pub EachBelow : (ℕ → Type 0) → ℕ → Type 0
EachBelow P zero = Unit
EachBelow P (suc n) = P 0 × EachBelow (λ (i : ℕ). P (suc i)) n
