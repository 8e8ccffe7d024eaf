-- A test that every element passes is passed by the one at each place; one that each number below a bound passes, by any of them; what holds of each number below a bound holds of any.
use Rattle.std.specs.Prelude.{◌≡◌, Bool, true, List, [], ◌∷◌, ℕ, zero, suc, ◌<◌, length, get_or}
use Rattle.std.proofs.Common.{arith}
use Rattle.lists.specs.All.{all, all_placed, all_below, EachBelow}
use Rattle.lists.specs.ChoiceLaws.{both_true}

pub at_each : {A : Type 0} (test : A → Bool) (l : List A) (d : A) → all test l ≡ true → (n : ℕ) → n < length l → test (get_or l n d) ≡ true
at_each test [] d e n h = absurd (omega arith)
at_each test (x ∷ xs) d e zero h = (both_true (test x) (all test xs) e).0
at_each test (x ∷ xs) d e (suc n) h = at_each test xs d (both_true (test x) (all test xs) e).1 n (omega arith)

-- and by what is found at any place, where the default passes it too
pub at_any : {A : Type 0} (test : A → Bool) (l : List A) (d : A) → all test l ≡ true → test d ≡ true → (n : ℕ) → test (get_or l n d) ≡ true
at_any test [] d e f n = f
at_any test (x ∷ xs) d e f zero = (both_true (test x) (all test xs) e).0
at_any test (x ∷ xs) d e f (suc n) = at_any test xs d (both_true (test x) (all test xs) e).1 f n

pub at_place : {A : Type 0} (test : ℕ → A → Bool) (l : List A) (d : A) → all_placed test l ≡ true → (n : ℕ) → n < length l → test n (get_or l n d) ≡ true
at_place test [] d e n h = absurd (omega arith)
at_place test (x ∷ xs) d e zero h = (both_true (test 0 x) (all_placed (λ (i : ℕ). test (suc i)) xs) e).0
at_place test (x ∷ xs) d e (suc n) h =
    at_place (λ (i : ℕ). test (suc i)) xs d (both_true (test 0 x) (all_placed (λ (i : ℕ). test (suc i)) xs) e).1 n (omega arith)

pub at_below : (test : ℕ → Bool) (n : ℕ) → all_below test n ≡ true → (k : ℕ) → k < n → test k ≡ true
at_below test zero e k h = absurd (omega arith)
at_below test (suc n) e zero h = (both_true (test 0) (all_below (λ (i : ℕ). test (suc i)) n) e).0
at_below test (suc n) e (suc k) h = at_below (λ (i : ℕ). test (suc i)) n (both_true (test 0) (all_below (λ (i : ℕ). test (suc i)) n) e).1 k (omega arith)

pub each_below : (P : ℕ → Type 0) (n : ℕ) → EachBelow P n → (k : ℕ) → k < n → P k
each_below P zero c k h = absurd (omega arith)
each_below P (suc n) c zero h = c.0
each_below P (suc n) c (suc k) h = each_below (λ (i : ℕ). P (suc i)) n c.1 k (omega arith)
