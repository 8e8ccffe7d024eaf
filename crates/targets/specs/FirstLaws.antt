-- The first number that passes a test: how a loop finds it, and what it says.
use Rattle.std.specs.Prelude.{ℕ, zero, suc, ◌+◌, ◌-◌, ◌≤◌, ◌<◌, ◌≡◌, refl, Bool, true, false, cond, ◌||◌, Option, Some, None, is_some, unwrap_or, List, [], ◌∷◌, ◌↔◌}
use Rattle.std.specs.List.{find, list_any, range_with_len}
use Rattle.std.proofs.Common.{sym, ap, subst, ◌∙◌, arith}
use Rattle.std.proofs.Math.Decide.{ℕ_discrete}
use Rattle.std.proofs.Math.Nat.{sub-zero}
use Rattle.lists.specs.ChoiceLaws.{not_both}
use Rattle.targets.specs.First.{first, some}

-- ---- for a loop: at the start, found, one further, at the end

pub first_start : (p : ℕ → Bool) (n : ℕ) → first p n ≡ find p (range_with_len 0 (n - 0))
first_start p n = simp sub-zero

pub first_found : (p : ℕ → Bool) (n i : ℕ) → i < n → p i ≡ true → find p (range_with_len i (n - i)) ≡ Some i
first_found p n i h e = let m : n - i ≡ suc (n - (i + 1)) = omega arith in rw m (simp e)

pub first_onward : (p : ℕ → Bool) (n i : ℕ) → i < n → p i ≡ false → find p (range_with_len i (n - i)) ≡ find p (range_with_len (i + 1) (n - (i + 1)))
first_onward p n i h e = let m : n - i ≡ suc (n - (i + 1)) = omega arith in rw m (simp e)

pub first_end : (p : ℕ → Bool) (n i : ℕ) → i ≡ n → find p (range_with_len i (n - i)) ≡ None
first_end p n i e = let m : n - i ≡ 0 = omega arith in rw m refl

-- ---- what it says

-- of the n numbers from a on none passes, or i is the first that does
abbrev pub Found : (ℕ → Bool) → ℕ → ℕ → Option ℕ → Type 0
Found test a n None = (j : ℕ) → a ≤ j → j < a + n → test j ≡ false
Found test a n (Some i) = (a ≤ i) × (i < a + n) × (test i ≡ true) × ((j : ℕ) → a ≤ j → j < i → test j ≡ false)

pub found : (test : ℕ → Bool) (n a : ℕ) → Found test a n (find test (range_with_len a n))
found test zero a = λ j h l. absurd (omega arith)
found test (suc n) a = go (test a) refl (find test (range_with_len (a + 1) n)) (found test n (a + 1))
  where
    later : test a ≡ false → (j : ℕ) → a ≤ j → Dec (a ≡ j) → (a + 1 ≤ j → test j ≡ false) → test j ≡ false
    later e j h (yes q) k = ap test (sym q) ∙ e
    later e j h (no q) k = k (omega arith)

    go : (b : Bool) → test a ≡ b → (r : Option ℕ) → Found test (a + 1) n r → Found test a (suc n) (cond b (Some a) r)
    go true e r f = (omega arith, omega arith, e, λ j h l. absurd (omega arith))
    go false e None f = λ j h l. later e j h (ℕ_discrete a j) (λ k. f j k (omega arith))
    go false e (Some i) f = (omega (arith, f.0), omega (arith, f.1), f.2, λ j h l. later e j h (ℕ_discrete a j) (λ k. f.3 j k l))

from_ge : (p : ℕ → Bool) (n i k : ℕ) → find p (range_with_len i n) ≡ Some k → i ≤ k
from_ge p n i k e = (subst (Found p i n) e (found p n i)).0

-- those before it do not pass; where there is none, none of the n passes
from_before : (p : ℕ → Bool) (n i j : ℕ) → i ≤ j → j < unwrap_or (find p (range_with_len i n)) (i + n) → p j ≡ false
from_before p n i j a h = go (find p (range_with_len i n)) (found p n i) h
  where
    go : (r : Option ℕ) → Found p i n r → j < unwrap_or r (i + n) → p j ≡ false
    go None f k = f j a k
    go (Some l) f k = f.3 j a k

-- it passes
from_passes : (p : ℕ → Bool) (n i k : ℕ) → find p (range_with_len i n) ≡ Some k → p k ≡ true
from_passes p n i k e = (subst (Found p i n) e (found p n i)).2

from_le : (p : ℕ → Bool) (n i k : ℕ) → find p (range_with_len i n) ≡ Some k → k < i + n
from_le p n i k e = (subst (Found p i n) e (found p n i)).1

pub first_le : (p : ℕ → Bool) (n i : ℕ) → first p n ≡ Some i → i < n
first_le p n i e = omega (arith, from_le p n 0 i e)

pub first_before : (p : ℕ → Bool) (n j : ℕ) → j < unwrap_or (first p n) n → p j ≡ false
first_before p n j h = let m : n ≡ 0 + n = omega arith in from_before p n 0 j (omega arith) (subst (λ (k : ℕ). j < unwrap_or (first p n) k) m h)

pub first_passes : (p : ℕ → Bool) (n i : ℕ) → first p n ≡ Some i → p i ≡ true
first_passes p n i e = from_passes p n 0 i e

any_found : (test : ℕ → Bool) (xs : List ℕ) → list_any test xs ≡ is_some (find test xs)
any_found test [] = refl
any_found test (x ∷ xs) = go (test x) (any_found test xs)
  where
    go : (b : Bool) → list_any test xs ≡ is_some (find test xs) → (b || list_any test xs) ≡ is_some (cond b (Some x) (find test xs))
    go true h = refl
    go false h = h

-- where none below n passes
pub none_below : (p : ℕ → Bool) (n : ℕ) → some p n ≡ false → (j : ℕ) → j < n → p j ≡ false
none_below p n e j h = go (first p n) (found p n 0) (sym (any_found p (range_with_len 0 n)) ∙ e)
  where
    go : (r : Option ℕ) → Found p 0 n r → is_some r ≡ false → p j ≡ false
    go None f q = f j (omega arith) (omega (arith, h))
    go (Some i) f q = not_both q refl

-- some number below n passes
pub some_exactly : (test : ℕ → Bool) (n : ℕ) → (some test n ≡ true) ↔ ((j : ℕ) × (j < n) × (test j ≡ true))
some_exactly test n = (
  λ e. there (first test n) (found test n 0) (sym (any_found test (range_with_len 0 n)) ∙ e),
  λ h. any_found test (range_with_len 0 n) ∙ back (first test n) (found test n 0) h,
)
  where
    there : (r : Option ℕ) → Found test 0 n r → is_some r ≡ true → (j : ℕ) × (j < n) × (test j ≡ true)
    there None f e = not_both refl e
    there (Some i) f e = (i, omega (arith, f.1), f.2)

    back : (r : Option ℕ) → Found test 0 n r → (j : ℕ) × (j < n) × (test j ≡ true) → is_some r ≡ true
    back None f h = not_both (f h.0 (omega arith) (omega (arith, h.1))) h.2
    back (Some i) f h = refl
