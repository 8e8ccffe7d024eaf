-- The test of two traces says whether they are equal.
use Rattle.std.specs.Prelude.{ℕ, ◌≡◌, refl, Bool, true, false, List, [], ◌∷◌, eqb}
use Rattle.std.proofs.Common.{ap₂, eq-eqb, eqb-true}
use Rattle.lists.specs.Choice.{and}
use Rattle.lists.specs.ChoiceLaws.{false_not_true}
use Rattle.commands.specs.SameTrace.{same}

pub same_self : (xs : List ℕ) → same xs xs ≡ true
unfolding same
same_self [] = refl
same_self (x ∷ xs) = rw (eq-eqb x x refl) (same_self xs)

pub same_true : (xs ys : List ℕ) → same xs ys ≡ true → xs ≡ ys
unfolding same
same_true [] [] e = refl
same_true [] (y ∷ ys) e = false_not_true e
same_true (x ∷ xs) [] e = false_not_true e
same_true (x ∷ xs) (y ∷ ys) e = go (eqb x y) refl e (λ q. same_true xs ys q)
  where
    go : (b : Bool) → eqb x y ≡ b → and b (same xs ys) ≡ true → (same xs ys ≡ true → xs ≡ ys) → x ∷ xs ≡ y ∷ ys
    go true h k ih = ap₂ (λ (z : ℕ) (l : List ℕ). z ∷ l) (eqb-true x y h) (ih k)
    go false h k ih = false_not_true k

pub same_false : (xs ys : List ℕ) → (xs ≡ ys → ⊥) → same xs ys ≡ false
same_false xs ys n = go (same xs ys) refl
  where
    go : (b : Bool) → same xs ys ≡ b → same xs ys ≡ false
    go true e = absurd (n (same_true xs ys e))
    go false e = e
