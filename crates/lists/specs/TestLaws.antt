-- A test and what it is a test of: the tests on numbers; `or`, `and` and `not` of tests; and a test that fails.
use Rattle.std.specs.Prelude.{ℕ, ◌≤◌, ◌<◌, ◌≡◌, refl, Bool, true, false, ◌⊎◌, ◌↔◌, eqb, ltb, leb}
use Rattle.std.proofs.Common.{inl, inr, eqb-true, eq-eqb, ltb-true, lt-ltb, leb-true, le-leb}
use Rattle.lists.specs.Choice.{or, and, not}
use Rattle.lists.specs.ChoiceLaws.{false_not_true, not_both}

pub eqb_is : (a b : ℕ) → (eqb a b ≡ true) ↔ (a ≡ b)
eqb_is a b = (eqb-true a b, eq-eqb a b)

pub ltb_is : (a b : ℕ) → (ltb a b ≡ true) ↔ (a < b)
ltb_is a b = (ltb-true a b, lt-ltb a b)

pub leb_is : (a b : ℕ) → (leb a b ≡ true) ↔ (a ≤ b)
leb_is a b = (leb-true a b, le-leb a b)

pub or_is : {P Q : Type 0} (a b : Bool) → (a ≡ true) ↔ P → (b ≡ true) ↔ Q → (or a b ≡ true) ↔ (P ⊎ Q)
or_is true b p q = (λ e. inl (p.0 refl), λ h. refl)
or_is {P = P} {Q = Q} false b p q = (λ e. inr (q.0 e), back)
  where
    back : P ⊎ Q → b ≡ true
    back (inl x) = false_not_true (p.1 x)
    back (inr y) = q.1 y

pub and_is : {P Q : Type 0} (a b : Bool) → (a ≡ true) ↔ P → (b ≡ true) ↔ Q → (and a b ≡ true) ↔ (P × Q)
and_is true b p q = (λ e. (p.0 refl, q.0 e), λ h. q.1 h.1)
and_is false b p q = (λ e. false_not_true e, λ h. p.1 h.0)

-- it fails if and only if that does not hold
pub false_is : {P : Type 0} (a : Bool) → (a ≡ true) ↔ P → (a ≡ false) ↔ (P → ⊥)
false_is true p = (λ e. not_both e refl, λ n. absurd (n (p.0 refl)))
false_is false p = (λ e x. false_not_true (p.1 x), λ n. refl)

pub not_is : {P : Type 0} (a : Bool) → (a ≡ true) ↔ P → (not a ≡ true) ↔ (P → ⊥)
not_is true p = (λ e. false_not_true e, λ n. absurd (n (p.0 refl)))
not_is false p = (λ e x. false_not_true (p.1 x), λ n. refl)
