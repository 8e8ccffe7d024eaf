-- Refused are the protocols that the table lacks and Quick with PEC, and no others.
use Rattle.std.specs.Prelude.{◌≡◌, refl, Bool, true, false, ◌⊎◌, ◌↔◌, ℕ, ◌≤◌, ◌<◌, leb, eqb}
use Rattle.std.proofs.Common.{sym, ap, ◌∙◌, inl, inr, leb-true, leb-false, le-leb, eqb-true}
use Rattle.std.proofs.lemmas.Bool.{lt-leb}
use Rattle.lists.specs.Choice.{and, not}
use Rattle.lists.specs.ChoiceLaws.{false_not_true}
use Rattle.trace.specs.Shapes.{protocols, forbidden}
use Rattle.trace.proofs.ShapeLaws.{row_is}

pub forbidden_is : (protocol : ℕ) (pec : Bool) → protocol < protocols → forbidden protocol pec ≡ and pec (not (not (eqb protocol 0)))
forbidden_is protocol pec h = rw (lt-leb protocols protocol h) (ap (λ (b : Bool). and pec (not b)) (row_is protocol h).0)

-- refused: a protocol that the table lacks, or Quick with PEC
pub forbidden_cases : (protocol : ℕ) (pec : Bool) → (forbidden protocol pec ≡ true) ↔ ((protocols ≤ protocol) ⊎ ((protocol ≡ 0) × (pec ≡ true)))
forbidden_cases protocol pec = (λ f. there (leb protocols protocol) refl f, back)
  where
    quick : (b p : Bool) → eqb protocol 0 ≡ b → pec ≡ p → and p (not (not b)) ≡ true → (protocol ≡ 0) × (pec ≡ true)
    quick true true e g h = (eqb-true protocol 0 e, g)
    quick true false e g h = false_not_true h
    quick false true e g h = false_not_true h
    quick false false e g h = false_not_true h

    there : (b : Bool) → leb protocols protocol ≡ b → forbidden protocol pec ≡ true → (protocols ≤ protocol) ⊎ ((protocol ≡ 0) × (pec ≡ true))
    there true e f = inl (leb-true protocols protocol e)
    there false e f = inr (quick (eqb protocol 0) pec refl refl (sym (forbidden_is protocol pec (leb-false protocols protocol e)) ∙ f))

    back : (protocols ≤ protocol) ⊎ ((protocol ≡ 0) × (pec ≡ true)) → forbidden protocol pec ≡ true
    back (inl h) = rw (le-leb protocols protocol h)
    back (inr (e, g)) = ap (λ (k : ℕ). forbidden k pec) e ∙ ap (forbidden 0) g

-- taken: a protocol of the table, Quick without PEC
pub taken_cases : (protocol : ℕ) (pec : Bool) → (forbidden protocol pec ≡ false) ↔ ((protocol < protocols) × (protocol ≡ 0 → pec ≡ false))
taken_cases protocol pec = (λ f. (small (leb protocols protocol) refl f, λ z. free z pec refl f), λ h. back h.0 h.1)
  where
    small : (b : Bool) → leb protocols protocol ≡ b → forbidden protocol pec ≡ false → protocol < protocols
    small true e f = false_not_true (sym f ∙ (forbidden_cases protocol pec).1 (inl (leb-true protocols protocol e)))
    small false e f = leb-false protocols protocol e

    free : protocol ≡ 0 → (p : Bool) → pec ≡ p → forbidden protocol pec ≡ false → pec ≡ false
    free z false e f = e
    free z true e f = false_not_true (sym f ∙ (forbidden_cases protocol pec).1 (inr (z, e)))

    go : (b : Bool) → eqb protocol 0 ≡ b → (p : Bool) → pec ≡ p → (protocol ≡ 0 → pec ≡ false) → and p (not (not b)) ≡ false
    go b e false f q = refl
    go false e true f q = refl
    go true e true f q = false_not_true (sym (q (eqb-true protocol 0 e)) ∙ f)

    back : protocol < protocols → (protocol ≡ 0 → pec ≡ false) → forbidden protocol pec ≡ false
    back h q = forbidden_is protocol pec h ∙ go (eqb protocol 0) refl pec refl q
