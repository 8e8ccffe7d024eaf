-- What the code tests of a first address byte is what the definitions have. What is tested stands apart, so that nothing else is rewritten.
use Rattle.std.specs.Prelude.{◌≡◌, refl, Bool, true, false, ℕ, ◌%◌, ◌/◌, ◌<◌, ltb, eqb}
use Rattle.std.proofs.Common.{sym, ap, ◌∙◌, arith, ltb-true, eqb-true, eq-eqb, ne_eqb}
use Rattle.std.proofs.lemmas.Bool.{eqb-false}
use Rattle.lists.specs.Choice.{and, not}
use Rattle.trace.specs.declared.shape.Shape.{Shape}
use Rattle.trace.specs.Allowed.{address_fits}
use Rattle.step.specs.Fits.{way_fits, first_fits}

-- the low byte of a byte
pub low_of_byte : (x : ℕ) → x < 256 → x % 256 ≡ x
low_of_byte x h = omega arith

-- a lowest bit that is not 1 is 0
pub not_odd_is_even : (x : ℕ) → not (eqb (x % 2) 1) ≡ eqb (x % 2) 0
not_odd_is_even x = go (eqb (x % 2) 0) refl
  where
    go : (b : Bool) → eqb (x % 2) 0 ≡ b → not (eqb (x % 2) 1) ≡ b
    go true e = let z = eqb-true (x % 2) 0 e in rw (ne_eqb (x % 2) 1 (λ q. omega arith))
    go false e = let z = eqb-false (x % 2) 0 e in rw (eq-eqb (x % 2) 1 (omega arith))

-- the first address byte
pub first_is : (sh : Shape) (x a : ℕ) (b c : Bool) → ltb x 256 ≡ true → a ≡ x % 256 / 2 → address_fits sh a ≡ b → way_fits sh (x % 256) ≡ c → and b c ≡ first_fits sh x
first_is sh x a b c h e f g =
    let l : x % 256 ≡ x = low_of_byte x (ltb-true x 256 h) in
    let i : address_fits sh (x / 2) ≡ b = ap (λ (n : ℕ). address_fits sh n) (sym (e ∙ ap (λ (n : ℕ). n / 2) l)) ∙ f in
    let j : way_fits sh x ≡ c = ap (way_fits sh) (sym l) ∙ g in
    sym (ap (λ (k : Bool). and k (and (address_fits sh (x / 2)) (way_fits sh x))) h ∙ ap (λ (k : Bool). and k (way_fits sh x)) i ∙ ap (and b) j)
