-- CAUGHT: any odd number of flipped bits, wherever they are and whatever the length. x^8+x^2+x+1 has four terms, so a multiple of it has an
-- even number of ones.
use Rattle.std.specs.Prelude.{◌≡◌, List, ℕ, ◌+◌, ◌*◌, ◌/◌, ◌%◌}
use Rattle.std.proofs.Common.{sym, ap, ap₂, ◌∙◌, arith}
use Rattle.std.proofs.Math.Arith.{bin_ind}
use Rattle.std.specs.Int.Bits.{bit_xor, xor_zero_l}
use Rattle.std.proofs.lemmas.Nat.{xor_shr}
use Rattle.std.specs.Int.Count.{ones, ones_step}
use Rattle.pec.specs.PecDivision.{times_g}
use Rattle.pec.proofs.PecBitLaws.{xor_odd}
use Rattle.catches.specs.Changes.{RightPec, Came, how_many}
use Rattle.catches.proofs.HowManyLaws.{no_ones, ones_placed, how_many_is}
use Rattle.catches.proofs.MultiplesLaws.{escapes_exactly}

-- ---- the ones of a sum, and of a multiple

-- a remainder is as good as the number
first_even : (a t : ℕ) → (a % 2 + t) % 2 ≡ (a + t) % 2
first_even a t = omega arith

second_even : (n t u : ℕ) → t % 2 ≡ u % 2 → (n + t) % 2 ≡ (n + u) % 2
second_even n t u e = omega arith

turned : (a b c : ℕ) → a + (b + c) ≡ b + (a + c)
turned a b c = omega arith

add_up : (a b x y t : ℕ) → t % 2 ≡ (x + y) % 2 → ((a + b) % 2 + t) % 2 ≡ ((a % 2 + x) + (b % 2 + y)) % 2
add_up a b x y t e =
    first_even (a + b) t ∙ second_even (a + b) t (x + y) e ∙ ap (λ (n : ℕ). n % 2) (order a b x y)
    ∙ sym (ap (λ (n : ℕ). n % 2) (order' (a % 2) x (b % 2) y) ∙ first_even a (b % 2 + (x + y)) ∙ ap (λ (n : ℕ). n % 2) (turned a (b % 2) (x + y)) ∙ first_even b (a + (x + y)))
  where
    order : (a b x y : ℕ) → (a + b) + (x + y) ≡ b + (a + (x + y))
    order a b x y = omega arith

    order' : (p x q y : ℕ) → (p + x) + (q + y) ≡ p + (q + (x + y))
    order' p x q y = omega arith

-- the ones of a sum are those of both, but for pairs that cancel
ones_of_sum : (a b : ℕ) → ones (bit_xor a b) % 2 ≡ (ones a + ones b) % 2
ones_of_sum = bin_ind (λ (a : ℕ). (b : ℕ) → ones (bit_xor a b) % 2 ≡ (ones a + ones b) % 2) first step
  where
    first : (b : ℕ) → ones (bit_xor 0 b) % 2 ≡ (ones 0 + ones b) % 2
    first b = rw (xor_zero_l b, no_ones) (omega arith)

    step : (a : ℕ) → ((b : ℕ) → ones (bit_xor (a / 2) b) % 2 ≡ (ones (a / 2) + ones b) % 2) → (b : ℕ) → ones (bit_xor a b) % 2 ≡ (ones a + ones b) % 2
    step a ih b =
        ap (λ (n : ℕ). n % 2) (ones_step (bit_xor a b) ∙ ap₂ (λ (x y : ℕ). x + y) (xor_odd a b) (ap ones (xor_shr a b 1)))
        ∙ add_up a b (ones (a / 2)) (ones (b / 2)) (ones (bit_xor (a / 2) (b / 2))) (ih (b / 2))
        ∙ sym (ap₂ (λ (x y : ℕ). (x + y) % 2) (ones_step a) (ones_step b))

-- of a multiple: four times those of the other factor, but for pairs that cancel
multiple_even : (q : ℕ) → ones (times_g q) % 2 ≡ 0
unfolding times_g
multiple_even q =
    let a = ones_of_sum (256 * q) (bit_xor (4 * q) (bit_xor (2 * q) q)) in
    let b = ones_of_sum (4 * q) (bit_xor (2 * q) q) in
    let c = ones_of_sum (2 * q) q in
    let e8 : ones (256 * q) ≡ ones q = ones_placed 8 q in
    let e2 : ones (4 * q) ≡ ones q = ones_placed 2 q in
    let e1 : ones (2 * q) ≡ ones q = ones_placed 1 q in
    omega (arith, a, b, c, e8, e2, e1)

-- CAUGHT
pub odd_caught : (xs ys : List ℕ) → Came xs ys → how_many xs ys % 2 ≡ 1 → RightPec ys → ⊥
odd_caught xs ys c o r =
    let (q, e) = (escapes_exactly xs ys c).0 r in
    omega (arith, o, how_many_is xs ys c, ap ones e, multiple_even q)
