-- Polynomials over the field of two elements, written as numbers: bit k is the coefficient of x^k. Adding two is bit_xor, which is
-- subtracting them too, and times x is doubling. The divisor of the packet error code is x^8+x^2+x+1.
use Rattle.std.specs.Prelude.{◌≡◌, List, [], ◌∷◌, ℕ, ◌+◌, ◌*◌}
use Rattle.std.specs.Int.Bits.{bit_xor}

-- q times x^8+x^2+x+1
unfoldable pub times_g : ℕ → ℕ
times_g q = bit_xor (256 * q) (bit_xor (4 * q) (bit_xor (2 * q) q))

-- the bytes as one polynomial, the first byte's highest bit the highest coefficient; n is what went before
unfoldable pub polynomial_from : ℕ → List ℕ → ℕ
polynomial_from n [] = n
polynomial_from n (b ∷ bs) = polynomial_from (256 * n + b) bs

abbrev pub polynomial : List ℕ → ℕ
polynomial bs = polynomial_from 0 bs

-- p is a multiple of x^8+x^2+x+1, plus r
abbrev pub Leaves : ℕ → ℕ → Type 0
Leaves p r = (q : ℕ) × (p ≡ bit_xor (times_g q) r)
