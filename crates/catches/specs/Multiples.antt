-- Messages as polynomials (pec/PecDivision): the very last bit is the coefficient of x^0, the very first the highest.
use Rattle.std.specs.Prelude.{◌≡◌, List, ℕ}
use Rattle.std.specs.Int.Bits.{bit_xor}
use Rattle.pec.specs.PecDivision.{times_g, polynomial}

-- p is a multiple of x^8+x^2+x+1
abbrev pub Multiple : ℕ → Type 0
Multiple p = (q : ℕ) × (p ≡ times_g q)

-- the polynomial of the flipped bits: the sum of the two, in which a coefficient is 1 exactly where they differ
abbrev pub flips : List ℕ → List ℕ → ℕ
flips xs ys = bit_xor (polynomial xs) (polynomial ys)
