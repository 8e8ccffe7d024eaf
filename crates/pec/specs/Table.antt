-- The packet error code by a table of 256 entries: which table it is, and a byte more and bytes more by any table.
use Rattle.std.specs.Prelude.{◌≡◌, Bool, List, [], ◌∷◌, ℕ, ◌<◌, eqb, get_or}
use Rattle.std.specs.Int.Bits.{bit_xor}
use Rattle.pec.specs.Pec.{pec_step}

-- the entry of each byte is what the register holds after that byte alone: the remainder of the byte times x^8
abbrev pub Remainders : List ℕ → Type 0
Remainders t = (k : ℕ) → k < 256 → get_or t k 0 ≡ pec_step 0 k

-- the test of an entry at its place
unfoldable pub is_remainder : ℕ → ℕ → Bool
is_remainder k x = eqb x (pec_step 0 k)

-- a byte more: the entry at the code so far xor the byte
unfoldable pub step_by : List ℕ → ℕ → ℕ → ℕ
step_by t c b = get_or t (bit_xor c b) 0

-- the bytes that follow those which gave c
unfoldable pub from_by : List ℕ → ℕ → List ℕ → ℕ
from_by t c [] = c
from_by t c (b ∷ bs) = from_by t (step_by t c b) bs
