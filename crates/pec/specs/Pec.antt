-- The packet error code: CRC-8, x^8+x^2+x+1, start 0, highest bit first.
use Rattle.std.specs.Prelude.{List, [], ◌∷◌, ℕ, ◌-◌, ◌*◌, ltb}
use Rattle.std.specs.Int.Bits.{bit_xor}
use Rattle.lists.specs.Choice.{pick}

-- the register times x; where x^8 appears the polynomial is taken off: x^8 goes, and x^2+x+1, which is 7, is added
unfoldable pub bit_step : ℕ → ℕ
bit_step c = pick (ltb c 128) (2 * c) (bit_xor 7 (2 * (c - 128)))

-- a byte more: its eight bits are added to the register, which is then multiplied by x^8
unfoldable pub pec_step : ℕ → ℕ → ℕ
pec_step c b = bit_step (bit_step (bit_step (bit_step (bit_step (bit_step (bit_step (bit_step (bit_xor c b))))))))

-- the bytes that follow those which gave c
unfoldable pub pec_from : ℕ → List ℕ → ℕ
pec_from c [] = c
pec_from c (b ∷ bs) = pec_from (pec_step c b) bs

abbrev pub pec_of : List ℕ → ℕ
pec_of bs = pec_from 0 bs
