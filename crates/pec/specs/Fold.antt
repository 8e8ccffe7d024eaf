-- A byte by itself, without a table. What x^8 leaves is x^2+x+1: so a number times x^8 is folded back into the number times x^2+x+1, where
-- bits are added without carries.
use Rattle.std.specs.Prelude.{ℕ, ◌*◌}
use Rattle.std.specs.Int.Bits.{bit_xor}

-- n times x^2+x+1
unfoldable pub folded : ℕ → ℕ
folded n = bit_xor (4 * n) (bit_xor (2 * n) n)
