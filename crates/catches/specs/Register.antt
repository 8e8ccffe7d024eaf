-- The register of the packet error code while zeros come in.
use Rattle.std.specs.Prelude.{ℕ, zero, suc}
use Rattle.pec.specs.Pec.{bit_step}

-- what it holds after k zero bits, if it held c
unfoldable pub shifted : ℕ → ℕ → ℕ
shifted c zero = c
shifted c (suc k) = shifted (bit_step c) k
