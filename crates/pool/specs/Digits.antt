-- The binary digits of a number, as a set of places: k is in n where digit k of n is one.
use Rattle.std.specs.Prelude.{ℕ, ◌/◌, ◌%◌, ◌^◌, ◌<◌, ◌≤◌, ◌≡◌, Bool, true, false, eqb}
use Rattle.std.specs.Int.Bits.{bit_or, bit_xor}
use Rattle.lists.specs.Choice.{not}

-- digit k of n is one
unfoldable pub digit : ℕ → ℕ → Bool
digit n k = eqb (n / 2 ^ k % 2) 1

-- n with digit k one
unfoldable pub plus : ℕ → ℕ → ℕ
plus n k = bit_or n (2 ^ k)

-- n with digit k turned over
unfoldable pub flip : ℕ → ℕ → ℕ
flip n k = bit_xor n (2 ^ k)

-- two digits differ
abbrev pub differs : Bool → Bool → Bool
differs true b = not b
differs false b = b

-- r is the first place from k on at which n has a zero, or it is 64, and all from k to 63 are one
pub record FirstZero (n k r : ℕ) : Type 0 where
  pub from : k ≤ r
  pub most : r ≤ 64
  pub ones : (j : ℕ) → k ≤ j → j < r → digit n j ≡ true
  pub zero : r < 64 → digit n r ≡ false
