-- TABLE 17 of SMBus 3.3.1 (Appendix C): the rows of reserved and pre-assigned addresses, as the table has them.
use Rattle.std.specs.Prelude.{ℕ, ◌+◌, ◌*◌, ◌/◌, ◌%◌, ◌^◌, ◌≡◌, Bool, true, List, [], ◌∷◌, ◌⊎◌, eqb, length}
use Rattle.lists.specs.Choice.{and}

-- a bit of a row: 0, 1, or X, which is either
pub data Bit : Type 0 where
  O : Bit
  I : Bit
  X : Bit

-- the address bits 7 to 1, then the R/W# bit
abbrev pub table17 : List (List Bit)
table17 =
    -- General Call Address, START byte
    (O ∷ O ∷ O ∷ O ∷ O ∷ O ∷ O ∷ O ∷ [])
    ∷ (O ∷ O ∷ O ∷ O ∷ O ∷ O ∷ O ∷ I ∷ [])
    -- CBUS address, another bus format, reserved for future use, HS Mode Controller Code
    ∷ (O ∷ O ∷ O ∷ O ∷ O ∷ O ∷ I ∷ X ∷ [])
    ∷ (O ∷ O ∷ O ∷ O ∷ O ∷ I ∷ O ∷ X ∷ [])
    ∷ (O ∷ O ∷ O ∷ O ∷ O ∷ I ∷ I ∷ X ∷ [])
    ∷ (O ∷ O ∷ O ∷ O ∷ I ∷ X ∷ X ∷ X ∷ [])
    -- SMBus Host, Smart Battery Charger, Smart Battery Selector or System Manager, Smart Battery
    ∷ (O ∷ O ∷ O ∷ I ∷ O ∷ O ∷ O ∷ X ∷ [])
    ∷ (O ∷ O ∷ O ∷ I ∷ O ∷ O ∷ I ∷ X ∷ [])
    ∷ (O ∷ O ∷ O ∷ I ∷ O ∷ I ∷ O ∷ X ∷ [])
    ∷ (O ∷ O ∷ O ∷ I ∷ O ∷ I ∷ I ∷ X ∷ [])
    -- SMBus Alert Response Address, to be read, never written
    ∷ (O ∷ O ∷ O ∷ I ∷ I ∷ O ∷ O ∷ I ∷ [])
    ∷ (O ∷ O ∷ O ∷ I ∷ I ∷ O ∷ O ∷ O ∷ [])
    -- PMBus ZONE READ; formerly LCD Contrast Controller, and CCFL Backlight Driver; PMBus ZONE WRITE
    ∷ (O ∷ I ∷ O ∷ I ∷ O ∷ O ∷ O ∷ I ∷ [])
    ∷ (O ∷ I ∷ O ∷ I ∷ I ∷ O ∷ O ∷ X ∷ [])
    ∷ (O ∷ I ∷ O ∷ I ∷ I ∷ O ∷ I ∷ X ∷ [])
    ∷ (O ∷ I ∷ I ∷ O ∷ I ∷ I ∷ I ∷ O ∷ [])
    -- formerly PCMCIA Socket Controllers, and Graphics Controller
    ∷ (I ∷ O ∷ O ∷ O ∷ O ∷ X ∷ X ∷ X ∷ [])
    ∷ (I ∷ O ∷ O ∷ O ∷ I ∷ O ∷ O ∷ X ∷ [])
    -- Prototype Addresses, SMBus Device Default Address, 10-bit target addressing, reserved for future use
    ∷ (I ∷ O ∷ O ∷ I ∷ O ∷ X ∷ X ∷ X ∷ [])
    ∷ (I ∷ I ∷ O ∷ O ∷ O ∷ O ∷ I ∷ X ∷ [])
    ∷ (I ∷ I ∷ I ∷ I ∷ O ∷ X ∷ X ∷ X ∷ [])
    ∷ (I ∷ I ∷ I ∷ I ∷ I ∷ X ∷ X ∷ X ∷ [])
    ∷ []

-- a bit of a row lets a digit in
abbrev pub lets : Bit → ℕ → Bool
lets O d = eqb d 0
lets I d = eqb d 1
lets X d = true

-- a row covers a byte on the wire: bit by bit, the highest first
abbrev pub covers : List Bit → ℕ → Bool
covers [] w = true
covers (b ∷ bs) w = and (lets b (w / 2 ^ length bs % 2)) (covers bs w)

-- a row covers the address's byte, for a write or for a read
abbrev pub Covers : ℕ → List Bit → Type 0
Covers a row = (covers row (2 * a) ≡ true) ⊎ (covers row (2 * a + 1) ≡ true)
