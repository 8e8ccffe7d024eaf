-- What can happen to a message on its way. A message is all its bytes, the PEC among them, which is the last. A bit is told by its byte and
-- its number in the byte, both from 0, the highest bit first: bit 0 of byte 0 is the very first bit on the wire. The place of bit j of byte i
-- among all bits is 8 * i + j.
use Rattle.std.specs.Prelude.{◌≡◌, Bool, List, [], ◌∷◌, ◌++◌, ◌⊎◌, ◌↔◌, ℕ, ◌+◌, ◌-◌, ◌*◌, ◌/◌, ◌%◌, ◌^◌, ◌≤◌, ◌<◌, eqb, length, get_or}
use Rattle.lists.specs.Choice.{not}
use Rattle.lists.specs.Each.{Bytes}
use Rattle.lists.specs.Passing.{passing}
use Rattle.pec.specs.Pec.{pec_of}

-- bit j of a byte is worth 2 to this power: bit 0 is worth 128, bit 7 is worth 1
abbrev pub power : ℕ → ℕ
power j = 7 - j

-- bit j of byte i: 0 or 1
abbrev pub bit_of : List ℕ → ℕ → ℕ → ℕ
bit_of xs i j = get_or xs i 0 / 2 ^ power j % 2

-- the bit is not the same in both
abbrev pub Flipped : List ℕ → List ℕ → ℕ → ℕ → Type 0
Flipped xs ys i j = bit_of xs i j ≡ bit_of ys i j → ⊥

-- the last byte is the PEC of those before it
abbrev pub RightPec : List ℕ → Type 0
RightPec xs = (bs : List ℕ) × (xs ≡ bs ++ pec_of bs ∷ [])

-- xs was sent with its right PEC, and ys came: as many bytes
pub record Came (xs ys : List ℕ) : Type 0 where
  pub sent : Bytes xs
  pub right : RightPec xs
  pub came : Bytes ys
  pub as_many : length ys ≡ length xs

-- at least one bit was flipped, and all that were lie among w consecutive bits, the first of which has the place `from`
pub record Within (w : ℕ) (xs ys : List ℕ) : Type 0 where
  pub from : ℕ
  pub among : (i j : ℕ) → j < 8 → Flipped xs ys i j → (from ≤ 8 * i + j) × (8 * i + j < from + w)
  pub byte : ℕ
  pub bit : ℕ
  pub in_byte : bit < 8
  pub one : Flipped xs ys byte bit

-- two bits were flipped and no other: bit j of byte i, and after it bit l of byte k
pub record TwoBits (xs ys : List ℕ) (i j k l : ℕ) : Type 0 where
  pub first_in_byte : j < 8
  pub second_in_byte : l < 8
  pub order : 8 * i + j < 8 * k + l
  pub flipped : (a b : ℕ) → b < 8 → Flipped xs ys a b ↔ (((a ≡ i) × (b ≡ j)) ⊎ ((a ≡ k) × (b ≡ l)))

-- the very first bit of 16 bytes, and the very last
abbrev pub FirstAndLast : ℕ → ℕ → ℕ → ℕ → Type 0
FirstAndLast i j k l = (i ≡ 0) × (j ≡ 0) × (k ≡ 15) × (l ≡ 7)

-- the bit at a place is not the same in both
abbrev pub is_flipped : List ℕ → List ℕ → ℕ → Bool
is_flipped xs ys n = not (eqb (bit_of xs (n / 8) (n % 8)) (bit_of ys (n / 8) (n % 8)))

-- how many bits were flipped: the number of their places
abbrev pub how_many : List ℕ → List ℕ → ℕ
how_many xs ys = length (passing (is_flipped xs ys) 0 (8 * length xs))
