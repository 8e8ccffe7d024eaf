-- Identifiers: equality, order, and which of them have a fixed address.
use Rattle.std.specs.Prelude.{ℕ, ◌+◌, ◌*◌, ◌/◌, ◌^◌, ◌<◌, Bool, ltb, eqb}
use Rattle.lists.specs.Choice.{and, pick}
use Rattle.udid.specs.declared.Udid.{Udid}
use Rattle.udid.specs.declared.kind.AddressKind.{AddressKind}
use Rattle.udid.specs.declared.kind.AddressKind.TheVariants.{Fixed, Persistent, Volatile, Random}

-- both halves are numbers of 64 bits
pub record Fits (u : Udid) : Type 0 where
  pub high : u.high < 2 ^ 64
  pub low : u.low < 2 ^ 64

abbrev pub same_udid : Udid → Udid → Bool
same_udid u v = and (eqb u.high v.high) (eqb u.low v.low)

-- the identifier as one number of 128 bits
abbrev pub value : Udid → ℕ
value u = u.high * 2 ^ 64 + u.low

abbrev pub is_below : Udid → Udid → Bool
is_below u v = ltb (value u) (value v)

-- the top two bits: 00 fixed, 01 movable and persistent, 10 movable and volatile, 11 random
abbrev pub top_bits : Udid → ℕ
top_bits u = u.high / 2 ^ 62

-- the kind of the address that two top bits say; there are no others
abbrev pub kind_of_bits : ℕ → AddressKind
kind_of_bits n = pick (eqb n 0) Fixed (pick (eqb n 1) Persistent (pick (eqb n 2) Volatile Random))

abbrev pub address_kind : Udid → AddressKind
address_kind u = kind_of_bits (top_bits u)

-- all but 00 are treated as movable
abbrev pub is_fixed : Udid → Bool
is_fixed u = eqb (u.high / 2 ^ 62) 0
