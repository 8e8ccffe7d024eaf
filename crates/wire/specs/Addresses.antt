-- Addresses: the named ones, those on which no target may stand, those that are listed, and those that can be picked. AddressTableLaws holds
-- the list against Table 17.
use Rattle.std.specs.Prelude.{Bool, List, ℕ, leb, eqb}
use Rattle.lists.specs.Choice.{or, and, not}
use Rattle.lists.specs.Passing.{passing}

abbrev pub default_address : ℕ
default_address = 0x61

abbrev pub host_address : ℕ
host_address = 0x08

abbrev pub alert_address : ℕ
alert_address = 0x0C

-- one of the numbers from low to high
abbrev pub is_from_to : ℕ → ℕ → ℕ → Bool
is_from_to a low high = and (leb low a) (leb a high)

-- reserved, where no target may stand: 00h to 08h, 0Ch, 28h, 37h, 61h, 78h to 7Fh
unfoldable pub is_reserved : ℕ → Bool
is_reserved a = or (leb a 0x08) (or (eqb a 0x0C) (or (eqb a 0x28) (or (eqb a 0x37) (or (eqb a 0x61) (and (leb 0x78 a) (leb a 0x7F))))))

-- pre-assigned, where a fixed target may stand: 09h to 0Bh, 2Ch, 2Dh, 40h to 44h, 48h to 4Bh
unfoldable pub is_preassigned : ℕ → Bool
is_preassigned a = or (is_from_to a 0x09 0x0B) (or (is_from_to a 0x2C 0x2D) (or (is_from_to a 0x40 0x44) (is_from_to a 0x48 0x4B)))

-- listed: never picked, and never kept by a movable target
unfoldable pub is_listed : ℕ → Bool
is_listed a = or (is_reserved a) (is_preassigned a)

-- the lists of these, and of the others
abbrev pub reserved : List ℕ
reserved = passing is_reserved 0 128

abbrev pub preassigned : List ℕ
preassigned = passing is_preassigned 0 128

abbrev pub listed : List ℕ
listed = passing is_listed 0 128

abbrev pub assignable : List ℕ
assignable = passing (λ (a : ℕ). not (is_listed a)) 0 128
