-- Numbers, bytes and identifiers as the bits that stand on the wire, highest first.
use Rattle.std.specs.Prelude.{ℕ, zero, suc, ◌+◌, ◌*◌, ◌^◌, Bool, List, [], ◌∷◌, ◌++◌, length, take, drop}
use Rattle.pool.specs.Counts.{one}
use Rattle.pool.specs.Digits.{digit}
use Rattle.udid.specs.declared.Udid.{Udid}

-- the lowest k bits of n
unfoldable pub bits : ℕ → ℕ → List Bool
bits zero n = []
bits (suc k) n = digit n k ∷ bits k n

-- the 128 bits of an identifier: those of its 16 bytes (BitLaws, udid_bits_lem)
abbrev pub udid_bits : Udid → List Bool
udid_bits u = bits 64 u.high ++ bits 64 u.low

-- the same first bits, an identifier, and what follows it
abbrev pub sent : List Bool → Udid → List Bool → List Bool
sent p u x = p ++ (udid_bits u ++ x)

-- the bits of bytes, byte after byte
abbrev pub byte_bits : List ℕ → List Bool
byte_bits [] = []
byte_bits (b ∷ bs) = bits 8 b ++ byte_bits bs

-- the number that bits make
unfoldable pub number_of : List Bool → ℕ
number_of [] = 0
number_of (b ∷ bs) = one b * 2 ^ length bs + number_of bs

-- n bytes read off bits
abbrev pub bytes_read : ℕ → List Bool → List ℕ
bytes_read zero w = []
bytes_read (suc n) w = number_of (take 8 w) ∷ bytes_read n (drop 8 w)
