-- Wrong symbols in literals: traces without PEC, each with the number and the place that it gets.
use Rattle.std.specs.Prelude.{◌≡◌, refl, false, List, [], ◌∷◌, ℕ}
use Rattle.trace.specs.Shapes.{shape_of}
use Rattle.scan.specs.Numbers.{decode_number}
use Rattle.scan.specs.Run.{run, finish, decoded_by}

abbrev pub number_of : ℕ → List ℕ → ℕ × ℕ
number_of protocol tr = decode_number (decoded_by protocol (shape_of protocol) false tr)

-- after a byte that was received: ACK for NACK, NACK for ACK, STOP for either
pub own_bit_cases : (number_of 5 (256 ∷ 64 ∷ 258 ∷ 16 ∷ 258 ∷ 256 ∷ 65 ∷ 258 ∷ 7 ∷ 258 ∷ []) ≡ (17, 9))
    × (number_of 6 (256 ∷ 64 ∷ 258 ∷ 16 ∷ 258 ∷ 256 ∷ 65 ∷ 258 ∷ 7 ∷ 259 ∷ []) ≡ (17, 9))
    × (number_of 5 (256 ∷ 64 ∷ 258 ∷ 16 ∷ 258 ∷ 256 ∷ 65 ∷ 258 ∷ 7 ∷ 257 ∷ []) ≡ (5, 9))
unfolding decoded_by run
own_bit_cases = (refl, refl, refl)

-- after a byte that was sent, where the target's ACK is due: START, a byte
pub target_bit_cases : (number_of 5 (256 ∷ 64 ∷ 256 ∷ []) ≡ (5, 2)) × (number_of 5 (256 ∷ 64 ∷ 7 ∷ []) ≡ (5, 2))
unfolding decoded_by run
target_bit_cases = (refl, refl)

-- after a START: the other direction of three protocols, another address; STOP, ACK and no symbol where an address byte is due
pub address_cases : (number_of 5 (256 ∷ 65 ∷ []) ≡ (18, 1)) × (number_of 1 (256 ∷ 65 ∷ []) ≡ (18, 1)) × (number_of 2 (256 ∷ 64 ∷ []) ≡ (18, 1))
    × (number_of 5 (256 ∷ 64 ∷ 258 ∷ 16 ∷ 258 ∷ 256 ∷ 67 ∷ []) ≡ (18, 6)) × (number_of 5 (256 ∷ 64 ∷ 258 ∷ 16 ∷ 258 ∷ 256 ∷ 64 ∷ []) ≡ (18, 6))
    × (number_of 5 (256 ∷ 257 ∷ []) ≡ (5, 1)) × (number_of 5 (256 ∷ 258 ∷ []) ≡ (5, 1)) × (number_of 5 (256 ∷ 260 ∷ []) ≡ (3, 1))
unfolding decoded_by run
address_cases = (refl, refl, refl, refl, refl, refl, refl, refl)

-- a byte where START is due, and where STOP is
pub no_byte_cases : (number_of 5 (256 ∷ 64 ∷ 258 ∷ 16 ∷ 258 ∷ 64 ∷ []) ≡ (5, 5)) × (number_of 0 (256 ∷ 64 ∷ 258 ∷ 7 ∷ []) ≡ (5, 3))
unfolding decoded_by run
no_byte_cases = (refl, refl)

-- a count received after one byte that was sent: 255, STOP, and 254, after which the trace goes on
pub count_cases : (number_of 10 (256 ∷ 64 ∷ 258 ∷ 16 ∷ 258 ∷ 1 ∷ 258 ∷ 9 ∷ 258 ∷ 256 ∷ 65 ∷ 258 ∷ 255 ∷ []) ≡ (19, 12))
    × (number_of 10 (256 ∷ 64 ∷ 258 ∷ 16 ∷ 258 ∷ 1 ∷ 258 ∷ 9 ∷ 258 ∷ 256 ∷ 65 ∷ 258 ∷ 257 ∷ []) ≡ (5, 12))
    × (number_of 10 (256 ∷ 64 ∷ 258 ∷ 16 ∷ 258 ∷ 1 ∷ 258 ∷ 9 ∷ 258 ∷ 256 ∷ 65 ∷ 258 ∷ 254 ∷ []) ≡ (4, 13))
unfolding decoded_by run finish
count_cases = (refl, refl, refl)
