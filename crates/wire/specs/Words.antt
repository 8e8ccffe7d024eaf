-- A word and its two bytes on the wire: the low byte first.
use Rattle.std.specs.Prelude.{List, [], ◌∷◌, ℕ, ◌+◌, ◌*◌, ◌/◌, ◌%◌}

abbrev pub low_byte : ℕ → ℕ
low_byte w = w % 256

abbrev pub high_byte : ℕ → ℕ
high_byte w = w / 256

abbrev pub word_of : ℕ → ℕ → ℕ
word_of first second = first + 256 * second

-- the bytes in the order in which they go
abbrev pub word_bytes : ℕ → List ℕ
word_bytes w = low_byte w ∷ high_byte w ∷ []
