-- Words and their bytes: there and back, and which of the two bytes goes first, said in numbers.
use Rattle.std.specs.Prelude.{◌≡◌, refl, [], ◌∷◌, ℕ, ◌+◌, ◌*◌, ◌<◌}
use Rattle.std.proofs.Common.{arith}
use Rattle.wire.specs.Words.{low_byte, high_byte, word_of, word_bytes}

pub word_back : (w : ℕ) → word_of (low_byte w) (high_byte w) ≡ w
word_back w = omega arith

pub low_back : (first second : ℕ) → first < 256 → low_byte (word_of first second) ≡ first
low_back first second h = omega arith

pub high_back : (first second : ℕ) → first < 256 → high_byte (word_of first second) ≡ second
high_back first second h = omega arith

-- the first byte counts once, the second 256 times
pub word_is : (l h : ℕ) → word_of l h ≡ l + 256 * h
word_is l h = refl

-- and they are the low byte and the high one
pub low_is : (l h : ℕ) → l < 256 → low_byte (l + 256 * h) ≡ l
low_is l h k = omega arith

pub high_is : (l h : ℕ) → l < 256 → high_byte (l + 256 * h) ≡ h
high_is l h k = omega arith

-- 1234h goes as 34h, then 12h
pub word_1234 : word_bytes 0x1234 ≡ 0x34 ∷ 0x12 ∷ []
word_1234 = refl

pub word_back_1234 : word_of 0x34 0x12 ≡ 0x1234
word_back_1234 = refl
