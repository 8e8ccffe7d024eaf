-- Text written into a buffer, and numbers as text.
use Rattle.std.specs.Prelude.{◌≡◌, ℕ, zero, suc, ◌+◌, ◌/◌, ◌%◌, List, [], ◌∷◌, ◌++◌, ltb, length, set}
use Rattle.lists.specs.Choice.{pick}

-- the place after a character, in a buffer of n: the next one, or the end where there is no room
abbrev pub following : ℕ → ℕ → ℕ
following n at = pick (ltb at n) (at + 1) at

-- the place after characters
unfoldable pub after : ℕ → ℕ → List ℕ → ℕ
after n at [] = at
after n at (c ∷ cs) = after n (following n at) cs

-- the buffer with characters written from a place on, as far as there is room
unfoldable pub written : List ℕ → ℕ → List ℕ → List ℕ
written l at [] = l
written l at (c ∷ cs) = written (set l at c) (following (length l) at) cs

-- the character of a digit below 16: `0` to `9`, `a` to `f`
abbrev pub glyph : ℕ → ℕ
glyph d = pick (ltb d 10) (48 + d) (87 + d)

-- the digits of a number in decimal, of which there are at most k
unfoldable pub decimal : ℕ → ℕ → List ℕ
decimal zero n = []
decimal (suc k) n = pick (ltb n 10) (glyph n ∷ []) (decimal k (n / 10) ++ (glyph (n % 10) ∷ []))

-- a number has at most as many digits as it says, plus one
abbrev pub decimal_of : ℕ → List ℕ
decimal_of n = decimal (suc n) n

-- a byte as two hexadecimal digits, and bytes
abbrev pub pair_of : ℕ → List ℕ
pair_of b = glyph (b / 16) ∷ glyph (b % 16) ∷ []

unfoldable pub pairs_of : List ℕ → List ℕ
pairs_of [] = []
pairs_of (b ∷ bs) = pair_of b ++ pairs_of bs

-- what a writer does: the characters stand in the buffer from a place on, and the answer is the place after them
pub record Appended (l : List ℕ) (at : ℕ) (xs l' : List ℕ) (to : ℕ) : Type 0 where
  pub place : to ≡ after (length l) at xs
  pub text : l' ≡ written l at xs

-- what a writer has done: the buffer l₀ from place at on has the text xs before it is to write ys
pub record Came (l₀ : List ℕ) (at : ℕ) (all : List ℕ) (l : List ℕ) (to : ℕ) (rest : List ℕ) : Type 0 where
  pub size : length l ≡ length l₀
  pub place : after (length l₀) at all ≡ after (length l₀) to rest
  pub text : written l₀ at all ≡ written l to rest
