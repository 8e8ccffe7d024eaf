-- Symbols as pairs of bytes, the low byte first.
use Rattle.std.specs.Prelude.{◌≡◌, Bool, List, [], ◌∷◌, ℕ, zero, suc, ◌+◌, ◌*◌, ◌/◌, ◌%◌, ◌≤◌, leb, ltb, length, drop, get_or}
use Rattle.lists.specs.Choice.{pick}
use Rattle.lists.specs.Onto.{onto}

-- the bytes of symbols
unfoldable pub pairs_of : List ℕ → List ℕ
pairs_of [] = []
pairs_of (x ∷ xs) = x % 256 ∷ x / 256 ∷ pairs_of xs

-- the first n symbols that bytes are
unfoldable pub symbols_in : ℕ → List ℕ → List ℕ
symbols_in zero l = []
symbols_in (suc n) l = (get_or l 0 0 + 256 * get_or l 1 0) ∷ symbols_in n (drop 2 l)

-- put_pairs: whether the buffer has room for the pairs; with room they stand at its front, else it is as it was
pub record Put (symbols before : List ℕ) (r : Bool) (after : List ℕ) : Type 0 where
  pub room : r ≡ leb (length symbols) (length before / 2)
  pub output : after ≡ pick (leb (length symbols) (length before / 2)) (onto (pairs_of symbols) before) before

-- get_pairs: the smaller of the whole pairs there are and the buffer's length, and so many symbols at its front
pub record Got (bytes before : List ℕ) (r : ℕ) (after : List ℕ) : Type 0 where
  pub number : r ≡ pick (ltb (length bytes / 2) (length before)) (length bytes / 2) (length before)
  pub room : r ≤ length before
  pub output : after ≡ onto (symbols_in r bytes) before
