-- The bytes of a number, highest first, and the number that bytes make; the 16 bytes of an identifier.
use Rattle.std.specs.Prelude.{ℕ, zero, suc, ◌+◌, ◌*◌, ◌/◌, ◌%◌, ◌^◌, List, [], ◌∷◌, ◌++◌, Bool, false, leb, ltb, eqb, length, get_or, take, drop}
use Rattle.lists.specs.Choice.{pick, or, and}
use Rattle.udid.specs.declared.Udid.{Udid}

-- the number that bytes make, after those that made n
unfoldable pub number_from : ℕ → List ℕ → ℕ
number_from n [] = n
number_from n (b ∷ bs) = number_from (256 * n + b) bs

abbrev pub number : List ℕ → ℕ
number bs = number_from 0 bs

-- the lowest k bytes of a number
unfoldable pub bytes_of : ℕ → ℕ → List ℕ
bytes_of zero n = []
bytes_of (suc k) n = n / 256 ^ k % 256 ∷ bytes_of k n

-- the n bytes of a list from place i on, zero where it has none
unfoldable pub bytes_from : List ℕ → ℕ → ℕ → List ℕ
bytes_from s i zero = []
bytes_from s i (suc n) = get_or s i 0 ∷ bytes_from s (suc i) n

-- the 16 bytes of an identifier on the wire
unfoldable pub udid_bytes : Udid → List ℕ
udid_bytes u = bytes_of 8 u.high ++ bytes_of 8 u.low

-- the identifier whose bytes stand from place i on
unfoldable pub udid_at : List ℕ → ℕ → Udid
udid_at s i = record { high = number (bytes_from s i 8); low = number (bytes_from s (i + 8) 8) }

-- bytes written into a list from place i on, where it has room for them
unfoldable pub put_at : List ℕ → ℕ → List ℕ → List ℕ
put_at l i bs = pick (leb (i + length bs) (length l)) (take i l ++ (bs ++ drop (i + length bs) l)) l

-- of two lists of the same length: the first byte that differs is the smaller one in the first list
unfoldable pub less : List ℕ → List ℕ → Bool
less [] ys = false
less (x ∷ xs) [] = false
less (x ∷ xs) (y ∷ ys) = or (ltb x y) (and (eqb x y) (less xs ys))
