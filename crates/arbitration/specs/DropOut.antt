-- Two senders: how many leading bits they share, and which of them has the zero at the first bit in which they differ.
use Rattle.std.specs.Prelude.{ℕ, suc, ◌≡◌, Bool, true, false, List, [], ◌∷◌, leb, length, drop}
use Rattle.lists.specs.Choice.{pick}

-- how many leading bits they share: the number of the bit at which one drops out
abbrev pub shared : List Bool → List Bool → ℕ
shared [] ys = 0
shared (x ∷ xs) [] = 0
shared (false ∷ xs) (true ∷ ys) = 0
shared (true ∷ xs) (false ∷ ys) = 0
shared (false ∷ xs) (false ∷ ys) = suc (shared xs ys)
shared (true ∷ xs) (true ∷ ys) = suc (shared xs ys)

-- the first does not drop out against the second: it has the zero at the first bit in which they differ, or none differs
abbrev pub no_later : List Bool → List Bool → Bool
no_later [] ys = true
no_later (x ∷ xs) [] = false
no_later (false ∷ xs) (true ∷ ys) = true
no_later (true ∷ xs) (false ∷ ys) = false
no_later (false ∷ xs) (false ∷ ys) = no_later xs ys
no_later (true ∷ xs) (true ∷ ys) = no_later xs ys

-- those of the senders that share n bits with m, each with the bits after them
abbrev pub sharing : ℕ → List Bool → List (List Bool) → List (List Bool)
sharing n m [] = []
sharing n m (t ∷ ts) = pick (leb n (shared m t)) (drop n t ∷ sharing n m ts) (sharing n m ts)

-- m does not drop out against t, which is as long
abbrev pub Stays : List Bool → List Bool → Type 0
Stays m t = (no_later m t ≡ true) × (length t ≡ length m)

-- t is as long as m, and sends something else
abbrev pub Other : List Bool → List Bool → Type 0
Other m t = (length t ≡ length m) × (t ≡ m → ⊥)
