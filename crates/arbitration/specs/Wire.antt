-- The wire, bit by bit: whoever still sends gives one bit, a zero beats a one, and whoever gives a one and sees a zero leaves.
use Rattle.std.specs.Prelude.{ℕ, zero, suc, Bool, true, List, [], ◌∷◌}
use Rattle.lists.specs.Choice.{pick, and, not}

-- the bit that a sender gives next, from the bits that it has left; one, which holds nothing down, where it has none
abbrev pub next : List Bool → Bool
next [] = true
next (b ∷ bs) = b

-- the bits after that
abbrev pub later : List Bool → List Bool
later [] = []
later (b ∷ bs) = bs

-- the wire is one where all give a one
abbrev pub level : List (List Bool) → Bool
level [] = true
level (t ∷ ts) = and (next t) (level ts)

-- those that go on: not those that gave a one and see a zero
abbrev pub staying : Bool → List (List Bool) → List (List Bool)
staying seen [] = []
staying seen (t ∷ ts) = pick (and (next t) (not seen)) (staying seen ts) (later t ∷ staying seen ts)

-- n bits as they stand on the wire
abbrev pub heard : ℕ → List (List Bool) → List Bool
heard zero ts = []
heard (suc n) ts = level ts ∷ heard n (staying (level ts) ts)

-- who still sends after n bits, each with the bits that it has left
abbrev pub sending : ℕ → List (List Bool) → List (List Bool)
sending zero ts = ts
sending (suc n) ts = sending n (staying (level ts) ts)
