-- The table of the protocols: the shape of each, which is what its row of the scope's table has, as fields.
use Rattle.std.specs.Prelude.{◌≡◌, Bool, true, false, List, [], ◌∷◌, ℕ, length, get_or, ltb, leb, eqb}
use Rattle.lists.specs.Choice.{or, and, not, same}
use Rattle.trace.specs.declared.shape.Part.{Part}
use Rattle.trace.specs.declared.shape.Part.TheVariants.{Nothing, Fixed, Counted}
use Rattle.trace.specs.declared.shape.Shape.{Shape}
use Rattle.trace.specs.Protocols.{most_counted}

-- a row: may carry a PEC, has a command byte, sends, receives; to any address, each count from 0 on, together at most 255
abbrev pub row : Bool → Bool → Part → Part → Shape
row k c s r = record { command = c; sent = s; received = r; checked = k; tohost = false; least = 0; most = most_counted }

-- Quick, Send Byte, Receive Byte, Write Byte, Write Word, Read Byte, Read Word, Process Call, Block Write, Block Read, Block Process Call
abbrev pub shapes : List Shape
shapes =
    row false false Nothing Nothing
    ∷ row true false (Fixed 1) Nothing
    ∷ row true false Nothing (Fixed 1)
    ∷ row true true (Fixed 1) Nothing
    ∷ row true true (Fixed 2) Nothing
    ∷ row true true Nothing (Fixed 1)
    ∷ row true true Nothing (Fixed 2)
    ∷ row true true (Fixed 2) (Fixed 2)
    ∷ row true true Counted Nothing
    ∷ row true true Nothing Counted
    ∷ row true true Counted Counted
    ∷ []

-- how many protocols there are: each has the number of its row
abbrev pub protocols : ℕ
protocols = length shapes

-- the shape of a protocol. A number that is in no row gets Quick's, and is forbidden
abbrev pub no_row : Shape
no_row = row false false Nothing Nothing

abbrev pub shape_of : ℕ → Shape
shape_of protocol = get_or shapes protocol no_row

-- 1: a protocol that the table lacks, or a PEC where none may be used
abbrev pub forbidden : ℕ → Bool → Bool
forbidden protocol pec = or (leb protocols protocol) (and pec (not (shape_of protocol).checked))

abbrev pub some : Part → Bool
some Nothing = false
some (Fixed k) = true
some Counted = true

abbrev pub is_counted : Part → Bool
is_counted Nothing = false
is_counted (Fixed k) = false
is_counted Counted = true

-- what a part of n bytes adds to the sum of the counts, and what it adds at the least
abbrev pub count_in : Part → ℕ → ℕ
count_in Nothing n = 0
count_in (Fixed k) n = 0
count_in Counted n = n

abbrev pub least_of : Part → ℕ → ℕ
least_of a k = count_in a k

-- there is a write phase: a command or data are sent; a read phase after it has a START and an address byte of its own
abbrev pub writes : Shape → Bool
writes sh = or sh.command (some sh.sent)

abbrev pub reads : Shape → Bool
reads sh = some sh.received

-- the rows by their numbers: which carry a PEC, have a command, lack a direction
abbrev pub Row : ℕ → Type 0
Row n = ((shape_of n).checked ≡ not (eqb n 0)) × ((shape_of n).command ≡ ltb 2 n) × (or (writes (shape_of n)) (reads (shape_of n)) ≡ not (eqb n 0))

-- the same as a test of a row with its number
abbrev pub is_row : ℕ → Shape → Bool
is_row n sh = and (same sh.checked (not (eqb n 0))) (and (same sh.command (ltb 2 n)) (same (or (writes sh) (reads sh)) (not (eqb n 0))))
