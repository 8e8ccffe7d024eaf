-- The bytes of a trace: its numbers below 256, in their order. START, STOP, ACK and NACK are none.
use Rattle.std.specs.Prelude.{List, [], ◌∷◌, ℕ, ltb}
use Rattle.lists.specs.Choice.{pick}

abbrev pub bytes_in : List ℕ → List ℕ
bytes_in [] = []
bytes_in (x ∷ xs) = pick (ltb x 256) (x ∷ bytes_in xs) (bytes_in xs)
