-- The words of the scope's numbers.
use Rattle.std.specs.Prelude.{ℕ, Bool, List, [], ◌∷◌, ◌++◌, ltb, length, get_or}
use Rattle.lists.specs.Choice.{pick, and}
use Rattle.text.specs.Chars.{chars}

-- in the order of the numbers, from 0 on, which has none
unfoldable pub meanings : List (List ℕ)
meanings =
    []
    ∷ chars "a value that is not allowed"
    ∷ chars "a buffer that is too short"
    ∷ chars "a number that is no symbol"
    ∷ chars "the trace ends early"
    ∷ chars "a symbol out of its place"
    ∷ chars "no ACK from the target"
    ∷ chars "PEC differs"
    ∷ chars "symbols after STOP"
    ∷ chars "a target list of a wrong length"
    ∷ chars "a malformed record"
    ∷ chars "a repeated UDID"
    ∷ chars "a fixed target where none may stand"
    ∷ chars "no free address"
    ∷ chars "pass abandoned"
    ∷ chars "nobody is bound there"
    ∷ chars "claimed by two"
    ∷ chars "ACK for NACK, or NACK for ACK, from the controller"
    ∷ chars "a wrong address or direction"
    ∷ chars "a count that is not allowed"
    ∷ chars "left by a module that is gone"
    ∷ chars "nothing is outstanding"
    ∷ []

-- the words of a number: none for 0, and none for a number above 21
unfoldable pub meaning : ℕ → List ℕ
meaning n = get_or meanings n []

-- the numbers that have words
unfoldable pub has_words : ℕ → Bool
has_words n = and (ltb 0 n) (ltb n (length meanings))

-- the words after a colon, or nothing where there are none
unfoldable pub noted : ℕ → List ℕ
noted n = pick (has_words n) (chars ": " ++ meaning n) []
