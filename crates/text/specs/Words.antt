-- Words: what separates them, where the next one stands, and when two texts are the same.
use Rattle.std.specs.Prelude.{ℕ, suc, ◌+◌, ◌-◌, Bool, List, [], ◌∷◌, eqb, leb, length, take, drop}
use Rattle.std.specs.Str.{bytes_eq}
use Rattle.lists.specs.Choice.{pick, or, and, not}
use Rattle.text.specs.declared.word.LineWord.{LineWord}

-- a space, a tab, a carriage return
abbrev pub blank : ℕ → Bool
blank c = or (eqb c 32) (or (eqb c 9) (eqb c 13))

abbrev pub outside : ℕ → Bool
outside c = not (blank c)

-- a line feed, and `#`
abbrev pub feed : ℕ → Bool
feed c = eqb c 10

abbrev pub hash : ℕ → Bool
hash c = eqb c 35

-- how many characters stand before the first of a kind
unfoldable pub before : (ℕ → Bool) → List ℕ → ℕ
before kind [] = 0
before kind (c ∷ cs) = pick (kind c) 0 (suc (before kind cs))

-- the first word from a place on: past the blanks, up to the next blank
unfoldable pub start_from : List ℕ → ℕ → ℕ
start_from s at = at + before outside (drop at s)

unfoldable pub word_from : List ℕ → ℕ → LineWord
word_from s at = record { from = start_from s at; to = start_from s at + before blank (drop (start_from s at) s) }

-- what stands between two places of a list, such as the characters of a word; nothing where that does not lie in it
unfoldable pub part_of : {A : Type 0} → List A → ℕ → ℕ → List A
part_of s from to = pick (and (leb from to) (leb to (length s))) (take (to - from) (drop from s)) []

-- the same characters
abbrev pub same_text : List ℕ → List ℕ → Bool
same_text a b = bytes_eq a b
