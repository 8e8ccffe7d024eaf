-- An answer with words: the words of its number stand at the end of its first line.
use Rattle.std.specs.Prelude.{ℕ, List, ◌++◌, take, drop, Result}
use Rattle.std.specs.Result.{result_unwrap_or}
use Rattle.text.specs.Words.{feed, before, word_from, part_of}
use Rattle.digits.specs.Numbers.{number_of}
use Rattle.digits.specs.declared.number.NumberError.{NumberError}
use Rattle.meanings.specs.Meanings.{noted}

-- what stands before the first line feed, and the rest, with that line feed
unfoldable pub first_line : List ℕ → List ℕ
first_line answer = take (before feed answer) answer

unfoldable pub rest : List ℕ → List ℕ
rest answer = drop (before feed answer) answer

-- a number, or 0 for a word that says none
abbrev pub or_zero : Result ℕ NumberError → ℕ
or_zero r = result_unwrap_or r 0

-- the number that the first word of a line says
unfoldable pub number_in : List ℕ → ℕ
number_in line = or_zero (number_of (part_of line (word_from line 0).from (word_from line 0).to))

unfoldable pub number : List ℕ → ℕ
number answer = number_in (first_line answer)

-- the first line with its words, without its line feed
unfoldable pub headed : List ℕ → List ℕ
headed answer = first_line answer ++ noted (number answer)

unfoldable pub worded : List ℕ → List ℕ
worded answer = headed answer ++ rest answer
