-- A refusal of the decoder without a line feed: its number, and where.
use Rattle.std.specs.Prelude.{ℕ, List, [], ◌++◌, nat_lt}
use Rattle.text.specs.Chars.{chars}
use Rattle.writing.specs.Written.{decimal_of}
use Rattle.lists.specs.Choice.{pick}
use Rattle.scan.specs.Numbers.{refusal_number, is_nack}
use Rattle.scan.specs.declared.answer.Refusal.{Refusal}

-- after a refusal's number: nothing where the trace was not read, which is 1 and 2; else which byte was not acknowledged, or the place
abbrev pub where_text : Refusal → ℕ → List ℕ
where_text w k = pick (nat_lt (refusal_number w) 3) [] (pick (is_nack w) (chars " byte " ++ decimal_of k) (chars " place " ++ decimal_of k))

-- a refusal's number, and where
abbrev pub refusal_text : Refusal → ℕ → List ℕ
refusal_text w k = decimal_of (refusal_number w) ++ where_text w k
