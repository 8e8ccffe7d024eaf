-- The line of a step with words: the words of its number, then what its trace was taken for.
use Rattle.std.specs.Prelude.{ℕ, List, [], ◌++◌, eqb}
use Rattle.lists.specs.Choice.{pick}
use Rattle.text.specs.Chars.{chars}
use Rattle.commands.specs.declared.command.Handed.{Handed}
use Rattle.commands.specs.declared.command.Handed.TheVariants.{Send, Wait}
use Rattle.meanings.specs.Worded.{rest, number, headed}
use Rattle.step_words.specs.Taken.{taken_for}

-- a colon where the line has no words yet, which is at 0, and a semicolon where it has
abbrev pub mark_text : ℕ → List ℕ
mark_text n = pick (eqb n 0) (chars ": ") (chars "; ")

-- what is added: nothing where no command was outstanding
abbrev pub added_text : ℕ → Handed → List ℕ → List ℕ
added_text n (Send k) tr = mark_text n ++ taken_for n k tr
added_text n (Wait e) tr = []

unfoldable pub stepped_text : List ℕ → Handed → List ℕ → List ℕ
stepped_text answer last tr = headed answer ++ added_text (number answer) last tr ++ rest answer
