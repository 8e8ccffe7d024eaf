-- The verbs: which word is which.
use Rattle.std.specs.Prelude.{List, ℕ, Option, Some, None}
use Rattle.std.specs.Option.{option_or}
use Rattle.lists.specs.Choice.{pick}
use Rattle.text.specs.Chars.{chars}
use Rattle.text.specs.Words.{same_text}
use Rattle.words.specs.declared.verb.Verb.{Verb}
use Rattle.words.specs.declared.verb.Verb.TheVariants.{Pec, Encode, Decode, Occupied, Target, Clear, Run, Start, Step, Lookup, Gone, Grid, Module, M, Choose, Issue, Decline}

-- the verbs of a choice
unfoldable pub choice_verb : List ℕ → Option Verb
choice_verb s =
    pick (same_text s (chars "choose")) (Some Choose)
    (pick (same_text s (chars "issue")) (Some Issue)
    (pick (same_text s (chars "decline")) (Some Decline)
    None))

-- the verbs of the module's own end
unfoldable pub module_verb : List ℕ → Option Verb
module_verb s = pick (same_text s (chars "module")) (Some Module) (pick (same_text s (chars "m")) (Some M) None)

-- the verbs of a pass
unfoldable pub pass_verb : List ℕ → Option Verb
pass_verb s =
    pick (same_text s (chars "start")) (Some Start)
    (pick (same_text s (chars "step")) (Some Step)
    (pick (same_text s (chars "lookup")) (Some Lookup)
    (pick (same_text s (chars "gone")) (Some Gone)
    (pick (same_text s (chars "grid")) (Some Grid)
    None))))

-- the verbs of the shelf
unfoldable pub shelf_verb : List ℕ → Option Verb
shelf_verb s =
    pick (same_text s (chars "occupied")) (Some Occupied)
    (pick (same_text s (chars "target")) (Some Target)
    (pick (same_text s (chars "clear")) (Some Clear)
    (pick (same_text s (chars "run")) (Some Run)
    None)))

-- the verbs of the codec
unfoldable pub codec_verb : List ℕ → Option Verb
codec_verb s =
    pick (same_text s (chars "pec")) (Some Pec)
    (pick (same_text s (chars "encode")) (Some Encode)
    (pick (same_text s (chars "decode")) (Some Decode)
    None))

-- the verb that a word is
unfoldable pub verb_of : List ℕ → Option Verb
verb_of s = option_or (option_or (option_or (option_or (codec_verb s) (shelf_verb s)) (pass_verb s)) (module_verb s)) (choice_verb s)
