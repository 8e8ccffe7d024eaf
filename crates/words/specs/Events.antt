-- What happens to a module at its own end of the bus: which word is which.
use Rattle.std.specs.Prelude.{List, ℕ, Option, Some, None}
use Rattle.lists.specs.Choice.{pick}
use Rattle.text.specs.Chars.{chars}
use Rattle.text.specs.Words.{same_text}
use Rattle.words.specs.declared.event.Event.{Event}
use Rattle.words.specs.declared.event.Event.TheVariants.{Start, Byte, Supply, Lost, Stop, State}

-- the event that a word is
unfoldable pub event_of : List ℕ → Option Event
event_of s =
    pick (same_text s (chars "start")) (Some Start)
    (pick (same_text s (chars "byte")) (Some Byte)
    (pick (same_text s (chars "supply")) (Some Supply)
    (pick (same_text s (chars "lost")) (Some Lost)
    (pick (same_text s (chars "stop")) (Some Stop)
    (pick (same_text s (chars "state")) (Some State)
    None)))))
