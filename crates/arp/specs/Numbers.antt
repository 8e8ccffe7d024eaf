-- The scope's number of what the controller hands out and of what the lookup and a report answer, with the identifier that comes with it.
use Rattle.std.specs.Prelude.{ℕ, Bool, true, false, List, [], ◌∷◌}
use Rattle.lists.specs.Choice.{pick}
use Rattle.udid.specs.declared.Udid.{Udid}
use Rattle.commands.specs.declared.command.End.{End}
use Rattle.commands.specs.declared.command.End.TheVariants.{Nothing, Ended, NoneFree, Abandoned, NotOutstanding, Chosen}
use Rattle.commands.specs.declared.command.Handed.{Handed}
use Rattle.commands.specs.declared.command.Handed.TheVariants.{Send, Wait}
use Rattle.arp.specs.declared.lookup.Found.{Found}
use Rattle.arp.specs.declared.lookup.Found.TheVariants.{Bound, Nobody, Two, Left, NoAddress}

-- the number of an end; where no pass has begun, and where a choice waits, there is none
abbrev pub end_number : End → List (ℕ × List Udid)
end_number Nothing = []
end_number Ended = (0, []) ∷ []
end_number (NoneFree u) = (13, u ∷ []) ∷ []
end_number Abandoned = (14, []) ∷ []
end_number NotOutstanding = (21, []) ∷ []
end_number (Chosen u a r) = []

-- a command to send has none
abbrev pub command_number : Handed → List (ℕ × List Udid)
command_number (Send k) = []
command_number (Wait e) = end_number e

-- 21, which hands out nothing
abbrev pub is21_end : End → Bool
is21_end Nothing = false
is21_end Ended = false
is21_end (NoneFree u) = false
is21_end Abandoned = false
is21_end NotOutstanding = true
is21_end (Chosen u a r) = false

abbrev pub is21 : Handed → Bool
is21 (Send k) = false
is21 (Wait e) = is21_end e

-- what was handed out last, where k is answered after it: a 21 hands out nothing
abbrev pub unless21 : Handed → Handed → Handed
unless21 k before = pick (is21 k) before k

abbrev pub lookup_number : Found → ℕ × List Udid
lookup_number (Bound u) = (0, u ∷ [])
lookup_number Nobody = (15, [])
lookup_number Two = (16, [])
lookup_number Left = (20, [])
lookup_number NoAddress = (1, [])
