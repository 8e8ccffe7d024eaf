-- The choice that waits to be issued or declined.
use Rattle.std.specs.Prelude.{Option, Some, None}
use Rattle.commands.specs.declared.command.End.{End}
use Rattle.commands.specs.declared.command.End.TheVariants.{Nothing, Ended, NoneFree, Abandoned, NotOutstanding, Chosen}
use Rattle.commands.specs.declared.command.Handed.{Handed}
use Rattle.commands.specs.declared.command.Handed.TheVariants.{Send, Wait}
use Rattle.wire.specs.declared.address.Address.{Address}
use Rattle.udid.specs.declared.Udid.{Udid}

abbrev pub in_end : End → Option (Udid × Address)
in_end Nothing = None
in_end Ended = None
in_end (NoneFree u) = None
in_end Abandoned = None
in_end NotOutstanding = None
in_end (Chosen u a r) = Some (u, a)

-- the choice that waits where this was handed out last
abbrev pub choice_in : Handed → Option (Udid × Address)
choice_in (Send k) = None
choice_in (Wait e) = in_end e
