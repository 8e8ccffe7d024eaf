-- The answers of start, step, choose, issue and decline.
use Rattle.std.specs.Prelude.{ℕ, List, ◌++◌}
use Rattle.wire.specs.declared.address.Address.{Address}
use Rattle.udid.specs.declared.Udid.{Udid}
use Rattle.text.specs.Chars.{chars}
use Rattle.writing.specs.Written.{pair_of}
use Rattle.commands.specs.declared.command.Command.{Command}
use Rattle.commands.specs.declared.command.Command.TheVariants.{Prepare, GetUdid, Assign}
use Rattle.commands.specs.declared.command.End.{End}
use Rattle.commands.specs.declared.command.End.TheVariants.{Nothing, Ended, NoneFree, Abandoned, NotOutstanding, Chosen}
use Rattle.commands.specs.declared.command.Reason.{Reason}
use Rattle.commands.specs.declared.command.Reason.TheVariants.{Fixed, Kept, Picked, Claimed}
use Rattle.commands.specs.declared.command.Handed.{Handed}
use Rattle.commands.specs.declared.command.Handed.TheVariants.{Send, Wait}
use Rattle.pieces.specs.Pieces.{newline, udid_text}

-- an address for a target
abbrev pub assign_text : Udid → Address → List ℕ
assign_text u a = (chars "0 next assign " ++ udid_text u) ++ ((chars " 0x" ++ pair_of a.0) ++ newline)

-- each reason of a choice, and its word
abbrev pub reason_text : Reason → List ℕ
reason_text Fixed = chars "fixed"
reason_text Kept = chars "kept"
reason_text Picked = chars "picked"
reason_text Claimed = chars "claimed"

abbrev pub reason_line : Reason → List ℕ
reason_line r = (chars " " ++ reason_text r) ++ newline

-- a choice that waits
abbrev pub chosen_text : Udid → Address → Reason → List ℕ
chosen_text u a r = (chars "0 chosen " ++ udid_text u) ++ ((chars " 0x" ++ pair_of a.0) ++ reason_line r)

-- the command that comes next
abbrev pub next_text : Command → List ℕ
next_text Prepare = chars "0 next prepare\n"
next_text GetUdid = chars "0 next get\n"
next_text (Assign u a) = assign_text u a

-- why nothing is to be sent
abbrev pub end_text : End → List ℕ
end_text Nothing = chars "21\n"
end_text Ended = chars "0 end\n"
end_text (NoneFree u) = (chars "13 end " ++ udid_text u) ++ newline
end_text Abandoned = chars "14 end\n"
end_text NotOutstanding = chars "21\n"
end_text (Chosen u a r) = chosen_text u a r

abbrev pub command_text : Handed → List ℕ
command_text (Send k) = next_text k
command_text (Wait e) = end_text e
