-- Commands of the controller as numbers.
use Rattle.std.specs.Prelude.{ℕ, eqb}
use Rattle.lists.specs.Choice.{pick}
use Rattle.wire.specs.declared.address.Address.{Address}
use Rattle.udid.specs.declared.Udid.{Udid}
use Rattle.commands.specs.declared.command.Command.TheVariants.{Prepare, GetUdid, Assign}
use Rattle.commands.specs.declared.command.End.{End}
use Rattle.commands.specs.declared.command.End.TheVariants.{Nothing, Ended, NoneFree, Abandoned, NotOutstanding, Chosen}
use Rattle.commands.specs.declared.command.Handed.{Handed}
use Rattle.commands.specs.declared.command.Handed.TheVariants.{Send, Wait}
use Rattle.commands.specs.declared.command.Reason.{Reason}
use Rattle.commands.specs.declared.command.Reason.TheVariants.{Fixed, Kept, Picked, Claimed}
use Rattle.report.specs.Report.{no_udid}
use Rattle.c_arp.specs.declared.kinds.HbCommand.{HbCommand}
use Rattle.c_arp.specs.Parts.{told_udid}

-- the command of a kind that is sent; any other number is none
abbrev pub command_of : ℕ → Udid → Address → Handed
command_of kind u a = pick (eqb kind 0) (Send Prepare) (pick (eqb kind 1) (Send GetUdid) (pick (eqb kind 2) (Send (Assign u a)) (Wait Nothing)))

-- no reason is told
abbrev pub said_of : ℕ → ℕ → Udid → ℕ → ℕ → ℕ → HbCommand
said_of kind answer u a gets picked = record { kind = kind; answer = answer; address = a; gets = gets; picked = picked; reason = 0; udid = told_udid u }

-- why an address was chosen
abbrev pub reason_number : Reason → ℕ
reason_number Fixed = 1
reason_number Kept = 2
reason_number Picked = 3
reason_number Claimed = 4

-- a choice that waits: the target, the address and the reason
abbrev pub choice_of : Udid → ℕ → Reason → ℕ → ℕ → HbCommand
choice_of u a why gets picked =
    record { kind = 8; answer = 0; address = a; gets = gets; picked = picked; reason = reason_number why; udid = told_udid u }

-- an end: its kind, its number and the target that found no address; with 21 neither the Get UDIDs nor the last pick are told. No end yet
-- is a choice that waits
abbrev pub told_end : End → ℕ → ℕ → HbCommand
told_end Ended gets picked = said_of 3 0 no_udid 0 gets picked
told_end (NoneFree u) gets picked = said_of 4 13 u 0 gets picked
told_end Abandoned gets picked = said_of 5 14 no_udid 0 gets picked
told_end NotOutstanding gets picked = said_of 6 21 no_udid 0 0 0
told_end Nothing gets picked = said_of 7 0 no_udid 0 gets picked
told_end (Chosen u a why) gets picked = choice_of u a.0 why gets picked

abbrev pub told_command : Handed → ℕ → ℕ → HbCommand
told_command (Send Prepare) gets picked = said_of 0 0 no_udid 0 gets picked
told_command (Send GetUdid) gets picked = said_of 1 0 no_udid 0 gets picked
told_command (Send (Assign u a)) gets picked = said_of 2 0 u a.0 gets picked
told_command (Wait e) gets picked = told_end e gets picked
