-- Commands for C in the parts of their struct, and the kinds that a caller gives.
use Rattle.std.specs.Prelude.{◌≡◌, ℕ, ◌≤◌}
use Rattle.wire.specs.declared.address.Address.{Address}
use Rattle.udid.specs.declared.Udid.{Udid}
use Rattle.commands.specs.declared.command.Command.TheVariants.{Prepare, GetUdid, Assign}
use Rattle.commands.specs.declared.command.End.{End}
use Rattle.commands.specs.declared.command.End.TheVariants.{Nothing, Ended, NoneFree, Abandoned, NotOutstanding, Chosen}
use Rattle.commands.specs.declared.command.Handed.{Handed}
use Rattle.commands.specs.declared.command.Handed.TheVariants.{Send, Wait}
use Rattle.commands.specs.declared.command.Reason.TheVariants.{Fixed, Kept, Picked, Claimed}
use Rattle.c_arp.specs.declared.kinds.HbCommand.{HbCommand}
use Rattle.c_arp.specs.Commands.{command_of, reason_number}

pub record CommandParts (r : HbCommand) (kind answer address gets picked reason high low : ℕ) : Type 0 where
  pub kind_is : r.kind ≡ kind
  pub answer_is : r.answer ≡ answer
  pub address_is : r.address ≡ address
  pub gets_is : r.gets ≡ gets
  pub picked_is : r.picked ≡ picked
  pub reason_is : r.reason ≡ reason
  pub high_is : r.udid.high ≡ high
  pub low_is : r.udid.low ≡ low

-- an end: its kind, the scope's number, the Get UDIDs so far, the last pick, and the identifier of the target that found no address. With 21 all but the
-- kind and the number is zero. A choice that waits is of kind 8, and has its address, its reason and its target: no other kind has a reason
abbrev pub EndIs : End → ℕ → ℕ → HbCommand → Type 0
EndIs Ended gets picked r = CommandParts r 3 0 0 gets picked 0 0 0
EndIs (NoneFree u) gets picked r = CommandParts r 4 13 0 gets picked 0 u.high u.low
EndIs Abandoned gets picked r = CommandParts r 5 14 0 gets picked 0 0 0
EndIs NotOutstanding gets picked r = CommandParts r 6 21 0 0 0 0 0 0
EndIs Nothing gets picked r = CommandParts r 7 0 0 gets picked 0 0 0
EndIs (Chosen u a why) gets picked r = CommandParts r 8 0 a.0 gets picked (reason_number why) u.high u.low

-- the kind of each command, the Get UDIDs so far, the last pick, and the address and the identifier of an Assign
abbrev pub CommandIs : Handed → ℕ → ℕ → HbCommand → Type 0
CommandIs (Send Prepare) gets picked r = CommandParts r 0 0 0 gets picked 0 0 0
CommandIs (Send GetUdid) gets picked r = CommandParts r 1 0 0 gets picked 0 0 0
CommandIs (Send (Assign u a)) gets picked r = CommandParts r 2 0 a.0 gets picked 0 u.high u.low
CommandIs (Wait e) gets picked r = EndIs e gets picked r

-- the kinds that a caller gives: 0 Prepare To ARP, 1 Get UDID, 2 Assign Address, any other none
pub record KindsAre (u : Udid) (a : Address) : Type 0 where
  pub prepare : command_of 0 u a ≡ Send Prepare
  pub get : command_of 1 u a ≡ Send GetUdid
  pub assign : command_of 2 u a ≡ Send (Assign u a)
  pub other : (kind : ℕ) → 3 ≤ kind → command_of kind u a ≡ Wait Nothing

-- why an address was chosen: 1 fixed, 2 kept, 3 picked, 4 claimed by two
pub record ReasonsAre : Type 0 where
  pub fixed : reason_number Fixed ≡ 1
  pub kept : reason_number Kept ≡ 2
  pub picked : reason_number Picked ≡ 3
  pub claimed : reason_number Claimed ≡ 4
