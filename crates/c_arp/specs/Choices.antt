-- A choice that waits at the end of a list for C, and the entries that are answered.
use Rattle.std.specs.Prelude.{ℕ, ◌≡◌, List}
use Rattle.wire.specs.declared.address.Address.{Address}
use Rattle.udid.specs.declared.Udid.{Udid}
use Rattle.arp.specs.History.{Event, Start, Received, Gone, Issue, Decline}
use Rattle.arp.specs.Replay.{handed_out}
use Rattle.commands.specs.declared.command.End.TheVariants.{Chosen}
use Rattle.commands.specs.declared.command.Handed.TheVariants.{Wait}
use Rattle.commands.specs.declared.command.Reason.{Reason}
use Rattle.c_arp.specs.declared.parts.HbPool.{HbPool}
use Rattle.c_arp.specs.Histories.{events_of}
use Rattle.c_arp.specs.Parts.{pool_in}

-- the choice of a for u, for the reason x, was handed out last
abbrev pub ChoiceWaits : HbPool → ℕ → List Event → Udid → Address → Reason → Type 0
ChoiceWaits given last es u a x = handed_out (pool_in given) last (events_of es) ≡ Wait (Chosen u a x)

-- no choice was
abbrev pub NoChoice : HbPool → ℕ → List Event → Type 0
NoChoice given last es = (u : Udid) (a : Address) (x : Reason) → ChoiceWaits given last es u a x → ⊥

-- hb_pass answers every entry but a report
abbrev pub IsAnswered : Event → Type 0
IsAnswered Start = ⊥
IsAnswered (Received w tr) = Unit
IsAnswered (Gone a) = ⊥
IsAnswered Issue = Unit
IsAnswered Decline = Unit
