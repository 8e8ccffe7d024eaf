-- That a choice waits.
use Rattle.std.specs.Prelude.{◌≡◌}
use Rattle.wire.specs.declared.address.Address.{Address}
use Rattle.udid.specs.declared.Udid.{Udid}
use Rattle.commands.specs.declared.command.End.TheVariants.{Chosen}
use Rattle.commands.specs.declared.command.Handed.TheVariants.{Wait}
use Rattle.commands.specs.declared.command.Reason.{Reason}
use Rattle.arp.specs.declared.state.Controller.{Controller}

-- a choice waits in the state
abbrev pub Waits : Controller → Type 0
Waits s = (u : Udid) × (a : Address) × (x : Reason) × (s.last ≡ Wait (Chosen u a x))
