-- What it is that a step hands something out: the state keeps it, and counts it if it is a Get UDID.
use Rattle.std.specs.Prelude.{◌+◌, ◌≡◌}
use Rattle.arp.specs.History.{one_get}
use Rattle.arp.specs.declared.state.Controller.{Controller}
use Rattle.arp.specs.declared.state.Stepped.{Stepped}

-- handed out from a state: kept as the last, and counted where it is a Get UDID
pub record Kept (s : Controller) (r : Stepped) : Type 0 where
  pub last : r.state.last ≡ r.command
  pub gets : r.state.gets ≡ s.gets + one_get r.command
