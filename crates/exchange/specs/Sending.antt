-- The modules in the middle of a Get UDID: those that answer, and those that still send.
use Rattle.std.specs.Prelude.{◌≡◌, List, map}
use Rattle.module.specs.declared.state.Module.{Module}
use Rattle.module.specs.declared.state.Phase.TheVariants.{Reply}
use Rattle.module.specs.Receive.{starts}
use Rattle.exchange.specs.Exchange.{hearing}

-- the modules after START, C2h, 03h and the repeated START, and after C3h, when the reply begins
abbrev pub started_again : List Module → List Module
started_again ms = map starts (map (hearing 0x03) (map (hearing 0xC2) (map starts ms)))

abbrev pub asked_all : List Module → List Module
asked_all ms = map (hearing 0xC3) (started_again ms)

-- one that has not lost, and has a byte of its reply to give
abbrev pub StillSends : Module → Type 0
StillSends m = m.phase ≡ Reply
