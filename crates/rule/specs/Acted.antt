-- What each command of the controller means for the targets. EffectLaws: its symbols on the bus do just that.
use Rattle.std.specs.Prelude.{List}
use Rattle.udid.specs.Udids.{Fits}
use Rattle.targets.specs.Target.{Target, cleared, resolve}
use Rattle.commands.specs.declared.command.Command.TheVariants.{Prepare, GetUdid, Assign}
use Rattle.commands.specs.declared.command.Handed.{Handed}
use Rattle.commands.specs.declared.command.Handed.TheVariants.{Send, Wait}

-- Prepare To ARP clears every flag, Assign Address reaches the target with that identifier, and nothing else changes any
abbrev pub acted : Handed → List Target → List Target
acted (Send Prepare) ts = cleared ts
acted (Send (Assign u a)) ts = resolve u a.0 ts
acted (Send GetUdid) ts = ts
acted (Wait e) ts = ts

-- the identifier that it names is a number of 128 bits
abbrev pub Names : Handed → Type 0
Names (Send (Assign u a)) = Fits u
Names (Send Prepare) = Unit
Names (Send GetUdid) = Unit
Names (Wait e) = Unit
