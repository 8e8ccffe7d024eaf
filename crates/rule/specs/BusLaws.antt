-- A turn by the command that is out: an end leaves all as it is, and what is sent is taken by the controller's step and by each target.
use Rattle.std.specs.Prelude.{ℕ, ◌+◌, ◌*◌, ◌/◌, ◌≡◌, refl, Bool, true, false, List, [], ◌∷◌, length, drop}
use Rattle.lists.specs.Choice.{pick}
use Rattle.commands.specs.CommandTraces.{prepare_trace}
use Rattle.arp.specs.Controller.{stepped}
use Rattle.commands.specs.declared.command.Handed.{Handed}
use Rattle.arp.specs.declared.state.Stepped.{Stepped}
use Rattle.targets.specs.RecordLaws.{length_map}
use Rattle.targets.specs.Target.{Target}
use Rattle.rule.specs.Acknowledge.{sent_part, on_bus}
use Rattle.rule.specs.AcknowledgeLaws.{nothing_on_bus, start_on_bus}
use Rattle.rule.specs.AnyBusLaws.{took_nothing, took_trace}
use Rattle.rule.specs.Bus.{model_bus, reached, took}
use Rattle.commands.specs.SameTrace.{same}
use Rattle.rule.specs.Effect.{address_in, is_for_me, effect}

-- nothing is sent
pub turn_still : (s : Stepped) (ts : List Target) (k : Handed) → sent_part k ≡ [] → took s ts (on_bus k ts) ≡ record { now = s; targets = ts }
turn_still s ts k e = took_nothing model_bus s ts (on_bus k ts) (nothing_on_bus k ts e)

-- something is sent, after a START
pub turn_takes : (s : Stepped) (ts : List Target) (k : Handed) → sent_part k ≡ 256 ∷ drop 1 (sent_part k)
    → took s ts (on_bus k ts) ≡ record { now = stepped s.state (on_bus k ts); targets = reached (on_bus k ts) ts }
turn_takes s ts k e = took_trace model_bus s ts (on_bus k ts) 256 (drop 1 (on_bus k ts)) (start_on_bus k ts e)

-- nobody leaves the bus
pub took_length : (s : Stepped) (ts : List Target) (tr : List ℕ) → length (took s ts tr).targets ≡ length ts
took_length s ts [] = refl
took_length s ts (x ∷ xs) = length_map (effect (x ∷ xs)) ts

-- no trace changes an identifier
pub effect_keeps_udid : (tr : List ℕ) (t : Target) → (effect tr t).udid ≡ t.udid
unfolding effect
effect_keeps_udid tr t = go (same tr prepare_trace) (is_for_me tr t)
  where
    go : (p m : Bool) → (pick p (record { udid = t.udid; address_byte = t.address_byte; flag = 0 }) (pick m (record { udid = t.udid; address_byte = 2 * (address_in tr / 2) + 1; flag = 1 }) t)).udid ≡ t.udid
    go true m = refl
    go false true = refl
    go false false = refl
