-- One command on the bus, over the records' bytes.
use Rattle.std.specs.Prelude.{ℕ, ◌+◌, ◌-◌, ◌*◌, ◌<◌, ◌≡◌, Bool, true, false, List, [], ◌∷◌, length, take, drop}
use Rattle.lists.specs.Each.{Bytes}
use Rattle.wire.specs.Symbols.{START, STOP, ACK, NACK}
use Rattle.encode.specs.Encode.{Wrote}
use Rattle.encode.specs.Encode.{Encoded}
use Rattle.arbitration.specs.Among.{Among}
use Rattle.targets.specs.Cases.{RepeatedAt, NoneOf}
use Rattle.targets.specs.Records.{record_count, targets_of, records_with}
use Rattle.targets.specs.Target.{Target}
use Rattle.arp.specs.Controller.{stepped}
use Rattle.commands.specs.Sending.{Sent}
use Rattle.commands.specs.Requests.{protocol_for, message_of}
use Rattle.commands.specs.declared.command.Command.TheVariants.{Prepare, GetUdid, Assign}
use Rattle.commands.specs.declared.command.Handed.{Handed}
use Rattle.commands.specs.declared.command.Handed.TheVariants.{Send, Wait}
use Rattle.arp.specs.declared.state.Stepped.{Stepped}
use Rattle.rule.specs.Acknowledge.{on_bus}
use Rattle.rule.specs.AnyBus.{WorldOver}
use Rattle.rule.specs.Bus.{World, reached}

-- records that a pass can run over: whole ones, no identifier twice
pub record Fit (s : List ℕ) : Type 0 where
  pub whole : length s ≡ record_count s * 18
  pub apart : NoneOf (RepeatedAt s) (record_count s)

-- somebody is there to answer Get UDID, and an Assign of a 7-bit address goes to one of the targets
abbrev pub Reaches : Handed → List Target → Type 0
Reaches (Send GetUdid) ts = 0 < length ts
Reaches (Send (Assign u a)) ts = (t : Target) × Among t ts × (t.udid ≡ u) × (a.0 < 128)
Reaches (Send Prepare) ts = Unit
Reaches (Wait e) ts = Unit

abbrev pub is_sent : Handed → Bool
is_sent (Send k) = true
is_sent (Wait e) = false

-- Get UDID that nobody answers: the read address gets NACK
abbrev pub silence : List ℕ
silence = START ∷ 0xC2 ∷ ACK ∷ 0x03 ∷ ACK ∷ START ∷ 0xC3 ∷ NACK ∷ STOP ∷ []

-- the first 17 bytes of record w, lent as a part
abbrev pub lent_part : List ℕ → ℕ → List ℕ
lent_part s w = take (w * 18 + 17 - w * 18) (drop (w * 18) s)

-- bytes, 17 of them
pub record Lent (xs : List ℕ) : Type 0 where
  pub bytes : Bytes xs
  pub long : length xs ≡ 17

-- the encoder has room for the command and writes it
abbrev pub Writes : Handed → List ℕ → List ℕ → Type 0
Writes k reply before =
    (r : Encoded) (after : List ℕ) → Wrote (protocol_for k) true (message_of k reply) before r after → Sent k reply before r after

-- the controller over the records
abbrev pub world_of : Stepped → List ℕ → WorldOver (List ℕ)
world_of st s = record { now = st; targets = s }

-- a command on the bus: the controller's step takes the trace that stands there, and so does each target
abbrev pub sent_to : Stepped → List Target → Handed → World
sent_to s ts k = record { now = stepped s.state (on_bus k ts); targets = reached (on_bus k ts) ts }

-- the code's result r and records after s are those of the world w
pub record Matches (w : World) (r : Stepped) (s after : List ℕ) : Type 0 where
  pub controller : r ≡ w.now
  pub targets : targets_of after ≡ w.targets
  pub stored : after ≡ records_with w.targets s
