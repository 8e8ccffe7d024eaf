-- A command of the controller on a bus of modules. START, each byte and STOP are given to every module; an ACK stands where one module gives
-- it; a byte read is eight bits: whoever still sends gives one bit, a zero beats a one, and who gives a one and sees a zero is told so there
-- and then.
use Rattle.std.specs.Prelude.{ℕ, zero, suc, Bool, true, false, List, [], ◌∷◌, ◌++◌, map, eqb, is_some, unwrap_or}
use Rattle.lists.specs.Choice.{pick, or, and, not}
use Rattle.wire.specs.Symbols.{START, STOP, ACK, NACK}
use Rattle.trace.specs.Trace.{nacked}
use Rattle.udid.specs.Udids.{Fits}
use Rattle.arbitration.specs.Bits.{bits, number_of}
use Rattle.arbitration.specs.Wire.{next, later}
use Rattle.targets.specs.Target.{Target}
use Rattle.commands.specs.declared.command.Command.TheVariants.{Prepare, GetUdid, Assign}
use Rattle.commands.specs.declared.command.Handed.{Handed}
use Rattle.commands.specs.declared.command.Handed.TheVariants.{Send, Wait}
use Rattle.rule.specs.Acknowledge.{sent_part}
use Rattle.module.specs.declared.state.Module.{Module}
use Rattle.module.specs.Receive.{starts, receives, loses, stops}
use Rattle.module.specs.Supply.{address_byte, supplies}

-- the identifier of a module is a number of 128 bits
abbrev pub Fitting : Module → Type 0
Fitting m = Fits m.own.udid

-- the model's target of a module: FFh where AV is clear
abbrev pub record_of : Module → Target
record_of m = record { udid = m.own.udid; address_byte = address_byte m.own; flag = pick m.own.resolved 1 0 }

abbrev pub records_of : List Module → List Target
records_of ms = map record_of ms

-- a byte for every module, and whether one of them acknowledges it
abbrev pub hearing : ℕ → Module → Module
hearing b m = (receives m b).after

unfoldable pub any_ack : ℕ → List Module → Bool
any_ack b [] = false
any_ack b (m ∷ ms) = or (receives m b).ack (any_ack b ms)

-- the trace that stands on the bus, and the modules after it
pub record Left : Type 0 where
  pub trace : List ℕ
  pub modules : List Module

abbrev pub put : ℕ → Left → Left
put x l = record { trace = x ∷ l.trace; modules = l.modules }

abbrev pub stop_all : List Module → Left
stop_all ms = record { trace = STOP ∷ []; modules = map stops ms }

-- the symbols that the controller sends, with an ACK behind each byte, walk over the modules; a says whether the last byte was acknowledged. At
-- the first that is not NACK and STOP stand; where there is none the rest follows
unfoldable pub walk : (List Module → Left) → Bool → List Module → List ℕ → Left
walk rest a ms [] = rest ms
walk rest a ms (x ∷ xs) =
    pick (eqb x START) (put START (walk rest a (map starts ms) xs))
    (pick (eqb x ACK) (pick a (put ACK (walk rest a ms xs)) (put NACK (stop_all ms)))
    (put x (walk rest (any_ack x ms) (map (hearing x) ms) xs)))

-- ---- a byte read

-- a module that is asked for a byte: whether it sends, and the bits that it has left
pub record Sender : Type 0 where
  pub who : Module
  pub sends : Bool
  pub left : List Bool

abbrev pub asked : Module → Sender
asked m = record { who = (supplies m).after; sends = is_some (supplies m).byte; left = bits 8 (unwrap_or (supplies m).byte 0xFF) }

-- the wire is one where nobody gives a zero
unfoldable pub line : List Sender → Bool
line [] = true
line (s ∷ ss) = and (pick s.sends (next s.left) true) (line ss)

-- who gives a one and sees a zero has lost
abbrev pub sees : Bool → Sender → Sender
sees seen s =
    pick (and s.sends (and (next s.left) (not seen)))
    (record { who = loses s.who; sends = false; left = [] })
    (record { who = s.who; sends = s.sends; left = later s.left })

-- n bits as they stand on the wire, and the senders after them
unfoldable pub seen : ℕ → List Sender → List Bool
seen zero ss = []
seen (suc n) ss = line ss ∷ seen n (map (sees (line ss)) ss)

unfoldable pub after : ℕ → List Sender → List Sender
after zero ss = ss
after (suc n) ss = after n (map (sees (line ss)) ss)

abbrev pub byte_on : List Module → ℕ
byte_on ms = number_of (seen 8 (map asked ms))

abbrev pub after_byte : List Module → List Module
after_byte ms = map (λ (s : Sender). s.who) (after 8 (map asked ms))

-- n bytes
unfoldable pub bytes_on : ℕ → List Module → List ℕ
bytes_on zero ms = []
bytes_on (suc n) ms = byte_on ms ∷ bytes_on n (after_byte ms)

unfoldable pub after_bytes : ℕ → List Module → List Module
after_bytes zero ms = ms
after_bytes (suc n) ms = after_bytes n (after_byte ms)

-- a block with PEC: the count, as many bytes, PEC
abbrev pub block_length : List Module → ℕ
block_length ms = suc (suc (byte_on ms))

abbrev pub reading : List Module → Left
reading ms = record {
  trace = nacked (bytes_on (block_length ms) ms) ++ STOP ∷ [];
  modules = map stops (after_bytes (block_length ms) ms);
}

-- what follows the symbols that the controller sends: after Get UDID the read, else STOP. An end is no command: nothing is sent, nothing follows
abbrev pub rest : Handed → List Module → Left
rest (Send GetUdid) ms = reading ms
rest (Send Prepare) ms = stop_all ms
rest (Send (Assign u a)) ms = stop_all ms
rest (Wait e) ms = record { trace = []; modules = ms }

-- A COMMAND ON THE BUS OF MODULES
unfoldable pub exchange : Handed → List Module → Left
exchange k ms = walk (rest k) false ms (sent_part k)
