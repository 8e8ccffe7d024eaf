-- Refusal 1, case by case as the scope lists it, on protocol numbers. Nothing here says how it is computed.
use Rattle.std.specs.Prelude.{◌≡◌, Bool, true, ℕ, ◌≤◌, ◌<◌, length}
use Rattle.trace.specs.DataFits.{DataFits}
use Rattle.trace.specs.Shapes.{protocols}
use Rattle.trace.specs.Trace.{Message}

-- the cases of refusal 1. A protocol is unknown where the table has no row of that number; a command is lacking in Quick, Send Byte and Receive Byte; a direction in all but Quick
pub data Listed (protocol : ℕ) (pec : Bool) (t : Message) : Type 0 where
  unknown_protocol : protocols ≤ protocol → Listed protocol pec t
  address_above_127 : 127 < t.address → Listed protocol pec t
  direction_above_1 : 1 < t.direction → Listed protocol pec t
  quick_with_pec : protocol ≡ 0 → pec ≡ true → Listed protocol pec t
  lacking_command : protocol ≤ 2 → (t.command ≡ 0 → ⊥) → Listed protocol pec t
  lacking_direction : (protocol ≡ 0 → ⊥) → (t.direction ≡ 0 → ⊥) → Listed protocol pec t
  forbidden_length : (DataFits protocol (length t.sent) (length t.received) → ⊥) → Listed protocol pec t
