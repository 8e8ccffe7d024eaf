-- The state after a symbol. It is total; where a byte stands only the symbol's low byte counts. The functions with `With` take the PEC with
-- that byte as a number.
use Rattle.std.specs.Prelude.{Bool, ℕ, ◌%◌, eqb}
use Rattle.lists.specs.Choice.{pick}
use Rattle.wire.specs.Symbols.{ACK}
use Rattle.pec.specs.Pec.{pec_step}
use Rattle.trace.specs.declared.shape.Shape.{Shape}
use Rattle.step.specs.declared.next.Aim.{Aim}
use Rattle.step.specs.declared.state.Slot.{Slot}
use Rattle.step.specs.declared.state.Slot.TheVariants.{Start, First, Command, Count, Data, Pec, Restart, Second, ReadCount, ReadData, ReadPec, Stop, End}
use Rattle.step.specs.declared.state.Due.{Due}
use Rattle.step.specs.declared.state.Due.TheVariants.{Nobody, Target, Controller, Halted, Cut}
use Rattle.step.specs.declared.state.Decoder.{Decoder}
use Rattle.step.specs.State.{to, state}
use Rattle.step.specs.Next.{to_read_data, to_read, to_data, to_sent, after_first}

-- at another slot
abbrev pub at : Decoder → Slot → Due → ℕ → Decoder
at d s a k = state (to s k) a d.pec d.first d.command d.sentcount d.readcount d.good

-- a byte was read, with which PEC is z: on
abbrev pub byte_read : Decoder → Aim → Due → ℕ → Decoder
byte_read d g a z = state g a z d.first d.command d.sentcount d.readcount d.good

abbrev pub first_read : Decoder → Aim → ℕ → ℕ → Decoder
first_read d g x z = state g Target z x d.command d.sentcount d.readcount d.good

abbrev pub command_read : Decoder → Aim → ℕ → ℕ → Decoder
command_read d g x z = state g Target z d.first x d.sentcount d.readcount d.good

abbrev pub sent_count_read : Decoder → Aim → ℕ → ℕ → Decoder
sent_count_read d g x z = state g Target z d.first d.command x d.readcount d.good

abbrev pub read_count_read : Decoder → Aim → ℕ → ℕ → Decoder
read_count_read d g x z = state g Controller z d.first d.command d.sentcount x d.good

-- a byte in PEC's place is held against PEC, and is no part of it
abbrev pub pec_read : Decoder → Due → ℕ → Decoder
pec_read d a x = state (to Stop 0) a d.pec d.first d.command d.sentcount d.readcount (eqb x d.pec)

-- after a symbol at its slot, whose low byte is x, and with which PEC is z
abbrev pub move_slot_with : Shape → Bool → Slot → Decoder → ℕ → ℕ → Decoder
move_slot_with sh p Start d x z = at d First Nobody 0
move_slot_with sh p First d x z = first_read d (after_first sh p) x z
move_slot_with sh p Command d x z = command_read d (to_sent sh p sh.sent) x z
move_slot_with sh p Count d x z = sent_count_read d (to_data sh p x) x z
move_slot_with sh p Data d x z = byte_read d (to_data sh p d.left) Target z
move_slot_with sh p Pec d x z = pec_read d Target x
move_slot_with sh p Restart d x z = at d Second Nobody 0
move_slot_with sh p Second d x z = byte_read d (to_read sh.received p) Target z
move_slot_with sh p ReadCount d x z = read_count_read d (to_read_data p x) x z
move_slot_with sh p ReadData d x z = byte_read d (to_read_data p d.left) Controller z
move_slot_with sh p ReadPec d x z = pec_read d Controller x
move_slot_with sh p Stop d x z = at d End Nobody 0
move_slot_with sh p End d x z = at d End Nobody 0

abbrev pub move_due_with : Shape → Bool → Due → Decoder → ℕ → ℕ → Decoder
move_due_with sh p Nobody d x z = move_slot_with sh p d.slot d (x % 256) z
move_due_with sh p Target d x z = at d d.slot (pick (eqb x ACK) Nobody Halted) d.left
move_due_with sh p Controller d x z = at d d.slot Nobody d.left
move_due_with sh p Halted d x z = at d d.slot Cut 0
move_due_with sh p Cut d x z = at d d.slot Cut 0

abbrev pub move_with : Shape → Bool → Decoder → ℕ → ℕ → Decoder
move_with sh p d x z = move_due_with sh p d.due d x z

-- the same where PEC is what one byte more makes of PEC so far
abbrev pub move_slot : Shape → Bool → Slot → Decoder → ℕ → Decoder
move_slot sh p s d x = move_slot_with sh p s d x (pec_step d.pec x)

abbrev pub move_due : Shape → Bool → Due → Decoder → ℕ → Decoder
move_due sh p a d x = move_due_with sh p a d x (pec_step d.pec (x % 256))

abbrev pub move : Shape → Bool → Decoder → ℕ → Decoder
move sh p d x = move_due sh p d.due d x
