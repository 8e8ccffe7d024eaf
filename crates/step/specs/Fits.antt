-- Which symbol may stand next.
use Rattle.std.specs.Prelude.{Bool, true, false, ℕ, ◌+◌, ◌-◌, ◌%◌, ◌/◌, ltb, leb, eqb}
use Rattle.lists.specs.Choice.{pick, or, and}
use Rattle.wire.specs.Symbols.{START, STOP, ACK, NACK}
use Rattle.trace.specs.declared.shape.Shape.{Shape}
use Rattle.trace.specs.Shapes.{writes, reads, least_of}
use Rattle.trace.specs.Allowed.{address_fits, sender_fits}
use Rattle.step.specs.declared.state.Slot.{Slot}
use Rattle.step.specs.declared.state.Slot.TheVariants.{Start, First, Command, Count, Data, Pec, Restart, Second, ReadCount, ReadData, ReadPec, Stop, End}
use Rattle.step.specs.declared.state.Due.{Due}
use Rattle.step.specs.declared.state.Due.TheVariants.{Nobody, Target, Controller, Halted, Cut}
use Rattle.step.specs.declared.state.Decoder.{Decoder}

-- the controller's ACK; its NACK comes after the last byte received
abbrev pub ack_at : Slot → ℕ
ack_at Stop = NACK
ack_at Start = ACK
ack_at First = ACK
ack_at Command = ACK
ack_at Count = ACK
ack_at Data = ACK
ack_at Pec = ACK
ack_at Restart = ACK
ack_at Second = ACK
ack_at ReadCount = ACK
ack_at ReadData = ACK
ack_at ReadPec = ACK
ack_at End = ACK

-- an address byte's lowest bit: a write where there is a write phase, else a read where there is a read phase, else either
abbrev pub way_fits : Shape → ℕ → Bool
way_fits sh x = pick (writes sh) (eqb (x % 2) 0) (pick (reads sh) (eqb (x % 2) 1) true)

-- the first address byte
abbrev pub first_fits : Shape → ℕ → Bool
first_fits sh x = and (ltb x 256) (and (address_fits sh (x / 2)) (way_fits sh x))

abbrev pub command_fits : Shape → ℕ → Bool
command_fits sh x = and (ltb x 256) (sender_fits sh x)

-- a count, where so many of the most that the shape allows are taken
abbrev pub count_fits : Shape → ℕ → ℕ → Bool
count_fits sh taken x = and (leb sh.least x) (leb x (sh.most - taken))

-- at the slot: a count sent leaves room for the least that may be received, a count received keeps to what is left
abbrev pub fits_slot : Shape → Slot → Decoder → ℕ → Bool
fits_slot sh Start d x = eqb x START
fits_slot sh First d x = first_fits sh x
fits_slot sh Command d x = command_fits sh x
fits_slot sh Count d x = count_fits sh (least_of sh.received sh.least) x
fits_slot sh Data d x = ltb x 256
fits_slot sh Pec d x = ltb x 256
fits_slot sh Restart d x = eqb x START
fits_slot sh Second d x = eqb x ((d.first + 1) % 256)
fits_slot sh ReadCount d x = count_fits sh d.sentcount x
fits_slot sh ReadData d x = ltb x 256
fits_slot sh ReadPec d x = ltb x 256
fits_slot sh Stop d x = eqb x STOP
fits_slot sh End d x = false

-- what is due comes before the slot
abbrev pub fits_due : Shape → Due → Decoder → ℕ → Bool
fits_due sh Nobody d x = fits_slot sh d.slot d x
fits_due sh Target d x = or (eqb x ACK) (eqb x NACK)
fits_due sh Controller d x = eqb x (ack_at d.slot)
fits_due sh Halted d x = eqb x STOP
fits_due sh Cut d x = false

abbrev pub fits : Shape → Decoder → ℕ → Bool
fits sh d x = fits_due sh d.due d x
