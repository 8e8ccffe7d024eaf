-- Which kind of wrong symbol it is, by the state that it finds. Cases says what each kind means.
use Rattle.std.specs.Prelude.{Bool, true, false, ℕ, ltb, eqb}
use Rattle.lists.specs.Choice.{pick, or}
use Rattle.wire.specs.Symbols.{ACK, NACK}
use Rattle.trace.specs.declared.shape.Shape.{Shape}
use Rattle.step.specs.declared.state.Slot.{Slot}
use Rattle.step.specs.declared.state.Slot.TheVariants.{First, Count, Second, ReadCount}
use Rattle.step.specs.declared.state.Due.{Due}
use Rattle.step.specs.declared.state.Due.TheVariants.{Nobody, Target, Controller, Halted, Cut}
use Rattle.step.specs.declared.state.Decoder.{Decoder}
use Rattle.misfit.specs.declared.kind.Kind.{Kind}
use Rattle.misfit.specs.declared.kind.Kind.TheVariants.{Swapped, Misaddressed, Miscounted, Other}

abbrev pub is_address : Slot → Bool
is_address First = true
is_address Second = true
is_address s = false

abbrev pub is_count : Slot → Bool
is_count Count = true
is_count ReadCount = true
is_count s = false

-- a byte; host where the protocol goes to the host alone
abbrev pub kind_of_byte : Bool → Slot → Kind
kind_of_byte host s = pick host Other (pick (is_address s) Misaddressed (pick (is_count s) Miscounted Other))

-- where no ACK is due
abbrev pub kind_at : Bool → Slot → ℕ → Kind
kind_at host s x = pick (ltb x 256) (kind_of_byte host s) Other

abbrev pub is_answer : ℕ → Bool
is_answer x = or (eqb x ACK) (eqb x NACK)

-- where the controller's ACK or NACK is due
abbrev pub kind_of_ack : ℕ → Kind
kind_of_ack x = pick (is_answer x) Swapped Other

abbrev pub kind_due : Bool → Due → Slot → ℕ → Kind
kind_due host Nobody s x = kind_at host s x
kind_due host Controller s x = kind_of_ack x
kind_due host Target s x = Other
kind_due host Halted s x = Other
kind_due host Cut s x = Other

abbrev pub kind_of : Shape → Decoder → ℕ → Kind
kind_of sh d x = kind_due sh.tohost d.due d.slot x

-- an address byte is next
abbrev pub address_next : Due → Slot → Bool
address_next Nobody s = is_address s
address_next Target s = false
address_next Controller s = false
address_next Halted s = false
address_next Cut s = false
