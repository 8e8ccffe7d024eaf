-- Which answer a symbol gets that may not stand where it does.
use Rattle.std.specs.Prelude.{Bool, true, false, ℕ, leb}
use Rattle.lists.specs.Choice.{pick}
use Rattle.wire.specs.Symbols.{NACK}
use Rattle.scan.specs.Decoded.{refusal_at}
use Rattle.scan.specs.declared.answer.Refused.{Refused}
use Rattle.trace.specs.declared.shape.Shape.{Shape}
use Rattle.misfit.specs.declared.kind.Kind.{Kind}
use Rattle.misfit.specs.declared.kind.Kind.TheVariants.{Swapped, Misaddressed, Miscounted, Other}
use Rattle.misfit.specs.Kinds.{kind_of}
use Rattle.scan.specs.declared.answer.Refusal.{Refusal}
use Rattle.scan.specs.declared.answer.Refusal.TheVariants.{NoSymbol, Unexpected, AfterStop, WrongAck, WrongAddress, WrongCount}
use Rattle.step.specs.declared.state.Slot.{Slot}
use Rattle.step.specs.declared.state.Slot.TheVariants.{Start, First, Command, Count, Data, Pec, Restart, Second, ReadCount, ReadData, ReadPec, Stop, End}
use Rattle.step.specs.declared.state.Due.{Due}
use Rattle.step.specs.declared.state.Due.TheVariants.{Nobody, Target, Controller, Halted, Cut}
use Rattle.step.specs.declared.state.Decoder.{Decoder}

-- the last STOP has come, after the whole trace or after a target's NACK: nothing can follow
abbrev pub ended : Slot → Bool
ended End = true
ended Start = false
ended First = false
ended Command = false
ended Count = false
ended Data = false
ended Pec = false
ended Restart = false
ended Second = false
ended ReadCount = false
ended ReadData = false
ended ReadPec = false
ended Stop = false

abbrev pub over : Due → Slot → Bool
over Nobody s = ended s
over Target s = false
over Controller s = false
over Halted s = false
over Cut s = true

-- a wrong symbol is refused by its kind
abbrev pub refusal_of : Kind → Refusal
refusal_of Swapped = WrongAck
refusal_of Misaddressed = WrongAddress
refusal_of Miscounted = WrongCount
refusal_of Other = Unexpected

-- why a symbol x at place i is refused that may not stand there: 3, else 8, else 17, 18, 19 or 5
abbrev pub why : Shape → Decoder → ℕ → ℕ → Refused
why sh d i x = refusal_at (pick (leb x NACK) (pick (over d.due d.slot) AfterStop (refusal_of (kind_of sh d x))) NoSymbol) i
