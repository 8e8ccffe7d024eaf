-- States whose counts leave room: those so far, and the least that may be received, keep to the most.
use Rattle.std.specs.Prelude.{ℕ, ◌+◌, ◌≤◌}
use Rattle.trace.specs.declared.shape.Shape.{Shape}
use Rattle.trace.specs.Shapes.{least_of}
use Rattle.step.specs.declared.state.Slot.{Slot}
use Rattle.step.specs.declared.state.Slot.TheVariants.{Start, First, Command, Count, Data, Pec, Restart, Second, ReadCount, ReadData, ReadPec, Stop, End}
use Rattle.step.specs.declared.state.Decoder.{Decoder}

-- where the count to be received stands next, room for the least that it can be
abbrev pub AtCount : Shape → Slot → ℕ → Type 0
AtCount sh ReadCount m = m + sh.least ≤ sh.most
AtCount sh Start m = Unit
AtCount sh First m = Unit
AtCount sh Command m = Unit
AtCount sh Count m = Unit
AtCount sh Data m = Unit
AtCount sh Pec m = Unit
AtCount sh Restart m = Unit
AtCount sh Second m = Unit
AtCount sh ReadData m = Unit
AtCount sh ReadPec m = Unit
AtCount sh Stop m = Unit
AtCount sh End m = Unit

pub record Roomy (sh : Shape) (d : Decoder) : Type 0 where
  pub room : d.sentcount + least_of sh.received sh.least ≤ sh.most
  pub ahead : AtCount sh d.slot d.sentcount
