-- Where a byte leads: the slot after it, by the shape, by whether PEC is used, and by what is left.
use Rattle.std.specs.Prelude.{Bool, ℕ, ◌-◌, eqb}
use Rattle.lists.specs.Choice.{pick}
use Rattle.trace.specs.declared.shape.Part.{Part}
use Rattle.trace.specs.declared.shape.Part.TheVariants.{Nothing, Fixed, Counted}
use Rattle.trace.specs.declared.shape.Shape.{Shape}
use Rattle.trace.specs.Shapes.{writes, reads}
use Rattle.step.specs.declared.next.Aim.{Aim}
use Rattle.step.specs.declared.state.Slot.TheVariants.{Command, Count, Data, Pec, Restart, ReadCount, ReadData, ReadPec, Stop}
use Rattle.step.specs.State.{to}

-- behind the last data byte received
abbrev pub after_read : Bool → Aim
after_read p = to (pick p ReadPec Stop) 0

-- to k bytes of data received
abbrev pub to_read_data : Bool → ℕ → Aim
to_read_data p k = pick (eqb k 0) (after_read p) (to ReadData (k - 1))

-- to the part received
abbrev pub to_read : Part → Bool → Aim
to_read Nothing p = after_read p
to_read (Fixed k) p = to_read_data p k
to_read Counted p = to ReadCount 0

-- behind the last data byte sent
abbrev pub after_write : Shape → Bool → Aim
after_write sh p = pick (reads sh) (pick (writes sh) (to Restart 0) (to_read sh.received p)) (to (pick p Pec Stop) 0)

-- to k bytes of data sent
abbrev pub to_data : Shape → Bool → ℕ → Aim
to_data sh p k = pick (eqb k 0) (after_write sh p) (to Data (k - 1))

-- to a part sent
abbrev pub to_sent : Shape → Bool → Part → Aim
to_sent sh p Nothing = after_write sh p
to_sent sh p (Fixed k) = to_data sh p k
to_sent sh p Counted = to Count 0

-- behind the first address byte
abbrev pub after_first : Shape → Bool → Aim
after_first sh p = pick sh.command (to Command 0) (to_sent sh p sh.sent)
