-- What the PEC that is handed to the step comes to: with the right one the state is that of move, and any other changes PEC alone.
use Rattle.std.specs.Prelude.{◌≡◌, refl, Bool, ℕ, ◌%◌}
use Rattle.pec.specs.Pec.{pec_step}
use Rattle.trace.specs.declared.shape.Shape.{Shape}
use Rattle.step.specs.declared.state.Slot.{Slot}
use Rattle.step.specs.declared.state.Slot.TheVariants.{Start, First, Command, Count, Data, Pec, Restart, Second, ReadCount, ReadData, ReadPec, Stop, End}
use Rattle.step.specs.declared.state.Due.{Due}
use Rattle.step.specs.declared.state.Due.TheVariants.{Nobody, Target, Controller, Halted, Cut}
use Rattle.step.specs.declared.state.Decoder.{Decoder}
use Rattle.step.specs.State.{to, state}
use Rattle.step.specs.Move.{move_slot_with, move_due_with, move_with, move}

pub right_pec : (sh : Shape) (p : Bool) (d : Decoder) (x : ℕ) → move_with sh p d x (pec_step d.pec (x % 256)) ≡ move sh p d x
right_pec sh p d x = refl

-- the state without its PEC
abbrev pub apart : Decoder → Decoder
apart d = state (to d.slot d.left) d.due 0 d.first d.command d.sentcount d.readcount d.good

slot_apart : (sh : Shape) (p : Bool) (s : Slot) (d : Decoder) (x y z : ℕ) → apart (move_slot_with sh p s d x y) ≡ apart (move_slot_with sh p s d x z)
slot_apart sh p Start d x y z = refl
slot_apart sh p First d x y z = refl
slot_apart sh p Command d x y z = refl
slot_apart sh p Count d x y z = refl
slot_apart sh p Data d x y z = refl
slot_apart sh p Pec d x y z = refl
slot_apart sh p Restart d x y z = refl
slot_apart sh p Second d x y z = refl
slot_apart sh p ReadCount d x y z = refl
slot_apart sh p ReadData d x y z = refl
slot_apart sh p ReadPec d x y z = refl
slot_apart sh p Stop d x y z = refl
slot_apart sh p End d x y z = refl

due_apart : (sh : Shape) (p : Bool) (a : Due) (d : Decoder) (x y z : ℕ) → apart (move_due_with sh p a d x y) ≡ apart (move_due_with sh p a d x z)
due_apart sh p Nobody d x y z = slot_apart sh p d.slot d (x % 256) y z
due_apart sh p Target d x y z = refl
due_apart sh p Controller d x y z = refl
due_apart sh p Halted d x y z = refl
due_apart sh p Cut d x y z = refl

pub pec_apart : (sh : Shape) (p : Bool) (d : Decoder) (x y z : ℕ) → apart (move_with sh p d x y) ≡ apart (move_with sh p d x z)
pec_apart sh p d x y z = due_apart sh p d.due d x y z
