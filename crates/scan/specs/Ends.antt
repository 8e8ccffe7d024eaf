-- From a state some symbols lead to the end of a whole trace.
use Rattle.std.specs.Prelude.{◌≡◌, Bool, List, ℕ, Ok}
use Rattle.trace.specs.declared.shape.Shape.{Shape}
use Rattle.step.specs.declared.state.Slot.TheVariants.{End}
use Rattle.step.specs.declared.state.Due.TheVariants.{Nobody}
use Rattle.step.specs.declared.state.Decoder.{Decoder}
use Rattle.scan.specs.Run.{run}

pub record Ends (sh : Shape) (p : Bool) (d : Decoder) : Type 0 where
  pub rest : List ℕ
  pub last : Decoder
  pub leads : run sh p d 0 rest ≡ Ok last
  pub slot : last.slot ≡ End
  pub due : last.due ≡ Nobody
