-- A refusal at the first symbol that does not fit: its place, the state there, and why it is refused.
use Rattle.std.specs.Prelude.{◌≡◌, Bool, false, List, ℕ, ◌+◌, ◌<◌, length, take, get_or, Ok}
use Rattle.trace.specs.declared.shape.Shape.{Shape}
use Rattle.step.specs.declared.state.Decoder.{Decoder}
use Rattle.scan.specs.declared.answer.Refused.{Refused}
use Rattle.step.specs.Fits.{fits}
use Rattle.scan.specs.Refusal.{why}
use Rattle.scan.specs.Run.{run}

pub record Stopped (sh : Shape) (p : Bool) (d : Decoder) (i : ℕ) (tr : List ℕ) (e : Refused) : Type 0 where
  pub place : ℕ
  pub state : Decoder
  pub inside : place < length tr
  pub leads : run sh p d 0 (take place tr) ≡ Ok state
  pub stuck : fits sh state (get_or tr place 0) ≡ false
  pub is : e ≡ why sh state (i + place) (get_or tr place 0)
