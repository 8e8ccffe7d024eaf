-- Paths of the decoder: the symbols xs lead from the state d to the state e, with only such ACKs pending on the way as `by` allows.
use Rattle.std.specs.Prelude.{◌≡◌, Bool, true, false, List, [], ◌∷◌, ℕ}
use Rattle.trace.specs.declared.shape.Shape.{Shape}
use Rattle.step.specs.declared.state.Due.{Due}
use Rattle.step.specs.declared.state.Due.TheVariants.{Nobody, Target, Controller, Halted, Cut}
use Rattle.step.specs.declared.state.Decoder.{Decoder}
use Rattle.step.specs.Fits.{fits}
use Rattle.step.specs.Move.{move}

unfoldable pub Leads : (Due → Bool) → Shape → Bool → Decoder → List ℕ → Decoder → Type 0
Leads by sh p d [] e = d ≡ e
Leads by sh p d (x ∷ xs) e = (fits sh d x ≡ true) × (by d.due ≡ true) × Leads by sh p (move sh p d x) xs e

-- no ACK of the controller is pending, and none of the target
abbrev pub no_controller : Due → Bool
no_controller Nobody = true
no_controller Target = true
no_controller Controller = false
no_controller Halted = true
no_controller Cut = true

abbrev pub no_target : Due → Bool
no_target Nobody = true
no_target Target = false
no_target Controller = true
no_target Halted = true
no_target Cut = true

-- what leads on in the target's part of a trace, and in the controller's
abbrev pub Writes : Shape → Bool → Decoder → List ℕ → Decoder → Type 0
Writes sh p d xs e = Leads no_controller sh p d xs e

abbrev pub Reads : Shape → Bool → Decoder → List ℕ → Decoder → Type 0
Reads sh p d xs e = Leads no_target sh p d xs e
