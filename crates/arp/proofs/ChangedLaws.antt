-- A step changes what was told: so what holds of every change that can be told holds of every step.
use Rattle.std.specs.Prelude.{ℕ, ◌≤◌, ◌≡◌, List, length, take}
use Rattle.std.proofs.Common.{ap, ◌∙◌}
use Rattle.hearing.specs.LongTraceLaws.{same_told}
use Rattle.hearing.specs.Told.{tells}
use Rattle.hearing.specs.ToldLaws.{Known, told_known}
use Rattle.commands.specs.declared.command.Handed.{Handed}
use Rattle.hearing.specs.declared.told.Told.{Told}
use Rattle.arp.specs.Controller.{changed, stepped}
use Rattle.arp.specs.declared.state.Controller.{Controller}

pub told_is_changed : (s : Controller) (tr : List ℕ) (k : Handed) (t : Told) → s.last ≡ k → tells k tr ≡ t → stepped s tr ≡ changed s t
unfolding stepped
told_is_changed s tr k t e f = ap (changed s) (ap (λ (x : Handed). tells x tr) e ∙ f)

pub by_told : (P : Told → Type 0) (s : Controller) (tr : List ℕ) → ((t : Told) → Known s.last tr t → P t) → P (tells s.last tr)
by_told P s tr f = f (tells s.last tr) (told_known s.last tr)

-- the step for a trace of more than 526 symbols is the step for its first 526
pub step_of_front : (s : Controller) (tr : List ℕ) → 526 ≤ length tr → stepped s (take 526 tr) ≡ stepped s tr
unfolding stepped
step_of_front s tr long = ap (changed s) (same_told tr long s.last)
