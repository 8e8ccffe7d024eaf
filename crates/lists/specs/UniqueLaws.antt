-- One possible answer: a contract that gives its result by an equation leaves one result.
use Rattle.std.specs.Prelude.{◌≡◌}
use Rattle.std.proofs.Common.{sym, ◌∙◌}

-- r ≡ f inputs: any two results are the same
pub one_answer {ℓ} : {A : Type ℓ} {f x y : A} → x ≡ f → y ≡ f → x ≡ y
one_answer e g = e ∙ sym g
