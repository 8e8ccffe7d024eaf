-- From what cannot be, anything follows.
use Rattle.std.specs.Prelude.{ℕ, ◌≡◌}
use Rattle.std.proofs.Common.{arith}

-- 0 is not 1. The tactic cc gives this equation where two different cases of a type are said to be equal: zero_is_one (cc e)
pub zero_is_one {ℓ} : {A : Type ℓ} → ◌≡◌ {A = ℕ} 0 1 → A
zero_is_one e = absurd (omega arith)
