use Rattle.std.proofs.Common.{◌≡◌, refl, ℕ, zero, suc, ◌/◌, ◌%◌, ◌^◌, ◌<◌, arith, eqb}
use Rattle.lists.specs.Choice.{not}
use Rattle.pool.specs.Digits.{digit}
use Rattle.arbitration.proofs.win.is_zero.Goals as goal

zero-digit : (x : ℕ) → x < 2 → eqb x 0 ≡ not (eqb x 1)
zero-digit zero h = refl
zero-digit (suc zero) h = refl
zero-digit (suc (suc x)) h = absurd (omega arith)

pub returns : goal.returns
unfolding digit
returns c = zero-digit (c.args.n / 2 ^ c.args.k % 2) (omega arith)
