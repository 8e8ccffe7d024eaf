use Rattle.std.proofs.Common.{ℕ, ◌*◌, ◌%◌, ◌^◌, ◌<◌, ◌≡◌, ap, ◌∙◌, one-mul, mod-eq_of_lt, arith, bit_or}
use lib.Pow.{pow-lt}
use Rattle.pool.specs.Digits.{plus}
use Rattle.pool.proofs.bit.with_one.Goals as goal

pub returns : goal.returns
unfolding plus
returns c =
    let k : ℕ = c.args.k % 64 in
    let h : 2 ^ k < 2 ^ 64 = pow-lt {i = k} {j = 64} (omega arith) in
    let e : 1 * 2 ^ k % 2 ^ 64 ≡ 2 ^ k = ap (λ (x : ℕ). x % 2 ^ 64) (one-mul (2 ^ k)) ∙ mod-eq_of_lt h in
    ap (λ (x : ℕ). bit_or c.args.n x) e
