use Rattle.std.proofs.Common.{ℕ, suc, ◌+◌, ◌-◌, ◌/◌, ◌^◌, ◌<◌, ◌≡◌, div-le_self, arith, rules}
use lib.Count.{count_trailing_zeros}
use Rattle.std.proofs.lemmas.Nat.{trailing_le}
use Rattle.pool.specs.Digits.{FirstZero}
use Rattle.pool.specs.FirstZeroLaws.{first_zero}
use Rattle.pool.proofs.bit.zero_from.Goals as goal

turned : (n k : ℕ) → n < 2 ^ 64 → k < 64 → FirstZero n k (k + count_trailing_zeros 64 (18446744073709551615 - n / 2 ^ k))
turned n k h l = first_zero n k (18446744073709551615 - n / 2 ^ k) h l (whole (n / 2 ^ k) (shifted n k h))
  where
    shifted : (n k : ℕ) → n < 2 ^ 64 → n / 2 ^ k < 2 ^ 64
    shifted n k h = omega (arith, div-le_self n (2 ^ k))

    whole : (x : ℕ) → x < 2 ^ 64 → suc (x + (18446744073709551615 - x)) ≡ 2 ^ 64
    whole x h = omega arith

pub overflow_cast-result-2 : goal.overflow_cast-result-2
overflow_cast-result-2 c = let a = c.args in omega (arith, trailing_le 64 (18446744073709551615 - a.n / 2 ^ a.k))

pub overflow_add-result : goal.overflow_add-result
overflow_add-result c = let a = c.args in omega (arith, trailing_le 64 (18446744073709551615 - a.n / 2 ^ a.k))

pub returns : goal.returns
returns c = let a = c.args in turned a.n a.k (search rules) (search rules)
