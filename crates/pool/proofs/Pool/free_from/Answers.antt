use Rattle.std.specs.Prelude.{None}
use Rattle.std.proofs.Common.{ℕ, ◌+◌, ◌-◌, ◌≤◌, ◌≡◌, sym, ◌∙◌, arith}
use Rattle.pool.specs.Free.{free_from}
use Rattle.pool.specs.HalfSearchLaws.{low_found, low_full}
use Rattle.pool.specs.declared.Pool.{Pool}
use Rattle.pool.proofs.Pool.free_from.Goals as goal

in_high : (p : Pool) (n : ℕ) → 64 ≤ n → free_from p (64 - (n - 64)) (64 + (n - 64)) ≡ free_from p (128 - n) n
in_high p n h =
    let e : 64 - (n - 64) ≡ 128 - n = omega arith in
    let f : 64 + (n - 64) ≡ n = omega arith in
    rw (e, f)

past : (p : Pool) (n : ℕ) → 128 ≤ n → free_from p (128 - n) n ≡ None
unfolding free_from
past p n h = let e : 128 - n ≡ 0 = omega arith in rw e

pub returns-then-k-lt64 : goal.returns-then-k-lt64
returns-then-k-lt64 c = let a = c.args in sym (low_found a.self a.n c.zero_from-k.result c.if-n-lt64.true c.zero_from-k.ensures c.if-k-lt64.true)

pub returns-then-n-lt64 : goal.returns-then-n-lt64
returns-then-n-lt64 c =
    let a = c.args in
    c.high_free_from.ensures
    ∙ sym (low_full a.self a.n c.zero_from-k.result c.if-n-lt64.true c.zero_from-k.ensures c.if-k-lt64.false)

pub returns-then-n-lt128 : goal.returns-then-n-lt128
returns-then-n-lt128 c = let a = c.args in c.high_free_from-then-n-lt128.ensures ∙ in_high a.self a.n c.if-n-lt64.false

pub returns : goal.returns
returns c = let a = c.args in sym (past a.self a.n c.if-n-lt128.false)
