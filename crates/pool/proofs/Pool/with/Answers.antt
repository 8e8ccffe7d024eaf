use Rattle.std.proofs.Common.{lt-ltb, le-ltb}
use Rattle.pool.specs.Pools.{with_address}
use Rattle.pool.proofs.Pool.with.Goals as goal

pub returns-then-n-lt64 : goal.returns-then-n-lt64
unfolding with_address
returns-then-n-lt64 c = simp (lt-ltb _ _ c.if-n-lt64.true, c.with_one.ensures)

pub returns-then-n-lt128 : goal.returns-then-n-lt128
unfolding with_address
returns-then-n-lt128 c = simp (le-ltb _ _ c.if-n-lt64.false, lt-ltb _ _ c.if-n-lt128.true, c.with_one-then-n-lt128.ensures)

pub returns : goal.returns
unfolding with_address
returns c = simp (le-ltb _ _ c.if-n-lt64.false, le-ltb _ _ c.if-n-lt128.false)
