use Rattle.std.proofs.Common.{sym, rules}
use Rattle.pool.specs.HalfSearchLaws.{high_found, high_full}
use Rattle.pool.proofs.Pool.high_free_from.Goals as goal

pub returns-then-k-lt64 : goal.returns-then-k-lt64
returns-then-k-lt64 c = let a = c.args in sym (high_found a.self a.n c.zero_from-k.result (search rules) c.zero_from-k.ensures c.if-k-lt64.true)

pub returns : goal.returns
returns c = let a = c.args in sym (high_full a.self a.n c.zero_from-k.result (search rules) c.zero_from-k.ensures c.if-k-lt64.false)
