use Rattle.std.proofs.Common.{rules}
use Rattle.pool.specs.Pools.{union_of}
use Rattle.pool.proofs.Pool.union.Goals as goal

pub returns : goal.returns
unfolding union_of
returns c = search rules
