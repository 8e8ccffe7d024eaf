use Rattle.std.proofs.Common.{rules}
use Rattle.pool.specs.Start.{reserved_pool}
use Rattle.pool.proofs.Pool.reserved.Goals as goal

pub returns : goal.returns
unfolding reserved_pool
returns c = search rules
