use Rattle.std.proofs.Common.{rules}
use Rattle.pool.specs.Start.{listed_pool}
use Rattle.pool.proofs.Pool.listed.Goals as goal

pub returns : goal.returns
unfolding listed_pool
returns c = search rules
