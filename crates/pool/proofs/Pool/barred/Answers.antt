use Rattle.pool.specs.Start.{barred_pool}
use Rattle.pool.proofs.Pool.barred.Goals as goal

pub returns : goal.returns
unfolding barred_pool
returns c = rw (c.union.ensures, c.reserved-reserved.ensures)
