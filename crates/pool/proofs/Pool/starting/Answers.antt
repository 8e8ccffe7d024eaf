use Rattle.pool.specs.Start.{starting_pool}
use Rattle.pool.proofs.Pool.starting.Goals as goal

pub returns : goal.returns
unfolding starting_pool
returns c = rw (c.union.ensures, c.listed-listed.ensures)
