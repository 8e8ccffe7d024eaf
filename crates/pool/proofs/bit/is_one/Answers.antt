use Rattle.std.proofs.Common.{rules}
use Rattle.pool.specs.Digits.{digit}
use Rattle.pool.proofs.bit.is_one.Goals as goal

pub returns : goal.returns
unfolding digit
returns c = search rules
