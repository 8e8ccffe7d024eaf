use Rattle.std.proofs.Common.{arith, rules}
use Rattle.std.proofs.lemmas.Nat.{ones-le}
use Rattle.pool.specs.FreeLaws.{used_ones}
use Rattle.pool.proofs.Pool.used.Goals as goal

pub overflow_add-result : goal.overflow_add-result
overflow_add-result c = let s = c.args.self in omega (arith, ones-le 64 s.low (search rules), ones-le 64 s.high (search rules))

pub returns : goal.returns
returns c = let s = c.args.self in used_ones s (record { low = search rules; high = search rules })
