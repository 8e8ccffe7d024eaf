use Rattle.std.proofs.Common.{rules}
use Rattle.report.specs.BoundSetLaws.{bound_is_set}
use Rattle.report.proofs.bindings_of.bound_set.Goals as goal

pub returns : goal.returns
returns c = let s = c.args.slots in let g = c.result-1.given in let h = c.well_formed in bound_is_set s (record { low = search rules; high = search rules })
