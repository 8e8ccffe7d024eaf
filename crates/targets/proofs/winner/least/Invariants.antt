use Rattle.std.proofs.Common.{◌≡◌}
use Rattle.targets.specs.Winner.{least_of}
use Rattle.targets.specs.Search.{place_of, Holds}
use Rattle.targets.proofs.winner.least.Given as goal

abbrev pub invariant-loop-i : goal.invariant-loop-i
invariant-loop-i l = (place_of l.best ≡ least_of l.records l.i) × Holds l.records l.best
