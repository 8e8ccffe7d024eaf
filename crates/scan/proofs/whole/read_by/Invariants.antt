use Rattle.std.proofs.Common.{drop, ◌≡◌}
use Rattle.scan.specs.Run.{run}
use Rattle.step.specs.State.{fresh}
use Rattle.scan.proofs.whole.read_by.Given as goal

abbrev pub invariant-loop-place : goal.invariant-loop-place
invariant-loop-place l =
    run l.rules.shape l.rules.pec fresh 0 l.tr ≡ run l.rules.shape l.rules.pec l.d l.place (drop l.place l.tr)
