use Rattle.std.proofs.Common.{rules}
use Rattle.scan.specs.Run.{finish}
use Rattle.scan.proofs.ending.finished.Goals as goal

pub returns-then-eq : goal.returns-then-eq
unfolding finish
returns-then-eq c = search rules

pub returns-then-not-is_over : goal.returns-then-not-is_over
unfolding finish
returns-then-not-is_over c = search rules

pub returns-then-d : goal.returns-then-d
unfolding finish
returns-then-d c = search rules

pub returns-else-d : goal.returns-else-d
unfolding finish
returns-else-d c = search rules
