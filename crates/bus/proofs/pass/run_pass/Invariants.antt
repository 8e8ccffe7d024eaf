use Rattle.std.proofs.Common.{◌-◌}
use Rattle.bus.specs.Turn.{world_of}
use Rattle.bus.specs.Going.{Running}
use Rattle.bus.proofs.pass.run_pass.Given as goal

abbrev pub invariant-loop : goal.invariant-loop
invariant-loop l = Running (world_of l.initial.st l.initial.records) l.initial.records (300 - l.counter) l.st l.records
