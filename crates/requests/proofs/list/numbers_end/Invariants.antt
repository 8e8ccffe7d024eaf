use Rattle.std.proofs.Common.{◌≡◌, ◌-◌, length}
use Rattle.requests.specs.Lists.{numbers_end}
use Rattle.requests.proofs.list.numbers_end.Given as goal

abbrev pub invariant-loop : goal.invariant-loop
invariant-loop l = numbers_end l.limit (length l.line) l.line l.from ≡ numbers_end l.limit (length l.line - l.counter) l.line l.at
