use Rattle.std.proofs.Common.{◌-◌, length}
use Rattle.writing.specs.Written.{Came}
use Rattle.requests.specs.Lists.{symbols_from}
use Rattle.requests.proofs.list.read_symbols.Given as goal

abbrev pub invariant-loop-n : goal.invariant-loop-n
invariant-loop-n l = Came l.initial.out 0 (symbols_from (length l.initial.out) l.line l.from) l.out l.n (symbols_from (length l.initial.out - l.n) l.line l.at)

abbrev pub decreases-loop-n : goal.decreases-loop-n
decreases-loop-n l = length l.initial.out - l.n
