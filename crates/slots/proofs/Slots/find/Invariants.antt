use Rattle.std.proofs.Common.{◌-◌, ◌≡◌}
use Rattle.slots.specs.Finding.{find_from}
use Rattle.slots.proofs.Slots.find.Given as goal

abbrev pub invariant-loop-n : goal.invariant-loop-n
invariant-loop-n l = find_from l.u l.self 128 0 ≡ find_from l.u l.self (128 - l.n) l.n
