use Rattle.std.proofs.Common.{◌-◌, ◌/◌, ◌≡◌, length}
use Rattle.targets.specs.Records.{targets_from, put_from}
use Rattle.targets.specs.Target.{cleared}
use Rattle.targets.proofs.prepare.prepare.Given as goal

abbrev pub invariant-loop-i : goal.invariant-loop-i
invariant-loop-i l = (length l.records ≡ length l.initial.records) × (put_from (cleared (targets_from l.initial.records (length l.initial.records / 18) 0)) 0 l.initial.records ≡ put_from (cleared (targets_from l.records (length l.initial.records / 18 - l.i) l.i)) l.i l.records)
