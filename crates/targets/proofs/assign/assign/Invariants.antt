use Rattle.std.proofs.Common.{◌-◌, ◌/◌, ◌≡◌, length}
use Rattle.targets.specs.Records.{targets_from, put_from}
use Rattle.targets.specs.Target.{resolve}
use Rattle.targets.proofs.assign.assign.Given as goal

abbrev pub invariant-loop-i : goal.invariant-loop-i
invariant-loop-i l = (length l.records ≡ length l.initial.records) × (put_from (resolve l.u l.a.0 (targets_from l.initial.records (length l.initial.records / 18) 0)) 0 l.initial.records ≡ put_from (resolve l.u l.a.0 (targets_from l.records (length l.initial.records / 18 - l.i) l.i)) l.i l.records)
