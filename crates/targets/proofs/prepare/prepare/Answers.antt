use Rattle.std.proofs.Common.{ℕ, suc, ◌+◌, ◌*◌, ◌-◌, ◌/◌, ◌<◌, ◌≡◌, ap, ◌∙◌, arith, List, add-one, length, set, length-set}
use Rattle.targets.specs.Records.{targets_from, put_from}
use Rattle.targets.specs.Target.{prepared, cleared}
use Rattle.targets.specs.RecordLaws.{change_one_more, put_prepared}
use Rattle.targets.proofs.prepare.prepare.Goals as goal

onward : (s : List ℕ) (n i : ℕ) → i < n
    → put_from (cleared (targets_from s (n - i) i)) i s ≡ put_from (cleared (targets_from (set s (i * 18 + 17) 0) (n - (i + 1)) (i + 1))) (i + 1) (set s (i * 18 + 17) 0)
onward s n i h =
    let m : n - i ≡ suc (n - (i + 1)) = omega arith in
    rw (m, add-one i)
    (change_one_more prepared (n - suc i) i s ∙ ap (λ (x : List ℕ). put_from (cleared (targets_from x (n - suc i) (suc i))) (suc i) x) (put_prepared i s))

pub loop-i-preserved : goal.loop-i-preserved
loop-i-preserved c = (length-set c.loop-i.records _ _ ∙ c.loop-i.invariant.0, c.loop-i.invariant.1 ∙ onward c.loop-i.records (length c.args.records.now / 18) c.loop-i.i c.loop-i-test.true)
