use Rattle.std.proofs.Common.{ℕ, suc, ◌+◌, ◌-◌, ◌/◌, ◌<◌, ◌≡◌, sym, ap, ◌∙◌, arith, List, add-one, length}
use Rattle.udid.specs.declared.Udid.{Udid}
use Rattle.targets.specs.Records.{target_at, targets_from, put_target, put_from}
use Rattle.targets.specs.Target.{assigned_to, resolve}
use Rattle.targets.specs.RecordLaws.{change_one_more, length_put}
use Rattle.targets.proofs.assign.assign.Goals as goal

onward : (u : Udid) (a : ℕ) (s : List ℕ) (n i : ℕ) → i < n
    → put_from (resolve u a (targets_from s (n - i) i)) i s
    ≡ put_from (resolve u a (targets_from (put_target i (assigned_to u a (target_at s i)) s) (n - (i + 1)) (i + 1))) (i + 1) (put_target i (assigned_to u a (target_at s i)) s)
onward u a s n i h =
    let m : n - i ≡ suc (n - (i + 1)) = omega arith in
    rw (m, add-one i) (change_one_more (assigned_to u a) (n - suc i) i s)

pub loop-i-preserved : goal.loop-i-preserved
loop-i-preserved c = let l = c.loop-i in
    let s = c.args in
    let e = c.assign_one.ensures in (
      ap length e ∙ length_put l.i _ l.records ∙ l.invariant.0,
      l.invariant.1 ∙ onward s.u s.a.0 l.records (length s.records.now / 18) l.i c.loop-i-test.true
          ∙ ap (λ (x : List ℕ). put_from (resolve s.u s.a.0 (targets_from x (length s.records.now / 18 - (l.i + 1)) (l.i + 1))) (l.i + 1) x) (sym e),
    )
