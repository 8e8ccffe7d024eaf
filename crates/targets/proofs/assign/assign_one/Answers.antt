use Rattle.std.proofs.Common.{ℕ, ◌+◌, ◌*◌, ◌%◌, ◌≡◌, sym, ◌∙◌, true, false, List, set}
use Rattle.udid.specs.Udids.{same_udid}
use Rattle.udid.specs.declared.Udid.{Udid}
use Rattle.targets.specs.Records.{udid_of, target_at, put_target}
use Rattle.targets.specs.Target.{assigned_to}
use Rattle.targets.specs.RecordLaws.{put_self}
use Rattle.targets.proofs.assign.assign_one.Goals as goal

taken_by : (i : ℕ) (u : Udid) (a : ℕ) (s : List ℕ) (b : ℕ) → same_udid (udid_of s i) u ≡ true → b ≡ 2 * (a % 128) + 1
    → put_target i (assigned_to u a (target_at s i)) s ≡ set (set s (i * 18 + 16) b) (i * 18 + 17) 1
unfolding put_target target_at
taken_by i u a s b e f = rw (e, f)

left_by : (i : ℕ) (u : Udid) (a : ℕ) (s : List ℕ) → same_udid (udid_of s i) u ≡ false → put_target i (assigned_to u a (target_at s i)) s ≡ s
unfolding target_at
left_by i u a s e = rw e (put_self i s)

pub returns-then-stands_at : goal.returns-then-stands_at
returns-then-stands_at c = sym (taken_by c.args.i c.args.u c.args.a.0 c.args.records.now c.for_read-w.result.0 (sym c.stands_at.ensures ∙ c.if-stands_at.true) c.for_read-w.ensures)

pub returns-else-stands_at : goal.returns-else-stands_at
returns-else-stands_at c = sym (left_by c.args.i c.args.u c.args.a.0 c.args.records.now (sym c.stands_at.ensures ∙ c.if-stands_at.false))
