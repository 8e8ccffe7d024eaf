use Rattle.std.proofs.Common.{ℕ, ◌*◌, ◌≡◌, refl, sym, ap, ◌∙◌, Bool, true, false, ◌++◌, add-one, arith, drop, Some, None}
use Rattle.std.specs.Bool.{then_some}
use Rattle.lists.specs.Choice.{pick}
use Rattle.udid.specs.declared.Udid.{Udid}
use Rattle.slots.specs.Slots.{kept_udid}
use Rattle.bindings.specs.Entries.{put_entry, rows_of}
use Rattle.bindings.proofs.BufferLaws.{rows_none, rows_more}
use Rattle.report.specs.BoundSetLaws.{entry_by_bound}
use Rattle.report.specs.Report.{entry_at}
use Rattle.report.proofs.bindings_of.put_rows.Goals as goal

some_if : (b : Bool) (u : Udid) → then_some b u ≡ pick b (Some u) None
some_if true u = refl
some_if false u = refl

pub loop-a-init : goal.loop-a-init
loop-a-init c = (refl, rows_none (entry_at c.args.slots) c.args.out.now)

pub loop-a-preserved : goal.loop-a-preserved
loop-a-preserved c =
    let l = c.loop-a in
    let s = c.args.slots in
    let held = entry_at s in
    let x : Udid = kept_udid s l.a in (
      c.put_entry.auto.out ∙ l.invariant.0,
      c.put_entry.ensures
          ∙ ap (put_entry l.out l.a) (c.then_some-e.ensures ∙ ap (λ (b : Bool). then_some b x) c.has.ensures ∙ some_if _ x ∙ sym (entry_by_bound s l.a))
          ∙ rows_more held l.a c.args.out.now l.out c.requires (omega arith) l.invariant.1
          ∙ ap (λ (n : ℕ). rows_of held n ++ drop (n * 16) c.args.out.now) (sym (add-one l.a)),
    )

pub returns : goal.returns
returns c =
    let l = c.loop-a in
    let n : l.a ≡ 128 = omega arith in
    l.invariant.1 ∙ ap (λ (x : ℕ). rows_of (entry_at c.args.slots) x ++ drop (x * 16) c.args.out.now) n
