use Rattle.std.proofs.Common.{sym, ◌∙◌}
use Rattle.scan.proofs.Loops.{read_turn, read_stop, read_end}
use Rattle.scan.proofs.whole.read_by.Goals as goal

pub returns-then-not-may_stand : goal.returns-then-not-may_stand
returns-then-not-may_stand c =
    let l = c.loop-place in
    let a = c.args in
    rw c.why_not.ensures (sym (l.invariant ∙ read_stop a.rules.shape a.rules.pec a.tr.now l.d l.place c.loop-place-test.true (sym c.may_stand.ensures ∙ c.if-not-may_stand.true)))

pub loop-place-preserved : goal.loop-place-preserved
loop-place-preserved c =
    let l = c.loop-place in
    let a = c.args in
    rw (c.moved-d.ensures, c.pec_after.ensures) (l.invariant ∙ read_turn a.rules.shape a.rules.pec a.tr.now l.d l.place c.loop-place-test.true (sym c.may_stand.ensures ∙ c.if-not-may_stand.false))

pub returns : goal.returns
returns c =
    let l = c.loop-place in
    let a = c.args in
    sym (l.invariant ∙ read_end a.rules.shape a.rules.pec a.tr.now l.d l.place c.loop-place-test.false)
