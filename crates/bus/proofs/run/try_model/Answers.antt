use Rattle.std.proofs.Common.{◌≡◌, sym, ◌∙◌, arith, refl, rules, subst, Result, Err}
use Rattle.bindings.specs.declared.answer.ModelAnswer.{ModelAnswer}
use Rattle.bus.specs.Run.{Leaves, model_end}
use Rattle.bus.specs.RunLaws.{leaves_forbidden, leaves_going, leaves_short, leaves_refused, leaves_run}
use Rattle.bus.specs.Refused.{answer_in}
use Rattle.bus.specs.declared.run.ModelError.{ModelError}
use Rattle.bus.specs.declared.run.ModelError.TheVariants.{Targets}
use Rattle.bus.proofs.run.try_model.Goals as goal

pub returns-then-last-gt127 : goal.returns-then-last-gt127
returns-then-last-gt127 c = let a = c.args in leaves_forbidden a.occupied a.last a.records.now a.bindings.now _ c.if-last-gt127.true refl

pub returns-then-bindings-lt-BUFFER : goal.returns-then-bindings-lt-BUFFER
returns-then-bindings-lt-BUFFER c =
    let a = c.args in
    leaves_going a.occupied a.last a.records.now a.bindings.now _ _ _ (omega (arith, c.if-last-gt127.false)) (leaves_short a.occupied a.last a.records.now a.bindings.now _ c.if-bindings-lt-BUFFER.true refl)

pub run_admitted-requires : goal.run_admitted-requires
run_admitted-requires c = (sym c.check.ensures ∙ c.in_ok-check.was, c.if-bindings-lt-BUFFER.false)

pub returns-in_err-check : goal.returns-in_err-check
returns-in_err-check c =
    let a = c.args in
    let e = c.in_err-check.field-0.0 in
    let q : c.from_residual.result ≡ Err (Targets e) = search rules in
    subst (λ (r : Result ModelAnswer ModelError). Leaves (model_end a.occupied a.last a.records.now a.bindings.now) (answer_in r) a.records.now a.bindings.now) (sym q)
    (leaves_going a.occupied a.last a.records.now a.bindings.now _ _ _ (omega (arith, c.if-last-gt127.false))
    (leaves_refused a.occupied a.last a.records.now a.bindings.now (Err e) _ c.if-bindings-lt-BUFFER.false (sym c.check.ensures ∙ c.in_err-check.was) refl))

pub returns : goal.returns
returns c = let a = c.args in leaves_going a.occupied a.last a.records.now a.bindings.now _ _ _ (omega (arith, c.if-last-gt127.false)) (leaves_run a.occupied a.last a.records.now a.bindings.now _ _ _ c.if-bindings-lt-BUFFER.false (sym c.check.ensures ∙ c.in_ok-check.was) c.run_admitted.ensures)
