use Rattle.std.proofs.Common.{sym, ◌∙◌, refl}
use Rattle.std.proofs.lemmas.Result.{err_from_is_err_and}
use Rattle.decode.specs.EntryLaws.{outcome_forbidden, outcome_short, sent_copy_fits, received_copy_fits, outcome_read}
use Rattle.decode.proofs.decode_into.Goals as goal

pub returns-then-forbidden : goal.returns-then-forbidden
returns-then-forbidden c =
    let a = c.args in
    outcome_forbidden a.number a.sh a.forbidden a.pec a.trace.now a.sent.now a.received.now c.if-forbidden.true

pub returns-then-is_short : goal.returns-then-is_short
returns-then-is_short c =
    let a = c.args in
    outcome_short a.number a.sh a.forbidden a.pec a.trace.now a.sent.now a.received.now c.if-forbidden.false (sym c.is_short.ensures ∙ c.if-is_short.true)

pub returns-in_err-t : goal.returns-in_err-t
returns-in_err-t c =
    let a = c.args in
    let p = err_from_is_err_and c.from_residual.result c.from_residual.ensures.1 in
    rw (p.1, p.2) (outcome_read a.number a.sh a.forbidden a.pec a.trace.now a.sent.now a.received.now c.requires _ (sym c.in_err-t.was ∙ c.decode_by.ensures) c.if-forbidden.false (sym c.is_short.ensures ∙ c.if-is_short.false) _ _ refl refl)

pub copy_data-requires : goal.copy_data-requires
copy_data-requires c =
    let a = c.args in
    rw c.sent_place.ensures (sent_copy_fits a.number a.sh a.forbidden a.pec a.trace.now a.sent.now a.received.now c.requires _ (sym c.in_ok-t.was ∙ c.decode_by.ensures) (sym c.is_short.ensures ∙ c.if-is_short.false))

pub copy_data-requires-2 : goal.copy_data-requires-2
copy_data-requires-2 c =
    let a = c.args in
    rw c.received_place.ensures (received_copy_fits a.number a.sh a.forbidden a.pec a.trace.now a.sent.now a.received.now c.requires _ (sym c.in_ok-t.was ∙ c.decode_by.ensures) (sym c.is_short.ensures ∙ c.if-is_short.false))

pub returns : goal.returns
returns c =
    let a = c.args in
    outcome_read a.number a.sh a.forbidden a.pec a.trace.now a.sent.now a.received.now c.requires _ (sym c.in_ok-t.was ∙ c.decode_by.ensures) c.if-forbidden.false (sym c.is_short.ensures ∙ c.if-is_short.false) _ _
    (rw (← c.sent_place.ensures) c.copy_data.ensures) (rw (← c.received_place.ensures) c.copy_data-2.ensures)
