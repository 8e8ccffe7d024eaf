use Rattle.std.proofs.Common.{sym, ◌∙◌, arith, ◌<◌, length}
use Rattle.trace.specs.Trace.{Message}
use Rattle.encode.specs.Encode.{message}
use Rattle.lists.specs.EachLaws.{all_bytes}
use Rattle.encode.proofs.EntryLaws.{room_none, refused_wrote, fields_refused, short_wrote, is_ready, done_wrote}
use Rattle.encode.proofs.encode_by.Goals as goal

pub returns-in_default : goal.returns-in_default
returns-in_default c =
    let a = c.args in
    let t : Message = message a.address.0 a.direction a.command a.sent.now a.received.now in
    refused_wrote a.sh a.forbidden a.pec t a.out.now (room_none a.sh a.forbidden a.pec t (sym c.room_by.ensures ∙ c.in_default.is))

pub returns-then-not-fields_fit : goal.returns-then-not-fields_fit
returns-then-not-fields_fit c =
    let a = c.args in
    let t : Message = message a.address.0 a.direction a.command a.sent.now a.received.now in
    refused_wrote a.sh a.forbidden a.pec t a.out.now (fields_refused a.sh a.forbidden a.pec t _ (sym c.room_by.ensures ∙ c.in-Some.is) (sym c.fields_fit.ensures ∙ c.if-not-fields_fit.true))

pub returns-then-out-n : goal.returns-then-out-n
returns-then-out-n c =
    let a = c.args in
    let t : Message = message a.address.0 a.direction a.command a.sent.now a.received.now in
    short_wrote a.sh a.forbidden a.pec t _ (sym c.room_by.ensures ∙ c.in-Some.is) (sym c.fields_fit.ensures ∙ c.if-not-fields_fit.false) a.out.now c.if-out-n.true

pub put_trace-requires : goal.put_trace-requires
put_trace-requires c =
    let a = c.args in
    let t : Message = message a.address.0 a.direction a.command a.sent.now a.received.now in
    let cb : a.command < 256 = omega arith in
    let sb = all_bytes a.sent.now (λ i. (c.shared_slice_known-1.given i).fits) in
    let rb = all_bytes a.received.now (λ i. (c.shared_slice_known-2-1.given i).fits) in
    is_ready a.sh a.forbidden a.pec t _ (sym c.room_by.ensures ∙ c.in-Some.is) (sym c.fields_fit.ensures ∙ c.if-not-fields_fit.false) c.requires cb sb rb (length a.out.now) c.if-out-n.false

pub returns : goal.returns
returns c =
    let a = c.args in
    let t : Message = message a.address.0 a.direction a.command a.sent.now a.received.now in
    done_wrote a.sh a.forbidden a.pec t _ (sym c.room_by.ensures ∙ c.in-Some.is) (sym c.fields_fit.ensures ∙ c.if-not-fields_fit.false) a.out.now _ c.if-out-n.false c.put_trace.ensures
