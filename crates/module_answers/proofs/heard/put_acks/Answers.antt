use Rattle.std.proofs.Common.{◌+◌, ◌∙◌, ap, sym, arith, drop}
use Rattle.module_answers.specs.HearingLaws.{heard_on, heard_over, acks_on, acks_over}
use Rattle.module_answers.specs.Hearings.{ack_text, acks_text}
use Rattle.writing.specs.Pages.{with_text}
use Rattle.writing.specs.PageLaws.{text_on, text_none}
use Rattle.module_answers.proofs.heard.put_acks.Goals as goal

pub loop-b-preserved : goal.loop-b-preserved
loop-b-preserved c =
    let l = c.loop-b in
    let h = c.receive-h in
    let rest = acks_text h.result.after (drop (l.b-index + 1) c.args.s.now) in (
      l.invariant.0 ∙ heard_on l.after c.args.s.now l.b-index h.result h.ensures (omega arith),
      l.invariant.1 ∙ ap (with_text l.page) (acks_on l.after c.args.s.now l.b-index h.result h.ensures (omega arith))
          ∙ sym (text_on l.page (ack_text h.result.ack) rest) ∙ ap (λ p. with_text p rest) (sym c.put_ack.ensures),
    )

pub returns-clause-after : goal.returns-clause-after
returns-clause-after c = sym (c.loop-b.invariant.0 ∙ heard_over c.loop-b.after c.args.s.now c.loop-b.b-index (omega arith))

pub returns-clause-text : goal.returns-clause-text
returns-clause-text c =
    sym (c.loop-b.invariant.1 ∙ ap (with_text c.loop-b.page) (acks_over c.loop-b.after c.args.s.now c.loop-b.b-index (omega arith)) ∙ text_none c.loop-b.page)
