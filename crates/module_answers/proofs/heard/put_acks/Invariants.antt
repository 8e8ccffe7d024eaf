use Rattle.std.proofs.Common.{◌≡◌, drop}
use Rattle.module.specs.Obeys.{heard_all}
use Rattle.module_answers.specs.Hearings.{acks_text}
use Rattle.writing.specs.Pages.{with_text}
use Rattle.module_answers.proofs.heard.put_acks.Given as goal

abbrev pub invariant-loop-b : goal.invariant-loop-b
invariant-loop-b l = (heard_all l.fn.m l.s ≡ heard_all l.after (drop l.b-index l.s))
    × (with_text l.initial.page (acks_text l.fn.m l.s) ≡ with_text l.page (acks_text l.after (drop l.b-index l.s)))
