use Rattle.std.proofs.Common.{sym, ap, ◌∙◌}
use Rattle.lists.specs.Choice.{pick}
use Rattle.hearing.specs.declared.told.Told.{Told}
use Rattle.arp.specs.Choosing.{decided_on}
use Rattle.arp.specs.Controller.{asked, changed}
use Rattle.arp.proofs.Steps.{either_way}
use Rattle.arp.proofs.state.Controller.change.Goals as goal

pub returns-in-Again : goal.returns-in-Again
returns-in-Again c = let s = c.args in c.ask.ensures ∙ either_way s.direct _ ∙ sym (ap (λ (t : Told). pick s.direct (changed s.self t) (decided_on s.self t)) c.in-Again.is)

pub returns-in-Over : goal.returns-in-Over
returns-in-Over c = let s = c.args in c.hand.ensures ∙ either_way s.direct _ ∙ sym (ap (λ (t : Told). pick s.direct (changed s.self t) (decided_on s.self t)) c.in-Over.is)

pub returns-in-GivenUp : goal.returns-in-GivenUp
returns-in-GivenUp c = let s = c.args in c.hand-in-GivenUp.ensures ∙ either_way s.direct _ ∙ sym (ap (λ (t : Told). pick s.direct (changed s.self t) (decided_on s.self t)) c.in-GivenUp.is)

pub returns-in-Reply : goal.returns-in-Reply
returns-in-Reply c = let s = c.args in c.on_reply.ensures ∙ sym (ap (λ (t : Told). pick s.direct (changed s.self t) (decided_on s.self t)) c.in-Reply.is)

pub returns-in-Took : goal.returns-in-Took
returns-in-Took c = let s = c.args in c.ask-in-Took.ensures ∙ ap asked c.bind-next.ensures ∙ either_way s.direct _ ∙ sym (ap (λ (t : Told). pick s.direct (changed s.self t) (decided_on s.self t)) c.in-Took.is)

pub returns-in-Unasked : goal.returns-in-Unasked
returns-in-Unasked c = let s = c.args in c.refuse.ensures ∙ either_way s.direct _ ∙ sym (ap (λ (t : Told). pick s.direct (changed s.self t) (decided_on s.self t)) c.in-Unasked.is)
