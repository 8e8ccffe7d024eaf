use Rattle.std.proofs.Common.{refl, ap, ◌∙◌}
use Rattle.arp.specs.Choosing.{first_half}
use Rattle.arp.specs.Controller.{stepped}
use Rattle.arp.specs.History.{Step, Choose}
use Rattle.c_arp.proofs.PassLaws.{heard_on_front}
use Rattle.c_arp.proofs.pass.take_entry.Goals as goal

pub returns-in-Step : goal.returns-in-Step
returns-in-Step c =
    let s = c.args.st.state in
    rw c.in-Step.is (c.step.ensures ∙ ap (stepped s) c.symbols_of.ensures ∙ heard_on_front Step s c.in-Step.trace.now 526 refl)

pub returns-in-Choose : goal.returns-in-Choose
returns-in-Choose c =
    let s = c.args.st.state in
    rw c.in-Choose.is (c.choose.ensures ∙ ap (first_half s) c.symbols_of-in-Choose.ensures ∙ heard_on_front Choose s c.in-Choose.trace.now 526 refl)
