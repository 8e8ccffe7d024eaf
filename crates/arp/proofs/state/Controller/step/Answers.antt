use Rattle.std.proofs.Common.{ap, ◌∙◌}
use Rattle.arp.specs.Controller.{changed, stepped}
use Rattle.arp.proofs.state.Controller.step.Goals as goal

pub returns : goal.returns
unfolding stepped
returns c = c.change.ensures ∙ ap (changed c.args.self) c.tell.ensures
