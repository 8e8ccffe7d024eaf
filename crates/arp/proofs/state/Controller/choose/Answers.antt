use Rattle.std.proofs.Common.{ap, ◌∙◌}
use Rattle.arp.specs.Choosing.{decided_on, first_half}
use Rattle.arp.proofs.state.Controller.choose.Goals as goal

pub returns : goal.returns
unfolding first_half
returns c = c.change.ensures ∙ ap (decided_on c.args.self) c.tell.ensures
