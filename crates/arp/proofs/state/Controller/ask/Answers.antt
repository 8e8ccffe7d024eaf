use Rattle.std.proofs.Common.{arith, le-leb}
use Rattle.std.proofs.lemmas.Bool.{lt-leb}
use Rattle.arp.specs.Controller.{asked}
use Rattle.arp.proofs.state.Controller.ask.Goals as goal

pub returns-then-self-ge128 : goal.returns-then-self-ge128
unfolding asked
returns-then-self-ge128 c = simp (le-leb 128 c.args.self.gets (omega arith)) c.hand.ensures

pub returns : goal.returns
unfolding asked
returns c = simp (lt-leb 128 c.args.self.gets (omega arith)) c.hand-2.ensures
