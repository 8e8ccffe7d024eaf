use Rattle.std.proofs.Common.{lt-ltb, le-ltb}
use Rattle.arp.specs.Bindings.{bound}
use Rattle.arp.proofs.state.Controller.bind.Goals as goal

pub returns-then-a-gt127 : goal.returns-then-a-gt127
unfolding bound
returns-then-a-gt127 c = simp (lt-ltb _ _ c.if-a-gt127.true)

pub returns : goal.returns
unfolding bound
returns c = simp (le-ltb _ _ c.if-a-gt127.false, c.with-self.ensures, c.put-self.ensures, c.binding_for.ensures, c.makes_claim-taken.ensures, c.held_at.ensures)
