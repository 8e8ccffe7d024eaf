use Rattle.arp.proofs.next.choice_for.Goals as goal

pub returns-then-direct : goal.returns-then-direct
returns-then-direct c = simp c.if-direct.true

pub returns-else-direct : goal.returns-else-direct
returns-else-direct c = simp c.if-direct.false
