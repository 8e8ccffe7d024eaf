use Rattle.c_arp.proofs.PassLaws.{begins_step, begins_half}
use Rattle.c_arp.proofs.entry.next_entry.Goals as goal

pub returns-in_ok-symbols-in-Count : goal.returns-in_ok-symbols-in-Count
returns-in_ok-symbols-in-Count c = begins_step c.args.bytes.now _ _ _ _ c.in_ok-first.ensures c.in-Count.ensures c.in_ok-symbols-in-Count.ensures

pub returns-in_ok-symbols-in-Choose : goal.returns-in_ok-symbols-in-Choose
returns-in_ok-symbols-in-Choose c =
    begins_half c.args.bytes.now _ _ _ _ _ _ c.in_ok-first.ensures c.in-Choose.ensures
    c.in_ok-count-in-Choose.ensures c.if-count-gt65531.false c.in_ok-symbols-in-Choose.ensures
