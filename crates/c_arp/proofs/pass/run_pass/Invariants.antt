use Rattle.std.proofs.Common.{length}
use Rattle.c_arp.specs.Pass.{entries_in, steps_over}
use Rattle.c_arp.proofs.PassLaws.{Leads}
use Rattle.c_arp.proofs.pass.run_pass.Given as goal

abbrev pub invariant-loop-entry : goal.invariant-loop-entry
invariant-loop-entry l = Leads l.rest (steps_over l.initial.st (entries_in (length l.initial.rest) l.initial.rest)) l.st

abbrev pub decreases-loop-entry : goal.decreases-loop-entry
decreases-loop-entry l = length l.rest
