use Rattle.targets.specs.Refusals.{checked_list}
use Rattle.targets.proofs.admit.check.Goals as goal

pub returns-then-is_bad_length : goal.returns-then-is_bad_length
unfolding checked_list
returns-then-is_bad_length c = simp (← c.is_bad_length.ensures, c.if-is_bad_length.true)

pub returns : goal.returns
unfolding checked_list
returns c = simp (← c.is_bad_length.ensures, c.if-is_bad_length.false, c.among_records.ensures, c.barred-barred.ensures)
