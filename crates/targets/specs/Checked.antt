-- What the check of a target list answers: `Ok tt` where the list is admitted, or why it is refused.
use Rattle.std.specs.Prelude.{Result}
use Rattle.targets.specs.declared.admit.ListError.{ListError}

abbrev pub Checked : Type 0
Checked = Result Unit ListError
