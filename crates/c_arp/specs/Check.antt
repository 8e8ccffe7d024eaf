-- The check of a target list for C.
use Rattle.std.specs.Prelude.{ℕ}
use Rattle.targets.specs.Numbers.{answer_of}
use Rattle.targets.specs.Checked.{Checked}
use Rattle.c_arp.specs.declared.check.HbChecked.{HbChecked}

abbrev pub checked_of : ℕ → ℕ → HbChecked
checked_of n i = record { answer = n; place = i }

-- the scope's number and value
abbrev pub told_checked : Checked → HbChecked
told_checked c = checked_of (answer_of c).number (answer_of c).value
