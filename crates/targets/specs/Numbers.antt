-- The scope's number and value for each answer of the check. A value that the scope does not give is zero.
use Rattle.std.specs.Prelude.{ℕ, Ok, Err}
use Rattle.targets.specs.Checked.{Checked}
use Rattle.targets.specs.declared.admit.ListError.{ListError}
use Rattle.targets.specs.declared.admit.ListError.TheVariants.{BadLength, Malformed, Repeated, Taken}

pub record Answer : Type 0 where
  pub number : ℕ
  pub value : ℕ

-- 9; 10, 11 and 12 with the record; 0 where the list is not refused
abbrev pub error_number : ListError → ℕ
error_number BadLength = 9
error_number (Malformed i) = 10
error_number (Repeated i) = 11
error_number (Taken i) = 12

abbrev pub error_place : ListError → ℕ
error_place BadLength = 0
error_place (Malformed i) = i
error_place (Repeated i) = i
error_place (Taken i) = i

abbrev pub answer_of : Checked → Answer
answer_of (Ok tt) = record { number = 0; value = 0 }
answer_of (Err e) = record { number = error_number e; value = error_place e }
