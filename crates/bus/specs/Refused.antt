-- The answer of a refused run, in the scope's number and value.
use Rattle.std.specs.Prelude.{ℕ, Result, Ok, Err}
use Rattle.targets.specs.Numbers as targets
use Rattle.report.specs.Report.{refused_answer}
use Rattle.bindings.specs.declared.answer.ModelAnswer.{ModelAnswer}
use Rattle.bus.specs.declared.run.ModelError.{ModelError}
use Rattle.bus.specs.declared.run.ModelError.TheVariants.{LastPick, ShortBuffer, Targets}

abbrev pub error_number : ModelError → ℕ
error_number LastPick = 1
error_number ShortBuffer = 2
error_number (Targets e) = targets.error_number e

abbrev pub error_place : ModelError → ℕ
error_place LastPick = 0
error_place ShortBuffer = 0
error_place (Targets e) = targets.error_place e

-- a refusal has its number and place, and all else zero
abbrev pub answer_in : Result ModelAnswer ModelError → ModelAnswer
answer_in (Ok r) = r
answer_in (Err e) = refused_answer (error_number e) (error_place e)
