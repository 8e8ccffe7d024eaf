-- What the model run answers, and leaves in the lent records and the binding buffer.
use Rattle.std.specs.Prelude.{ℕ, ◌≡◌, List, ◌++◌, length, drop, ltb, Ok, Err}
use Rattle.lists.specs.Choice.{pick}
use Rattle.pool.specs.Start.{barred_pool}
use Rattle.pool.specs.declared.Pool.{Pool}
use Rattle.targets.specs.Numbers.{error_number, error_place}
use Rattle.targets.specs.Records.{targets_of, records_with}
use Rattle.targets.specs.Refusals.{checked_list}
use Rattle.targets.specs.Checked.{Checked}
use Rattle.bindings.specs.Entries.{buffer_of}
use Rattle.rule.specs.Bus.{World, pass}
use Rattle.report.specs.Report.{entry_at, refused_answer, reported}
use Rattle.bindings.specs.declared.answer.ModelAnswer.{ModelAnswer}

-- ---- the answer

-- the answer of a refusal, in the scope's number and value
abbrev pub Refused : Checked → ModelAnswer → Type 0
Refused (Ok tt) r = ⊥
Refused (Err e) r = r ≡ refused_answer (error_number e) (error_place e)

-- ---- the answer, the records and the binding buffer

pub record ModelEnd : Type 0 where
  pub answer : ModelAnswer
  pub records : List ℕ
  pub bindings : List ℕ

-- the answer given and what the lent lists hold then are those of the end e
pub record Leaves (e : ModelEnd) (r : ModelAnswer) (records bindings : List ℕ) : Type 0 where
  pub answered : r ≡ e.answer
  pub records_hold : records ≡ e.records
  pub bindings_hold : bindings ≡ e.bindings

-- a refusal changes nothing lent
abbrev pub refused_end : ℕ → ℕ → List ℕ → List ℕ → ModelEnd
refused_end n i s b = record { answer = refused_answer n i; records = s; bindings = b }

-- the records take each target's address byte and flag, and the buffer the bindings in its first 2,048 bytes
abbrev pub ended_end : World → List ℕ → List ℕ → ModelEnd
ended_end w s b = record {
  answer = reported w.now;
  records = records_with w.targets s;
  bindings = buffer_of (entry_at w.now.state.slots) ++ drop 2048 b;
}

-- 9, 10, 11, 12, or the pass
abbrev pub end_checked : Checked → Pool → ℕ → List ℕ → List ℕ → ModelEnd
end_checked (Ok tt) occupied last s b = ended_end (pass occupied last (targets_of s)) s b
end_checked (Err e) occupied last s b = refused_end (error_number e) (error_place e) s b

-- 2 comes before them
unfoldable pub run_end : Pool → ℕ → List ℕ → List ℕ → ModelEnd
run_end occupied last s b = pick (ltb (length b) 2048) (refused_end 2 0 s b) (end_checked (checked_list (barred_pool occupied) s) occupied last s b)

-- and 1 before all: the last pick is above 127
unfoldable pub model_end : Pool → ℕ → List ℕ → List ℕ → ModelEnd
model_end occupied last s b = pick (ltb 127 last) (refused_end 1 0 s b) (run_end occupied last s b)
