use Rattle.std.proofs.Common.{◌≡◌}
use Rattle.pieces.specs.Pieces.{below}
use Rattle.answers.specs.Runs.{record_text}
use Rattle.writing.specs.Pages.{with_text}
use Rattle.answers.proofs.run.put_records.Given as goal

abbrev pub invariant-loop-i : goal.invariant-loop-i
invariant-loop-i l = l.page ≡ with_text l.initial.page (below (record_text l.records) 0 l.i)
