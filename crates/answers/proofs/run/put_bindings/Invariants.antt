use Rattle.std.proofs.Common.{◌≡◌}
use Rattle.pieces.specs.Pieces.{below}
use Rattle.answers.specs.Runs.{address_text}
use Rattle.writing.specs.Pages.{with_text}
use Rattle.answers.proofs.run.put_bindings.Given as goal

abbrev pub invariant-loop-a : goal.invariant-loop-a
invariant-loop-a l = l.page ≡ with_text l.initial.page (below (address_text l.bound l.bindings) 0 l.a)
