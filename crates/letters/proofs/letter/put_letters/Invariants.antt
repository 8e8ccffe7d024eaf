use Rattle.std.proofs.Common.{◌≡◌}
use Rattle.pieces.specs.Pieces.{below}
use Rattle.letters.specs.Letters.{letter_at}
use Rattle.writing.specs.Pages.{with_text}
use Rattle.letters.proofs.letter.put_letters.Given as goal

abbrev pub invariant-loop-x : goal.invariant-loop-x
invariant-loop-x l = l.page ≡ with_text l.initial.page (below (letter_at l.s) 0 l.x-index)
