use Rattle.std.proofs.Common.{◌≡◌}
use Rattle.pieces.specs.Pieces.{below, symbol_text}
use Rattle.writing.specs.Pages.{with_text}
use Rattle.pieces.proofs.list.put_symbols.Given as goal

abbrev pub invariant-loop-x : goal.invariant-loop-x
invariant-loop-x l = l.page ≡ with_text l.initial.page (below (symbol_text l.s) 0 l.x-index)
