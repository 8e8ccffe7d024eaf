use Rattle.std.proofs.Common.{◌≡◌}
use Rattle.pieces.specs.Pieces.{below}
use Rattle.lookups.specs.Grids.{cell_at}
use Rattle.writing.specs.Pages.{with_text}
use Rattle.lookups.proofs.grid.put_cells.Given as goal

abbrev pub invariant-loop-k : goal.invariant-loop-k
invariant-loop-k l = l.page ≡ with_text l.initial.page (below (cell_at l.c l.first) 0 l.k)
