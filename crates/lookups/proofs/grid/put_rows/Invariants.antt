use Rattle.std.proofs.Common.{◌≡◌}
use Rattle.pieces.specs.Pieces.{below}
use Rattle.lookups.specs.Grids.{row_at}
use Rattle.writing.specs.Pages.{with_text}
use Rattle.lookups.proofs.grid.put_rows.Given as goal

abbrev pub invariant-loop-row : goal.invariant-loop-row
invariant-loop-row l = l.page ≡ with_text l.initial.page (below (row_at l.c) 0 l.row)
