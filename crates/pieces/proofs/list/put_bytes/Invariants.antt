use Rattle.std.proofs.Common.{◌≡◌}
use Rattle.pieces.specs.Pieces.{below, byte_text}
use Rattle.writing.specs.Pages.{with_text}
use Rattle.pieces.proofs.list.put_bytes.Given as goal

abbrev pub invariant-loop-b : goal.invariant-loop-b
invariant-loop-b l = l.page ≡ with_text l.initial.page (below (byte_text l.s) 0 l.b-index)
