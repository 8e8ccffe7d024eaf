-- A trace is its pieces, joined.
use Rattle.std.specs.Prelude.{◌≡◌, List, [], ◌∷◌, ◌++◌, ℕ}
use Rattle.std.proofs.Common.{append_assoc}
use Rattle.lists.specs.Choice.{pick}
use Rattle.trace.specs.declared.shape.Shape.{Shape}
use Rattle.trace.specs.Trace.{Message, laid, acked, first_byte, trace_at}
use Rattle.scan.specs.Joined.{joined}

pub trace_joined : (sh : Shape) (t : Message) (q : List ℕ) → trace_at sh t q ≡ joined sh (first_byte sh t) t.command t.sent t.received q
trace_joined sh t q = rw (append_assoc (acked (pick sh.command (t.command ∷ []) [] ++ laid sh.sent t.sent)))
