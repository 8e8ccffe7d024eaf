-- A line of the table in the words of the one definition over shapes: a valid message, the bytes that PEC covers, and its symbols with q in
-- PEC's place.
use Rattle.std.specs.Prelude.{◌≡◌, List, [], ℕ, ◌<◌}
use Rattle.trace.specs.Shapes.{protocols, shape_of}
use Rattle.trace.specs.Table.{Line}
use Rattle.trace.specs.Trace.{by_target, by_controller, bytes, Valid}

pub record Shaped (q : List ℕ) (x : Line) : Type 0 where
  pub known : x.protocol < protocols
  pub plain : x.protocol ≡ 0 → q ≡ []
  pub valid : Valid (shape_of x.protocol) x.message
  pub covers : x.covered ≡ bytes (shape_of x.protocol) x.message
  pub target : x.by_target ≡ by_target (shape_of x.protocol) x.message q
  pub controller : x.by_controller ≡ by_controller (shape_of x.protocol) x.message q
