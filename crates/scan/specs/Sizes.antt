-- The data that an answer hands over lie inside the trace, and are at most 255 bytes.
use Rattle.std.specs.Prelude.{Bool, List, ℕ, ◌+◌, ◌*◌, ◌≤◌, ◌<◌, length}
use Rattle.trace.specs.declared.shape.Shape.{Shape}
use Rattle.scan.specs.Decoded.{Decoded}
use Rattle.scan.specs.Handed.{sent_length, received_length, sent_place, received_place}

pub record Sizes (sh : Shape) (p : Bool) (tr : List ℕ) (a : Decoded) : Type 0 where
  pub sent : (j : ℕ) → j < sent_length a → sent_place sh + 2 * j < length tr
  pub received : (j : ℕ) → j < received_length a → received_place p (received_length a) (length tr) + 2 * j < length tr
  pub sent_small : sent_length a ≤ 255
  pub received_small : received_length a ≤ 255
