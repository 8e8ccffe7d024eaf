-- A trace joined from its pieces: START, the first address byte, what is sent, and what follows the write phase.
use Rattle.std.specs.Prelude.{Bool, List, [], ◌∷◌, ◌++◌, ℕ, ◌+◌}
use Rattle.lists.specs.Choice.{pick}
use Rattle.wire.specs.Symbols.{START, STOP, ACK}
use Rattle.trace.specs.declared.shape.Part.{Part}
use Rattle.trace.specs.declared.shape.Shape.{Shape}
use Rattle.trace.specs.Shapes.{some, writes}
use Rattle.trace.specs.Trace.{laid, acked, nacked}

-- what follows the write phase; b is the address byte for reading
abbrev pub after : Part → Bool → ℕ → List ℕ → List ℕ → List ℕ
after a w b r q = pick (some a) (pick w (START ∷ b ∷ ACK ∷ []) []) (acked q) ++ (pick (some a) (nacked (laid a r ++ q)) [] ++ STOP ∷ [])

-- f is the first address byte, c the command, s and r the data, q what stands in PEC's place
abbrev pub joined : Shape → ℕ → ℕ → List ℕ → List ℕ → List ℕ → List ℕ
joined sh f c s r q = START ∷ f ∷ ACK ∷ (acked (pick sh.command (c ∷ []) [] ++ laid sh.sent s) ++ after sh.received (writes sh) (f + 1) r q)
