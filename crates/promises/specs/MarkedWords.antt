-- The words of the marked cases: a record of the model, and what a run shows.
use Rattle.std.specs.Prelude.{◌≡◌, List, [], ◌∷◌, ◌++◌, ℕ, ◌*◌, take, drop, replicate}
use Rattle.bus.specs.Run.{ModelEnd}
use Rattle.bindings.specs.declared.answer.ModelAnswer.{ModelAnswer}

-- the identifier that begins with this byte and ends with 1; a record: identifier, address byte, flag
abbrev pub identifier : ℕ → List ℕ
identifier first = first ∷ replicate 14 0 ++ 1 ∷ []

abbrev pub holding : ℕ → ℕ → ℕ → List ℕ
holding first byte flag = identifier first ++ byte ∷ flag ∷ []

-- the 16 bytes of some addresses in the binding buffer, one after another
abbrev pub windows : List ℕ → List ℕ → List ℕ
windows l [] = []
windows l (a ∷ as') = take 16 (drop (16 * a) l) ++ windows l as'

-- a run's answer, the records after it, and what stands at some addresses
abbrev pub Shows : ModelEnd → ModelAnswer → List ℕ → List ℕ → List ℕ → Type 0
Shows e r records places bytes = (e.answer ≡ r) × (e.records ≡ records) × (windows e.bindings places ≡ bytes)
