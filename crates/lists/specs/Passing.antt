-- The numbers of a range that pass a test.
use Rattle.std.specs.Prelude.{Bool, List, [], ◌∷◌, ℕ, zero, suc}
use Rattle.lists.specs.Choice.{pick}

-- the numbers from a on, n of them, that pass a test, in ascending order
unfoldable pub passing : (ℕ → Bool) → ℕ → ℕ → List ℕ
passing test a zero = []
passing test a (suc n) = pick (test a) (a ∷ passing test (suc a) n) (passing test (suc a) n)
