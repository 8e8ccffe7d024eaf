-- Where a PEC stands: it is the third symbol from the end, before its ACK or NACK and the STOP.
use Rattle.std.specs.Prelude.{◌≡◌, List, [], ◌∷◌, ◌++◌, ℕ}

-- what stands before it, and what it gets
pub record Third (tr : List ℕ) (y : ℕ) : Type 0 where
  pub before : List ℕ
  pub gets : ℕ
  pub is : tr ≡ before ++ y ∷ gets ∷ 257 ∷ []
