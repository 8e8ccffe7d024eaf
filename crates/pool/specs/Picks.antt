-- A run of picks: each from a pool of its own, and after the one before it.
use Rattle.std.specs.Prelude.{ℕ, ◌≡◌, false, List, [], ◌∷◌, ◌⊎◌, Some}
use Rattle.pool.specs.NextFree.{next_free}
use Rattle.pool.specs.Pools.{member}
use Rattle.pool.specs.declared.Pool.{Pool}

-- the pool that was picked from, and the address that was picked
pub record Pick : Type 0 where
  pub pool : Pool
  pub at : ℕ

-- each address is the next free one of its pool, the first after last, and each other after the one before it
unfoldable pub Picks : ℕ → List Pick → Type 0
Picks last [] = Unit
Picks last (x ∷ xs) = (next_free x.pool last ≡ Some (record { 0 = x.at })) × Picks x.at xs

-- b was free at each of these picks
unfoldable pub FreeAtEach : ℕ → List Pick → Type 0
FreeAtEach b [] = Unit
FreeAtEach b (x ∷ xs) = (member x.pool b ≡ false) × FreeAtEach b xs

-- b is one of the addresses picked
unfoldable pub Picked : ℕ → List Pick → Type 0
Picked b [] = ⊥
Picked b (x ∷ xs) = (x.at ≡ b) ⊎ Picked b xs

-- the address of the latest of these picks; with none, what it was before them
unfoldable pub latest_of : ℕ → List Pick → ℕ
latest_of last [] = last
latest_of last (x ∷ xs) = latest_of x.at xs
