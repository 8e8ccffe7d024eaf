-- How many addresses are in use, and the lowest that is free.
use Rattle.std.specs.Prelude.{ℕ, zero, suc, ◌<◌, ◌≡◌, true, false, Option, Some, None}
use Rattle.lists.specs.Choice.{pick}
use Rattle.wire.specs.declared.address.Address.{Address}
use Rattle.pool.specs.Counts.{count}
use Rattle.pool.specs.Pools.{member}
use Rattle.pool.specs.declared.Pool.{Pool}

-- of the 128 addresses, those in use, counted
unfoldable pub used : Pool → ℕ
used p = count (member p) 128

-- the first free one of the n addresses from a on
unfoldable pub free_from : Pool → ℕ → ℕ → Option Address
free_from p zero a = None
free_from p (suc n) a = pick (member p a) (free_from p n (suc a)) (Some (record { 0 = a }))

abbrev pub lowest_free : Pool → Option Address
lowest_free p = free_from p 128 0

-- a is free, and all below it are in use
pub record Lowest (p : Pool) (a : ℕ) : Type 0 where
  pub small : a < 128
  pub free : member p a ≡ false
  pub below : (b : ℕ) → b < a → member p b ≡ true

-- the address of a number
abbrev pub address : ℕ → Address
address a = record { 0 = a }
