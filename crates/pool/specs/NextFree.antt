-- The first free address after the last one picked, going from 7Fh round to 00h.
use Rattle.std.specs.Prelude.{ℕ, suc, ◌+◌, ◌-◌, ◌%◌, ◌<◌, ◌≤◌, ◌≡◌, false, Option}
use Rattle.std.specs.Option.{option_or}
use Rattle.pool.specs.Free.{free_from, lowest_free}
use Rattle.pool.specs.Pools.{member}
use Rattle.pool.specs.declared.Pool.{Pool}
use Rattle.wire.specs.declared.address.Address.{Address}

-- the first free one of those above last, up to 7Fh; else the lowest of all. After 127, and after any number above it, it is the lowest
unfoldable pub next_free : Pool → ℕ → Option Address
next_free p last = option_or (free_from p (127 - last) (suc last)) (lowest_free p)

-- a is free, and of all free addresses it has the least distance from l on round the circle: 0 is the one after l, 127 is l itself
pub record Next (p : Pool) (l a : ℕ) : Type 0 where
  pub small : a < 128
  pub free : member p a ≡ false
  pub nearest : (b : ℕ) → b < 128 → member p b ≡ false → (a + 127 - l) % 128 ≤ (b + 127 - l) % 128
