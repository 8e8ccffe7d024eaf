-- The pool as a set of addresses: which it has, and the pools with one more, one fewer, and those of two. MemberLaws says what each
-- of them has.
use Rattle.std.specs.Prelude.{ℕ, ◌%◌, ◌^◌, ◌<◌, Bool, false, ltb}
use Rattle.std.specs.Int.Bits.{bit_or}
use Rattle.lists.specs.Choice.{pick}
use Rattle.pool.specs.Digits.{digit, plus, flip}
use Rattle.pool.specs.declared.Pool.{Pool}

-- both halves are numbers of 64 bits
pub record Fits (p : Pool) : Type 0 where
  pub low : p.low < 2 ^ 64
  pub high : p.high < 2 ^ 64

-- address a is in use: digit a of the low half, or digit a - 64 of the high one
unfoldable pub member : Pool → ℕ → Bool
member p a = pick (ltb a 64) (digit p.low (a % 64)) (pick (ltb a 128) (digit p.high (a % 64)) false)

-- the pool with a in use
unfoldable pub with_address : Pool → ℕ → Pool
with_address p a =
    pick (ltb a 64) (record { low = plus p.low (a % 64); high = p.high })
    (pick (ltb a 128) (record { low = p.low; high = plus p.high (a % 64) }) p)

-- the pool with a free
unfoldable pub without_address : Pool → ℕ → Pool
without_address p a =
    pick (member p a)
    (pick (ltb a 64) (record { low = flip p.low (a % 64); high = p.high }) (record { low = p.low; high = flip p.high (a % 64) }))
    p

-- those in use in either
unfoldable pub union_of : Pool → Pool → Pool
union_of p q = record { low = bit_or p.low q.low; high = bit_or p.high q.high }

-- the pool of two halves
abbrev pub pool : ℕ → ℕ → Pool
pool l h = record { low = l; high = h }
