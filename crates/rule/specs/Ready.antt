-- What the plain rule needs of the targets that are left to serve, in ascending order, of the pool, and of the addresses that are shut: the
-- barred ones, and those given so far.
use Rattle.std.specs.Prelude.{ℕ, ◌/◌, ◌<◌, ◌≡◌, true, false, List}
use Rattle.pool.specs.Pools.{member}
use Rattle.pool.specs.declared.Pool.{Pool}
use Rattle.udid.specs.Udids.{is_fixed, value}
use Rattle.arbitration.specs.Among.{Among}
use Rattle.targets.specs.Members.{Pairs}
use Rattle.targets.specs.Target.{Target, Sized}

-- the first has the lower identifier
abbrev pub Lower : Target → Target → Type 0
Lower r t = value r.udid < value t.udid

-- the first comes before the second, and where both are fixed they stand at different addresses
pub record Apart (r t : Target) : Type 0 where
  pub lower : value r.udid < value t.udid
  pub elsewhere : is_fixed r.udid ≡ true → is_fixed t.udid ≡ true → r.address_byte / 2 ≡ t.address_byte / 2 → ⊥

pub record Ready (p shut : Pool) (rest : List Target) : Type 0 where
  pub apart : Pairs Apart rest
  pub sized : (t : Target) → Among t rest → Sized t
  -- a fixed target stands where it is not shut, be it in the pool or not
  pub fixed_free : (t : Target) → Among t rest → is_fixed t.udid ≡ true → member shut (t.address_byte / 2) ≡ false
  -- what is shut is in the pool, and 7Fh is shut
  pub within : (a : ℕ) → member shut a ≡ true → member p a ≡ true
  pub last_shut : member shut 127 ≡ true
