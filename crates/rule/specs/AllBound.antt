-- How many targets are movable, and how many addresses the fixed ones leave free.
use Rattle.std.specs.Prelude.{ℕ, suc, ◌-◌, ◌/◌, List, [], ◌∷◌}
use Rattle.lists.specs.Choice.{pick}
use Rattle.pool.specs.Free.{used}
use Rattle.pool.specs.Pools.{with_address}
use Rattle.pool.specs.declared.Pool.{Pool}
use Rattle.udid.specs.Udids.{is_fixed}
use Rattle.targets.specs.Target.{Target}

-- how many targets are movable
abbrev pub movable : List Target → ℕ
movable [] = 0
movable (t ∷ ts) = pick (is_fixed t.udid) (movable ts) (suc (movable ts))

-- the pool with the addresses of the fixed targets
abbrev pub with_fixed : Pool → List Target → Pool
with_fixed p [] = p
with_fixed p (t ∷ ts) = pick (is_fixed t.udid) (with_fixed (with_address p (t.address_byte / 2)) ts) (with_fixed p ts)

-- how many addresses the fixed targets leave free
abbrev pub left_free : Pool → List Target → ℕ
left_free p ts = 128 - used (with_fixed p ts)
