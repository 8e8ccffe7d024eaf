-- When an address that is given to a target is claimed by two.
use Rattle.std.specs.Prelude.{ℕ, Bool, true, false}
use Rattle.lists.specs.Choice.{pick, or}
use Rattle.pool.specs.Pools.{member}
use Rattle.pool.specs.Start.{barred_pool}
use Rattle.pool.specs.declared.Pool.{Pool}
use Rattle.udid.specs.declared.Udid.{Udid}
use Rattle.slots.specs.declared.Binding.{Binding}
use Rattle.slots.specs.declared.Binding.TheVariants.{Open, Bound, Claimed, Left}

-- a target is bound there, or two claim it
abbrev pub is_held : Binding → Bool
is_held Open = false
is_held (Bound u) = true
is_held Claimed = true
is_held Left = false

-- an Assign of the address a, known for h, makes a claim when it completes: a is barred, or a target is bound there, or two claim it already
abbrev pub makes_claim : Pool → Binding → ℕ → Bool
makes_claim occupied h a = or (member (barred_pool occupied) a) (is_held h)

-- what an address is known for after an Assign that completed: claimed by two where it was taken
abbrev pub binding_for : Bool → Udid → Binding
binding_for taken u = pick taken Claimed (Bound u)
