-- Which address a target gets, and why, as the scope says it.
use Rattle.std.specs.Prelude.{ℕ, ◌/◌, Bool, true, false, eqb, Option, Some}
use Rattle.lists.specs.Choice.{pick}
use Rattle.wire.specs.declared.address.Address.{Address}
use Rattle.pool.specs.NextFree.{next_free}
use Rattle.pool.specs.Pools.{member}
use Rattle.pool.specs.declared.Pool.{Pool}
use Rattle.udid.specs.Udids.{is_fixed}
use Rattle.udid.specs.declared.Udid.{Udid}
use Rattle.commands.specs.declared.command.Reason.{Reason}
use Rattle.commands.specs.declared.command.Reason.TheVariants.{Fixed, Kept, Picked, Claimed}

-- the address in a reply's address byte: its upper seven bits
abbrev pub own_address : ℕ → Address
own_address b = record { 0 = b / 2 }

-- FFh: a free address is picked. Else fixed: its own. Else movable: its own if not in the pool, otherwise a free one is picked
unfoldable pub has_to_pick : Pool → Udid → ℕ → Bool
has_to_pick p u b = pick (eqb b 0xFF) true (pick (is_fixed u) false (member p (b / 2)))

-- picked is the first free address after the last one picked
unfoldable pub chosen : Pool → ℕ → Udid → ℕ → Option Address
chosen p last u b = pick (has_to_pick p u b) (next_free p last) (Some (own_address b))

-- claimed by two if it is taken, whatever else; then picked; then a fixed target's own, or a movable one's
abbrev pub reason_of : Bool → Bool → Bool → Reason
reason_of taken picks fixed = pick taken Claimed (pick picks Picked (pick fixed Fixed Kept))
