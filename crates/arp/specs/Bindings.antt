-- The bindings: the state with a target unbound, and with it bound.
use Rattle.std.specs.Prelude.{ℕ, ltb}
use Rattle.lists.specs.Choice.{pick}
use Rattle.pool.specs.Pools.{member, with_address, without_address}
use Rattle.pool.specs.Start.{starting_pool}
use Rattle.udid.specs.declared.Udid.{Udid}
use Rattle.picking.specs.Claims.{makes_claim, binding_for}
use Rattle.slots.specs.Slots.{held_at, with_binding}
use Rattle.arp.specs.State.{with_pool, with_slots}
use Rattle.slots.specs.Finding.{find_from}
use Rattle.slots.specs.declared.Binding.{Binding}
use Rattle.slots.specs.declared.Binding.TheVariants.{Open}
use Rattle.arp.specs.declared.state.Controller.{Controller}

-- nobody is bound to the address a any more, and it is known for h; it is out of the pool then, unless the starting pool has it
abbrev pub vacated : Controller → ℕ → Binding → Controller
vacated s a h = with_pool (with_slots s (with_binding s.slots a h)) (pick (member (starting_pool s.occupied) a) s.pool (without_address s.pool a))

abbrev pub freed_at : Controller → ℕ → Controller
freed_at s a = vacated s a Open

-- u is unbound and its address vacated; as it was where u is not bound
unfoldable pub freed : Controller → Udid → Controller
freed s u = pick (ltb 127 (find_from u s.slots 128 0)) s (freed_at s (find_from u s.slots 128 0))

-- u is bound to a, or a is claimed; a is in the pool then
abbrev pub bound_at : Controller → Udid → ℕ → Controller
bound_at s u a = with_pool (with_slots s (with_binding s.slots a (binding_for (makes_claim s.occupied (held_at s.slots a) a) u))) (with_address s.pool a)

-- a number above 127 is no address: nothing is bound
unfoldable pub bound : Controller → Udid → ℕ → Controller
bound s u a = pick (ltb 127 a) s (bound_at s u a)
