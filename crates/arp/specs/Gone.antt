-- The report that the module at an address is gone.
use Rattle.std.specs.Prelude.{ℕ, Bool, true, false}
use Rattle.lists.specs.Choice.{pick}
use Rattle.slots.specs.declared.Binding.TheVariants as binding
use Rattle.arp.specs.Bindings.{vacated}
use Rattle.arp.specs.Lookup.{looked_up}
use Rattle.arp.specs.declared.gone.Reported.{Reported}
use Rattle.arp.specs.declared.lookup.Found.{Found}
use Rattle.arp.specs.declared.lookup.Found.TheVariants.{Bound, Nobody, Two, Left, NoAddress}
use Rattle.arp.specs.declared.state.Controller.{Controller}

abbrev pub left_at : Controller → ℕ → Controller
left_at s a = vacated s a binding.Left

-- a lookup found a target that is bound
abbrev pub is_bound_target : Found → Bool
is_bound_target (Bound u) = true
is_bound_target Nobody = false
is_bound_target Two = false
is_bound_target Left = false
is_bound_target NoAddress = false

-- a report is answered as a lookup of the address is; where no target is bound, nothing changes
unfoldable pub reported : Controller → ℕ → Reported
reported s a = record { state = pick (is_bound_target (looked_up s a)) (left_at s a) s; found = looked_up s a }
