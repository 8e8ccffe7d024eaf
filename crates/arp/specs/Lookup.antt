-- The lookup by address, in the present pass.
use Rattle.std.specs.Prelude.{ℕ, ltb}
use Rattle.lists.specs.Choice.{pick}
use Rattle.slots.specs.Slots.{held_at}
use Rattle.arp.specs.declared.lookup.Found.{Found}
use Rattle.arp.specs.declared.lookup.Found.TheVariants.{Bound, Nobody, Two, Left, NoAddress}
use Rattle.slots.specs.declared.Binding.{Binding}
use Rattle.slots.specs.declared.Binding.TheVariants as binding
use Rattle.arp.specs.declared.state.Controller.{Controller}

abbrev pub seen : Binding → Found
seen binding.Open = Nobody
seen (binding.Bound u) = Bound u
seen binding.Claimed = Two
seen binding.Left = Left

-- an address above 127 is none
abbrev pub looked_up : Controller → ℕ → Found
looked_up s a = pick (ltb 127 a) NoAddress (seen (held_at s.slots a))
