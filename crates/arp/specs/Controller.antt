-- What the controller does, as the scope says it.
use Rattle.std.specs.Prelude.{ℕ, ◌+◌, Bool, List, ltb, leb, Option, Some, None}
use Rattle.lists.specs.Choice.{pick}
use Rattle.pool.specs.Start.{starting_pool}
use Rattle.pool.specs.declared.Pool.{Pool}
use Rattle.udid.specs.declared.Udid.{Udid}
use Rattle.picking.specs.Picking.{has_to_pick, chosen}
use Rattle.arp.specs.Bindings.{freed, bound}
use Rattle.slots.specs.Slots.{no_bindings}
use Rattle.arp.specs.State.{state_of, with_pool, with_slots, with_gets, with_last, with_picked}
use Rattle.hearing.specs.Told.{tells}
use Rattle.commands.specs.declared.command.Command.TheVariants.{Prepare, GetUdid, Assign}
use Rattle.commands.specs.declared.command.End.TheVariants.{Nothing, Ended, NoneFree, Abandoned, NotOutstanding}
use Rattle.commands.specs.declared.command.Handed.{Handed}
use Rattle.commands.specs.declared.command.Handed.TheVariants.{Send, Wait}
use Rattle.arp.specs.declared.state.Controller.{Controller}
use Rattle.arp.specs.declared.state.Stepped.{Stepped}
use Rattle.hearing.specs.declared.told.Told.{Told}
use Rattle.hearing.specs.declared.told.Told.TheVariants.{Again, Over, GivenUp, Reply, Took, Unasked}
use Rattle.wire.specs.declared.address.Address.{Address}

-- the last pick that a controller is made with: a number above 127 counts as 127, never picked
unfoldable pub last_pick : ℕ → ℕ
last_pick last = pick (ltb 127 last) 127 last

-- made with these addresses occupied, and this last pick
abbrev pub new_controller : Pool → ℕ → Controller
new_controller occupied last = state_of (last_pick last) occupied (starting_pool occupied) no_bindings 0 (Wait Nothing)

-- the state with k handed out
abbrev pub handed : Controller → Handed → Stepped
handed s k = record { state = with_last s k; command = k }

-- starting a pass empties all bindings, claims and what is left, and sets the pool back to the starting pool; the last pick stays
abbrev pub started : Controller → Stepped
started s = handed (with_gets (with_slots (with_pool s (starting_pool s.occupied)) no_bindings) 0) (Send Prepare)

-- one Get UDID more is counted
abbrev pub counted : Controller → Controller
counted s = with_gets s (s.gets + 1)

-- Get UDID; when it would be the 129th of the pass: 14
unfoldable pub asked : Controller → Stepped
asked s = pick (leb 128 s.gets) (handed s (Wait Abandoned)) (handed (counted s) (Send GetUdid))

-- none free: 13 with the UDID that asked. Then Assign Address; if its address was picked it is the last pick from now on
abbrev pub issued : Controller → Udid → Bool → Option Address → Stepped
issued s u picks (Some a) = handed (with_picked s (pick picks a.0 s.picked)) (Send (Assign u a))
issued s u picks None = handed s (Wait (NoneFree u))

-- a reply with a UDID already bound first unbinds it and frees its address; then an address is chosen
unfoldable pub replied : Controller → Udid → ℕ → Stepped
replied s u b = issued (freed s u) u (has_to_pick (freed s u).pool u b) (chosen (freed s u).pool (freed s u).picked u b)

-- 21: no command of a pass is outstanding, and the state stays as it is
abbrev pub not_outstanding : Controller → Stepped
not_outstanding s = record { state = s; command = Wait NotOutstanding }

-- what is told changes the state, and names what comes next
abbrev pub changed : Controller → Told → Stepped
changed s Again = asked s
changed s Over = handed s (Wait Ended)
changed s GivenUp = handed s (Wait Abandoned)
changed s (Reply u b) = replied s u b
changed s (Took u a) = asked (bound s u a.0)
changed s Unasked = not_outstanding s

-- one step for a received trace: what it tells of the command outstanding, then what that changes
unfoldable pub stepped : Controller → List ℕ → Stepped
stepped s tr = changed s (tells s.last tr)
