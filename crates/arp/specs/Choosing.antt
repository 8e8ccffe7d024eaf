-- The step in two halves: an address is chosen, with the reason; then the choice is issued or declined.
use Rattle.std.specs.Prelude.{ℕ, Bool, List, [], ◌∷◌, Option, Some, None}
use Rattle.lists.specs.Choice.{pick}
use Rattle.udid.specs.Udids.{is_fixed}
use Rattle.udid.specs.declared.Udid.{Udid}
use Rattle.slots.specs.Slots.{held_at}
use Rattle.hearing.specs.Told.{tells}
use Rattle.hearing.specs.declared.told.Told.{Told}
use Rattle.hearing.specs.declared.told.Told.TheVariants.{Again, Over, GivenUp, Reply, Took, Unasked}
use Rattle.commands.specs.declared.command.Command.TheVariants.{Assign}
use Rattle.commands.specs.declared.command.End.TheVariants.{Ended, NoneFree, Abandoned, Chosen}
use Rattle.commands.specs.declared.command.Handed.{Handed}
use Rattle.commands.specs.declared.command.Handed.TheVariants.{Send, Wait}
use Rattle.commands.specs.declared.command.Reason.{Reason}
use Rattle.arp.specs.Bindings.{freed, bound}
use Rattle.picking.specs.Claims.{makes_claim}
use Rattle.arp.specs.Controller.{handed, asked, not_outstanding, stepped}
use Rattle.commands.specs.Choices.{choice_in}
use Rattle.picking.specs.Picking.{has_to_pick, chosen, reason_of}
use Rattle.arp.specs.State.{with_picked}
use Rattle.arp.specs.declared.state.Controller.{Controller}
use Rattle.arp.specs.declared.state.Stepped.{Stepped}
use Rattle.wire.specs.declared.address.Address.{Address}

-- ---- the first half

-- why the address a is chosen for u, which is bound nowhere: it is taken if the Assign, completed now, would make a claim
abbrev pub reason_for : Controller → Udid → Bool → ℕ → Reason
reason_for s u picks a = reason_of (makes_claim s.occupied (held_at s.slots a) a) picks (is_fixed u)

-- none free: 13 with the UDID that asked. Else the choice waits; if its address was picked it is the last pick from now on
abbrev pub waiting_with : Controller → Udid → Bool → Option Address → Stepped
waiting_with s u picks (Some a) = handed (with_picked s (pick picks a.0 s.picked)) (Wait (Chosen u a (reason_for s u picks a.0)))
waiting_with s u picks None = handed s (Wait (NoneFree u))

-- a reply with a UDID already bound first unbinds it and frees its address; then an address is chosen
unfoldable pub decided : Controller → Udid → ℕ → Stepped
decided s u b = waiting_with (freed s u) u (has_to_pick (freed s u).pool u b) (chosen (freed s u).pool (freed s u).picked u b)

-- what is told changes the state, and names what comes next, or the choice that waits
abbrev pub decided_on : Controller → Told → Stepped
decided_on s Again = asked s
decided_on s Over = handed s (Wait Ended)
decided_on s GivenUp = handed s (Wait Abandoned)
decided_on s (Reply u b) = decided s u b
decided_on s (Took u a) = asked (bound s u a.0)
decided_on s Unasked = not_outstanding s

-- for a received trace: what it tells of the command outstanding, then what that changes
unfoldable pub first_half : Controller → List ℕ → Stepped
first_half s tr = decided_on s (tells s.last tr)

-- ---- the second half

-- Assign Address goes out; with no choice: 21
abbrev pub issued_for : Controller → Option (Udid × Address) → Stepped
issued_for s (Some (u, a)) = handed s (Send (Assign u a))
issued_for s None = not_outstanding s

unfoldable pub issuing : Controller → Stepped
issuing s = issued_for s (choice_in s.last)

-- the pass ends with 14; with no choice: 21
abbrev pub declined_for : Controller → Option (Udid × Address) → Stepped
declined_for s (Some (u, a)) = handed s (Wait Abandoned)
declined_for s None = not_outstanding s

unfoldable pub declining : Controller → Stepped
declining s = declined_for s (choice_in s.last)

-- ---- both

abbrev pub carried_for : Stepped → Option (Udid × Address) → Stepped
carried_for r (Some (u, a)) = issuing r.state
carried_for r None = r

-- where the first half has handed out a choice, it is issued
abbrev pub carried_on : Stepped → Stepped
carried_on r = carried_for r (choice_in r.command)

abbrev pub sending_for : Handed → Option (Udid × Address) → Handed
sending_for k (Some (u, a)) = Send (Assign u a)
sending_for k None = k

-- what goes out once the choice is issued
abbrev pub sending : Handed → Handed
sending k = sending_for k (choice_in k)

-- the results over a list of traces, in order: by the single step, and by choosing and always issuing
unfoldable pub steps_over : Controller → List (List ℕ) → List Stepped
steps_over s [] = []
steps_over s (tr ∷ trs) = stepped s tr ∷ steps_over (stepped s tr).state trs

unfoldable pub halves_over : Controller → List (List ℕ) → List Stepped
halves_over s [] = []
halves_over s (tr ∷ trs) = carried_on (first_half s tr) ∷ halves_over (carried_on (first_half s tr)).state trs
