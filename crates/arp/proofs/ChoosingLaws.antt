-- The step in two halves (specs/Choosing.antt): a choice that is issued at once gives the single step, and beside what is handed out the first
-- half changes what the single step does.
use Rattle.std.specs.Prelude.{ℕ, Bool, true, false, List, ◌⊎◌, ◌≡◌, refl, leb, Option, Some, None}
use Rattle.std.proofs.Common.{inl, inr, sym, ap, ◌∙◌}
use Rattle.lists.specs.Choice.{pick}
use Rattle.wire.specs.declared.address.Address.{Address}
use Rattle.udid.specs.declared.Udid.{Udid}
use Rattle.hearing.specs.Told.{tells}
use Rattle.hearing.specs.declared.told.Told.{Told}
use Rattle.hearing.specs.declared.told.Told.TheVariants.{Again, Over, GivenUp, Reply, Took, Unasked}
use Rattle.commands.specs.declared.command.Command.TheVariants.{GetUdid, Assign}
use Rattle.commands.specs.declared.command.End.TheVariants.{Abandoned, Chosen}
use Rattle.commands.specs.declared.command.Handed.{Handed}
use Rattle.commands.specs.declared.command.Handed.TheVariants.{Send, Wait}
use Rattle.commands.specs.declared.command.Reason.{Reason}
use Rattle.arp.specs.Bindings.{freed, bound}
use Rattle.arp.specs.Choosing.{reason_for, waiting_with, decided, decided_on, first_half, issuing, carried_on, sending}
use Rattle.commands.specs.Choices.{choice_in}
use Rattle.arp.specs.Controller.{handed, counted, asked, issued, replied, changed, stepped}
use Rattle.picking.specs.Picking.{has_to_pick, chosen}
use Rattle.arp.specs.History.{By, Step, Choose, heard, one_get}
use Rattle.arp.specs.Numbers.{is21}
use Rattle.arp.specs.State.{with_last}
use Rattle.arp.specs.declared.state.Controller.{Controller}
use Rattle.arp.specs.declared.state.Stepped.{Stepped}

-- ---- where no choice is left, the first half is the whole

carried_asked : (s : Controller) → carried_on (asked s) ≡ asked s
unfolding asked
carried_asked s = go (leb 128 s.gets)
  where
    go : (b : Bool) → carried_on (pick b (handed s (Wait Abandoned)) (handed (counted s) (Send GetUdid))) ≡ pick b (handed s (Wait Abandoned)) (handed (counted s) (Send GetUdid))
    go true = refl
    go false = refl

-- ---- a choice that is issued

carried_waiting : (s : Controller) (u : Udid) (picks : Bool) (f : Option Address) → carried_on (waiting_with s u picks f) ≡ issued s u picks f
unfolding issuing
carried_waiting s u picks (Some a) = refl
carried_waiting s u picks None = refl

carried_told : (s : Controller) (t : Told) → carried_on (decided_on s t) ≡ changed s t
unfolding decided replied
carried_told s Again = carried_asked s
carried_told s Over = refl
carried_told s GivenUp = refl
carried_told s (Reply u b) = carried_waiting (freed s u) u (has_to_pick (freed s u).pool u b) (chosen (freed s u).pool (freed s u).picked u b)
carried_told s (Took u a) = carried_asked (bound s u a.0)
carried_told s Unasked = refl

-- BOTH HALVES ARE THE SINGLE STEP, from every state and for every trace
pub halves_are_the_step : (s : Controller) (tr : List ℕ) → carried_on (first_half s tr) ≡ stepped s tr
unfolding first_half stepped
halves_are_the_step s tr = carried_told s (tells s.last tr)

-- ---- the first half beside the single step

-- r and q are the same, with no choice; or a choice waits in r, and q sends it, from the same state
abbrev pub Halved : Stepped → Stepped → Type 0
Halved r q =
    ((r ≡ q) × (choice_in r.command ≡ None))
    ⊎ ((u : Udid) × (a : Address) × (x : Reason) × (r ≡ handed q.state (Wait (Chosen u a x))) × (q ≡ handed q.state (Send (Assign u a))))

asked_has_no_choice : (s : Controller) → choice_in (asked s).command ≡ None
unfolding asked
asked_has_no_choice s = go (leb 128 s.gets)
  where
    go : (b : Bool) → choice_in (pick b (handed s (Wait Abandoned)) (handed (counted s) (Send GetUdid))).command ≡ None
    go true = refl
    go false = refl

waiting_halved : (s : Controller) (u : Udid) (picks : Bool) (f : Option Address) → Halved (waiting_with s u picks f) (issued s u picks f)
waiting_halved s u picks (Some a) = inr (u, a, reason_for s u picks a.0, refl, refl)
waiting_halved s u picks None = inl (refl, refl)

told_halved : (s : Controller) (t : Told) → Halved (decided_on s t) (changed s t)
unfolding decided replied
told_halved s Again = inl (refl, asked_has_no_choice s)
told_halved s Over = inl (refl, refl)
told_halved s GivenUp = inl (refl, refl)
told_halved s (Reply u b) = waiting_halved (freed s u) u (has_to_pick (freed s u).pool u b) (chosen (freed s u).pool (freed s u).picked u b)
told_halved s (Took u a) = inl (refl, asked_has_no_choice (bound s u a.0))
told_halved s Unasked = inl (refl, refl)

issued_has_no_choice : (s : Controller) (u : Udid) (picks : Bool) (f : Option Address) → choice_in (issued s u picks f).command ≡ None
issued_has_no_choice s u picks (Some a) = refl
issued_has_no_choice s u picks None = refl

-- the whole step leaves no choice
told_has_no_choice : (s : Controller) (t : Told) → choice_in (changed s t).command ≡ None
unfolding replied
told_has_no_choice s Again = asked_has_no_choice s
told_has_no_choice s Over = refl
told_has_no_choice s GivenUp = refl
told_has_no_choice s (Reply u b) = issued_has_no_choice (freed s u) u (has_to_pick (freed s u).pool u b) (chosen (freed s u).pool (freed s u).picked u b)
told_has_no_choice s (Took u a) = asked_has_no_choice (bound s u a.0)
told_has_no_choice s Unasked = refl

pub heard_halved : (w : By) (s : Controller) (tr : List ℕ) → Halved (heard w s tr) (stepped s tr)
unfolding first_half stepped
heard_halved Step s tr = inl (refl, told_has_no_choice s (tells s.last tr))
heard_halved Choose s tr = told_halved s (tells s.last tr)

-- ---- so they differ in what is handed out last alone

module _ (r q : Stepped) where
  state_of_half : Halved r q → r.state ≡ with_last q.state r.state.last
  state_of_half (inl (e, n)) = ap (λ (x : Stepped). x.state) e ∙ ap (λ (x : Stepped). with_last q.state x.state.last) (sym e)
  state_of_half (inr (u, a, x, e, f)) = ap (λ (x : Stepped). x.state) e ∙ ap (λ (x : Stepped). with_last q.state x.state.last) (sym e)

  sending_of_half : Halved r q → sending r.command ≡ q.command
  sending_of_half (inl (e, n)) = none r.command n ∙ ap (λ (x : Stepped). x.command) e
    where
      none : (k : Handed) → choice_in k ≡ None → sending k ≡ k
      none k n = simp n
  sending_of_half (inr (u, a, x, e, f)) = ap (λ (x : Stepped). sending x.command) e ∙ sym (ap (λ (x : Stepped). x.command) f)

  gets_of_half : Halved r q → one_get r.command ≡ one_get q.command
  gets_of_half (inl (e, n)) = ap (λ (x : Stepped). one_get x.command) e
  gets_of_half (inr (u, a, x, e, f)) = ap (λ (x : Stepped). one_get x.command) e ∙ sym (ap (λ (x : Stepped). one_get x.command) f)

  refusal_of_half : Halved r q → is21 r.command ≡ is21 q.command
  refusal_of_half (inl (e, n)) = ap (λ (x : Stepped). is21 x.command) e
  refusal_of_half (inr (u, a, x, e, f)) = ap (λ (x : Stepped). is21 x.command) e ∙ sym (ap (λ (x : Stepped). is21 x.command) f)

  -- what is kept as the last is what is handed out
  kept_by_half : Halved r q → q.state.last ≡ q.command → r.state.last ≡ r.command
  kept_by_half (inl (e, n)) k = ap (λ (x : Stepped). x.state.last) e ∙ k ∙ sym (ap (λ (x : Stepped). x.command) e)
  kept_by_half (inr (u, a, x, e, f)) k = ap (λ (x : Stepped). x.state.last) e ∙ sym (ap (λ (x : Stepped). x.command) e)

module _ (w : By) (s : Controller) (tr : List ℕ) where
  pub same_but_last : (heard w s tr).state ≡ with_last (stepped s tr).state (heard w s tr).state.last
  same_but_last = state_of_half (heard w s tr) (stepped s tr) (heard_halved w s tr)

  pub sends_the_same : sending (heard w s tr).command ≡ (stepped s tr).command
  sends_the_same = sending_of_half (heard w s tr) (stepped s tr) (heard_halved w s tr)

  pub counts_the_same : one_get (heard w s tr).command ≡ one_get (stepped s tr).command
  counts_the_same = gets_of_half (heard w s tr) (stepped s tr) (heard_halved w s tr)

  pub refuses_the_same : is21 (heard w s tr).command ≡ is21 (stepped s tr).command
  refuses_the_same = refusal_of_half (heard w s tr) (stepped s tr) (heard_halved w s tr)

  pub keeps_the_same : (stepped s tr).state.last ≡ (stepped s tr).command → (heard w s tr).state.last ≡ (heard w s tr).command
  keeps_the_same = kept_by_half (heard w s tr) (stepped s tr) (heard_halved w s tr)
