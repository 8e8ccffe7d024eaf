-- A choice that waits is issued or declined; 21, and nothing changes, exactly if none waits. And the first half by what the single step does.
use Rattle.std.specs.Prelude.{ℕ, ◌≡◌, refl, Bool, true, List, [], ◌∷◌, ◌↔◌, leb, Option, Some, None}
use Rattle.std.proofs.Common.{sym, ◌∙◌, inl, inr}
use Rattle.std.proofs.Math.Path.{ap}
use Rattle.std.proofs.Math.Bool.{false}
use Rattle.lists.specs.AbsurdLaws.{zero_is_one}
use Rattle.lists.specs.Choice.{pick}
use Rattle.wire.specs.declared.address.Address.{Address}
use Rattle.udid.specs.declared.Udid.{Udid}
use Rattle.hearing.specs.Told.{tells, no_command}
use Rattle.hearing.specs.declared.told.Told.{Told}
use Rattle.hearing.specs.declared.told.Told.TheVariants.{Again, Over, GivenUp, Reply, Took, Unasked}
use Rattle.commands.specs.declared.command.Command.TheVariants.{Prepare, GetUdid, Assign}
use Rattle.commands.specs.declared.command.End.TheVariants.{Nothing, Ended, NoneFree, Abandoned, NotOutstanding, Chosen}
use Rattle.commands.specs.declared.command.Handed.{Handed}
use Rattle.commands.specs.declared.command.Handed.TheVariants.{Send, Wait}
use Rattle.commands.specs.declared.command.Reason.{Reason}
use Rattle.arp.specs.Bindings.{freed, bound}
use Rattle.arp.specs.Choosing.{waiting_with, decided, decided_on, first_half, issued_for, issuing, declined_for, declining, carried_for, steps_over, halves_over}
use Rattle.commands.specs.Choices.{choice_in}
use Rattle.arp.proofs.ChoosingLaws.{Halved, heard_halved, halves_are_the_step}
use Rattle.arp.specs.Controller.{handed, counted, asked, not_outstanding, stepped}
use Rattle.picking.specs.Picking.{has_to_pick, chosen}
use Rattle.arp.specs.History.{Step, Choose}
use Rattle.arp.specs.Numbers.{command_number, is21}
use Rattle.arp.proofs.OutstandingLaws.{is_21_by_number, idle_half}
use Rattle.arp.specs.State.{with_last}
use Rattle.arp.specs.Waits.{Waits}
use Rattle.arp.specs.declared.state.Controller.{Controller}
use Rattle.arp.specs.declared.state.Stepped.{Stepped}

-- ---- where a choice waits

waiting_is : (s : Controller) (u : Udid) (a : Address) (x : Reason) → s.last ≡ Wait (Chosen u a x) → choice_in s.last ≡ Some (u, a)
waiting_is s u a x e = ap choice_in e

none_waits : (s : Controller) → (Waits s → ⊥) → choice_in s.last ≡ None
none_waits s n = go s.last refl
  where
    go : (k : Handed) → s.last ≡ k → choice_in k ≡ None
    go (Send k) e = refl
    go (Wait Nothing) e = refl
    go (Wait Ended) e = refl
    go (Wait (NoneFree u)) e = refl
    go (Wait Abandoned) e = refl
    go (Wait NotOutstanding) e = refl
    go (Wait (Chosen u a x)) e = absurd (n (u, a, x, e))

module _ (s : Controller) where
  -- ISSUE: the Assign goes out, and nothing else changes
  pub issue_is : (u : Udid) (a : Address) (x : Reason) → s.last ≡ Wait (Chosen u a x) → issuing s ≡ handed s (Send (Assign u a))
  unfolding issuing
  issue_is u a x e = ap (issued_for s) (waiting_is s u a x e)

  -- DECLINE: the pass ends, and nothing else changes
  pub decline_is : (u : Udid) (a : Address) (x : Reason) → s.last ≡ Wait (Chosen u a x) → declining s ≡ handed s (Wait Abandoned)
  unfolding declining
  decline_is u a x e = ap (declined_for s) (waiting_is s u a x e)

  pub none_to_issue : (Waits s → ⊥) → issuing s ≡ not_outstanding s
  unfolding issuing
  none_to_issue n = ap (issued_for s) (none_waits s n)

  pub none_to_decline : (Waits s → ⊥) → declining s ≡ not_outstanding s
  unfolding declining
  none_to_decline n = ap (declined_for s) (none_waits s n)

  -- 21 EXACTLY if no choice waits
  pub issue_21 : (command_number (issuing s).command ≡ (21, []) ∷ []) ↔ (Waits s → ⊥)
  issue_21 = (
    λ q w. (let z : is21 (handed s (Send (Assign w.0 w.1))).command ≡ true = ap (λ (r : Stepped). is21 r.command) (sym (issue_is w.0 w.1 w.2 w.3)) ∙ (is_21_by_number (issuing s).command).0 q in zero_is_one (cc z)),
    λ n. ap (λ (r : Stepped). command_number r.command) (none_to_issue n),
  )

  pub decline_21 : (command_number (declining s).command ≡ (21, []) ∷ []) ↔ (Waits s → ⊥)
  decline_21 = (
    λ q w. (let z : is21 (handed s (Wait Abandoned)).command ≡ true = ap (λ (r : Stepped). is21 r.command) (sym (decline_is w.0 w.1 w.2 w.3)) ∙ (is_21_by_number (declining s).command).0 q in zero_is_one (cc z)),
    λ n. ap (λ (r : Stepped). command_number r.command) (none_to_decline n),
  )

  -- WHILE IT WAITS no command is outstanding
  pub waiting_is_idle : Waits s → no_command s.last ≡ true
  waiting_is_idle (u, a, x, e) = ap no_command e

-- ---- the first half by the single step

-- an Assign
abbrev sends : Handed → Bool
sends (Send Prepare) = false
sends (Send GetUdid) = false
sends (Send (Assign u a)) = true
sends (Wait e) = false

asked_sends_none : (s : Controller) → sends (asked s).command ≡ false
unfolding asked
asked_sends_none s = go (leb 128 s.gets)
  where
    go : (b : Bool) → sends (pick b (handed s (Wait Abandoned)) (handed (counted s) (Send GetUdid))).command ≡ false
    go true = refl
    go false = refl

waiting_sends_none : (s : Controller) (u : Udid) (picks : Bool) (f : Option Address) → sends (waiting_with s u picks f).command ≡ false
waiting_sends_none s u picks (Some a) = refl
waiting_sends_none s u picks None = refl

half_sends_none : (s : Controller) (t : Told) → sends (decided_on s t).command ≡ false
unfolding decided
half_sends_none s Again = asked_sends_none s
half_sends_none s Over = refl
half_sends_none s GivenUp = refl
half_sends_none s (Reply u b) = waiting_sends_none (freed s u) u (has_to_pick (freed s u).pool u b) (chosen (freed s u).pool (freed s u).picked u b)
half_sends_none s (Took u a) = asked_sends_none (bound s u a.0)
half_sends_none s Unasked = refl

module _ (s : Controller) (tr : List ℕ) where
  halved : Halved (first_half s tr) (stepped s tr)
  halved = heard_halved Choose s tr

  same_assign : {v u : Udid} {a c : Address} → Send (Assign v a) ≡ Send (Assign u c) → (v ≡ u) × (a ≡ c)
  same_assign e = (cc e, cc e)

  same_choice : {v u : Udid} {a c : Address} {x y : Reason} → Wait (Chosen v a x) ≡ Wait (Chosen u c y) → (v ≡ u) × (a ≡ c) × (x ≡ y)
  same_choice e = (cc e, cc e, cc e)

  no_choice_of : (u : Udid) (a : Address) (x : Reason) (k : Handed) → choice_in k ≡ None → k ≡ Wait (Chosen u a x) → ⊥
  no_choice_of u a x k n e = let z : Some (u, a) ≡ None = sym (ap choice_in e) ∙ n in zero_is_one (cc z)

  -- a choice waits exactly if the single step sends the Assign
  pub chosen_exactly : (u : Udid) (a : Address) → ((stepped s tr).command ≡ Send (Assign u a)) ↔ ((x : Reason) × ((first_half s tr).command ≡ Wait (Chosen u a x)))
  unfolding first_half
  chosen_exactly u a = (go halved, λ w. back halved w)
    where
      go : Halved (first_half s tr) (stepped s tr) → (stepped s tr).command ≡ Send (Assign u a) → (x : Reason) × ((first_half s tr).command ≡ Wait (Chosen u a x))
      go (inl (e, n)) k =
          let z : sends (Send (Assign u a)) ≡ false = ap sends (sym k) ∙ ap (λ (r : Stepped). sends r.command) (sym e) ∙ half_sends_none s (tells s.last tr) in
          zero_is_one (cc z)
      go (inr (v, c, x, e, f)) k =
          let w = same_assign (sym (ap (λ (r : Stepped). r.command) f) ∙ k) in
          (x, ap (λ (r : Stepped). r.command) e ∙ ap (λ (y : Udid). Wait (Chosen y c x)) w.0 ∙ ap (λ (y : Address). Wait (Chosen u y x)) w.1)

      back : Halved (first_half s tr) (stepped s tr) → (x : Reason) × ((first_half s tr).command ≡ Wait (Chosen u a x)) → (stepped s tr).command ≡ Send (Assign u a)
      back (inl (e, n)) (x, k) = absurd (no_choice_of u a x (first_half s tr).command n k)
      back (inr (v, c, y, e, f)) (x, k) =
          let w = same_choice (sym (ap (λ (r : Stepped). r.command) e) ∙ k) in
          ap (λ (r : Stepped). r.command) f ∙ ap (λ (z : Udid). Send (Assign z c)) w.0 ∙ ap (λ (z : Address). Send (Assign u z)) w.1

  -- while it waits the state is that of the single step, but for what was handed out last
  pub waits_in_its_state : (u : Udid) (a : Address) (x : Reason) → (first_half s tr).command ≡ Wait (Chosen u a x) → (first_half s tr).state ≡ with_last (stepped s tr).state (Wait (Chosen u a x))
  waits_in_its_state u a x k = go halved
    where
      go : Halved (first_half s tr) (stepped s tr) → (first_half s tr).state ≡ with_last (stepped s tr).state (Wait (Chosen u a x))
      go (inl (e, n)) = absurd (no_choice_of u a x (first_half s tr).command n k)
      go (inr (v, c, y, e, f)) = ap (λ (r : Stepped). r.state) e ∙ ap (with_last (stepped s tr).state) (sym (ap (λ (r : Stepped). r.command) e) ∙ k)

  -- issued, it gives the single step
  pub issued_is_the_step : (u : Udid) (a : Address) (x : Reason) → (first_half s tr).command ≡ Wait (Chosen u a x) → issuing (first_half s tr).state ≡ stepped s tr
  issued_is_the_step u a x k = sym (ap (carried_for (first_half s tr)) (ap choice_in k)) ∙ halves_are_the_step s tr

  -- with no choice the first half is the single step
  pub alone_is_the_step : ((u : Udid) (a : Address) (x : Reason) → (first_half s tr).command ≡ Wait (Chosen u a x) → ⊥) → first_half s tr ≡ stepped s tr
  alone_is_the_step n = go halved
    where
      go : Halved (first_half s tr) (stepped s tr) → first_half s tr ≡ stepped s tr
      go (inl (e, m)) = e
      go (inr (v, c, y, e, f)) = absurd (n v c y (ap (λ (r : Stepped). r.command) e))

  -- each number as before
  pub same_number : command_number (first_half s tr).command ≡ command_number (stepped s tr).command
  same_number = go halved
    where
      go : Halved (first_half s tr) (stepped s tr) → command_number (first_half s tr).command ≡ command_number (stepped s tr).command
      go (inl (e, m)) = ap (λ (r : Stepped). command_number r.command) e
      go (inr (v, c, y, e, f)) = ap (λ (r : Stepped). command_number r.command) e ∙ sym (ap (λ (r : Stepped). command_number r.command) f)

  -- while a choice waits every trace is 21, and nothing changes
  pub waiting_refuses : Waits s → (first_half s tr ≡ not_outstanding s) × (stepped s tr ≡ not_outstanding s)
  waiting_refuses w = (idle_half Choose s tr (waiting_is_idle s w), idle_half Step s tr (waiting_is_idle s w))

-- OVER ANY LIST OF TRACES, choosing and always issuing has the single step's states and commands throughout
pub halves_throughout : (s : Controller) (trs : List (List ℕ)) → halves_over s trs ≡ steps_over s trs
unfolding halves_over steps_over
halves_throughout s [] = refl
halves_throughout s (tr ∷ trs) =
    ap (λ (r : Stepped). r ∷ halves_over r.state trs) (halves_are_the_step s tr) ∙ ap (λ (rs : List Stepped). stepped s tr ∷ rs) (halves_throughout (stepped s tr).state trs)
