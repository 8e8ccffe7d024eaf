-- Choices over a run: a first half and an issue are the step, and a report between them may as well come after. A decline ends the pass, and its
-- target is bound nowhere until the next start.
use Rattle.std.specs.Prelude.{ℕ, ◌≡◌, Bool, true, false, leb, Option, Some, None}
use Rattle.std.proofs.Math.Path.{refl, ap, subst}
use Rattle.std.proofs.Common.{sym, ◌∙◌}
use mathlib.Core.List.{List, [], ◌∷◌, ◌++◌}
use Rattle.lists.specs.AbsurdLaws.{zero_is_one}
use Rattle.lists.specs.Choice.{pick}
use Rattle.wire.specs.declared.address.Address.{Address}
use Rattle.pool.specs.declared.Pool.{Pool}
use Rattle.udid.specs.declared.Udid.{Udid}
use Rattle.slots.specs.Slots.{held_at}
use Rattle.slots.specs.declared.Binding.TheVariants.{Bound}
use Rattle.hearing.specs.Told.{tells, no_command}
use Rattle.hearing.specs.declared.told.Told.{Told}
use Rattle.hearing.specs.declared.told.Told.TheVariants.{Again, Over, GivenUp, Reply, Took, Unasked}
use Rattle.picking.specs.Picking.{has_to_pick, chosen}
use Rattle.commands.specs.Choices.{choice_in}
use Rattle.commands.specs.declared.command.Command.TheVariants.{GetUdid, Assign}
use Rattle.commands.specs.declared.command.End.TheVariants.{Abandoned, Chosen}
use Rattle.commands.specs.declared.command.Handed.{Handed}
use Rattle.commands.specs.declared.command.Handed.TheVariants.{Send, Wait}
use Rattle.commands.specs.declared.command.Reason.{Reason}
use Rattle.arp.specs.Bindings.{freed, bound}
use Rattle.arp.specs.Choosing.{first_half, waiting_with, decided, decided_on, issuing, issued_for}
use Rattle.arp.specs.Controller.{handed, counted, asked, issued, replied, changed, stepped}
use Rattle.arp.specs.Gone.{left_at, is_bound_target, reported}
use Rattle.arp.proofs.GoneLaws.{report_rest}
use Rattle.arp.specs.History.{Step, Choose, Event, Start, Received, Gone, Issue, Decline, NoStart, run}
use Rattle.arp.specs.Lookup.{looked_up}
use Rattle.arp.proofs.OutstandingLaws.{idle_half}
use Rattle.arp.proofs.SettleLaws.{decline_is, none_to_issue, none_to_decline}
use Rattle.arp.specs.SinceStart.{BoundSince}
use Rattle.arp.proofs.SinceStartLaws.{bound_since}
use Rattle.arp.proofs.WaitingLaws.{declined_unbound}
use Rattle.arp.specs.Waits.{Waits}
use Rattle.arp.specs.declared.state.Controller.{Controller}
use Rattle.arp.specs.declared.state.Stepped.{Stepped}

-- ---- a first half and then an issue

asked_issued : (s : Controller) → (issuing (asked s).state).state ≡ (asked s).state
unfolding issuing asked
asked_issued s = go (leb 128 s.gets)
  where
    go : (b : Bool) → (issuing (pick b (handed s (Wait Abandoned)) (handed (counted s) (Send GetUdid))).state).state ≡ (pick b (handed s (Wait Abandoned)) (handed (counted s) (Send GetUdid))).state
    go true = refl
    go false = refl

waiting_issued : (s : Controller) (u : Udid) (picks : Bool) (f : Option Address) → (issuing (waiting_with s u picks f).state).state ≡ (issued s u picks f).state
unfolding issuing
waiting_issued s u picks (Some a) = refl
waiting_issued s u picks None = refl

module _ (s : Controller) (none : Waits s → ⊥) where
  told_issued : (t : Told) → (issuing (decided_on s t).state).state ≡ (changed s t).state
  unfolding issuing decided replied
  told_issued Again = asked_issued s
  told_issued Over = refl
  told_issued GivenUp = refl
  told_issued (Reply u b) = waiting_issued (freed s u) u (has_to_pick (freed s u).pool u b) (chosen (freed s u).pool (freed s u).picked u b)
  told_issued (Took u a) = asked_issued (bound s u a.0)
  told_issued Unasked = ap (λ (r : Stepped). r.state) (none_to_issue s none)

  -- it is the step, whether a choice waits between them or not
  issued_after : (tr : List ℕ) → (issuing (first_half s tr).state).state ≡ (stepped s tr).state
  unfolding first_half stepped
  issued_after tr = told_issued (tells s.last tr)

-- a report and an issue may change places
report_and_send : (s : Controller) (a : ℕ) (k : Handed) → (handed (reported s a).state k).state ≡ (reported (handed s k).state a).state
unfolding reported
report_and_send s a k = go (is_bound_target (looked_up s a))
  where
    go : (t : Bool) → (handed (pick t (left_at s a) s) k).state ≡ pick t (left_at (handed s k).state a) (handed s k).state
    go true = refl
    go false = refl

report_and_issue : (s : Controller) (a : ℕ) → (issuing (reported s a).state).state ≡ (reported (issuing s).state a).state
unfolding issuing
report_and_issue s a = ap (λ (k : Handed). (issued_for (reported s a).state (choice_in k)).state) (report_rest s a).last ∙ go (choice_in s.last)
  where
    go : (c : Option (Udid × Address)) → (issued_for (reported s a).state c).state ≡ (reported (issued_for s c).state a).state
    go (Some (u, b)) = report_and_send s a (Send (Assign u b))
    go None = refl

module _ (occupied : Pool) (last : ℕ) (es : List Event) where
  -- IN ANY RUN a first half and an issue are the step
  pub halves_in_a_run : (tr : List ℕ) → (Waits (run occupied last es) → ⊥) → run occupied last (Issue ∷ Received Choose tr ∷ es) ≡ run occupied last (Received Step tr ∷ es)
  unfolding run
  halves_in_a_run tr n = issued_after (run occupied last es) n tr

  -- A REPORT BEFORE THE ISSUE may as well come after it
  pub report_between : (a : ℕ) → run occupied last (Issue ∷ Gone a ∷ es) ≡ run occupied last (Gone a ∷ Issue ∷ es)
  unfolding run
  report_between a = report_and_issue (run occupied last es) a

-- ---- after a decline

-- the pass was given up, and u is bound nowhere
abbrev GivenUpOn : Udid → Controller → Type 0
GivenUpOn u s = (s.last ≡ Wait Abandoned) × ((i : ℕ) → held_at s.slots i ≡ Bound u → ⊥)

no_choice_then : (s : Controller) → s.last ≡ Wait Abandoned → Waits s → ⊥
no_choice_then s e (u, a, x, k) = let z : Wait Abandoned ≡ Wait (Chosen u a x) = sym e ∙ k in zero_is_one (cc z)

module _ (occupied : Pool) (last : ℕ) (u : Udid) where
  -- a report unbinds, and binds nobody
  report_binds_nobody : (es : List Event) (b i : ℕ) → held_at (run occupied last (Gone b ∷ es)).slots i ≡ Bound u → held_at (run occupied last es).slots i ≡ Bound u
  unfolding BoundSince
  report_binds_nobody es b i k = (bound_since occupied last es u i).1 ((bound_since occupied last (Gone b ∷ es) u i).0 k).0

  given_up_on : (es later : List Event) → NoStart later → GivenUpOn u (run occupied last es) → GivenUpOn u (run occupied last (later ++ es))
  unfolding run
  given_up_on es [] n g = g
  given_up_on es (Start ∷ later) n g = absurd n
  given_up_on es (Received w tr ∷ later) n g =
      let h : GivenUpOn u (run occupied last (later ++ es)) = given_up_on es later n g in
      subst (GivenUpOn u) (sym (ap (λ (r : Stepped). r.state) (idle_half w (run occupied last (later ++ es)) tr (ap no_command h.0)))) h
  given_up_on es (Gone b ∷ later) n g =
      let h : GivenUpOn u (run occupied last (later ++ es)) = given_up_on es later n g in
      ((report_rest (run occupied last (later ++ es)) b).last ∙ h.0, λ i k. h.1 i (report_binds_nobody (later ++ es) b i k))
  given_up_on es (Issue ∷ later) n g =
      let h : GivenUpOn u (run occupied last (later ++ es)) = given_up_on es later n g in
      subst (GivenUpOn u) (sym (ap (λ (r : Stepped). r.state) (none_to_issue (run occupied last (later ++ es)) (no_choice_then (run occupied last (later ++ es)) h.0)))) h
  given_up_on es (Decline ∷ later) n g =
      let h : GivenUpOn u (run occupied last (later ++ es)) = given_up_on es later n g in
      subst (GivenUpOn u) (sym (ap (λ (r : Stepped). r.state) (none_to_decline (run occupied last (later ++ es)) (no_choice_then (run occupied last (later ++ es)) h.0)))) h

  -- A DECLINE ENDS THE PASS, and its target is bound nowhere, until the next start
  pub declined_until_start : (es : List Event) (a : Address) (x : Reason) → (run occupied last es).last ≡ Wait (Chosen u a x) → (later : List Event) → NoStart later
      → ((run occupied last (later ++ Decline ∷ es)).last ≡ Wait Abandoned) × ((i : ℕ) → held_at (run occupied last (later ++ Decline ∷ es)).slots i ≡ Bound u → ⊥)
  unfolding run
  declined_until_start es a x e later n =
      given_up_on (Decline ∷ es) later n (ap (λ (r : Stepped). r.state.last) (decline_is (run occupied last es) u a x e), declined_unbound occupied last es u a x e)
