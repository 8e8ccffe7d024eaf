-- Choosing apart from sending, for C: what a choice is told as, what an issue and a decline at the end of a list are answered, that a 21 changes
-- nothing, and that a first half with an issue after it, where a choice waits, is the step.
use Rattle.std.specs.Prelude.{ℕ, ◌<◌, ◌≡◌, refl, List, [], ◌∷◌, ◌++◌, ◌↔◌, ltb, length, Option, Some, None}
use Rattle.std.proofs.Common.{sym, ◌∙◌, arith}
use Rattle.std.proofs.Math.Path.{ap}
use Rattle.std.proofs.Math.Logic.Iff.{trans as iff_trans}
use Rattle.lists.specs.AbsurdLaws.{zero_is_one}
use Rattle.lists.specs.Choice.{pick}
use Rattle.wire.specs.declared.address.Address.{Address}
use Rattle.pool.specs.declared.Pool.{Pool}
use Rattle.udid.specs.declared.Udid.{Udid}
use Rattle.arp.specs.Choosing.{first_half, issuing, declining, carried_for}
use Rattle.arp.proofs.ChoosingLaws.{halves_are_the_step}
use Rattle.arp.specs.Controller.{stepped}
use Rattle.arp.specs.History.{Step, Choose, Event, Start, Received, Gone, Issue, Decline}
use Rattle.arp.specs.Lookup.{looked_up}
use Rattle.arp.specs.Numbers.{command_number, unless21}
use Rattle.arp.proofs.OutstandingLaws.{heard_21, idle_half, last_is_handed_out}
use Rattle.arp.specs.Replay.{handed_out, answered}
use Rattle.arp.proofs.SettleLaws.{issue_is, decline_is, none_to_issue, none_to_decline, issue_21, decline_21}
use Rattle.arp.specs.Waits.{Waits}
use Rattle.commands.specs.Choices.{choice_in}
use Rattle.arp.specs.declared.state.Controller.{Controller}
use Rattle.arp.specs.declared.state.Stepped.{Stepped}
use Rattle.commands.specs.declared.command.Command.TheVariants.{Prepare, GetUdid, Assign}
use Rattle.commands.specs.declared.command.End.TheVariants.{Nothing, Ended, NoneFree, Abandoned, NotOutstanding, Chosen}
use Rattle.commands.specs.declared.command.Handed.{Handed}
use Rattle.commands.specs.declared.command.Handed.TheVariants.{Send, Wait}
use Rattle.commands.specs.declared.command.Reason.{Reason}
use Rattle.report.specs.Report.{no_udid}
use Rattle.c_arp.specs.declared.kinds.HbCommand.{HbCommand}
use Rattle.c_arp.specs.declared.parts.HbPool.{HbPool}
use Rattle.c_arp.specs.Choices.{ChoiceWaits, NoChoice, IsAnswered}
use Rattle.c_arp.specs.CommandParts.{CommandParts}
use Rattle.c_arp.specs.CommandPartLaws.{command_parts, command_21}
use Rattle.c_arp.specs.Commands.{told_command, reason_number}
use Rattle.c_arp.specs.Histories.{events_of}
use Rattle.c_arp.specs.Parts.{pool_in}
use Rattle.c_arp.specs.Pass.{after_event, steps_over, pass_over, told_pass, refused_pass, pass_command, found_of, told_found, pass_found}
use Rattle.c_arp.specs.PassCallLaws.{command_told}
use Rattle.c_arp.specs.PassLaws.{hb_pass_history}
use Rattle.c_arp.specs.TraceListLaws.{pass_more}
use Rattle.c_arp.specs.TraceLists.{Listed, list_bytes, Cut}

-- ---- the kind of a choice

kind_of_choice : (k : Handed) (u : Udid) (a : Address) → choice_in k ≡ Some (u, a) → (gets picked : ℕ) → (told_command k gets picked).kind ≡ 8
kind_of_choice (Send c) u a e gets picked = zero_is_one (cc e)
kind_of_choice (Wait Nothing) u a e gets picked = zero_is_one (cc e)
kind_of_choice (Wait Ended) u a e gets picked = zero_is_one (cc e)
kind_of_choice (Wait (NoneFree w)) u a e gets picked = zero_is_one (cc e)
kind_of_choice (Wait Abandoned) u a e gets picked = zero_is_one (cc e)
kind_of_choice (Wait NotOutstanding) u a e gets picked = zero_is_one (cc e)
kind_of_choice (Wait (Chosen w b x)) u a e gets picked = refl

-- kind 8 is that of a choice alone
pub kind_8 : (k : Handed) (gets picked : ℕ) → (told_command k gets picked).kind ≡ 8 → (u : Udid) × (a : Address) × (x : Reason) × (k ≡ Wait (Chosen u a x))
kind_8 (Send Prepare) gets picked q = absurd (omega (arith, q))
kind_8 (Send GetUdid) gets picked q = absurd (omega (arith, q))
kind_8 (Send (Assign u a)) gets picked q = absurd (omega (arith, q))
kind_8 (Wait Nothing) gets picked q = absurd (omega (arith, q))
kind_8 (Wait Ended) gets picked q = absurd (omega (arith, q))
kind_8 (Wait (NoneFree u)) gets picked q = absurd (omega (arith, q))
kind_8 (Wait Abandoned) gets picked q = absurd (omega (arith, q))
kind_8 (Wait NotOutstanding) gets picked q = absurd (omega (arith, q))
kind_8 (Wait (Chosen u a x)) gets picked q = (u, a, x, refl)

-- a choice that was answered last waits
answered_waits : (occupied : Pool) (last : ℕ) (es : List Event) (u : Udid) (a : Address) (x : Reason) → answered occupied last es ≡ Wait (Chosen u a x) → handed_out occupied last es ≡ Wait (Chosen u a x)
unfolding answered handed_out
answered_waits occupied last [] u a x e = e
answered_waits occupied last (Start ∷ es) u a x e = e
answered_waits occupied last (Received w tr ∷ es) u a x e = ap (λ (k : Handed). unless21 k (handed_out occupied last es)) e
answered_waits occupied last (Gone b ∷ es) u a x e = answered_waits occupied last es u a x e
answered_waits occupied last (Issue ∷ es) u a x e = ap (λ (k : Handed). unless21 k (handed_out occupied last es)) e
answered_waits occupied last (Decline ∷ es) u a x e = ap (λ (k : Handed). unless21 k (handed_out occupied last es)) e

module _ (given : HbPool) (last : ℕ) (es : List Event) (rest : List ℕ) (v : Listed es) (cut : Cut rest) where
  abbrev bytes : List ℕ
  bytes = list_bytes es ++ rest

  abbrev before : Stepped
  before = pass_over (pool_in given) last bytes

  pass_one : (x : Event) (rest' : List ℕ) → Listed (x ∷ []) → Cut rest' → pass_over (pool_in given) last (list_bytes (es ++ x ∷ []) ++ rest') ≡ after_event before x
  unfolding steps_over
  pass_one x rest' w cut' = pass_more (pool_in given) last es (x ∷ []) rest rest' v w cut cut'

  pass_two : (x y : Event) (rest' : List ℕ) → Listed (x ∷ y ∷ []) → Cut rest' → pass_over (pool_in given) last (list_bytes (es ++ x ∷ y ∷ []) ++ rest') ≡ after_event (after_event before x) y
  unfolding steps_over
  pass_two x y rest' w cut' = pass_more (pool_in given) last es (x ∷ y ∷ []) rest rest' v w cut cut'

  -- what was handed out last is kept in the state
  last_before : before.state.last ≡ handed_out (pool_in given) last (events_of es)
  last_before = ap (λ (s : Controller). s.last) (hb_pass_history given last es rest v cut).state ∙ last_is_handed_out (pool_in given) last (events_of es)

  choice_before : (u : Udid) (a : Address) (x : Reason) → ChoiceWaits given last es u a x → before.state.last ≡ Wait (Chosen u a x)
  choice_before u a x c = last_before ∙ c

  no_choice_before : (Waits before.state → ⊥) ↔ NoChoice given last es
  no_choice_before = (λ n u a x c. n (u, a, x, choice_before u a x c), λ n w. n w.0 w.1 w.2 (sym last_before ∙ w.3))

  -- ---- a choice that is answered

  pub hb_pass_chosen : (r : HbCommand) → last < 128 → r ≡ pass_command (pool_in given) last bytes → (u : Udid) (a : Address) (x : Reason)
      → answered (pool_in given) last (events_of es) ≡ Wait (Chosen u a x) → CommandParts r 8 0 a.0 before.state.gets before.state.picked (reason_number x) u.high u.low
  hb_pass_chosen r small e u a x q =
      command_parts (Wait (Chosen u a x)) before.state.gets before.state.picked r
      (e ∙ command_told (pool_in given) last bytes small ∙ ap (λ (k : Handed). told_command k before.state.gets before.state.picked) ((hb_pass_history given last es rest v cut).command ∙ q))

  -- HB_CHOSEN is told of nothing else; and the choice that it tells waits
  pub hb_pass_chosen_only : (r : HbCommand) → last < 128 → r ≡ pass_command (pool_in given) last bytes → r.kind ≡ 8
      → (u : Udid) × (a : Address) × (x : Reason) × (answered (pool_in given) last (events_of es) ≡ Wait (Chosen u a x)) × ChoiceWaits given last es u a x
  hb_pass_chosen_only r small e q =
      let told : r ≡ told_pass before = e ∙ command_told (pool_in given) last bytes small in
      let w = kind_8 before.command before.state.gets before.state.picked (sym (ap (λ (y : HbCommand). y.kind) told) ∙ q) in
      let n : answered (pool_in given) last (events_of es) ≡ Wait (Chosen w.0 w.1 w.2) = sym (hb_pass_history given last es rest v cut).command ∙ w.3 in
      (w.0, w.1, w.2, n, answered_waits (pool_in given) last (events_of es) w.0 w.1 w.2 n)

  -- ---- an issue or a decline as the last entry

  module _ (rest' : List ℕ) (cut' : Cut rest') (small : last < 128) (r : HbCommand) where
    told_one : (x : Event) → Listed (x ∷ []) → r ≡ pass_command (pool_in given) last (list_bytes (es ++ x ∷ []) ++ rest') → r ≡ told_pass (after_event before x)
    told_one x w e = e ∙ command_told (pool_in given) last (list_bytes (es ++ x ∷ []) ++ rest') small ∙ ap (λ (st : Stepped). told_pass st) (pass_one x rest' w cut')

    -- HB_ISSUE: 21 exactly if no choice waits
    pub hb_pass_issue_21 : r ≡ pass_command (pool_in given) last (list_bytes (es ++ Issue ∷ []) ++ rest') → (r.answer ≡ 21) ↔ NoChoice given last es
    hb_pass_issue_21 e =
        let st : Stepped = issuing before.state in
        iff_trans (command_21 st.command st.state.gets st.state.picked r (told_one Issue tt e)) (iff_trans (issue_21 before.state) no_choice_before)

    -- else the Assign of the choice; the Get UDIDs and the last pick stay
    pub hb_pass_issue : r ≡ pass_command (pool_in given) last (list_bytes (es ++ Issue ∷ []) ++ rest') → (u : Udid) (a : Address) (x : Reason) → ChoiceWaits given last es u a x
        → CommandParts r 2 0 a.0 before.state.gets before.state.picked 0 u.high u.low
    hb_pass_issue e u a x c =
        command_parts (Send (Assign u a)) before.state.gets before.state.picked r
        (told_one Issue tt e ∙ ap (λ (st : Stepped). told_pass st) (issue_is before.state u a x (choice_before u a x c)))

    -- HB_DECLINE: 21 exactly if no choice waits
    pub hb_pass_decline_21 : r ≡ pass_command (pool_in given) last (list_bytes (es ++ Decline ∷ []) ++ rest') → (r.answer ≡ 21) ↔ NoChoice given last es
    hb_pass_decline_21 e =
        let st : Stepped = declining before.state in
        iff_trans (command_21 st.command st.state.gets st.state.picked r (told_one Decline tt e)) (iff_trans (decline_21 before.state) no_choice_before)

    -- else the pass has ended with 14
    pub hb_pass_decline : r ≡ pass_command (pool_in given) last (list_bytes (es ++ Decline ∷ []) ++ rest') → (u : Udid) (a : Address) (x : Reason) → ChoiceWaits given last es u a x
        → CommandParts r 5 14 0 before.state.gets before.state.picked 0 0 0
    hb_pass_decline e u a x c =
        command_parts (Wait Abandoned) before.state.gets before.state.picked r
        (told_one Decline tt e ∙ ap (λ (st : Stepped). told_pass st) (decline_is before.state u a x (choice_before u a x c)))

    -- so by the struct k that told the choice: the Assign has its address and its identifier
    pub hb_pass_issue_chosen : (k : HbCommand) → k ≡ pass_command (pool_in given) last bytes → k.kind ≡ 8 → r ≡ pass_command (pool_in given) last (list_bytes (es ++ Issue ∷ []) ++ rest')
        → CommandParts r 2 0 k.address k.gets k.picked 0 k.udid.high k.udid.low
    hb_pass_issue_chosen k f q e =
        let w = hb_pass_chosen_only k small f q in
        let c = hb_pass_chosen k small f w.0 w.1 w.2 w.3 in
        let p = hb_pass_issue e w.0 w.1 w.2 w.4 in
        record {
          kind_is = p.kind_is;
          answer_is = p.answer_is;
          address_is = p.address_is ∙ sym c.address_is;
          gets_is = p.gets_is ∙ sym c.gets_is;
          picked_is = p.picked_is ∙ sym c.picked_is;
          reason_is = p.reason_is;
          high_is = p.high_is ∙ sym c.high_is;
          low_is = p.low_is ∙ sym c.low_is;
        }

    pub hb_pass_decline_chosen : (k : HbCommand) → k ≡ pass_command (pool_in given) last bytes → k.kind ≡ 8 → r ≡ pass_command (pool_in given) last (list_bytes (es ++ Decline ∷ []) ++ rest')
        → CommandParts r 5 14 0 k.gets k.picked 0 0 0
    hb_pass_decline_chosen k f q e =
        let w = hb_pass_chosen_only k small f q in
        let c = hb_pass_chosen k small f w.0 w.1 w.2 w.3 in
        let p = hb_pass_decline e w.0 w.1 w.2 w.4 in
        record {
          kind_is = p.kind_is;
          answer_is = p.answer_is;
          address_is = p.address_is;
          gets_is = p.gets_is ∙ sym c.gets_is;
          picked_is = p.picked_is ∙ sym c.picked_is;
          reason_is = p.reason_is;
          high_is = p.high_is;
          low_is = p.low_is;
        }

    -- ---- a 21 changes nothing

    still : (x : Event) → IsAnswered x → command_number (after_event before x).command ≡ (21, []) ∷ [] → (after_event before x).state ≡ before.state
    still Start i q = absurd i
    still (Received w tr) i q = ap (λ (st : Stepped). st.state) (idle_half w before.state tr ((heard_21 before.state w tr).0 q))
    still (Gone a) i q = absurd i
    still Issue i q = ap (λ (st : Stepped). st.state) (none_to_issue before.state ((issue_21 before.state).0 q))
    still Decline i q = ap (λ (st : Stepped). st.state) (none_to_decline before.state ((decline_21 before.state).0 q))

    -- AN ENTRY THAT IS ANSWERED WITH 21 leaves the state of the pass as it was: a choice that waits goes on waiting
    pub hb_pass_still : (x : Event) → IsAnswered x → Listed (x ∷ []) → r ≡ pass_command (pool_in given) last (list_bytes (es ++ x ∷ []) ++ rest') → r.answer ≡ 21
        → (pass_over (pool_in given) last (list_bytes (es ++ x ∷ []) ++ rest')).state ≡ before.state
    hb_pass_still x i w e q =
        let st : Stepped = after_event before x in
        ap (λ (y : Stepped). y.state) (pass_one x rest' w cut')
        ∙ still x i ((command_21 st.command st.state.gets st.state.picked r (told_one x w e)).0 q)

    -- and every lookup as it was
    pub hb_lookup_still : (x : Event) → IsAnswered x → Listed (x ∷ []) → r ≡ pass_command (pool_in given) last (list_bytes (es ++ x ∷ []) ++ rest') → r.answer ≡ 21
        → (b : ℕ) → pass_found (pool_in given) last (list_bytes (es ++ x ∷ []) ++ rest') b ≡ pass_found (pool_in given) last bytes b
    unfolding pass_found
    hb_lookup_still x i w e q b = ap (λ (s : Controller). pick (ltb 127 last) (found_of 1 no_udid) (told_found (looked_up s b))) (hb_pass_still x i w e q)

  -- ---- a first half as the last entry, and an issue after it

  module _ (tr rest₁ rest₂ rest₃ : List ℕ) (short : length tr < 65532) (cut₁ : Cut rest₁) (cut₂ : Cut rest₂) (cut₃ : Cut rest₃) (small : last < 128) (k : HbCommand)
      (e : k ≡ pass_command (pool_in given) last (list_bytes (es ++ Received Choose tr ∷ []) ++ rest₁)) where
    abbrev half : Stepped
    half = first_half before.state tr

    abbrev by_half : List ℕ
    by_half = list_bytes (es ++ Received Choose tr ∷ []) ++ rest₁

    abbrev by_halves : List ℕ
    by_halves = list_bytes (es ++ Received Choose tr ∷ Issue ∷ []) ++ rest₂

    abbrev by_step : List ℕ
    by_step = list_bytes (es ++ Received Step tr ∷ []) ++ rest₃

    half_told : k ≡ told_pass half
    half_told = told_one rest₁ cut₁ small k (Received Choose tr) (short, tt) e

    half_kind : k.kind ≡ (told_command half.command half.state.gets half.state.picked).kind
    half_kind = ap (λ (x : HbCommand). x.kind) half_told

    -- carried on, it is the step
    carried : (c : Option (Udid × Address)) → choice_in half.command ≡ c → carried_for half c ≡ stepped before.state tr
    carried c q = ap (carried_for half) (sym q) ∙ halves_are_the_step before.state tr

    step_is : stepped before.state tr ≡ pass_over (pool_in given) last by_step
    step_is = sym (pass_one (Received Step tr) rest₃ (short, tt) cut₃)

    issued_is_step : k.kind ≡ 8 → pass_over (pool_in given) last by_halves ≡ pass_over (pool_in given) last by_step
    issued_is_step q =
        let w = kind_8 half.command half.state.gets half.state.picked (sym half_kind ∙ q) in
        pass_two (Received Choose tr) Issue rest₂ (short, tt) cut₂ ∙ carried (Some (w.0, w.1)) (ap choice_in w.3) ∙ step_is

    half_is_step : (k.kind ≡ 8 → ⊥) → pass_over (pool_in given) last by_half ≡ pass_over (pool_in given) last by_step
    half_is_step n = go (choice_in half.command) refl
      where
        go : (c : Option (Udid × Address)) → choice_in half.command ≡ c → pass_over (pool_in given) last by_half ≡ pass_over (pool_in given) last by_step
        go (Some (u, a)) q = absurd (n (half_kind ∙ kind_of_choice half.command u a q half.state.gets half.state.picked))
        go None q = pass_one (Received Choose tr) rest₁ (short, tt) cut₁ ∙ carried None q ∙ step_is

    -- CHOOSING AND NEVER DECLINING IS THE STEP. Where hb_pass answers a first half with a choice, an issue after it gives what the step gives, to hb_pass and
    -- to every lookup
    pub hb_pass_issued : k.kind ≡ 8 → pass_command (pool_in given) last by_halves ≡ pass_command (pool_in given) last by_step
    unfolding pass_command
    hb_pass_issued q = ap (λ (st : Stepped). pick (ltb 127 last) refused_pass (told_pass st)) (issued_is_step q)

    pub hb_lookup_issued : k.kind ≡ 8 → (b : ℕ) → pass_found (pool_in given) last by_halves b ≡ pass_found (pool_in given) last by_step b
    unfolding pass_found
    hb_lookup_issued q b = ap (λ (st : Stepped). pick (ltb 127 last) (found_of 1 no_udid) (told_found (looked_up st.state b))) (issued_is_step q)

    -- where it does not, the first half alone does
    pub hb_pass_half : (k.kind ≡ 8 → ⊥) → pass_command (pool_in given) last by_half ≡ pass_command (pool_in given) last by_step
    unfolding pass_command
    hb_pass_half n = ap (λ (st : Stepped). pick (ltb 127 last) refused_pass (told_pass st)) (half_is_step n)

    pub hb_lookup_half : (k.kind ≡ 8 → ⊥) → (b : ℕ) → pass_found (pool_in given) last by_half b ≡ pass_found (pool_in given) last by_step b
    unfolding pass_found
    hb_lookup_half n b = ap (λ (st : Stepped). pick (ltb 127 last) (found_of 1 no_udid) (told_found (looked_up st.state b))) (half_is_step n)
