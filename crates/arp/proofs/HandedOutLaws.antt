-- Each command that a step hands out is the one that the table of the events, the count of Get UDIDs and the command outstanding give. So the
-- story of the events alone gives all three.
use Rattle.std.specs.Prelude.{ℕ, ◌+◌, ◌<◌, ◌≡◌, Bool, true, false, List, [], ◌∷◌, ltb, leb, eqb, get_or, Option, Some, None, Ok, Err}
use Rattle.std.proofs.Math.Path.{refl, ap}
use Rattle.std.proofs.Common.{ap₂, ◌∙◌}
use Rattle.lists.specs.Choice.{pick, and}
use Rattle.trace.specs.declared.transaction.Transaction.{Transaction}
use Rattle.scan.specs.Numbers.{is_nack}
use Rattle.scan.specs.Decoded.{Decoded}
use Rattle.pool.specs.declared.Pool.{Pool}
use Rattle.udid.specs.Bytes.{udid_at}
use Rattle.udid.specs.declared.Udid.{Udid}
use Rattle.arp.specs.Choosing.{issued_for, issuing, declined_for, declining}
use Rattle.commands.specs.Choices.{choice_in}
use Rattle.arp.proofs.ChoosingLaws.{same_but_last}
use Rattle.arp.proofs.ChosenLaws.{chosen_is_given}
use Rattle.arp.specs.Numbers.{unless21}
use Rattle.arp.proofs.HandingLaws.{bound_keeps_gets, gets_are_sent, issue_rest, decline_rest}
use Rattle.arp.proofs.GoneLaws.{report_rest}
use Rattle.arp.proofs.HistoryLaws.{reached_good}
use Rattle.arp.proofs.OutstandingLaws.{last_is_handed_out}
use Rattle.arp.proofs.PickedLaws.{freed_keeps_picked, step_picked}
use Rattle.arp.specs.RunPicks.{picked_then}
use Rattle.arp.proofs.TableLaws.{freed_as_replied, trace_view, view_is_table}
use Rattle.arp.proofs.WithheldLaws.{half_withheld}
use Rattle.arp.specs.Story.{Story, withheld, next_by, issued_then, declined_then, onward, story}
use Rattle.arp.specs.Sound.{SoundIn}
use Rattle.arp.specs.Bindings.{freed, bound}
use Rattle.arp.specs.Controller.{handed, counted, asked, issued, replied, stepped, changed}
use Rattle.picking.specs.Picking.{has_to_pick, chosen}
use Rattle.hearing.specs.Heard.{answer, sent_in, received_in, is_prepare, is_get, is_assign}
use Rattle.commands.specs.Codes.{send_byte, block_read, block_write}
use Rattle.arp.specs.History.{By, Step, Choose, Event, Start, Received, Gone, Issue, Decline, heard, run, one_get, gets_sent}
use Rattle.arp.specs.Replay.{Table, emptied, released, after, read_as, handed_out, table, again, given_to, assigning, next_prepare, next_reply, next_command, view}
use Rattle.commands.specs.declared.command.Command.TheVariants.{Prepare, GetUdid, Assign}
use Rattle.commands.specs.declared.command.End.TheVariants.{Ended, Abandoned}
use Rattle.commands.specs.declared.command.Handed.{Handed}
use Rattle.commands.specs.declared.command.Handed.TheVariants.{Send, Wait}
use Rattle.arp.specs.declared.state.Controller.{Controller}
use Rattle.hearing.specs.Told.{told_prepare, told_reply, told_get, told_assign, tells}
use Rattle.hearing.specs.declared.told.Told.TheVariants.{Again, Over, GivenUp, Reply, Took}
use Rattle.wire.specs.declared.address.Address.{Address}

asked_command : (s : Controller) → (asked s).command ≡ again s.gets
unfolding asked
asked_command s = go (leb 128 s.gets)
  where
    go : (b : Bool) → (pick b (handed s (Wait Abandoned)) (handed (counted s) (Send GetUdid))).command ≡ pick b (Wait Abandoned) (Send GetUdid)
    go true = refl
    go false = refl

issued_command : (s : Controller) (u : Udid) (picks : Bool) (k : Option Address) → (issued s u picks k).command ≡ assigning u k
issued_command s u picks (Some a) = refl
issued_command s u picks None = refl

module _ (s : Controller) where
  prepare_command : (d : Decoded) (xs : List ℕ) → (changed s (told_prepare d xs)).command ≡ next_prepare s.gets d xs
  prepare_command (Ok t) xs = go (is_prepare t xs)
    where
      go : (q : Bool) → (changed s (pick q Again GivenUp)).command ≡ pick q (again s.gets) (Wait Abandoned)
      go true = asked_command s
      go false = refl
  prepare_command (Err e) xs = go (is_nack e.why)
    where
      go : (q : Bool) → (changed s (pick q Over GivenUp)).command ≡ pick q (Wait Ended) (Wait Abandoned)
      go true = refl
      go false = refl

  assign_command : (u : Udid) (n : ℕ) (d : Decoded) (xs : List ℕ) → (changed s (told_assign u (record { 0 = n }) d xs)).command ≡ again s.gets
  assign_command u n (Ok t) xs = go (is_assign u n t xs)
    where
      go : (q : Bool) → (changed s (pick q (Took u (record { 0 = n })) Again)).command ≡ again s.gets
      go true = asked_command (bound s u n) ∙ ap again (bound_keeps_gets s u n)
      go false = asked_command s
  assign_command u n (Err e) xs = asked_command s

module _ (s : Controller) (v : SoundIn s) (small : s.picked < 128) where
  replied_command : (u : Udid) (b : ℕ) → (replied s u b).command ≡ assigning u (given_to (released s.occupied u (view s)).used s.picked u b)
  unfolding replied
  replied_command u b =
      issued_command (freed s u) u (has_to_pick (freed s u).pool u b) (chosen (freed s u).pool (freed s u).picked u b)
      ∙ ap (λ (l : ℕ). assigning u (chosen (freed s u).pool l u b)) (freed_keeps_picked s u)
      ∙ ap (assigning u) (chosen_is_given (freed s u).pool s.picked u b small)
      ∙ ap (λ (t : Table). assigning u (given_to t.used s.picked u b)) (freed_as_replied s v u)

  reply_command : (t : Transaction) (xs : List ℕ) → (changed s (told_reply t xs)).command ≡ next_reply s.occupied (view s) s.picked s.gets (Ok t) xs
  reply_command t xs = go (is_get t) (eqb t.received 17)
    where
      go : (p q : Bool) → (changed s (pick p (pick q (Reply (udid_at xs 0) (get_or xs 16 0)) Over) Again)).command
          ≡ pick p (pick q (assigning (udid_at xs 0) (given_to (released s.occupied (udid_at xs 0) (view s)).used s.picked (udid_at xs 0) (get_or xs 16 0))) (Wait Ended)) (again s.gets)
      go true true = replied_command (udid_at xs 0) (get_or xs 16 0)
      go true false = refl
      go false q = asked_command s

  get_command : (d : Decoded) (xs : List ℕ) → (changed s (told_get d xs)).command ≡ next_reply s.occupied (view s) s.picked s.gets d xs
  get_command (Ok t) xs = reply_command t xs
  get_command (Err e) xs = go (and (is_nack e.why) (ltb e.place 3))
    where
      go : (q : Bool) → (changed s (pick q Over Again)).command ≡ pick q (Wait Ended) (again s.gets)
      go true = refl
      go false = asked_command s

  step_command : (tr : List ℕ) → (stepped s tr).command ≡ next_command s.occupied (view s) s.picked s.gets s.last tr
  unfolding stepped
  step_command tr = go s.last
    where
      go : (k : Handed) → (changed s (tells k tr)).command ≡ next_command s.occupied (view s) s.picked s.gets k tr
      go (Send Prepare) = prepare_command s (answer send_byte tr) (sent_in send_byte tr)
      go (Send GetUdid) = get_command (answer block_read tr) (received_in block_read tr)
      go (Send (Assign u a)) = assign_command s u a.0 (answer block_write tr) (sent_in block_write tr)
      go (Wait e) = refl

-- EACH COMMAND THAT A STEP HANDS OUT is the one that the table, the count of Get UDIDs and the command outstanding give
pub handed_out_by_table : (occupied : Pool) (last : ℕ) (es : List Event) (tr : List ℕ)
    → (stepped (run occupied last es) tr).command ≡ next_command occupied (table occupied last es) (run occupied last es).picked (gets_sent occupied last es) (handed_out occupied last es) tr
handed_out_by_table occupied last es tr =
    step_command (run occupied last es) (reached_good occupied last es).0.sound (reached_good occupied last es).0.picked tr
    ∙ ap (λ (o : Pool). next_command o (view (run occupied last es)) (run occupied last es).picked (run occupied last es).gets (run occupied last es).last tr) (reached_good occupied last es).0.occupies
    ∙ ap (λ (k : Handed). next_command occupied (view (run occupied last es)) (run occupied last es).picked (run occupied last es).gets k tr) (last_is_handed_out occupied last es)
    ∙ ap₂ (λ (t : Table) (n : ℕ). next_command occupied t (run occupied last es).picked n (handed_out occupied last es) tr) (view_is_table occupied last es) (gets_are_sent occupied last es)

-- EACH COMMAND, CHOICE OR END that a step or its first half hands out
pub heard_by_table : (occupied : Pool) (last : ℕ) (es : List Event) (w : By) (tr : List ℕ)
    → (heard w (run occupied last es) tr).command ≡ next_by w occupied (table occupied last es) (run occupied last es).picked (gets_sent occupied last es) (handed_out occupied last es) tr
heard_by_table occupied last es Step tr = handed_out_by_table occupied last es tr
heard_by_table occupied last es Choose tr =
    half_withheld (run occupied last es) tr
    ∙ ap₂ (λ (o : Pool) (t : Table). withheld o t tr (stepped (run occupied last es) tr).command) (reached_good occupied last es).0.occupies (trace_view occupied last es tr)
    ∙ ap₂ (λ (t : Table) (k : Handed). withheld occupied (after occupied (read_as (handed_out occupied last es) tr) t) tr k) (view_is_table occupied last es) (handed_out_by_table occupied last es tr)

-- ---- by the events alone

stories : (x y : Story) → x.known ≡ y.known → x.gets ≡ y.gets → x.command ≡ y.command → x.picked ≡ y.picked → x ≡ y
stories x y p q r l = λ i. record { known = p i; gets = q i; command = r i; picked = l i }

-- an issue and a decline, by what was handed out last
issued_then_lem : (s : Controller) (k : Handed) → s.last ≡ k → unless21 (issuing s).command k ≡ issued_then k (choice_in k)
unfolding issuing
issued_then_lem s k e = ap (λ (x : Handed). unless21 (issued_for s (choice_in x)).command k) e ∙ go (choice_in k)
  where
    go : (c : Option (Udid × Address)) → unless21 (issued_for s c).command k ≡ issued_then k c
    go (Some (u, a)) = refl
    go None = refl

declined_then_lem : (s : Controller) (k : Handed) → s.last ≡ k → unless21 (declining s).command k ≡ declined_then k (choice_in k)
unfolding declining
declined_then_lem s k e = ap (λ (x : Handed). unless21 (declined_for s (choice_in x)).command k) e ∙ go (choice_in k)
  where
    go : (c : Option (Udid × Address)) → unless21 (declined_for s c).command k ≡ declined_then k c
    go (Some (u, a)) = refl
    go None = refl

-- the table, the count, the command and the last pick of a run
abbrev pub told : Pool → ℕ → List Event → Story
told occupied last es = record { known = table occupied last es; gets = gets_sent occupied last es; command = handed_out occupied last es; picked = (run occupied last es).picked }

pub table_is_story : (occupied : Pool) (last : ℕ) (es : List Event) → told occupied last es ≡ story occupied last es
unfolding story table gets_sent handed_out run
table_is_story occupied last [] = refl
table_is_story occupied last (Start ∷ es) =
    ap (λ (w : Story). record { known = emptied occupied; gets = 0; command = Send Prepare; picked = w.picked }) (table_is_story occupied last es)
table_is_story occupied last (Received w tr ∷ es) =
    let e = heard_by_table occupied last es w tr in
    stories (told occupied last (Received w tr ∷ es)) (onward occupied (Received w tr) (told occupied last es))
    refl
    (ap (λ (k : Handed). gets_sent occupied last es + one_get k) e)
    (ap (λ (k : Handed). unless21 k (handed_out occupied last es)) e)
    (ap (λ (c : Controller). c.picked) (same_but_last w (run occupied last es) tr) ∙ step_picked (run occupied last es) tr ∙ ap (picked_then (run occupied last es).picked tr) (handed_out_by_table occupied last es tr))
    ∙ ap (onward occupied (Received w tr)) (table_is_story occupied last es)
table_is_story occupied last (Issue ∷ es) =
    stories (told occupied last (Issue ∷ es)) (onward occupied Issue (told occupied last es))
    refl
    refl
    (issued_then_lem (run occupied last es) (handed_out occupied last es) (last_is_handed_out occupied last es))
    (issue_rest (run occupied last es)).picked
    ∙ ap (onward occupied Issue) (table_is_story occupied last es)
table_is_story occupied last (Decline ∷ es) =
    stories (told occupied last (Decline ∷ es)) (onward occupied Decline (told occupied last es))
    refl
    refl
    (declined_then_lem (run occupied last es) (handed_out occupied last es) (last_is_handed_out occupied last es))
    (decline_rest (run occupied last es)).picked
    ∙ ap (onward occupied Decline) (table_is_story occupied last es)
table_is_story occupied last (Gone a ∷ es) =
    stories (told occupied last (Gone a ∷ es)) (onward occupied (Gone a) (told occupied last es)) refl refl refl (report_rest (run occupied last es) a).picked
    ∙ ap (onward occupied (Gone a)) (table_is_story occupied last es)
