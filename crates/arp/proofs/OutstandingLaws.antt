-- The command outstanding: it is the one that was handed out last. A step gives 21 exactly where none is outstanding, as before the first
-- start, and the state stays as it is then.
use Rattle.std.specs.Prelude.{ℕ, ◌≡◌, Bool, true, false, List, [], ◌∷◌, ◌↔◌, leb, Option, Some, None}
use Rattle.std.proofs.Math.Path.{refl}
use Rattle.std.proofs.Common.{sym, ap, ◌∙◌, subst, arith}
use Rattle.lists.specs.AbsurdLaws.{zero_is_one}
use Rattle.lists.specs.Choice.{pick}
use Rattle.lists.specs.ChoiceLaws.{not_both}
use Rattle.pool.specs.declared.Pool.{Pool}
use Rattle.udid.specs.declared.Udid.{Udid}
use Rattle.arp.specs.Gone.{reported}
use Rattle.arp.proofs.GoneLaws.{nothing_reported, report_rest}
use Rattle.arp.proofs.HandingLaws.{busy_handed}
use Rattle.slots.proofs.SlotsLaws.{open_all}
use Rattle.hearing.specs.ToldLaws.{Known, told_known}
use Rattle.arp.specs.Handing.{Kept}
use Rattle.arp.specs.Bindings.{freed, bound}
use Rattle.arp.specs.Controller.{new_controller, handed, counted, asked, issued, replied, not_outstanding, changed, stepped}
use Rattle.picking.specs.Picking.{has_to_pick, chosen}
use Rattle.arp.specs.Choosing.{decided_on, first_half, issued_for, issuing, declined_for, declining}
use Rattle.commands.specs.Choices.{choice_in}
use Rattle.arp.proofs.ChoosingLaws.{refuses_the_same, keeps_the_same}
use Rattle.arp.specs.History.{By, Step, Choose, Event, Start, Received, Gone, Issue, Decline, NoStart, heard, run}
use Rattle.arp.specs.Numbers.{end_number, command_number, is21_end, is21, unless21}
use Rattle.arp.specs.Replay.{is_bound, handed_out}
use Rattle.hearing.specs.Told.{tells, no_command}
use Rattle.commands.specs.declared.command.Command.{Command}
use Rattle.commands.specs.declared.command.Command.TheVariants.{GetUdid}
use Rattle.commands.specs.declared.command.End.{End}
use Rattle.commands.specs.declared.command.End.TheVariants.{Nothing, Ended, NoneFree, Abandoned, NotOutstanding, Chosen}
use Rattle.commands.specs.declared.command.Handed.{Handed}
use Rattle.commands.specs.declared.command.Handed.TheVariants.{Send, Wait}
use Rattle.arp.specs.declared.state.Controller.{Controller}
use Rattle.arp.specs.declared.state.Stepped.{Stepped}
use Rattle.hearing.specs.declared.told.Told.{Told}
use Rattle.hearing.specs.declared.told.Told.TheVariants.{Again, Over, GivenUp, Reply, Took, Unasked}
use Rattle.wire.specs.declared.address.Address.{Address}

-- ---- none is outstanding, or what is handed out is kept

-- a 21 is given where none is outstanding
pub idle_gives_21 : (s : Controller) (tr : List ℕ) → no_command s.last ≡ true → ((stepped s tr).state ≡ s) × ((stepped s tr).command ≡ Wait NotOutstanding)
unfolding stepped
idle_gives_21 s tr h = go s.last h
  where
    go : (k : Handed) → no_command k ≡ true → ((changed s (tells k tr)).state ≡ s) × ((changed s (tells k tr)).command ≡ Wait NotOutstanding)
    go (Send k) i = zero_is_one (cc i)
    go (Wait e) i = (refl, refl)

-- and the state stays as it is
pub idle_untouched : (s : Controller) (tr : List ℕ) → no_command s.last ≡ true → (stepped s tr).state ≡ s
idle_untouched s tr h = (idle_gives_21 s tr h).0

-- and otherwise something is handed out, and kept
busy_keeps : (s : Controller) (tr : List ℕ) → no_command s.last ≡ false → Kept s (stepped s tr)
unfolding stepped
busy_keeps s tr h = busy_handed s s.last tr h

-- ---- 21, and no other time

abbrev first : List (ℕ × List Udid) → ℕ
first [] = 0
first (x ∷ xs) = x.0

number_21_end : (x : End) → end_number x ≡ (21, []) ∷ [] → is21_end x ≡ true
number_21_end Nothing e = zero_is_one (cc e)
number_21_end Ended e = absurd (let z : 0 ≡ 21 = ap first e in omega arith)
number_21_end (NoneFree u) e = absurd (let z : 13 ≡ 21 = ap first e in omega arith)
number_21_end Abandoned e = absurd (let z : 14 ≡ 21 = ap first e in omega arith)
number_21_end NotOutstanding e = refl
number_21_end (Chosen u a r) e = zero_is_one (cc e)

number_21 : (k : Handed) → command_number k ≡ (21, []) ∷ [] → is21 k ≡ true
number_21 (Send k) e = zero_is_one (cc e)
number_21 (Wait x) e = number_21_end x e

end_21_number : (x : End) → is21_end x ≡ true → end_number x ≡ (21, []) ∷ []
end_21_number Nothing e = zero_is_one (cc e)
end_21_number Ended e = zero_is_one (cc e)
end_21_number (NoneFree u) e = zero_is_one (cc e)
end_21_number Abandoned e = zero_is_one (cc e)
end_21_number NotOutstanding e = refl
end_21_number (Chosen u a r) e = zero_is_one (cc e)

-- the number 21 is that of one answer alone
pub is_21_by_number : (k : Handed) → (command_number k ≡ (21, []) ∷ []) ↔ (is21 k ≡ true)
is_21_by_number (Send k) = (number_21 (Send k), λ e. zero_is_one (cc e))
is_21_by_number (Wait x) = (number_21 (Wait x), end_21_number x)

-- every other way of a step hands out something else
asked_not : (s : Controller) → is21 (asked s).command ≡ false
unfolding asked
asked_not s = go (leb 128 s.gets)
  where
    go : (b : Bool) → is21 (pick b (handed s (Wait Abandoned)) (handed (counted s) (Send GetUdid))).command ≡ false
    go true = refl
    go false = refl

issued_not : (s : Controller) (u : Udid) (picks : Bool) (f : Option Address) → is21 (issued s u picks f).command ≡ false
issued_not s u picks (Some a) = refl
issued_not s u picks None = refl

module _ (s : Controller) where
  told_not : (k : Handed) (tr : List ℕ) → no_command k ≡ false → (t : Told) → Known k tr t → is21 (changed s t).command ≡ false
  unfolding replied
  told_not k tr n Again h = asked_not s
  told_not k tr n Over h = refl
  told_not k tr n GivenUp h = refl
  told_not k tr n (Reply u b) h = issued_not (freed s u) u (has_to_pick (freed s u).pool u b) (chosen (freed s u).pool (freed s u).picked u b)
  told_not k tr n (Took u a) h = asked_not (bound s u a.0)
  told_not k tr n Unasked h = not_both n h

  command_21 : (tr : List ℕ) → is21 (stepped s tr).command ≡ no_command s.last
  unfolding stepped
  command_21 tr = go s.last
    where
      go : (k : Handed) → is21 (changed s (tells k tr)).command ≡ no_command k
      go (Send k) = told_not (Send k) tr refl (tells (Send k) tr) (told_known (Send k) tr)
      go (Wait e) = refl

  -- 21 IS GIVEN EXACTLY where no command of a pass is outstanding, from every state
  pub step_21 : (tr : List ℕ) → (command_number (stepped s tr).command ≡ (21, []) ∷ []) ↔ (no_command s.last ≡ true)
  step_21 tr = (
    λ e. sym (command_21 tr) ∙ number_21 (stepped s tr).command e,
    λ h. ap command_number (idle_gives_21 s tr h).1,
  )

  -- and from every state of the first half
  pub heard_21 : (w : By) (tr : List ℕ) → (command_number (heard w s tr).command ≡ (21, []) ∷ []) ↔ (no_command s.last ≡ true)
  heard_21 w tr = (
    λ e. sym (command_21 tr) ∙ sym (refuses_the_same w s tr) ∙ (is_21_by_number (heard w s tr).command).0 e,
    λ h. (is_21_by_number (heard w s tr).command).1 (refuses_the_same w s tr ∙ command_21 tr ∙ h),
  )

-- ---- what was handed out last

-- from a state in which no command is outstanding nothing is handed out
pub idle_half : (w : By) (s : Controller) (tr : List ℕ) → no_command s.last ≡ true → heard w s tr ≡ not_outstanding s
unfolding stepped first_half
idle_half Step s tr h = go s.last h
  where
    go : (k : Handed) → no_command k ≡ true → changed s (tells k tr) ≡ not_outstanding s
    go (Send k) i = zero_is_one (cc i)
    go (Wait e) i = refl
idle_half Choose s tr h = go s.last h
  where
    go : (k : Handed) → no_command k ≡ true → decided_on s (tells k tr) ≡ not_outstanding s
    go (Send k) i = zero_is_one (cc i)
    go (Wait e) i = refl

-- it is kept in the state
abbrev Latest : Controller → Stepped → Type 0
Latest s r = r.state.last ≡ unless21 r.command s.last

latest_heard : (w : By) (s : Controller) (tr : List ℕ) → Latest s (heard w s tr)
latest_heard w s tr = go (no_command s.last) refl
  where
    go : (b : Bool) → no_command s.last ≡ b → Latest s (heard w s tr)
    go true e = subst (Latest s) (sym (idle_half w s tr e)) refl
    go false e =
        keeps_the_same w s tr (busy_keeps s tr e).last
        ∙ sym (ap (λ (b : Bool). pick b s.last (heard w s tr).command) (refuses_the_same w s tr ∙ command_21 s tr ∙ e))

latest_issued : (s : Controller) → Latest s (issuing s)
unfolding issuing
latest_issued s = go (choice_in s.last)
  where
    go : (c : Option (Udid × Address)) → Latest s (issued_for s c)
    go (Some (u, a)) = refl
    go None = refl

latest_declined : (s : Controller) → Latest s (declining s)
unfolding declining
latest_declined s = go (choice_in s.last)
  where
    go : (c : Option (Udid × Address)) → Latest s (declined_for s c)
    go (Some (u, a)) = refl
    go None = refl

-- THE COMMAND OUTSTANDING is the one that was handed out last
pub last_is_handed_out : (occupied : Pool) (last : ℕ) (es : List Event) → (run occupied last es).last ≡ handed_out occupied last es
unfolding run handed_out
last_is_handed_out occupied last [] = refl
last_is_handed_out occupied last (Start ∷ es) = refl
last_is_handed_out occupied last (Gone a ∷ es) = (report_rest (run occupied last es) a).last ∙ last_is_handed_out occupied last es
last_is_handed_out occupied last (Received w tr ∷ es) =
    latest_heard w (run occupied last es) tr ∙ ap (unless21 (heard w (run occupied last es) tr).command) (last_is_handed_out occupied last es)
last_is_handed_out occupied last (Issue ∷ es) =
    latest_issued (run occupied last es) ∙ ap (unless21 (issuing (run occupied last es)).command) (last_is_handed_out occupied last es)
last_is_handed_out occupied last (Decline ∷ es) =
    latest_declined (run occupied last es) ∙ ap (unless21 (declining (run occupied last es)).command) (last_is_handed_out occupied last es)

-- a command that was handed out last is outstanding
pub handed_out_is_last : (occupied : Pool) (last : ℕ) (es : List Event) (c : Command) → handed_out occupied last es ≡ Send c → (run occupied last es).last ≡ Send c
handed_out_is_last occupied last es c e = last_is_handed_out occupied last es ∙ e

-- so a step, and its first half, give 21 exactly if no command was handed out last
pub step_21_by_events : (occupied : Pool) (last : ℕ) (es : List Event) (w : By) (tr : List ℕ)
    → (command_number (heard w (run occupied last es) tr).command ≡ (21, []) ∷ []) ↔ (no_command (handed_out occupied last es) ≡ true)
step_21_by_events occupied last es w tr =
    let e : no_command (run occupied last es).last ≡ no_command (handed_out occupied last es) = ap no_command (last_is_handed_out occupied last es) in
    (λ q. sym e ∙ (heard_21 (run occupied last es) w tr).0 q, λ q. (heard_21 (run occupied last es) w tr).1 (e ∙ q))

-- ---- before the first start

none_to_issue : (s : Controller) → choice_in s.last ≡ None → (issuing s).state ≡ s
unfolding issuing
none_to_issue s e = ap (λ (c : Option (Udid × Address)). (issued_for s c).state) e

none_to_decline : (s : Controller) → choice_in s.last ≡ None → (declining s).state ≡ s
unfolding declining
none_to_decline s e = ap (λ (c : Option (Udid × Address)). (declined_for s c).state) e

unstarted : (occupied : Pool) (last : ℕ) (es : List Event) → NoStart es → run occupied last es ≡ new_controller occupied last
unfolding run
unstarted occupied last [] n = refl
unstarted occupied last (Start ∷ es) n = absurd n
unstarted occupied last (Received w tr ∷ es) n =
    ap (λ (s : Controller). (heard w s tr).state) (unstarted occupied last es n) ∙ ap (λ (r : Stepped). r.state) (idle_half w (new_controller occupied last) tr refl)
unstarted occupied last (Issue ∷ es) n = ap (λ (s : Controller). (issuing s).state) (unstarted occupied last es n) ∙ none_to_issue (new_controller occupied last) refl
unstarted occupied last (Decline ∷ es) n = ap (λ (s : Controller). (declining s).state) (unstarted occupied last es n) ∙ none_to_decline (new_controller occupied last) refl
unstarted occupied last (Gone a ∷ es) n = ap (λ (s : Controller). (reported s a).state) (unstarted occupied last es n) ∙ nothing_reported (new_controller occupied last) a (ap is_bound (open_all a))

-- EVERY STEP GIVES 21, and the controller stays new, whatever is reported
pub refused_before_start : (occupied : Pool) (last : ℕ) (es : List Event) → NoStart es → (tr : List ℕ)
    → (run occupied last es ≡ new_controller occupied last) × (command_number (stepped (run occupied last es) tr).command ≡ (21, []) ∷ [])
refused_before_start occupied last es n tr =
    (unstarted occupied last es n, ap (λ (s : Controller). command_number (stepped s tr).command) (unstarted occupied last es n) ∙ ap command_number (idle_gives_21 (new_controller occupied last) tr refl).1)
