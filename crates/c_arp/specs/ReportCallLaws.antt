-- What a report at the end of a list changes for C: nothing that hb_pass answers, and of hb_pass_lookup the 0 of its address, which is 20 then.
-- What a report is answered is what hb_pass_lookup answers for the list before it.
use Rattle.std.specs.Prelude.{ℕ, ◌<◌, ◌≡◌, refl, Bool, true, false, List, [], ◌∷◌, ◌++◌, ltb}
use Rattle.std.proofs.Math.Path.{sym, ap}
use Rattle.std.proofs.Common.{ap₂, ◌∙◌, subst, arith}
use Rattle.std.proofs.Math.Decide.{dec_lt}
use Rattle.lists.specs.Choice.{pick}
use Rattle.udid.specs.declared.Udid.{Udid}
use Rattle.slots.specs.Slots.{Sized128, held_at}
use Rattle.slots.specs.declared.Binding.{Binding}
use Rattle.arp.specs.Gone.{reported}
use Rattle.arp.proofs.GoneLaws.{nothing_reported, report_rest, report_removes, which_bound, bound_small}
use Rattle.arp.specs.History.{Event, Gone}
use Rattle.arp.proofs.HistoryLaws.{reached_invariant}
use Rattle.arp.specs.Lookup.{seen}
use Rattle.arp.specs.Replay.{is_bound}
use Rattle.arp.specs.declared.lookup.Found.TheVariants as found
use Rattle.arp.specs.declared.state.Controller.{Controller}
use Rattle.arp.specs.declared.state.Stepped.{Stepped}
use Rattle.report.specs.Report.{no_udid}
use Rattle.c_arp.specs.declared.kinds.HbCommand.{HbCommand}
use Rattle.c_arp.specs.declared.parts.HbPool.{HbPool}
use Rattle.c_arp.specs.declared.pass.HbFound.{HbFound}
use Rattle.c_arp.specs.Commands.{told_command}
use Rattle.c_arp.specs.FoundParts.{FoundParts}
use Rattle.c_arp.specs.Histories.{events_of}
use Rattle.c_arp.specs.LookupCallLaws.{hb_lookup_0, hb_lookup_20}
use Rattle.c_arp.specs.Parts.{pool_in}
use Rattle.c_arp.specs.Pass.{after_event, steps_over, pass_over, told_pass, refused_pass, pass_command, found_of, told_found, pass_found}
use Rattle.c_arp.specs.PassCallLaws.{found_forbidden}
use Rattle.c_arp.specs.PassLaws.{hb_pass_history}
use Rattle.c_arp.specs.TraceListLaws.{pass_more}
use Rattle.c_arp.specs.TraceLists.{Listed, list_bytes, Cut}

-- the Get UDIDs and the last pick are as they were too
told_still : (st : Stepped) (a : ℕ) → told_pass (after_event st (Gone a)) ≡ told_pass st
told_still st a = let v = report_rest st.state a in ap₂ (told_command st.command) v.gets v.picked

-- what another address is known for stays
held_elsewhere : (s : Controller) (a b : ℕ) → Sized128 s.slots → (b ≡ a → ⊥) → held_at (reported s a).state.slots b ≡ held_at s.slots b
held_elsewhere s a b size n = go (is_bound (held_at s.slots a)) refl
  where
    go : (t : Bool) → is_bound (held_at s.slots a) ≡ t → held_at (reported s a).state.slots b ≡ held_at s.slots b
    go true e = let h = which_bound (held_at s.slots a) e in ((report_removes s a h.0 size h.1).elsewhere b n).0
    go false e = ap (λ (c : Controller). held_at c.slots b) (nothing_reported s a e)

-- a list, and the same list with a report of a after its last entry; whatever is cut may follow either
module _ (given : HbPool) (last : ℕ) (es : List Event) (a : ℕ) (rest rest' : List ℕ) (v : Listed es) (cut : Cut rest) (cut' : Cut rest') where
  abbrev before : List ℕ
  before = list_bytes es ++ rest

  abbrev after : List ℕ
  after = list_bytes (es ++ Gone a ∷ []) ++ rest'

  abbrev state_before : Controller
  state_before = (pass_over (pool_in given) last before).state

  pass_last : pass_over (pool_in given) last after ≡ after_event (pass_over (pool_in given) last before) (Gone a)
  unfolding steps_over
  pass_last = pass_more (pool_in given) last es (Gone a ∷ []) rest rest' v tt cut cut'

  state_last : (pass_over (pool_in given) last after).state ≡ (reported state_before a).state
  state_last = ap (λ (st : Stepped). st.state) pass_last

  -- A REPORT LEAVES WHAT hb_pass ANSWERS as it was
  pub hb_pass_report : (k r : HbCommand) → k ≡ pass_command (pool_in given) last before → r ≡ pass_command (pool_in given) last after → r ≡ k
  unfolding pass_command
  hb_pass_report k r e f =
      f ∙ ap (pick (ltb 127 last) refused_pass) (ap (λ (st : Stepped). told_pass st) pass_last ∙ told_still (pass_over (pool_in given) last before) a) ∙ sym e

  size_before : Sized128 state_before.slots
  size_before =
      subst (λ (s : Controller). Sized128 s.slots) (sym (hb_pass_history given last es rest v cut).state) (reached_invariant (pool_in given) last (events_of es)).size

  -- A LOOKUP OF ITS ADDRESS answers 20 where it answered 0, and as before where it did not
  pub hb_lookup_gone : (k r : HbFound) → k ≡ pass_found (pool_in given) last before a → r ≡ pass_found (pool_in given) last after a → k.answer ≡ 0 → FoundParts r 20 0 0
  hb_lookup_gone k r e f z =
      let u : Udid = record { high = k.udid.high; low = k.udid.low } in
      let h = (hb_lookup_0 given last before a k e u).0 (record { answer_is = z; high_is = refl; low_is = refl }) in
      (hb_lookup_20 given last after a r f).1
      (h.0, (h.1.0, ap (λ (s : Controller). held_at s.slots a) state_last ∙ (report_removes state_before a u size_before h.1.1).left))

  found_by_state : (b : ℕ) → held_at (reported state_before a).state.slots b ≡ held_at state_before.slots b → pass_found (pool_in given) last after b ≡ pass_found (pool_in given) last before b
  unfolding pass_found
  found_by_state b e =
      ap (λ (h : Binding). pick (ltb 127 last) (found_of 1 no_udid) (told_found (pick (ltb 127 b) found.NoAddress (seen h)))) (ap (λ (s : Controller). held_at s.slots b) state_last ∙ e)

  pub hb_lookup_not_gone : (k r : HbFound) → k ≡ pass_found (pool_in given) last before a → r ≡ pass_found (pool_in given) last after a → (k.answer ≡ 0 → ⊥) → r ≡ k
  hb_lookup_not_gone k r e f n = f ∙ go (dec_lt 127 last) (is_bound (held_at state_before.slots a)) refl ∙ sym e
    where
      go : Dec (127 < last) → (t : Bool) → is_bound (held_at state_before.slots a) ≡ t → pass_found (pool_in given) last after a ≡ pass_found (pool_in given) last before a
      go (yes h) t q = found_forbidden (pool_in given) last after a h ∙ sym (found_forbidden (pool_in given) last before a h)
      go (no h) true q =
          let w = which_bound (held_at state_before.slots a) q in
          absurd (n ((hb_lookup_0 given last before a k e w.0).1 (omega arith, (bound_small state_before.slots a w.0 w.1, w.1))).answer_is)
      go (no h) false q = found_by_state a (ap (λ (s : Controller). held_at s.slots a) (nothing_reported state_before a q))

  -- a lookup of every other address answers as before
  pub hb_lookup_elsewhere : (b : ℕ) (k r : HbFound) → (b ≡ a → ⊥) → k ≡ pass_found (pool_in given) last before b → r ≡ pass_found (pool_in given) last after b → r ≡ k
  hb_lookup_elsewhere b k r n e f = f ∙ found_by_state b (held_elsewhere state_before a b size_before n) ∙ sym e
