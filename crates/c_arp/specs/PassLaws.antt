-- A pass over a list of traces, issues, declines and reports is the history of a start and these events, so that what is promised of histories
-- holds of it; and its answer, in numbers.
use Rattle.std.specs.Prelude.{◌≡◌, true, ◌↔◌, ℕ, ◌<◌, length}
use Rattle.std.proofs.Math.Path.{refl, ap}
use Rattle.std.proofs.Common.{sym, ◌∙◌, subst, arith}
use mathlib.Core.List.{List, [], ◌∷◌, ◌++◌}
use Rattle.std.proofs.Math.Logic.Iff.{trans as iff_trans}
use Rattle.std.proofs.Math.Decide.{dec_lt}
use Rattle.pool.specs.declared.Pool.{Pool}
use Rattle.arp.proofs.LastPickLaws.{last_pick_is}
use Rattle.arp.proofs.OutstandingLaws.{step_21_by_events}
use Rattle.arp.specs.Choosing.{issuing, declining}
use Rattle.arp.specs.Controller.{new_controller, started}
use Rattle.arp.specs.Gone.{reported}
use Rattle.arp.specs.History.{By, Event, Start, Received, Gone, Issue, Decline, heard, run}
use Rattle.arp.specs.Numbers.{command_number}
use Rattle.arp.specs.Replay.{handed_out, answered}
use Rattle.hearing.specs.Told.{no_command}
use Rattle.commands.specs.declared.command.Command.TheVariants.{Prepare}
use Rattle.commands.specs.declared.command.Handed.{Handed}
use Rattle.commands.specs.declared.command.Handed.TheVariants.{Send}
use Rattle.arp.specs.declared.state.Controller.{Controller}
use Rattle.arp.specs.declared.state.Stepped.{Stepped}
use Rattle.c_arp.specs.declared.kinds.HbCommand.{HbCommand}
use Rattle.c_arp.specs.declared.parts.HbPool.{HbPool}
use Rattle.c_arp.specs.Commands.{told_command}
use Rattle.c_arp.specs.Parts.{pool_in}
use Rattle.c_arp.specs.Pass.{entries_in, after_event, steps_over, pass_over, told_pass, refused_pass, pass_command}
use Rattle.c_arp.specs.CommandPartLaws.{never_1, command_parts, command_21}
use Rattle.c_arp.specs.PassCallLaws.{command_forbidden, command_told}
use Rattle.c_arp.specs.TraceListLaws.{listed_both, entries_back}
use Rattle.c_arp.specs.TraceLists.{Listed, list_bytes, Cut}
use Rattle.c_arp.specs.CommandParts.{CommandParts, CommandIs}
use Rattle.c_arp.specs.Histories.{since, events_of, IsHistory}

module _ (occupied : Pool) (last : ℕ) where
  one_event : (es : List Event) (st : Stepped) → IsHistory occupied last es st → (x : Event) → IsHistory occupied last (x ∷ es) (after_event st x)
  unfolding run answered
  one_event es st h Start = record { state = ap (λ (c : Controller). (started c).state) h.state; command = ap (λ (c : Controller). (started c).command) h.state }
  one_event es st h (Received w tr) = record { state = ap (λ (c : Controller). (heard w c tr).state) h.state; command = ap (λ (c : Controller). (heard w c tr).command) h.state }
  one_event es st h (Gone a) = record { state = ap (λ (c : Controller). (reported c a).state) h.state; command = h.command }
  one_event es st h Issue = record { state = ap (λ (c : Controller). (issuing c).state) h.state; command = ap (λ (c : Controller). (issuing c).command) h.state }
  one_event es st h Decline = record { state = ap (λ (c : Controller). (declining c).state) h.state; command = ap (λ (c : Controller). (declining c).command) h.state }

  since_steps : (es : List Event) (st : Stepped) (xs : List Event) → IsHistory occupied last es st → IsHistory occupied last (since es xs) (steps_over st xs)
  unfolding since steps_over
  since_steps es st [] h = h
  since_steps es st (x ∷ xs) h = since_steps (x ∷ es) (after_event st x) xs (one_event es st h x)

  start_history : IsHistory occupied last (Start ∷ []) (started (new_controller occupied last))
  unfolding run answered
  start_history = record { state = refl; command = refl }

-- A PASS over any bytes leaves the state and gives the answer of the history of a start and the entries that they hold
pub hb_pass_events : (given : HbPool) (last : ℕ) (l : List ℕ)
    → IsHistory (record { low = given.low; high = given.high }) last (events_of (entries_in (length l) l)) (pass_over (pool_in given) last l)
hb_pass_events given last l =
    since_steps (pool_in given) last (Start ∷ []) (started (new_controller (pool_in given) last)) (entries_in (length l) l) (start_history (pool_in given) last)

-- so over the bytes of a list of entries, and whatever is left of an entry that is cut, those of a start and these events
pub hb_pass_history : (given : HbPool) (last : ℕ) (es : List Event) (rest : List ℕ) → Listed es → Cut rest
    → IsHistory (record { low = given.low; high = given.high }) last (events_of es) (pass_over (pool_in given) last (list_bytes es ++ rest))
hb_pass_history given last es rest v c =
    subst (λ (xs : List Event). IsHistory (pool_in given) last (events_of xs) (pass_over (pool_in given) last (list_bytes es ++ rest))) (entries_back es rest v c)
    (hb_pass_events given last (list_bytes es ++ rest))

since_last : (es xs : List Event) (x : Event) → since es (xs ++ x ∷ []) ≡ x ∷ since es xs
unfolding since
since_last es [] x = refl
since_last es (y ∷ xs) x = since_last (y ∷ es) xs x

-- ---- what hb_pass answers, with the last pick that is given

module _ (given : HbPool) (last : ℕ) (l : List ℕ) (r : HbCommand) (e : r ≡ pass_command (pool_in given) last l) where
  forbidden : 127 < last → r ≡ refused_pass
  forbidden h = e ∙ command_forbidden (pool_in given) last l h

  told : last < 128 → r ≡ told_pass (pass_over (pool_in given) last l)
  told h = e ∙ command_told (pool_in given) last l h

  -- up to 127 the struct tells what the pass answered last, its Get UDIDs and its last pick
  pub hb_pass_told : last < 128 → let st = pass_over (pool_in given) last l in CommandIs st.command st.state.gets st.state.picked r
  hb_pass_told h = let st = pass_over (pool_in given) last l in command_parts st.command st.state.gets st.state.picked r (told h)

  -- 1 exactly if it is above 127, and then every part but the kind is zero
  pub hb_pass_1 : (r.answer ≡ 1) ↔ (127 < last)
  hb_pass_1 = (λ q. go q (dec_lt 127 last), λ h. ap (λ (x : HbCommand). x.answer) (forbidden h))
    where
      go : r.answer ≡ 1 → Dec (127 < last) → 127 < last
      go q (yes h) = h
      go q (no h) =
          let st : Stepped = pass_over (pool_in given) last l in
          absurd (never_1 st.command st.state.gets st.state.picked (sym (ap (λ (x : HbCommand). x.answer) (told (omega arith))) ∙ q))

  pub hb_pass_1_zero : r.answer ≡ 1 → CommandParts r 6 1 0 0 0 0 0 0
  hb_pass_1_zero q =
      subst (λ (x : HbCommand). CommandParts x 6 1 0 0 0 0 0 0) (sym (forbidden (hb_pass_1.0 q)))
      (record { kind_is = refl; answer_is = refl; address_is = refl; gets_is = refl; picked_is = refl; reason_is = refl; high_is = refl; low_is = refl })

-- ---- with one more entry as the last

module _ (given : HbPool) (last : ℕ) (es : List Event) (x : Event) (rest : List ℕ) (small : last < 128) (v : Listed es) (one : Listed (x ∷ [])) (cut : Cut rest) (r : HbCommand)
    (e : r ≡ pass_command (pool_in given) last (list_bytes (es ++ x ∷ []) ++ rest)) where
  abbrev occupied : Pool
  occupied = record { low = given.low; high = given.high }

  abbrev end : Stepped
  end = pass_over (pool_in given) last (list_bytes (es ++ x ∷ []) ++ rest)

  end_told : r ≡ told_pass end
  end_told = told given last (list_bytes (es ++ x ∷ []) ++ rest) r e small

  end_answers : end.command ≡ answered occupied last (x ∷ events_of es)
  end_answers =
      (hb_pass_history given last (es ++ x ∷ []) rest (listed_both es (x ∷ []) v one) cut).command ∙ ap (answered occupied last) (since_last (Start ∷ []) es x)

  pub end_21 : (r.answer ≡ 21) ↔ (command_number (answered occupied last (x ∷ events_of es)) ≡ (21, []) ∷ [])
  end_21 =
      subst (λ (k : Handed). (r.answer ≡ 21) ↔ (command_number k ≡ (21, []) ∷ [])) end_answers
      (command_21 end.command end.state.gets end.state.picked r end_told)

-- with a trace as the last entry, for a step or for its first half, hb_pass answers 21 exactly if no command was handed out last before it
pub hb_pass_21 : (given : HbPool) (last : ℕ) (es : List Event) (w : By) (tr rest : List ℕ) → last < 128 → Listed es → length tr < 65532 → Cut rest → (r : HbCommand)
    → r ≡ pass_command (pool_in given) last (list_bytes (es ++ Received w tr ∷ []) ++ rest)
    → (r.answer ≡ 21) ↔ (no_command (handed_out (record { low = given.low; high = given.high }) last (events_of es)) ≡ true)
unfolding answered
hb_pass_21 given last es w tr rest small v short cut r e =
    iff_trans (end_21 given last es (Received w tr) rest small v (short, tt) cut r e) (step_21_by_events (pool_in given) last (events_of es) w tr)

-- with no entry it hands out Prepare
pub hb_pass_start : (given : HbPool) (last : ℕ) (r : HbCommand) → last < 128 → r ≡ pass_command (pool_in given) last [] → CommandParts r 0 0 0 0 last 0 0 0
unfolding entries_in steps_over
hb_pass_start given last r small e =
    command_parts (Send Prepare) 0 last r (told given last [] r e small ∙ ap (told_command (Send Prepare) 0) (last_pick_is last small))
