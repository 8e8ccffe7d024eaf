-- The count that the controller keeps is that of the Get UDIDs that stood on the bus.
use Rattle.std.specs.Prelude.{ℕ, zero, suc, ◌+◌, ◌<◌, ◌≡◌, length, drop, replicate}
use Rattle.std.proofs.Math.Path.{refl, sym, ap}
use Rattle.std.proofs.Common.{ap₂, ◌∙◌, subst, arith}
use mathlib.Core.List.{List, [], ◌∷◌}
use Rattle.pool.specs.Start.{starting_pool, barred_pool}
use Rattle.pool.specs.declared.Pool.{Pool}
use Rattle.targets.specs.Admission.{AdmittedTargets}
use Rattle.targets.specs.Target.{Target}
use Rattle.arp.specs.Handing.{Kept}
use Rattle.arp.proofs.HandingLaws.{busy_handed}
use Rattle.arp.specs.Controller.{last_pick, changed, stepped}
use Rattle.arp.specs.History.{one_get}
use Rattle.hearing.specs.Told.{tells}
use Rattle.commands.specs.declared.command.Command.{Command}
use Rattle.commands.specs.declared.command.Command.TheVariants.{Prepare, GetUdid, Assign}
use Rattle.commands.specs.declared.command.End.TheVariants.{Ended}
use Rattle.commands.specs.declared.command.Handed.{Handed}
use Rattle.commands.specs.declared.command.Handed.TheVariants.{Send, Wait}
use Rattle.arp.specs.declared.state.Controller.{Controller}
use Rattle.rule.specs.Acknowledge.{begins, acknowledges, somebody, answered, standing, sent_part, on_bus}
use Rattle.rule.specs.Bus.{World, took, turn, run, beginning, pass}
use Rattle.rule.specs.BusLaws.{turn_still, turn_takes, took_length}
use Rattle.rule.specs.PassEndLaws.{demand_3, nobody_ends_first_turn}
use Rattle.rule.specs.PassEnd.{last_command, nobody_there, pass_end}
use Rattle.rule.specs.PlainRule.{Ending, served, none_free, ruled}
use Rattle.rule.specs.TraceLaws as on-bus
use Rattle.rule.specs.Sent.{stands, traces, one_in, gets_among, gets_on_bus}

-- on a bus with a target, a command is a Get UDID by its symbols if and only if it was handed out as one
pub get_by_symbols : (k : Handed) (t : Target) (ts : List Target) → one_in (on_bus k (t ∷ ts)) ≡ one_get k
unfolding on_bus standing answered somebody acknowledges begins
get_by_symbols (Send Prepare) t ts = refl
get_by_symbols (Send GetUdid) t ts = refl
get_by_symbols (Send (Assign u a)) t ts = refl
get_by_symbols (Wait e) t ts = refl

-- ---- one turn

-- what a turn hands out is kept as the last, and counted where it is a Get UDID
turn_handed : (w : World) → w.now.state.last ≡ w.now.command → Kept w.now.state (turn w).now
unfolding stepped
turn_handed w e = go w.now.command e
  where
    c : Controller
    c = w.now.state

    sent : (k : Handed) → sent_part k ≡ 256 ∷ drop 1 (sent_part k) → c.last ≡ k → Kept c (changed c (tells k (on_bus k w.targets)))
        → Kept c (took w.now w.targets (on_bus k w.targets)).now
    sent k p q h =
        subst (λ (x : World). Kept c x.now) (sym (turn_takes w.now w.targets k p))
        (subst (λ (x : Handed). Kept c (changed c (tells x (on_bus k w.targets)))) (sym q) h)

    not_sent : (k : Handed) → sent_part k ≡ [] → c.last ≡ k → one_get k ≡ 0 → Kept c (took w.now w.targets (on_bus k w.targets)).now
    not_sent k p q n =
        subst (λ (x : World). Kept c x.now) (sym (turn_still w.now w.targets k p)) (record { last = e; gets = omega (arith, ap one_get (sym e ∙ q), n) })

    kept : (k : Command) → sent_part (Send k) ≡ 256 ∷ drop 1 (sent_part (Send k)) → c.last ≡ Send k → Kept c (took w.now w.targets (on_bus (Send k) w.targets)).now
    kept k p q = sent (Send k) p q (busy_handed c (Send k) (on_bus (Send k) w.targets) refl)

    go : (k : Handed) → c.last ≡ k → Kept c (took w.now w.targets (on_bus k w.targets)).now
    go (Send Prepare) q = kept Prepare refl q
    go (Send GetUdid) q = kept GetUdid refl q
    go (Send (Assign u a)) q = kept (Assign u a) refl q
    go (Wait e) q = not_sent (Wait e) refl q refl

-- nobody leaves the bus
turn_present : (w : World) → length (turn w).targets ≡ length w.targets
turn_present w = took_length w.now w.targets (on_bus w.now.command w.targets)

stands_get : (k : Handed) (ts : List Target) → 0 < length ts → one_in (on_bus k ts) ≡ one_get k
stands_get k [] h = absurd (omega arith)
stands_get k (t ∷ ts) h = get_by_symbols k t ts

-- ---- several turns

-- the Get UDIDs that stood on the bus, and the one that is out at the end, are those counted since, and the one that was out at first
pub gets_counted : (n : ℕ) (w : World) → w.now.state.last ≡ w.now.command → 0 < length w.targets
    → gets_among (traces n w) + one_get (run n w).now.command + w.now.state.gets ≡ (run n w).now.state.gets + one_get w.now.command
gets_counted zero w e h = omega arith
gets_counted (suc n) w e h =
    let t = turn_handed w e in
    let r = gets_counted n (turn w) t.last (omega (arith, turn_present w, h)) in
    omega (arith, stands_get w.now.command w.targets h, t.gets, r)

-- from a start to an end: those counted are those that stood on the bus
gets_whole : (n : ℕ) (w : World) → w.now.state.last ≡ w.now.command → 0 < length w.targets → one_get w.now.command ≡ 0 → w.now.state.gets ≡ 0
    → one_get (run n w).now.command ≡ 0 → (run n w).now.state.gets ≡ gets_among (traces n w)
gets_whole n w e h a b c = omega (arith, gets_counted n w e h, a, b, c)

-- with no target no byte is acknowledged, and so none of the traces is a Get UDID
none_on_bus : (k : Handed) → one_in (on_bus k []) ≡ 0
unfolding on_bus standing answered somebody begins
none_on_bus (Send Prepare) = refl
none_on_bus (Send GetUdid) = refl
none_on_bus (Send (Assign u a)) = refl
none_on_bus (Wait e) = refl

stands_none : (k : Handed) (ts : List Target) → length ts ≡ 0 → one_in (on_bus k ts) ≡ 0
stands_none k [] h = none_on_bus k
stands_none k (t ∷ ts) h = absurd (omega arith)

gets_none : (n : ℕ) (w : World) → length w.targets ≡ 0 → gets_among (traces n w) ≡ 0
gets_none zero w h = refl
gets_none (suc n) w h = omega (arith, stands_none w.now.command w.targets h, gets_none n (turn w) (turn_present w ∙ h))

-- ---- the pass

-- an end is no command: nothing stands on the bus any more
end_silent : (e : Ending) (ts : List Target) → on_bus (last_command e) ts ≡ []
unfolding on_bus standing
end_silent served ts = refl
end_silent (none_free u) ts = refl

end_counts : (e : Ending) → one_get (last_command e) ≡ 0
end_counts served = refl
end_counts (none_free u) = refl

nobody_there_silent : (n : ℕ) (occupied : Pool) (last : ℕ) → traces n (nobody_there occupied last) ≡ replicate n []
nobody_there_silent zero occupied last = refl
nobody_there_silent (suc n) occupied last =
    ap₂ (λ (x : List ℕ) (l : List (List ℕ)). x ∷ l) (end_silent served [])
    (ap (traces n) (turn_still (nobody_there occupied last).now [] (Wait Ended) refl) ∙ nobody_there_silent n occupied last)

module _ (occupied : Pool) (last : ℕ) where
  -- WITH NO TARGET: Prepare To ARP, whose first byte gets NACK, and nothing after it
  pub nobody_there_traces : (n : ℕ) → traces (suc n) (beginning occupied last []) ≡ (256 ∷ 194 ∷ 259 ∷ 257 ∷ []) ∷ replicate n []
  nobody_there_traces n = ap₂ (λ (x : List ℕ) (l : List (List ℕ)). x ∷ l) on-bus.prepare_cut (ap (traces n) (nobody_ends_first_turn occupied last) ∙ nobody_there_silent n occupied (last_pick last))

  -- AFTER THE PASS THE BUS IS SILENT: no Get UDID follows those that are counted
  pub silent_after : (ts : List Target) → AdmittedTargets (barred_pool occupied) ts → stands (pass occupied last ts) ≡ []
  silent_after ts v = ap stands (demand_3 occupied last ts v) ∙ go ts
    where
      go : (ts : List Target) → stands (pass_end occupied (last_pick last) ts) ≡ []
      go [] = end_silent served []
      go (t ∷ ts) = end_silent (ruled (starting_pool occupied) (last_pick last) (t ∷ ts)).ending (pass_end occupied (last_pick last) (t ∷ ts)).targets

  -- THE CONTROLLER'S COUNT IS THAT OF THE GET UDIDS ON THE BUS
  pub counted_on_bus : (ts : List Target) → AdmittedTargets (barred_pool occupied) ts → (pass occupied last ts).now.state.gets ≡ gets_on_bus occupied last ts
  unfolding gets_on_bus pass
  counted_on_bus [] v = ap (λ (w : World). w.now.state.gets) (demand_3 occupied last [] v) ∙ sym (gets_none 300 (beginning occupied last []) refl)
  counted_on_bus (t ∷ ts) v =
      gets_whole 300 (beginning occupied last (t ∷ ts)) refl (omega arith) refl refl
      (ap (λ (w : World). one_get w.now.command) (demand_3 occupied last (t ∷ ts) v) ∙ end_counts (ruled (starting_pool occupied) (last_pick last) (t ∷ ts)).ending)

  -- ONE MORE THAN TARGETS ARE BOUND, where there is a target; with none, no Get UDID
  pub gets_one_more_than_bound : (t : Target) (ts : List Target) → AdmittedTargets (barred_pool occupied) (t ∷ ts) → gets_on_bus occupied last (t ∷ ts) ≡ suc (length (ruled (starting_pool occupied) (last_pick last) (t ∷ ts)).given)
  gets_one_more_than_bound t ts v = sym (counted_on_bus (t ∷ ts) v) ∙ ap (λ (w : World). w.now.state.gets) (demand_3 occupied last (t ∷ ts) v) ∙ omega arith

  pub no_gets_without_target : gets_on_bus occupied last [] ≡ 0
  unfolding gets_on_bus
  no_gets_without_target = gets_none 300 (beginning occupied last []) refl
