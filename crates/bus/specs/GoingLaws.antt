-- Every command of a pass is the state's own and reaches somebody, and so the code's run over the records is the pass bit by bit.
use Rattle.std.specs.Prelude.{ℕ, suc, ◌*◌, ◌/◌, ◌<◌, ◌≡◌, refl, Bool, true, false, List, [], ◌∷◌, leb, length, drop, Option, Some, None, Ok, Err}
use Rattle.std.proofs.Common.{sym, ap, ◌∙◌, subst, arith}
use Rattle.lists.specs.Choice.{pick}
use Rattle.lists.specs.ChoiceLaws.{false_not_true}
use Rattle.lists.specs.Each.{Bytes}
use Rattle.wire.specs.declared.address.Address.{Address}
use Rattle.arbitration.specs.Among.{Among}
use Rattle.pool.specs.Start.{barred_pool}
use Rattle.pool.specs.declared.Pool.{Pool}
use Rattle.scan.specs.Decoded.{Decoded}
use Rattle.udid.specs.declared.Udid.{Udid}
use Rattle.targets.specs.AdmissionLaws.{admitted_length}
use Rattle.targets.specs.Records.{target_at, targets_of, records_with}
use Rattle.targets.specs.RecordLaws.{put_from_keeps_udid, length_put_from, length_map}
use Rattle.targets.specs.Refusals.{checked_list}
use Rattle.targets.specs.RefusalLaws.{given_exactly}
use Rattle.targets.specs.Target.{Target, assigned_to}
use Rattle.targets.specs.Winner.{winner_of}
use Rattle.targets.specs.WinnerLaws.{winner_exactly, winner_least}
use Rattle.targets.specs.Members.{Least}
use Rattle.picking.proofs.PickingLaws.{chosen_small_and_free}
use Rattle.arp.specs.Bindings.{bound, freed}
use Rattle.arp.specs.Controller.{handed, counted, asked, issued, replied, stepped, started, new_controller, changed}
use Rattle.picking.specs.Picking.{has_to_pick, chosen}
use Rattle.hearing.specs.Heard.{answer, sent_in, is_assign}
use Rattle.commands.specs.Codes.{block_write}
use Rattle.commands.specs.Requests.{trace_of}
use Rattle.hearing.specs.Told.{told_assign, tells}
use Rattle.arp.proofs.ChangedLaws.{told_is_changed}
use Rattle.hearing.specs.TraceLaws.{prepare_accepted}
use Rattle.commands.specs.declared.command.Command.TheVariants.{Prepare, GetUdid, Assign}
use Rattle.commands.specs.declared.command.End.TheVariants.{Abandoned}
use Rattle.commands.specs.declared.command.Handed.{Handed}
use Rattle.commands.specs.declared.command.Handed.TheVariants.{Send, Wait}
use Rattle.arp.specs.declared.state.Controller.{Controller}
use Rattle.arp.specs.declared.state.Stepped.{Stepped}
use Rattle.rule.specs.Acknowledge.{on_bus}
use Rattle.rule.specs.AcknowledgeLaws.{nothing_on_bus, start_on_bus}
use Rattle.rule.specs.AnyBus.{WorldOver, run_over, pass_of}
use Rattle.rule.specs.AnyBusLaws.{took_trace, silent_run}
use Rattle.rule.specs.Bus.{reached, pass}
use Rattle.rule.specs.SameBus.{SameWorld}
use Rattle.rule.specs.Acted.{acted}
use Rattle.rule.specs.TraceLaws as on-bus
use Rattle.rule.specs.StepLaws.{prepare_unheard, get_unheard, get_replied}
use Rattle.bus.specs.Going.{Going, Fine, Running}
use Rattle.bus.specs.RecordsBus.{records_bus, Holds}
use Rattle.bus.specs.RecordsBusLaws.{records_pass}
use Rattle.bus.specs.Turn.{Fit, Reaches, is_sent, world_of, sent_to, Matches}
use Rattle.bus.specs.TurnLaws.{get_silence, reached_as_meant}
use Rattle.hearing.specs.declared.told.Told.TheVariants.{Again, Took}

-- ---- what is handed out reaches somebody

fine_asked : (c : Controller) (ts : List Target) → 0 < length ts → Fine (asked c) ts
unfolding asked
fine_asked c ts h = go (leb 128 c.gets)
  where
    go : (b : Bool) → Fine (pick b (handed c (Wait Abandoned)) (handed (counted c) (Send GetUdid))) ts
    go true = (refl, tt)
    go false = (refl, h)

fine_issued : (c : Controller) (t : Target) (picks : Bool) (f : Option Address) (ts : List Target) → Among t ts → ((a : Address) → f ≡ Some a → a.0 < 128) → Fine (issued c t.udid picks f) ts
fine_issued c t picks (Some a) ts m h = (refl, (t, m, refl, h a refl))
fine_issued c t picks None ts m h = (refl, tt)

-- whatever an Assign is told: a Get UDID is due
fine_assigned : (c : Controller) (u : Udid) (a : Address) (d : Decoded) (sent : List ℕ) (ts : List Target) → 0 < length ts → Fine (changed c (told_assign u a d sent)) ts
fine_assigned c u a (Ok t) sent ts h = go (is_assign u a.0 t sent)
  where
    go : (b : Bool) → Fine (changed c (pick b (Took u a) Again)) ts
    go true = fine_asked (bound c u a.0) ts h
    go false = fine_asked c ts h
fine_assigned c u a (Err e) sent ts h = fine_asked c ts h

-- Prepare To ARP
fine_prepare : (c : Controller) (ts : List Target) → c.last ≡ Send Prepare → Fine (stepped c (on_bus (Send Prepare) ts)) (acted (Send Prepare) ts)
fine_prepare c [] e =
    subst (λ (x : Stepped). Fine x []) (sym (ap (stepped c) on-bus.prepare_cut ∙ prepare_unheard c e)) (refl, tt)
fine_prepare c (t ∷ ts) e =
    subst (λ (x : Stepped). Fine x (acted (Send Prepare) (t ∷ ts)))
    (sym (ap (stepped c) (on-bus.prepare_whole t ts) ∙ told_is_changed c (trace_of (Send Prepare) []) (Send Prepare) Again e (prepare_accepted (trace_of (Send Prepare) []) refl)))
    (fine_asked c (acted (Send Prepare) (t ∷ ts)) (omega arith))

-- Get UDID
fine_replied : (c : Controller) (ts : List Target) (t : Target) → Among t ts → t.address_byte < 256 → Fine (replied c t.udid t.address_byte) ts
unfolding replied
fine_replied c ts t m b =
    let p : Pool = (freed c t.udid).pool in
    let l : ℕ = (freed c t.udid).picked in
    fine_issued (freed c t.udid) t (has_to_pick p t.udid t.address_byte) (chosen p l t.udid t.address_byte) ts m (λ a e. (chosen_small_and_free p l t.udid t.address_byte a b e).0)

fine_get : (c : Controller) (s : List ℕ) → Bytes s → Fit s → c.last ≡ Send GetUdid → 0 < length (targets_of s) → Fine (stepped c (on_bus (Send GetUdid) (targets_of s))) (targets_of s)
fine_get c s b f e h = go (winner_of s) refl
  where
    go : (w : Option ℕ) → w ≡ winner_of s → Fine (stepped c (on_bus (Send GetUdid) (targets_of s))) (targets_of s)
    go None q =
        subst (λ (x : Stepped). Fine x (targets_of s))
        (sym (ap (stepped c) (get_silence s b f h q) ∙ get_unheard c e)) (refl, tt)
    go (Some w) q =
        let l : Least (targets_of s) (target_at s w) = winner_least s b f.apart w ((winner_exactly s (Some w)).0 q) in
        subst (λ (x : Stepped). Fine x (targets_of s))
        (sym (ap (stepped c) (on-bus.get_whole (targets_of s) (target_at s w) l) ∙ get_replied c (target_at s w) e l.sized))
        (fine_replied c (targets_of s) (target_at s w) l.among l.sized.address_byte)

-- Assign Address
fine_assign : (c : Controller) (u : Udid) (a : Address) (ts : List Target) → c.last ≡ Send (Assign u a) → Reaches (Send (Assign u a)) ts
    → Fine (stepped c (on_bus (Send (Assign u a)) ts)) (acted (Send (Assign u a)) ts)
fine_assign c u a ts e h =
    subst (λ (x : Stepped). Fine x (acted (Send (Assign u a)) ts))
    (sym (told_is_changed c (on_bus (Send (Assign u a)) ts) (Send (Assign u a)) (tells (Send (Assign u a)) (on_bus (Send (Assign u a)) ts)) e refl))
    (fine_assigned c u a (answer block_write (on_bus (Send (Assign u a)) ts)) (sent_in block_write (on_bus (Send (Assign u a)) ts)) (acted (Send (Assign u a)) ts)
    (omega (arith, length_map (assigned_to u a.0) ts, some ts h.0 h.1)))
  where
    some : (ts : List Target) (t : Target) → Among t ts → 0 < length ts
    some [] t m = absurd m
    some (x ∷ ts) t m = omega arith

-- ---- a turn

fine_next : (st : Stepped) (s : List ℕ) → Bytes s → Fit s → Going st s → is_sent st.command ≡ true
    → Fine (stepped st.state (on_bus st.command (targets_of s))) (acted st.command (targets_of s))
fine_next st s b f g e = go st.command g.handed g.reaches e
  where
    go : (k : Handed) → st.state.last ≡ k → Reaches k (targets_of s) → is_sent k ≡ true → Fine (stepped st.state (on_bus k (targets_of s))) (acted k (targets_of s))
    go (Send Prepare) q r i = fine_prepare st.state (targets_of s) q
    go (Send GetUdid) q r i = fine_get st.state s b f q r
    go (Send (Assign u a)) q r i = fine_assign st.state u a (targets_of s) q r
    go (Wait e) q r i = false_not_true i

going_next : (st r : Stepped) (s after : List ℕ) → Bytes s → Fit s → Going st s → is_sent st.command ≡ true
    → Matches (sent_to st (targets_of s) st.command) r s after → Going r after
going_next st r s after b f g e m =
    let x = fine_next st s b f g e in
    record {
      handed = subst (λ (y : Stepped). y.state.last ≡ y.command) (sym m.controller) x.0;
      reaches = subst (λ (ts : List Target). Reaches r.command ts) (sym (m.targets ∙ reached_as_meant st.command s b g.reaches)) (subst (λ (y : Stepped). Reaches y.command (acted st.command (targets_of s))) (sym m.controller) x.1);
    }

-- a START stands on the bus where something is sent, and nothing after an end
sent_starts : (k : Handed) (ts : List Target) → is_sent k ≡ true → on_bus k ts ≡ 256 ∷ drop 1 (on_bus k ts)
sent_starts (Send Prepare) ts e = start_on_bus (Send Prepare) ts refl
sent_starts (Send GetUdid) ts e = start_on_bus (Send GetUdid) ts refl
sent_starts (Send (Assign u a)) ts e = start_on_bus (Send (Assign u a)) ts refl
sent_starts (Wait x) ts e = false_not_true e

end_silent : (k : Handed) (ts : List Target) → is_sent k ≡ false → on_bus k ts ≡ []
end_silent (Send k) ts e = false_not_true (sym e)
end_silent (Wait x) ts e = nothing_on_bus (Wait x) ts refl

-- ---- the run, turn by turn

fit_put : (ts : List Target) (s after : List ℕ) → Fit s → after ≡ records_with ts s → Fit after
fit_put ts s after f e = subst Fit (sym e) (record {
  whole = length_put_from ts 0 s ∙ f.whole ∙ ap (λ (n : ℕ). n / 18 * 18) (sym (length_put_from ts 0 s));
  apart = λ i h r. f.apart i (omega (arith, h, ap (λ (n : ℕ). n / 18) (length_put_from ts 0 s))) (r.0, r.1, sym (put_from_keeps_udid ts 0 s r.0) ∙ r.2 ∙ put_from_keeps_udid ts 0 s i);
})

pub running_first : (occupied : Pool) (last : ℕ) (st : Stepped) (s : List ℕ) → st ≡ started (new_controller occupied last) → Bytes s → checked_list (barred_pool occupied) s ≡ Ok tt
    → Running (world_of st s) s 300 st s
running_first occupied last st s q b e = record {
  bytes = b;
  fit = record { whole = (admitted_length (barred_pool occupied) s b e).1; apart = ((given_exactly (barred_pool occupied) s (Ok tt)).0 (sym e)).2 };
  going = subst (λ (x : Stepped). Going x s) (sym q) (record { handed = refl; reaches = tt });
  leads = refl;
  same_size = refl;
}

pub running_next : (w : WorldOver (List ℕ)) (first : List ℕ) (m : ℕ) (st r : Stepped) (s after : List ℕ) → Running w first (suc m) st s → Bytes after → is_sent st.command ≡ true
    → Matches (sent_to st (targets_of s) st.command) r s after → Running w first m r after
running_next w first m st r s after v b e q =
    record {
      bytes = b;
      fit = fit_put (reached (on_bus st.command (targets_of s)) (targets_of s)) s after v.fit q.stored;
      going = going_next st r s after v.bytes v.fit v.going e q;
      leads = v.leads ∙ ap (run_over records_bus m) (took_trace records_bus st s (on_bus st.command (targets_of s)) 256 _ (sent_starts st.command (targets_of s) e)
          ∙ (λ j. record { now = sym q.controller j; targets = sym q.stored j }));
      same_size = ap length q.stored ∙ length_put_from (reached (on_bus st.command (targets_of s)) (targets_of s)) 0 s ∙ v.same_size;
    }

-- the run over the records from the start of a pass is the pass
module _ (occupied : Pool) (last : ℕ) (first : List ℕ) (st₀ : Stepped) (q : st₀ ≡ started (new_controller occupied last)) where
  -- no turn is left, or none is taken any more
  running_ended : (m : ℕ) (st : Stepped) (s : List ℕ) → Running (world_of st₀ first) first m st s → run_over records_bus m (world_of st s) ≡ world_of st s
      → Matches (pass occupied last (targets_of first)) st first s
  running_ended m st s v e =
      let x : pass_of records_bus occupied last first ≡ world_of st s = ap (λ (y : Stepped). run_over records_bus 300 (world_of y first)) (sym q) ∙ v.leads ∙ e in
      let w = subst (λ (y : WorldOver (List ℕ)). SameWorld (Holds first) y (pass occupied last (targets_of first))) x (records_pass first occupied last) in
      record { controller = w.now; targets = w.targets.targets; stored = w.targets.stored }

  pub running_last : (m : ℕ) (st : Stepped) (s : List ℕ) → m ≡ 0 → Running (world_of st₀ first) first m st s → Matches (pass occupied last (targets_of first)) st first s
  running_last m st s e v = running_ended m st s v (ap (λ (n : ℕ). run_over records_bus n (world_of st s)) e)

  pub running_still : (m : ℕ) (st : Stepped) (s : List ℕ) → is_sent st.command ≡ false → Running (world_of st₀ first) first m st s → Matches (pass occupied last (targets_of first)) st first s
  running_still m st s e v = running_ended m st s v (silent_run records_bus m (world_of st s) (end_silent st.command (targets_of s) e))
