-- From a Get UDID on, the pass serves the unresolved targets in ascending order, and ends as the plain rule says.
use Rattle.std.specs.Prelude.{ℕ, suc, ◌<◌, ◌≡◌, refl, Bool, true, false, ◌⊎◌, List, [], ◌∷◌, length, Option, Some, None}
use Rattle.std.proofs.Common.{sym, ap, ap₂, ◌∙◌, subst, inl, inr, add-one, arith}
use Rattle.std.proofs.Math.Decide.{ℕ_discrete}
use Rattle.wire.specs.declared.address.Address.{Address}
use Rattle.lists.specs.ChoiceLaws.{not_both}
use Rattle.pool.specs.Pools.{member, with_address}
use Rattle.pool.specs.MemberLaws.{has_with_same, has_with_other}
use Rattle.pool.specs.declared.Pool.{Pool}
use Rattle.udid.specs.Udids.{Fits, same_udid, is_fixed, value}
use Rattle.udid.proofs.UdidLaws.{other_udid}
use Rattle.udid.specs.declared.Udid.{Udid}
use Rattle.arbitration.specs.Among.{Among}
use Rattle.targets.specs.Target.{Target, is_resolved, assigned_to, resolve, Sized}
use Rattle.targets.specs.MembersLaws.{waits_next}
use Rattle.targets.specs.Members.{Least}
use Rattle.targets.specs.RecordLaws.{length_map, assigned_keeps_udid}
use Rattle.slots.specs.Finding.{bound_to}
use Rattle.picking.specs.Claims.{makes_claim}
use Rattle.arp.specs.Controller.{issued, stepped}
use Rattle.slots.specs.Slots.{Sized128, held_at, with_binding}
use Rattle.slots.proofs.SlotsLaws.{held_same, held_other, sized_with}
use Rattle.commands.specs.declared.command.Command.TheVariants.{GetUdid, Assign}
use Rattle.slots.specs.declared.Binding.{Binding}
use Rattle.slots.specs.declared.Binding.TheVariants.{Bound}
use Rattle.slots.specs.declared.Slots.{Slots}
use Rattle.commands.specs.declared.command.Handed.TheVariants.{Send}
use Rattle.arp.specs.declared.state.Stepped.{Stepped}
use Rattle.arp.specs.State.{state_of}
use Rattle.rule.specs.Acknowledge.{on_bus}
use Rattle.rule.specs.AcknowledgeLaws.{nothing_on_bus}
use Rattle.rule.specs.AnyBusLaws.{silent_run}
use Rattle.rule.specs.Bus.{World, model_bus, run}
use Rattle.rule.specs.BusLaws.{turn_takes}
use Rattle.rule.specs.PlainRule.{Ending, served, none_free, is_picked_for, plain_choice, pick_after}
use Rattle.rule.specs.PassEnd.{last_command, out, ended}
use Rattle.rule.specs.EffectLaws.{effect_as_meant}
use Rattle.rule.specs.TraceLaws as on-bus
use Rattle.rule.specs.RuleLaws.{controller_picks_as_rule, controller_chooses_as_rule, ready_choice_free, ready_last_used, ready_fixed_some, ready_next}
use Rattle.rule.specs.Serving.{Unbound, serve, plain, Inv, turns, asking}
use Rattle.rule.specs.StepLaws.{get_silence_ends, get_issued, assign_bound}

-- binding another leaves an identifier unbound
unbound_set : (u : Udid) (t : Target) (s : Slots) (a : ℕ) → Sized128 s → a < 128 → same_udid t.udid u ≡ false → Unbound u s → Unbound u (with_binding s a (Bound t.udid))
unbound_set u t s a z l n h i = go (ℕ_discrete i a)
  where
    go : Dec (i ≡ a) → bound_to u (held_at (with_binding s a (Bound t.udid)) i) ≡ false
    go (yes e) = ap (λ (j : ℕ). bound_to u (held_at (with_binding s a (Bound t.udid)) j)) e
        ∙ ap (bound_to u) (held_same s a (Bound t.udid) z l) ∙ n
    go (no e) = ap (bound_to u) (held_other s a i (Bound t.udid) e) ∙ h i

-- an Assign keeps the identifiers
fits_next : (u : Udid) (a : ℕ) (ts : List Target) → ((t : Target) → Among t ts → Fits t.udid) → (t : Target) → Among t (resolve u a ts) → Fits t.udid
fits_next u a [] h t x'' = elim x'' [ ]
fits_next u a (x ∷ ts) h t (inl e) = subst Fits (sym (assigned_keeps_udid u a x) ∙ ap (λ (y : Target). y.udid) e) (h x (inl refl))
fits_next u a (x ∷ ts) h t (inr m) = fits_next u a ts (λ y k. h y (inr k)) t m

-- an address that is not shut is not taken: an Assign of it binds
taken_not : (occupied p shut : Pool) (s : Slots) (k : ℕ) (ts rest : List Target) → Inv occupied p shut s k ts rest → (a : ℕ) → member shut a ≡ false → makes_claim occupied (held_at s a) a ≡ false
taken_not occupied p shut s k ts rest v a n = go (makes_claim occupied (held_at s a) a) refl
  where
    go : (b : Bool) → makes_claim occupied (held_at s a) a ≡ b → makes_claim occupied (held_at s a) a ≡ false
    go false e = e
    go true e = not_both n (v.taken_shut a e)

inv_next : (occupied p shut : Pool) (last : ℕ) (s : Slots) (k : ℕ) (ts rest : List Target) (r : Target) (a : Address) → Inv occupied p shut s k ts (r ∷ rest) → plain_choice p last r ≡ Some a
    → Inv occupied (with_address p a.0) (with_address shut a.0) (with_binding s a.0 (Bound r.udid)) (suc k) (resolve r.udid a.0 ts) rest
inv_next occupied p shut last s k ts rest r a v e =
    let free = ready_choice_free p shut last r rest a v.ready e in record {
      ready = ready_next p shut last r rest a v.ready e;
      taken_shut = λ i t. shut_next free.0 i t (ℕ_discrete i a.0);
      waits = waits_next ts rest r a.0 v.waits (λ x m. (v.ready.apart.0 x m).lower);
      unbound = λ t m. unbound_set t.udid r s a.0 v.room free.0 (other_udid r.udid t.udid (λ q. above t (v.ready.apart.0 t m).lower (ap value q))) (v.unbound t (inr m));
      room = sized_with s a.0 (Bound r.udid) v.room;
      below_128 = omega (arith, v.below_128);
      present = omega (arith, length_map (assigned_to r.udid a.0) ts, v.present);
      fits = fits_next r.udid a.0 ts v.fits;
    }
  where
    above : (t : Target) → value r.udid < value t.udid → value r.udid ≡ value t.udid → ⊥
    above t l q = omega arith

    shut_next : a.0 < 128 → (i : ℕ) → makes_claim occupied (held_at (with_binding s a.0 (Bound r.udid)) i) i ≡ true → Dec (i ≡ a.0) → member (with_address shut a.0) i ≡ true
    shut_next l i t (yes q) = ap (member (with_address shut a.0)) q ∙ has_with_same shut a.0 l
    shut_next l i t (no q) =
        has_with_other shut a.0 i q
        ∙ v.taken_shut i (ap (λ (h : Binding). makes_claim occupied h i) (sym (held_other s a.0 i (Bound r.udid) q)) ∙ t)

-- ---- the run

-- a world of the controller and the targets
abbrev world : Stepped → List Target → World
world x ts = record { now = x; targets = ts }

-- an ended pass stays as it is
pub ended_run_stays : (n last : ℕ) (b p : Pool) (s : Slots) (m : ℕ) (e : Ending) (ts : List Target)
    → run n (record { now = out last b p s m (last_command e); targets = ts }) ≡ record { now = out last b p s m (last_command e); targets = ts }
ended_run_stays n last b p s m served ts = silent_run model_bus n (world (out last b p s m (last_command served)) ts) (nothing_on_bus (last_command served) ts refl)
ended_run_stays n last b p s m (none_free u) ts = silent_run model_bus n (world (out last b p s m (last_command (none_free u))) ts) (nothing_on_bus (last_command (none_free u)) ts refl)

-- nobody is left
all_resolved_ends : (last : ℕ) (b p : Pool) (s : Slots) (n : ℕ) (ts : List Target) → 0 < length ts → ((t : Target) → Among t ts → is_resolved t ≡ false → ⊥)
    → stepped (state_of last b p s n (Send GetUdid)) (on_bus (Send GetUdid) ts) ≡ out last b p s n (last_command served)
all_resolved_ends last b p s n [] l h = absurd (omega arith)
all_resolved_ends last b p s n (t ∷ ts) l h = ap (stepped (state_of last b p s n (Send GetUdid))) (on-bus.get_cut t ts (λ x m. all x m (is_resolved x) refl)) ∙ get_silence_ends last b p s n
  where
    all : (x : Target) → Among x (t ∷ ts) → (c : Bool) → is_resolved x ≡ c → is_resolved x ≡ true
    all x m true e = e
    all x m false e = absurd (h x m e)

pub run_serves_rest : (last : ℕ) (b p shut : Pool) (s : Slots) (k : ℕ) (ts rest : List Target) → Inv b p shut s k ts rest
    → run (turns rest) (asking last b p s (suc k) ts) ≡ ended b (plain rest p last s k ts)
run_serves_rest last b p shut s k ts [] v = turn_takes (out last b p s (suc k) (Send GetUdid)) ts (Send GetUdid) refl ∙ ap₂ world (all_resolved_ends last b p s (suc k) ts v.present (λ t m e. v.waits.known t m e)) (effect_as_meant (Send GetUdid) ts tt v.fits)
run_serves_rest last b p shut s k ts (r ∷ rest) v =
    ap (run (suc (turns rest))) (turn_takes (out last b p s (suc k) (Send GetUdid)) ts (Send GetUdid) refl)
    ∙ ap₂ (λ (x : Stepped) (us : List Target). run (suc (turns rest)) (world x us)) reply_issues_choice (effect_as_meant (Send GetUdid) ts tt v.fits)
    ∙ go (plain_choice p last r) refl
    (λ a e. run_serves_rest (pick_after p last r a.0) b (with_address p a.0) (with_address shut a.0) (with_binding s a.0 (Bound r.udid)) (suc k) (resolve r.udid a.0 ts) rest (inv_next b p shut last s k ts rest r a v e))
  where
    least : Least ts r
    least = record {
      among = v.waits.there r (inl refl);
      unresolved = v.waits.unresolved r (inl refl);
      sized = v.ready.sized r (inl refl);
      below = λ t m e. later t (v.waits.known t m e);
    }
      where
        later : (t : Target) → Among t (r ∷ rest) → (r ≡ t) ⊎ (Sized t × (value r.udid < value t.udid))
        later t (inl e) = inl e
        later t (inr m) = inr (v.ready.sized t (inr m), (v.ready.apart.0 t m).lower)

    reply_issues_choice : stepped (state_of last b p s (suc k) (Send GetUdid)) (on_bus (Send GetUdid) ts) ≡ issued (state_of last b p s (suc k) (Send GetUdid)) r.udid (is_picked_for p r) (plain_choice p last r)
    reply_issues_choice =
        ap (stepped (state_of last b p s (suc k) (Send GetUdid))) (on-bus.get_whole ts r least)
        ∙ get_issued last b p s (suc k) r (v.ready.sized r (inl refl)) (v.unbound r (inl refl))
        ∙ ap₂ (issued (state_of last b p s (suc k) (Send GetUdid)) r.udid) (controller_picks_as_rule p r top some) (controller_chooses_as_rule p last r top some)
      where
        top : member p 127 ≡ true
        top = ready_last_used p shut (r ∷ rest) v.ready

        some : is_fixed r.udid ≡ true → r.address_byte ≡ 255 → ⊥
        some = ready_fixed_some p shut (r ∷ rest) v.ready r (inl refl)

    go : (c : Option Address) → plain_choice p last r ≡ c
        → ((a : Address) → plain_choice p last r ≡ Some a
        → run (turns rest) (asking (pick_after p last r a.0) b (with_address p a.0) (with_binding s a.0 (Bound r.udid)) (suc (suc k)) (resolve r.udid a.0 ts))
        ≡ ended b (plain rest (with_address p a.0) (pick_after p last r a.0) (with_binding s a.0 (Bound r.udid)) (suc k) (resolve r.udid a.0 ts)))
        → run (suc (turns rest)) (record { now = issued (state_of last b p s (suc k) (Send GetUdid)) r.udid (is_picked_for p r) (plain_choice p last r); targets = ts })
        ≡ ended b (serve (λ p' l' s' k' ts'. plain rest p' l' s' k' ts') r p last s k ts (plain_choice p last r))
    go None e ih = rw e (ended_run_stays (suc (turns rest)) last b p s (suc k) (none_free r.udid) ts)
    go (Some a) e ih =
        let f = ready_choice_free p shut last r rest a v.ready e in
        rw e
        (ap (run (turns rest)) (turn_takes (out (pick_after p last r a.0) b p s (suc k) (Send (Assign r.udid a))) ts (Send (Assign r.udid a)) refl)
        ∙ ap₂ (λ (x : Stepped) (us : List Target). run (turns rest) (world x us))
        (ap (stepped (state_of (pick_after p last r a.0) b p s (suc k) (Send (Assign r.udid a)))) (on-bus.assign_whole ts r.udid a r (v.waits.there r (inl refl)) refl)
        ∙ assign_bound (pick_after p last r a.0) b p s (suc k) r.udid a (omega (arith, v.below_128)) (v.ready.sized r (inl refl)).udid f.0
        ∙ simp (taken_not b p shut s k ts (r ∷ rest) v a.0 f.1, add-one (suc k)))
        (effect_as_meant (Send (Assign r.udid a)) ts (v.ready.sized r (inl refl)).udid v.fits)
        ∙ ih a e)
