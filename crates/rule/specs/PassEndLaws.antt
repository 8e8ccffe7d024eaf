-- THE THIRD DEMAND: a pass of the controller's steps over the bus bit by bit ends as the plain rule says.
use Prim.Native.Nat.{ℕ, suc, ◌+◌, ◌*◌, ◌-◌, ◌<◌}
use Rattle.std.specs.Prelude.{◌≡◌, Bool, true, false, ◌⊎◌, ltb, length, Option, Some, None}
use Rattle.std.proofs.Math.Path.{refl, ap, ap₂}
use Rattle.std.proofs.Common.{sym, ◌∙◌, subst, inl, inr, suc-add, add-suc, zero-add, arith}
use mathlib.Core.List.{List, [], ◌∷◌}
use Rattle.lists.specs.Choice.{pick}
use Rattle.lists.specs.ChoiceLaws.{or_none}
use Rattle.lists.specs.Each.{Each}
use Rattle.lists.specs.EachLaws.{each_map}
use Rattle.wire.specs.Addresses.{is_reserved}
use Rattle.wire.specs.declared.address.Address.{Address}
use Rattle.pool.specs.Pools.{member, with_address}
use Rattle.pool.specs.Start.{starting_pool, barred_pool}
use Rattle.pool.proofs.StartLaws.{member_barred, barred_starting}
use Rattle.pool.specs.declared.Pool.{Pool}
use Rattle.udid.specs.Udids.{value}
use Rattle.udid.specs.declared.Udid.{Udid}
use Rattle.arbitration.specs.Among.{Among}
use Rattle.targets.specs.Target.{Target, is_resolved, prepared, cleared, resolve, Sized}
use Rattle.targets.specs.Members.{Pairs}
use Rattle.targets.specs.RecordLaws.{length_map}
use Rattle.targets.specs.Admission.{FixedApart, FixedFree, AdmittedTargets}
use Rattle.slots.proofs.SlotsLaws.{open_all, sized_none}
use Rattle.slots.specs.Finding.{bound_to}
use Rattle.picking.specs.Claims.{makes_claim}
use Rattle.arp.specs.Controller.{last_pick, stepped}
use Rattle.slots.specs.Slots.{with_binding, no_bindings}
use Rattle.commands.specs.declared.command.Command.TheVariants.{Prepare}
use Rattle.slots.specs.declared.Slots.{Slots}
use Rattle.slots.specs.declared.Binding.{Binding}
use Rattle.slots.specs.declared.Binding.TheVariants.{Bound}
use Rattle.commands.specs.declared.command.Handed.TheVariants.{Send}
use Rattle.arp.specs.declared.state.Stepped.{Stepped}
use Rattle.arp.specs.State.{state_of}
use Rattle.rule.specs.AnyBusLaws.{run_add}
use Rattle.rule.specs.Bus.{model_bus, turn, run, beginning, pass}
use Rattle.rule.specs.BusLaws.{turn_takes}
use Rattle.rule.specs.PlainRule.{insert, ascending, is_picked_for, plain_choice, pick_after, served, none_free, Given, next, rule, ruled, FreeIn, MovableFreeIn, Distinct}
use Rattle.rule.specs.PassEnd.{ended, outcome, nobody_there, pass_end}
use Rattle.rule.specs.EffectLaws.{effect_as_meant}
use Rattle.rule.specs.TraceLaws as on-bus
use Rattle.rule.specs.Ready.{Apart, Ready, Lower}
use Rattle.rule.specs.RuleLaws.{rule_gives_free, rule_gives_movable_free, rule_serves_these}
use Rattle.rule.specs.SortLaws.{ascending_adds_none, ascending_keeps, length_ascending, ascending_is_lower_first, pairs_any_two, pairs_map}
use Rattle.rule.specs.Serving.{Unbound, serve, plain, Inv, turns, asking}
use Rattle.rule.specs.StepLaws.{prepare_asks_first, prepare_silence_ends}
use Rattle.rule.specs.ServingLaws.{ended_run_stays, run_serves_rest}

-- ---- the rule with all that it changes is the rule

plain_outcome : (rest : List Target) (p : Pool) (last : ℕ) (s : Slots) (k : ℕ) (ts : List Target) → plain rest p last s k ts ≡ outcome (rule rest p last) p s k ts
plain_outcome [] p last s k ts = ap (λ (n : ℕ). record { pool = p; slots = s; bound = n; targets = ts; ending = served; picked = last }) (sym (zero-add k))
plain_outcome (t ∷ rest) p last s k ts =
    go (plain_choice p last t) (λ a. plain_outcome rest (with_address p a.0) (pick_after p last t a.0) (with_binding s a.0 (Bound t.udid)) (suc k) (resolve t.udid a.0 ts))
  where
    go : (c : Option Address)
        → ((a : Address) → plain rest (with_address p a.0) (pick_after p last t a.0) (with_binding s a.0 (Bound t.udid)) (suc k) (resolve t.udid a.0 ts)
        ≡ outcome (rule rest (with_address p a.0) (pick_after p last t a.0)) (with_address p a.0) (with_binding s a.0 (Bound t.udid)) (suc k) (resolve t.udid a.0 ts))
        → serve (λ p' l' s' k' ts'. plain rest p' l' s' k' ts') t p last s k ts c ≡ outcome (next (λ q l. rule rest q l) t p last c) p s k ts
    go None ih = ap (λ (n : ℕ). record { pool = p; slots = s; bound = n; targets = ts; ending = none_free t.udid; picked = last }) (sym (zero-add k))
    go (Some a) ih = ih a ∙ simp (add-suc, suc-add)

-- ---- clearing the flags changes nothing that the rule looks at

insert_cleared : (t : Target) (xs : List Target) → insert (prepared t) (cleared xs) ≡ cleared (insert t xs)
insert_cleared t [] = refl
insert_cleared t (x ∷ xs) = go (ltb (value t.udid) (value x.udid)) (insert_cleared t xs)
  where
    go : (b : Bool) → insert (prepared t) (cleared xs) ≡ cleared (insert t xs)
        → pick b (prepared t ∷ prepared x ∷ cleared xs) (prepared x ∷ insert (prepared t) (cleared xs)) ≡ cleared (pick b (t ∷ x ∷ xs) (x ∷ insert t xs))
    go true e = refl
    go false e = ap (λ (l : List Target). prepared x ∷ l) e

ascending_cleared : (ts : List Target) → ascending (cleared ts) ≡ cleared (ascending ts)
ascending_cleared [] = refl
ascending_cleared (t ∷ ts) = ap (insert (prepared t)) (ascending_cleared ts) ∙ insert_cleared t (ascending ts)

choice_cleared : (p : Pool) (last : ℕ) (t : Target) → plain_choice p last (prepared t) ≡ plain_choice p last t
unfolding plain_choice is_picked_for
choice_cleared p last t = refl

plain_cleared : (rest : List Target) (p : Pool) (last : ℕ) (s : Slots) (k : ℕ) (ts : List Target) → plain (cleared rest) p last s k ts ≡ plain rest p last s k ts
unfolding is_picked_for
plain_cleared [] p last s k ts = refl
plain_cleared (t ∷ rest) p last s k ts =
    ap (serve (λ p' l' s' k' ts'. plain (cleared rest) p' l' s' k' ts') (prepared t) p last s k ts) (choice_cleared p last t)
    ∙ go (plain_choice p last t) (λ a. plain_cleared rest (with_address p a.0) (pick_after p last t a.0) (with_binding s a.0 (Bound t.udid)) (suc k) (resolve t.udid a.0 ts))
  where
    go : (c : Option Address)
        → ((a : Address) → plain (cleared rest) (with_address p a.0) (pick_after p last t a.0) (with_binding s a.0 (Bound t.udid)) (suc k) (resolve t.udid a.0 ts)
        ≡ plain rest (with_address p a.0) (pick_after p last t a.0) (with_binding s a.0 (Bound t.udid)) (suc k) (resolve t.udid a.0 ts))
        → serve (λ p' l' s' k' ts'. plain (cleared rest) p' l' s' k' ts') (prepared t) p last s k ts c ≡ serve (λ p' l' s' k' ts'. plain rest p' l' s' k' ts') t p last s k ts c
    go None ih = refl
    go (Some a) ih = ih a

-- ---- clearing the flags leaves what is admitted

cleared_was : (ts : List Target) (y : Target) → Among y (cleared ts) → (x : Target) × Among x ts × (prepared x ≡ y)
cleared_was [] y x' = elim x' [ ]
cleared_was (t ∷ ts) y (inl e) = (t, inl refl, e)
cleared_was (t ∷ ts) y (inr m) = let r = cleared_was ts y m in (r.0, inr r.1, r.2)

pairs_cleared : {R : Target → Target → Type 0} (ts : List Target) → ((x y : Target) → R x y → R (prepared x) (prepared y)) → Pairs R ts → Pairs R (cleared ts)
pairs_cleared [] f h = tt
pairs_cleared {R} (t ∷ ts) f h = ((λ y m. let r = cleared_was ts y m in rw r.2 at (f t r.0 (h.0 r.0 r.1))), pairs_cleared ts f h.1)

length_cleared : (ts : List Target) → length (cleared ts) ≡ length ts
length_cleared ts = length_map prepared ts

sized_prepared : (t : Target) → Sized t → Sized (prepared t)
sized_prepared t z = record { udid = z.udid; address_byte = z.address_byte }

open_cleared : (ts : List Target) (y : Target) → Among y (cleared ts) → is_resolved y ≡ false
open_cleared ts y m = ap is_resolved (sym (cleared_was ts y m).2)

admitted_cleared : (b : Pool) (ts : List Target) → AdmittedTargets b ts → AdmittedTargets b (cleared ts)
admitted_cleared b ts v = record {
  sized = λ y m. let r = cleared_was ts y m in subst Sized r.2 (sized_prepared r.0 (v.sized r.0 r.1));
  differ = pairs_cleared ts (λ x y h. h) v.differ;
  fixed_apart = pairs_cleared ts (λ x y h. h) v.fixed_apart;
  fixed_free = λ y m. let r = cleared_was ts y m in subst (FixedFree b) r.2 (v.fixed_free r.0 r.1);
  at_most_120 = omega (arith, length_cleared ts, v.at_most_120);
}

-- ---- where a pass begins

open_slots : (u : Udid) → Unbound u no_bindings
open_slots u i = ap (bound_to u) (open_all i)

-- 7Fh is reserved, and so it is barred
last_address_barred : (occupied : Pool) → member (barred_pool occupied) 127 ≡ true
unfolding is_reserved
last_address_barred occupied = member_barred occupied 127

-- to begin with, the barred addresses are shut
module _ (occupied : Pool) (ts : List Target) (v : AdmittedTargets (barred_pool occupied) ts) where
  pub ready_first : Ready (starting_pool occupied) (barred_pool occupied) (ascending ts)
  ready_first = record {
    apart = pairs_map (ascending ts) apart' (ascending_is_lower_first ts v.differ);
    sized = λ t m. v.sized t (ascending_adds_none ts t m);
    fixed_free = λ t m. v.fixed_free t (ascending_adds_none ts t m);
    within = barred_starting occupied;
    last_shut = last_address_barred occupied;
  }
    where
      elsewhere' : (x y : Target) → (x ≡ y) ⊎ FixedApart x y → Lower x y → FixedApart x y
      elsewhere' x y (inl e) l = absurd (omega (arith, l, ap (λ (t : Target). value t.udid) e))
      elsewhere' x y (inr f) l = f

      apart' : (x y : Target) → Among x (ascending ts) → Among y (ascending ts) → Lower x y → Apart x y
      apart' x y m k l = record {
        lower = l;
        elsewhere = elsewhere' x y (pairs_any_two ts (λ p q h f g e. h g f (sym e)) v.fixed_apart x y (ascending_adds_none ts x m) (ascending_adds_none ts y k)) l;
      }

  inv_first : 0 < length ts → ((t : Target) → Among t ts → is_resolved t ≡ false) → Inv occupied (starting_pool occupied) (barred_pool occupied) no_bindings 0 ts (ascending ts)
  inv_first some unresolved = record {
    ready = ready_first;
    taken_shut = λ a e. sym (or_none (member (barred_pool occupied) a)) ∙ ap (λ (h : Binding). makes_claim occupied h a) (sym (open_all a)) ∙ e;
    waits = record {
      known = λ t m e. ascending_keeps ts t m;
      there = λ t m. ascending_adds_none ts t m;
      unresolved = λ t m. unresolved t (ascending_adds_none ts t m);
    };
    unbound = λ t m. open_slots t.udid;
    room = sized_none;
    below_128 = omega (arith, length_ascending ts, v.at_most_120);
    present = some;
    fits = λ t m. (v.sized t m).udid;
  }

-- ---- the pass

length_turns : (l : List Target) → turns l ≡ suc (2 * length l)
length_turns [] = refl
length_turns (t ∷ l) = omega (arith, length_turns l)

module _ (occupied : Pool) (last : ℕ) where
  start : Pool
  start = starting_pool occupied

  first_turn : (t : Target) (ts : List Target) → AdmittedTargets (barred_pool occupied) (t ∷ ts) → turn (beginning occupied last (t ∷ ts)) ≡ asking (last_pick last) occupied start no_bindings 1 (cleared (t ∷ ts))
  unfolding start
  first_turn t ts v =
      turn_takes (beginning occupied last (t ∷ ts)).now (t ∷ ts) (Send Prepare) refl
      ∙ ap₂ (λ (x : Stepped) (us : List Target). record { now = x; targets = us })
      (ap (stepped (state_of (last_pick last) occupied start no_bindings 0 (Send Prepare))) (on-bus.prepare_whole t ts) ∙ prepare_asks_first (last_pick last) occupied start no_bindings)
      (effect_as_meant (Send Prepare) (t ∷ ts) tt (λ x m. (v.sized x m).udid))

  nobody_turn : turn (beginning occupied last []) ≡ nobody_there occupied (last_pick last)
  unfolding start
  nobody_turn =
      turn_takes (beginning occupied last []).now [] (Send Prepare) refl
      ∙ ap (λ (x : Stepped). record { now = x; targets = [] })
      (ap (stepped (state_of (last_pick last) occupied start no_bindings 0 (Send Prepare))) on-bus.prepare_cut ∙ prepare_silence_ends (last_pick last) occupied start no_bindings)

  some_targets : (t : Target) (ts : List Target) → AdmittedTargets (barred_pool occupied) (t ∷ ts) → run 300 (beginning occupied last (t ∷ ts)) ≡ pass_end occupied (last_pick last) (t ∷ ts)
  unfolding start
  some_targets t ts v =
      let us : List Target = cleared (t ∷ ts) in
      let v' = admitted_cleared (barred_pool occupied) (t ∷ ts) v in
      let n : ℕ = turns (ascending us) in
      let e : 300 ≡ suc (n + (299 - n)) = omega (arith, length_turns (ascending us), length_ascending us, v'.at_most_120) in
      ap (λ (k : ℕ). run k (beginning occupied last (t ∷ ts))) e
      ∙ ap (run (n + (299 - n))) (first_turn t ts v)
      ∙ run_add model_bus n (299 - n) (asking (last_pick last) occupied start no_bindings 1 us)
      ∙ ap (run (299 - n))
      (run_serves_rest (last_pick last) occupied start (barred_pool occupied) no_bindings 0 us (ascending us) (inv_first occupied us v' (omega arith) (open_cleared (t ∷ ts)))
      ∙ ap (ended occupied)
      (ap (λ (l : List Target). plain l start (last_pick last) no_bindings 0 us) (ascending_cleared (t ∷ ts))
      ∙ plain_cleared (ascending (t ∷ ts)) start (last_pick last) no_bindings 0 us
      ∙ plain_outcome (ascending (t ∷ ts)) start (last_pick last) no_bindings 0 us))
      ∙ ended_run_stays (299 - n) _ _ _ _ _ (rule (ascending (t ∷ ts)) start (last_pick last)).ending _

-- THE PASS ENDS AS THE PLAIN RULE SAYS: bindings, pool and last command of the controller, and every target
pub demand_3 : (occupied : Pool) (last : ℕ) (ts : List Target) → AdmittedTargets (barred_pool occupied) ts → pass occupied last ts ≡ pass_end occupied (last_pick last) ts
unfolding pass start
demand_3 occupied last [] v = ap (run 299) (nobody_turn occupied last) ∙ ended_run_stays 299 (last_pick last) occupied (starting_pool occupied) no_bindings 0 served []
demand_3 occupied last (t ∷ ts) v = some_targets occupied last t ts v

-- with no target, the pass ends when nobody acknowledges Prepare To ARP
pub nobody_ends_first_turn : (occupied : Pool) (last : ℕ) → turn (beginning occupied last []) ≡ nobody_there occupied (last_pick last)
unfolding start
nobody_ends_first_turn occupied last = nobody_turn occupied last

module _ (occupied : Pool) (last : ℕ) (ts : List Target) (v : AdmittedTargets (barred_pool occupied) ts) where
  -- the addresses given are below 128 and not barred, and none is given twice
  pub given_free_distinct : Each (FreeIn (barred_pool occupied)) (ruled (starting_pool occupied) last ts).given × Distinct (ruled (starting_pool occupied) last ts).given
  given_free_distinct = rule_gives_free (ascending ts) (starting_pool occupied) (barred_pool occupied) last (ready_first occupied ts v)

  -- and a movable target's is not in the starting pool
  pub given_movable_free : Each (MovableFreeIn (starting_pool occupied)) (ruled (starting_pool occupied) last ts).given
  given_movable_free = rule_gives_movable_free (ascending ts) (starting_pool occupied) last

  -- those served are targets of the bus
  pub given_among_targets : Each (λ (g : Given). Among g.who ts) (ruled (starting_pool occupied) last ts).given
  given_among_targets = each_map (ruled (starting_pool occupied) last ts).given (λ g m. ascending_adds_none ts g.who m) (rule_serves_these (ascending ts) (starting_pool occupied) last)
