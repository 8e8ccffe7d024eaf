-- How the end of a pass reads: who is bound where, how many, and what each target ends with.
use Rattle.std.specs.Prelude.{ℕ, zero, suc, ◌+◌, ◌<◌, ◌≡◌, refl, Bool, true, false, ◌⊎◌, List, [], ◌∷◌, length, Option, Some, None}
use Rattle.std.proofs.Common.{sym, ap, ap₂, ◌∙◌, inl, inr, zero-add, arith}
use Rattle.std.proofs.Math.Decide.{ℕ_discrete}
use Rattle.lists.specs.AbsurdLaws.{zero_is_one}
use Rattle.lists.specs.Each.{Each, Any}
use Rattle.wire.specs.declared.address.Address.{Address}
use Rattle.pool.specs.Counts.{count}
use Rattle.pool.specs.CountLaws.{count_more, count_cong}
use Rattle.pool.specs.Pools.{with_address}
use Rattle.pool.specs.Start.{starting_pool, barred_pool}
use Rattle.pool.specs.declared.Pool.{Pool}
use Rattle.udid.specs.Udids.{same_udid, value}
use Rattle.udid.proofs.UdidLaws.{same_refl, same_equal, other_udid}
use Rattle.udid.specs.declared.Udid.{Udid}
use Rattle.arbitration.specs.Among.{Among}
use Rattle.slots.proofs.SlotsLaws.{held_same, held_other, open_all, sized_none, sized_with}
use Rattle.slots.specs.Slots.{Sized128, held_at, with_binding, no_bindings}
use Rattle.slots.specs.declared.Binding.{Binding}
use Rattle.slots.specs.declared.Binding.TheVariants.{Open, Bound, Claimed}
use Rattle.slots.specs.declared.Slots.{Slots}
use Rattle.targets.specs.Target.{Target, map_targets, prepared, assigned_to, cleared, resolve}
use Rattle.targets.specs.Members.{Pairs}
use Rattle.targets.specs.Admission.{AdmittedTargets}
use Rattle.rule.specs.PlainRule.{plain_choice, pick_after, Given, next, rule, FreeIn, Distinct, ascending, ruled}
use Rattle.rule.specs.RuleLaws.{rule_serves_these}
use Rattle.rule.specs.Ready.{Lower}
use Rattle.rule.specs.SortLaws.{ascending_is_lower_first}
use Rattle.rule.specs.PassEnd.{put_all, resolve_all, pass_end}
use Rattle.rule.specs.PassEndLaws.{given_free_distinct}
use Rattle.rule.specs.Reading.{is_bound, bound_at, GivenAt, OnePerUdid, served_by, taken, TakenBy}

-- ---- HOW MANY are bound

-- an address below 128 where nobody is bound
abbrev Room : Slots → Given → Type 0
Room s g = (g.address < 128) × (bound_at s g.address ≡ false)

room_next : (gs : List Given) (s : Slots) (a : ℕ) (x : Binding) → Each (λ (h : Given). h.address ≡ a → ⊥) gs → Each (Room s) gs → Each (Room (with_binding s a x)) gs
room_next [] s a x d r = tt
room_next (g ∷ gs) s a x d r = ((r.0.0, ap is_bound (held_other s a g.address x d.0) ∙ r.0.1), room_next gs s a x d.1 r.1)

count_given : (gs : List Given) (s : Slots) → Sized128 s → Each (Room s) gs → Distinct gs → count (bound_at (put_all gs s)) 128 ≡ length gs + count (bound_at s) 128
count_given [] s l r d = sym (zero-add _)
count_given (g ∷ gs) s l r d =
    let e : count (bound_at (with_binding s g.address (Bound g.who.udid))) 128 ≡ suc (count (bound_at s) 128) =
    count_more (bound_at s) (bound_at (with_binding s g.address (Bound g.who.udid))) 128 g.address r.0.0 r.0.1
    (ap is_bound (held_same s g.address (Bound g.who.udid) l r.0.0))
    (λ j h n. ap is_bound (held_other s g.address j (Bound g.who.udid) n)) in
    count_given gs (with_binding s g.address (Bound g.who.udid)) (sized_with s g.address _ l) (room_next gs s g.address _ d.0 r.1) d.1
    ∙ omega (arith, e)

open_none : (a : ℕ) → bound_at no_bindings a ≡ false
open_none a = ap is_bound (open_all a)

none_count : (k : ℕ) → count (λ (j : ℕ). false) k ≡ 0
unfolding count
none_count zero = refl
none_count (suc k) = zero-add (count (λ (j : ℕ). false) k) ∙ none_count k

open_count : count (bound_at no_bindings) 128 ≡ 0
open_count = count_cong (bound_at no_bindings) (λ (j : ℕ). false) 128 (λ j h. open_none j) ∙ none_count 128

free_room : (b : Pool) (gs : List Given) → Each (FreeIn b) gs → Each (Room no_bindings) gs
free_room b [] h = tt
free_room b (g ∷ gs) h = ((h.0.0, open_none g.address), free_room b gs h.1)

-- the slots at the end
end_slots : (occupied : Pool) (last : ℕ) (ts : List Target) → (pass_end occupied last ts).now.state.slots ≡ put_all (ruled (starting_pool occupied) last ts).given no_bindings
end_slots occupied last [] = refl
end_slots occupied last (t ∷ ts) = refl

-- ---- WHO is bound where: only what was given

held_given : (gs : List Given) (s : Slots) (a : ℕ) (u : Udid) → Sized128 s → Each (λ (g : Given). g.address < 128) gs → held_at (put_all gs s) a ≡ Bound u
    → (held_at s a ≡ Bound u) ⊎ Any (GivenAt a u) gs
held_given [] s a u l f e = inl e
held_given (g ∷ gs) s a u l f e =
    go (held_given gs (with_binding s g.address (Bound g.who.udid)) a u (sized_with s g.address _ l) f.1 e) (ℕ_discrete a g.address)
  where
    go : (held_at (with_binding s g.address (Bound g.who.udid)) a ≡ Bound u) ⊎ Any (GivenAt a u) gs → Dec (a ≡ g.address)
        → (held_at s a ≡ Bound u) ⊎ (GivenAt a u g ⊎ Any (GivenAt a u) gs)
    go (inr k) d = inr (inr k)
    go (inl k) (no q) = inl (sym (held_other s g.address a (Bound g.who.udid) q) ∙ k)
    go (inl k) (yes q) =
        let m : Bound g.who.udid ≡ Bound u = sym (held_same s g.address (Bound g.who.udid) l f.0)
        ∙ ap (held_at (with_binding s g.address (Bound g.who.udid))) (sym q) ∙ k in
        inr (inl (sym q, cc m))

given_below_128 : (b : Pool) (gs : List Given) → Each (FreeIn b) gs → Each (λ (g : Given). g.address < 128) gs
given_below_128 b [] h = tt
given_below_128 b (g ∷ gs) h = (h.0.0, given_below_128 b gs h.1)

others_keep_slot : (gs : List Given) (s : Slots) (a : ℕ) → Each (λ (h : Given). h.address ≡ a → ⊥) gs → held_at (put_all gs s) a ≡ held_at s a
others_keep_slot [] s a d = refl
others_keep_slot (g ∷ gs) s a d = others_keep_slot gs (with_binding s g.address (Bound g.who.udid)) a d.1 ∙ held_other s g.address a (Bound g.who.udid) (λ q. d.0 (sym q))

-- and all that was given
given_held : (gs : List Given) (s : Slots) → Sized128 s → Each (λ (g : Given). g.address < 128) gs → Distinct gs
    → Each (λ (g : Given). held_at (put_all gs s) g.address ≡ Bound g.who.udid) gs
given_held [] s l f d = tt
given_held (g ∷ gs) s l f d = (
  others_keep_slot gs (with_binding s g.address (Bound g.who.udid)) g.address d.0 ∙ held_same s g.address (Bound g.who.udid) l f.0,
  given_held gs (with_binding s g.address (Bound g.who.udid)) (sized_with s g.address _ l) f.1 d.1,
)

-- nobody is claimed by two
unclaimed : (gs : List Given) (s : Slots) → ((a : ℕ) → held_at s a ≡ Claimed → ⊥) → Sized128 s → Each (λ (g : Given). g.address < 128) gs
    → (a : ℕ) → held_at (put_all gs s) a ≡ Claimed → ⊥
unclaimed [] s h l f a = h a
unclaimed (g ∷ gs) s h l f a = unclaimed gs (with_binding s g.address (Bound g.who.udid)) (λ i. go i (ℕ_discrete i g.address)) (sized_with s g.address _ l) f.1 a
  where
    go : (i : ℕ) → Dec (i ≡ g.address) → held_at (with_binding s g.address (Bound g.who.udid)) i ≡ Claimed → ⊥
    go i (no q) k = h i (sym (held_other s g.address i (Bound g.who.udid) q) ∙ k)
    go i (yes q) k =
        let m : Bound g.who.udid ≡ Claimed = sym (held_same s g.address (Bound g.who.udid) l f.0)
        ∙ ap (held_at (with_binding s g.address (Bound g.who.udid))) (sym q) ∙ k in
        zero_is_one (cc m)

open_unclaimed : (a : ℕ) → held_at no_bindings a ≡ Claimed → ⊥
open_unclaimed a e = let q : Open ≡ Claimed = sym (open_all a) ∙ e in zero_is_one (cc q)

module _ (occupied : Pool) (last : ℕ) (ts : List Target) (v : AdmittedTargets (barred_pool occupied) ts) where
  -- as many are bound as the plain rule serves
  pub bound_as_many_as_given : count (bound_at (pass_end occupied last ts).now.state.slots) 128 ≡ length (ruled (starting_pool occupied) last ts).given
  bound_as_many_as_given =
      let r = given_free_distinct occupied last ts v in
      ap (λ (s : Slots). count (bound_at s) 128) (end_slots occupied last ts)
      ∙ count_given (ruled (starting_pool occupied) last ts).given no_bindings sized_none (free_room (barred_pool occupied) (ruled (starting_pool occupied) last ts).given r.0) r.1
      ∙ omega (arith, open_count)

  -- who is bound was given that address
  pub bound_given : (a : ℕ) (u : Udid) → held_at (pass_end occupied last ts).now.state.slots a ≡ Bound u → Any (GivenAt a u) (ruled (starting_pool occupied) last ts).given
  bound_given a u e =
      go (held_given (ruled (starting_pool occupied) last ts).given no_bindings a u sized_none
      (given_below_128 (barred_pool occupied) (ruled (starting_pool occupied) last ts).given (given_free_distinct occupied last ts v).0)
      (ap (λ (s : Slots). held_at s a) (sym (end_slots occupied last ts)) ∙ e))
    where
      go : (held_at no_bindings a ≡ Bound u) ⊎ Any (GivenAt a u) (ruled (starting_pool occupied) last ts).given → Any (GivenAt a u) (ruled (starting_pool occupied) last ts).given
      go (inl k) = zero_is_one (cc (open_none a, ap is_bound k))
      go (inr k) = k

  -- who was given an address is bound there
  pub given_bound : Each (λ (g : Given). held_at (pass_end occupied last ts).now.state.slots g.address ≡ Bound g.who.udid) (ruled (starting_pool occupied) last ts).given
  given_bound =
      let r = given_free_distinct occupied last ts v in
      rw (end_slots occupied last ts)
      (given_held (ruled (starting_pool occupied) last ts).given no_bindings sized_none
      (given_below_128 (barred_pool occupied) (ruled (starting_pool occupied) last ts).given r.0) r.1)

  -- no address is claimed by two
  pub none_claimed : (a : ℕ) → held_at (pass_end occupied last ts).now.state.slots a ≡ Claimed → ⊥
  none_claimed a e =
      let r = given_free_distinct occupied last ts v in
      unclaimed (ruled (starting_pool occupied) last ts).given no_bindings open_unclaimed sized_none
      (given_below_128 (barred_pool occupied) (ruled (starting_pool occupied) last ts).given r.0) a
      (ap (λ (s : Slots). held_at s a) (sym (end_slots occupied last ts)) ∙ e)

-- ---- WHAT EACH TARGET ends with

map_identity : (ts : List Target) → map_targets (λ (t : Target). t) ts ≡ ts
map_identity [] = refl
map_identity (t ∷ ts) = ap (λ (l : List Target). t ∷ l) (map_identity ts)

map_twice : (f h : Target → Target) (ts : List Target) → map_targets f (map_targets h ts) ≡ map_targets (λ (t : Target). f (h t)) ts
map_twice f h [] = refl
map_twice f h (t ∷ ts) = ap (λ (l : List Target). f (h t) ∷ l) (map_twice f h ts)

resolved_as_served : (gs : List Given) (ts : List Target) → resolve_all gs ts ≡ map_targets (served_by gs) ts
resolved_as_served [] ts = sym (map_identity ts)
resolved_as_served (g ∷ gs) ts = resolved_as_served gs (resolve g.who.udid g.address ts) ∙ map_twice (served_by gs) (assigned_to g.who.udid g.address) ts

-- every target, in its place
pub end_targets : (occupied : Pool) (last : ℕ) (ts : List Target) → (pass_end occupied last ts).targets ≡ map_targets (λ (t : Target). served_by (ruled (starting_pool occupied) last ts).given (prepared t)) ts
end_targets occupied last [] = refl
end_targets occupied last (t ∷ ts) =
    resolved_as_served (ruled (starting_pool occupied) last (t ∷ ts)).given (cleared (t ∷ ts))
    ∙ map_twice (served_by (ruled (starting_pool occupied) last (t ∷ ts)).given) prepared (t ∷ ts)

-- one that is not served keeps its address byte
pub unserved_stays : (gs : List Given) (t : Target) → Each (λ (g : Given). same_udid t.udid g.who.udid ≡ false) gs → served_by gs t ≡ t
unserved_stays [] t h = refl
unserved_stays (g ∷ gs) t h = ap (served_by gs) (other h.0) ∙ unserved_stays gs t h.1
  where
    other : same_udid t.udid g.who.udid ≡ false → assigned_to g.who.udid g.address t ≡ t
    other e = rw e

other_udid_turned : (u v : Udid) → same_udid u v ≡ false → same_udid v u ≡ false
other_udid_turned u v e = go (same_udid v u) refl
  where
    go : (t : Bool) → same_udid v u ≡ t → same_udid v u ≡ false
    go false k = k
    go true k = zero_is_one (cc (e, ap₂ same_udid (sym (same_equal v u k)) (same_equal v u k), k))

lower_other : (t : Target) (rest : List Target) (gs : List Given) → ((x : Target) → Among x rest → Lower t x) → Each (λ (g : Given). Among g.who rest) gs
    → Each (λ (h : Given). same_udid t.udid h.who.udid ≡ false) gs
lower_other t rest [] l h = tt
lower_other t rest (g ∷ gs) l h = (other_udid t.udid g.who.udid (λ e. apart (l g.who h.0) (ap value e)), lower_other t rest gs l h.1)
  where
    apart : value t.udid < value g.who.udid → value t.udid ≡ value g.who.udid → ⊥
    apart k e = omega arith

rule_serves_once : (rest : List Target) (p : Pool) (last : ℕ) → Pairs Lower rest → OnePerUdid (rule rest p last).given
rule_serves_once [] p last l = tt
rule_serves_once (t ∷ rest) p last l = go (plain_choice p last t) (λ a. rule_serves_once rest (with_address p a.0) (pick_after p last t a.0) l.1)
  where
    go : (c : Option Address) → ((a : Address) → OnePerUdid (rule rest (with_address p a.0) (pick_after p last t a.0)).given) → OnePerUdid (next (λ q l. rule rest q l) t p last c).given
    go None ih = tt
    go (Some a) ih = (lower_other t rest (rule rest (with_address p a.0) (pick_after p last t a.0)).given l.0 (rule_serves_these rest (with_address p a.0) (pick_after p last t a.0)), ih a)

each_equal : (hs : List Given) (u v : Udid) → u ≡ v → Each (λ (h : Given). same_udid u h.who.udid ≡ false) hs → Each (λ (h : Given). same_udid v h.who.udid ≡ false) hs
each_equal [] u v e a = tt
each_equal (h ∷ hs) u v e a = (ap (λ (x : Udid). same_udid x h.who.udid) (sym e) ∙ a.0, each_equal hs u v e a.1)

-- an Assign of another identifier leaves the target
taken_by_more : (g : Given) (gs : List Given) (t : Target) (hs : List Given) → Each (TakenBy gs t) hs → Each (λ (h : Given). same_udid g.who.udid h.who.udid ≡ false) hs
    → Each (TakenBy (g ∷ gs) t) hs
taken_by_more g gs t [] a d = tt
taken_by_more g gs t (h ∷ hs) a d = (at, taken_by_more g gs t hs a.1 d.1)
  where
    at : t.udid ≡ h.who.udid → served_by gs (assigned_to g.who.udid g.address t) ≡ taken t h.address
    at e =
        let n : same_udid t.udid g.who.udid ≡ false = ap (λ (x : Udid). same_udid x g.who.udid) e ∙ other_udid_turned g.who.udid h.who.udid d.0 in
        rw n (a.0 e)

taken_by : (gs : List Given) (t : Target) → OnePerUdid gs → Each (TakenBy gs t) gs
taken_by [] t o = tt
taken_by (g ∷ gs) t o = (first, taken_by_more g gs t gs (taken_by gs t o.1) o.0)
  where
    first : t.udid ≡ g.who.udid → served_by gs (assigned_to g.who.udid g.address t) ≡ taken t g.address
    first e =
        let q : same_udid t.udid g.who.udid ≡ true = ap (λ (x : Udid). same_udid x g.who.udid) e ∙ same_refl g.who.udid in
        rw q (unserved_stays gs (taken t g.address) (each_equal gs g.who.udid t.udid (sym e) o.0))

module _ (occupied : Pool) (last : ℕ) (ts : List Target) (v : AdmittedTargets (barred_pool occupied) ts) where
  -- no identifier is served twice
  pub served_once : OnePerUdid (ruled (starting_pool occupied) last ts).given
  served_once = rule_serves_once (ascending ts) (starting_pool occupied) last (ascending_is_lower_first ts v.differ)

  -- A SERVED TARGET ends with its address and flag 1
  pub served_takes_address : (t : Target) → Each (TakenBy (ruled (starting_pool occupied) last ts).given (prepared t)) (ruled (starting_pool occupied) last ts).given
  served_takes_address t = taken_by (ruled (starting_pool occupied) last ts).given (prepared t) served_once
