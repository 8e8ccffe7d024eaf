-- Unbinding and binding keep the slots and the pool sound (specs/Sound.antt); where an identifier is found.
use Rattle.std.specs.Prelude.{ℕ, zero, suc, ◌+◌, ◌≤◌, ◌<◌, ◌≡◌, refl, Bool, true, false, List, [], ◌∷◌, ◌⊎◌, ltb}
use Rattle.std.proofs.Common.{sym, ap, ap₂, ◌∙◌, subst, inl, inr, arith, lt-ltb, le-ltb}
use Rattle.std.proofs.Math.Decide.{ℕ_discrete, dec_lt}
use Rattle.lists.specs.AbsurdLaws.{zero_is_one}
use Rattle.lists.specs.ChoiceLaws.{not_both, neither, or_last, or_none}
use Rattle.lists.specs.Choice.{pick, or}
use Rattle.pool.specs.MemberLaws.{has_with_same, has_with_other, has_without_same, has_without_other}
use Rattle.pool.specs.Pools.{member, with_address, without_address}
use Rattle.pool.specs.Start.{starting_pool, barred_pool}
use Rattle.pool.specs.declared.Pool.{Pool}
use Rattle.udid.specs.Udids.{Fits, is_fixed}
use Rattle.udid.proofs.UdidLaws.{same_equal, same_refl}
use Rattle.udid.specs.declared.Udid.{Udid}
use Rattle.arp.specs.Sound.{Sound, SoundIn, Unbound, Nowhere}
use Rattle.arp.specs.BindingLaws.{bound_in_is}
use Rattle.arp.specs.Bindings.{freed_at, freed, bound}
use Rattle.picking.specs.Claims.{is_held, makes_claim, binding_for}
use Rattle.slots.specs.Finding.{bound_in, is_only, bound_to, find_from}
use Rattle.slots.specs.Slots.{held_at, with_binding, no_bindings}
use Rattle.slots.proofs.SlotsLaws.{held_above_is_open, held_same, held_other, held_cases, open_all, sized_none, sized_with}
use Rattle.slots.specs.declared.Binding.{Binding}
use Rattle.slots.specs.declared.Binding.TheVariants.{Open, Bound}
use Rattle.arp.specs.declared.state.Controller.{Controller}
use Rattle.slots.specs.declared.Slots.{Slots}

-- ---- what a slot holds

pub bound_to_is_bound : (u : Udid) (h : Binding) → bound_to u h ≡ true → h ≡ Bound u
bound_to_is_bound u h e = go (bound_in h) refl e
  where
    go : (us : List Udid) → bound_in h ≡ us → is_only u us ≡ true → h ≡ Bound u
    go [] q e = zero_is_one (cc e)
    go (v ∷ vs) q e = bound_in_is h v vs q ∙ ap Bound (same_equal v u e)

pub open_is_not_bound : (h : Binding) (u : Udid) → h ≡ Open → h ≡ Bound u → ⊥
open_is_not_bound h u e f = zero_is_one cc

-- ---- where a pass begins

pub sound_open : (occupied : Pool) → Sound occupied (starting_pool occupied) no_bindings
sound_open occupied = let p = starting_pool occupied in record {
  size = sized_none;
  once = λ i j u e f. absurd (open_is_not_bound _ u (open_all i) e);
  unbarred = λ a u e. absurd (open_is_not_bound _ u (open_all a) e);
  starting_fixed = λ a u e m. absurd (open_is_not_bound _ u (open_all a) e);
  fits = λ a u e. absurd (open_is_not_bound _ u (open_all a) e);
  exact = λ a. sym (or_none (member p a)) ∙ ap (λ (h : Binding). or (member p a) (is_held h)) (sym (open_all a));
}

-- ---- the search for an identifier

pub find_cases : (u : Udid) (slots : Slots) (n a : ℕ) → a + n ≡ 128
    → ((find_from u slots n a ≡ 128) × Nowhere u slots a) ⊎ ((find_from u slots n a < 128) × (bound_to u (held_at slots (find_from u slots n a)) ≡ true))
unfolding find_from
find_cases u slots zero a h = inl (refl, λ j b c. absurd (omega arith))
find_cases u slots (suc n) a h = go (bound_to u (held_at slots a)) refl (find_cases u slots n (suc a) (omega arith))
  where
    go : (t : Bool) → bound_to u (held_at slots a) ≡ t
        → ((find_from u slots n (suc a) ≡ 128) × Nowhere u slots (suc a)) ⊎ ((find_from u slots n (suc a) < 128) × (bound_to u (held_at slots (find_from u slots n (suc a))) ≡ true))
        → ((pick t a (find_from u slots n (suc a)) ≡ 128) × Nowhere u slots a)
        ⊎ ((pick t a (find_from u slots n (suc a)) < 128) × (bound_to u (held_at slots (pick t a (find_from u slots n (suc a)))) ≡ true))
    go true e ih = inr (omega arith, e)
    go false e (inr r) = inr r
    go false e (inl r) = inl (r.0, λ j b c. at j b c (ℕ_discrete a j))
      where
        at : (j : ℕ) → a ≤ j → j < 128 → Dec (a ≡ j) → bound_to u (held_at slots j) ≡ false
        at j b c (yes q) = ap (λ (x : ℕ). bound_to u (held_at slots x)) (sym q) ∙ e
        at j b c (no q) = r.1 j (omega arith) c

unbound_all : (u : Udid) (slots : Slots) → Nowhere u slots 0 → Unbound u slots
unbound_all u slots h i = go (dec_lt i 128)
  where
    go : Dec (i < 128) → bound_to u (held_at slots i) ≡ false
    go (yes k) = h i (omega arith) k
    go (no k) = ap (bound_to u) (held_above_is_open slots i (omega arith))

-- ---- nobody is bound to an address any more: it is open, or left

module _ (occupied pool : Pool) (slots : Slots) (v : Sound occupied pool slots) (f : ℕ) (h : f < 128) (x : Binding) (empty : is_held x ≡ false) where
  abbrev pool_then : Pool
  pool_then = pick (member (starting_pool occupied) f) pool (without_address pool f)

  -- who is bound then was bound before, elsewhere
  pub away : (i : ℕ) (w : Udid) → held_at (with_binding slots f x) i ≡ Bound w → (i ≡ f → ⊥) × (held_at slots i ≡ Bound w)
  away i w k = go (held_cases slots f i x (Bound w) v.size h k)
    where
      go : ((i ≡ f) × (x ≡ Bound w)) ⊎ ((i ≡ f → ⊥) × (held_at slots i ≡ Bound w)) → (i ≡ f → ⊥) × (held_at slots i ≡ Bound w)
      go (inl q) = not_both empty (ap is_held q.1)
      go (inr q) = q

  exactly : (a : ℕ) → member pool_then a ≡ or (member (starting_pool occupied) a) (is_held (held_at (with_binding slots f x) a))
  exactly a = go (ℕ_discrete a f) (member (starting_pool occupied) f) refl
    where
      there : held_at (with_binding slots f x) f ≡ x
      there = held_same slots f x v.size h

      go : Dec (a ≡ f) → (t : Bool) → member (starting_pool occupied) f ≡ t
          → member (pick t pool (without_address pool f)) a ≡ or (member (starting_pool occupied) a) (is_held (held_at (with_binding slots f x) a))
      go (yes q) true k =
          v.exact a ∙ ap (λ (b : Bool). or b (is_held (held_at slots a))) (ap (member (starting_pool occupied)) q ∙ k)
          ∙ sym (ap (λ (b : Bool). or b (is_held (held_at (with_binding slots f x) a))) (ap (member (starting_pool occupied)) q ∙ k))
      go (yes q) false k =
          ap (member (without_address pool f)) q ∙ has_without_same pool f
          ∙ sym (ap₂ or (ap (member (starting_pool occupied)) q ∙ k) (ap (λ (n : ℕ). is_held (held_at (with_binding slots f x) n)) q ∙ ap is_held there ∙ empty))
      go (no q) true k = v.exact a ∙ ap (λ (y : Binding). or (member (starting_pool occupied) a) (is_held y)) (sym (held_other slots f a x q))
      go (no q) false k = has_without_other pool f a q ∙ v.exact a ∙ ap (λ (y : Binding). or (member (starting_pool occupied) a) (is_held y)) (sym (held_other slots f a x q))

  pub sound_vacated : Sound occupied pool_then (with_binding slots f x)
  sound_vacated = record {
    size = sized_with slots f x v.size;
    once = λ i j w p q. v.once i j w (away i w p).1 (away j w q).1;
    unbarred = λ a w p. v.unbarred a w (away a w p).1;
    starting_fixed = λ a w p. v.starting_fixed a w (away a w p).1;
    fits = λ a w p. v.fits a w (away a w p).1;
    exact = exactly;
  }

-- ---- freeing an identifier

module _ (occupied pool : Pool) (slots : Slots) (v : Sound occupied pool slots) (u : Udid) (f : ℕ) (h : f < 128) (e : bound_to u (held_at slots f) ≡ true) where
  here : held_at slots f ≡ Bound u
  here = bound_to_is_bound u (held_at slots f) e

  gone : Unbound u (with_binding slots f Open)
  gone i = go (bound_to u (held_at (with_binding slots f Open) i)) refl
    where
      go : (t : Bool) → bound_to u (held_at (with_binding slots f Open) i) ≡ t → bound_to u (held_at (with_binding slots f Open) i) ≡ false
      go false k = k
      go true k = let r = away occupied pool slots v f h Open refl i u (bound_to_is_bound u _ k) in absurd (r.0 (v.once i f u r.1 here))

pub sound_freed : (s : Controller) (u : Udid) → SoundIn s → SoundIn (freed s u) × Unbound u (freed s u).slots
unfolding freed
sound_freed s u v = go (find_from u s.slots 128 0) (find_cases u s.slots 128 0 (omega arith))
  where
    go : (f : ℕ) → ((f ≡ 128) × Nowhere u s.slots 0) ⊎ ((f < 128) × (bound_to u (held_at s.slots f) ≡ true))
        → SoundIn (pick (ltb 127 f) s (freed_at s f)) × Unbound u (pick (ltb 127 f) s (freed_at s f)).slots
    go f (inl r) = rw (lt-ltb 127 f (omega (arith, r.0))) (v, unbound_all u s.slots r.1)
    go f (inr r) =
        rw (le-ltb 127 f (omega (arith, r.0)))
        (sound_vacated s.occupied s.pool s.slots v f r.0 Open refl, gone s.occupied s.pool s.slots v u f r.0 r.1)

-- ---- an Assign that completed

module _ (occupied pool : Pool) (slots : Slots) (v : Sound occupied pool slots) (u : Udid) (n : Unbound u slots) (f : Fits u) (a : ℕ) (h : a < 128) (free : is_fixed u ≡ false → member pool a ≡ false) where
  abbrev taken : Bool
  taken = makes_claim occupied (held_at slots a) a

  held_there : is_held (binding_for taken u) ≡ true
  held_there = go taken
    where
      go : (t : Bool) → is_held (binding_for t u) ≡ true
      go true = refl
      go false = refl

  exactly_bound : (i : ℕ) → member (with_address pool a) i ≡ or (member (starting_pool occupied) i) (is_held (held_at (with_binding slots a (binding_for taken u)) i))
  exactly_bound i = go (ℕ_discrete i a)
    where
      go : Dec (i ≡ a) → member (with_address pool a) i ≡ or (member (starting_pool occupied) i) (is_held (held_at (with_binding slots a (binding_for taken u)) i))
      go (yes q) =
          ap (member (with_address pool a)) q ∙ has_with_same pool a h ∙ sym (or_last (member (starting_pool occupied) i))
          ∙ sym (ap (or (member (starting_pool occupied) i)) (ap (λ (x : ℕ). is_held (held_at (with_binding slots a (binding_for taken u)) x)) q ∙ ap is_held (held_same slots a (binding_for taken u) v.size h) ∙ held_there))
      go (no q) = has_with_other pool a i q ∙ v.exact i ∙ ap (λ (x : Binding). or (member (starting_pool occupied) i) (is_held x)) (sym (held_other slots a i (binding_for taken u) q))

  -- u at a, which was not taken; or as before
  abbrev Then : ℕ → Udid → Type 0
  Then i w = ((i ≡ a) × (u ≡ w) × (taken ≡ false)) ⊎ ((i ≡ a → ⊥) × (held_at slots i ≡ Bound w))

  bound_cases : (i : ℕ) (w : Udid) → held_at (with_binding slots a (binding_for taken u)) i ≡ Bound w → Then i w
  bound_cases i w k = go taken refl (held_cases slots a i (binding_for taken u) (Bound w) v.size h k)
    where
      go : (t : Bool) → taken ≡ t → ((i ≡ a) × (binding_for taken u ≡ Bound w)) ⊎ ((i ≡ a → ⊥) × (held_at slots i ≡ Bound w)) → Then i w
      go t e (inr q) = inr q
      go true e (inl q) = zero_is_one (cc (ap (λ (x : Bool). binding_for x u) e, q.1))
      go false e (inl q) = let z : Bound u ≡ Bound w = sym (ap (λ (x : Bool). binding_for x u) e) ∙ q.1 in let y : u ≡ w = cc z in inl (q.0, y, e)

  nowhere : (i : ℕ) (w : Udid) → u ≡ w → held_at slots i ≡ Bound w → ⊥
  nowhere i w p q = zero_is_one (cc (n i, ap (bound_to u) (q ∙ ap Bound (sym p)), same_refl u))

  one : (i j : ℕ) (w : Udid) → Then i w → Then j w → i ≡ j
  one i j w (inl p) (inl q) = p.0 ∙ sym q.0
  one i j w (inl p) (inr q) = absurd (nowhere j w p.1 q.1)
  one i j w (inr p) (inl q) = absurd (nowhere i w q.1 p.1)
  one i j w (inr p) (inr q) = v.once i j w p.1 q.1

  fresh : (i : ℕ) (w : Udid) → Then i w → member (barred_pool occupied) i ≡ false
  fresh i w (inl p) = ap (member (barred_pool occupied)) p.0 ∙ (neither (member (barred_pool occupied) a) (is_held (held_at slots a)) p.2).0
  fresh i w (inr p) = v.unbarred i w p.1

  -- a movable target is given a free address, and the pool has the starting pool
  stays_fixed : member (starting_pool occupied) a ≡ true → is_fixed u ≡ true
  stays_fixed m = go (is_fixed u) refl
    where
      go : (b : Bool) → is_fixed u ≡ b → is_fixed u ≡ true
      go true q = q
      go false q = not_both (free q) (v.exact a ∙ ap (λ (x : Bool). or x (is_held (held_at slots a))) m)

  on_row : (i : ℕ) (w : Udid) → Then i w → member (starting_pool occupied) i ≡ true → is_fixed w ≡ true
  on_row i w (inl p) m = ap is_fixed (sym p.1) ∙ stays_fixed (ap (member (starting_pool occupied)) (sym p.0) ∙ m)
  on_row i w (inr p) m = v.starting_fixed i w p.1 m

  fit : (i : ℕ) (w : Udid) → Then i w → Fits w
  fit i w (inl p) = subst Fits p.1 f
  fit i w (inr p) = v.fits i w p.1

  sound_bound_at : Sound occupied (with_address pool a) (with_binding slots a (binding_for taken u))
  sound_bound_at = record {
    size = sized_with slots a _ v.size;
    once = λ i j w p q. one i j w (bound_cases i w p) (bound_cases j w q);
    unbarred = λ i w p. fresh i w (bound_cases i w p);
    starting_fixed = λ i w p. on_row i w (bound_cases i w p);
    fits = λ i w p. fit i w (bound_cases i w p);
    exact = exactly_bound;
  }

pub sound_bound : (s : Controller) (u : Udid) (a : ℕ) → SoundIn s → Unbound u s.slots → Fits u → a < 128 → (is_fixed u ≡ false → member s.pool a ≡ false) → SoundIn (bound s u a)
unfolding bound
sound_bound s u a v n f h free = rw (le-ltb 127 a (omega arith)) (sound_bound_at s.occupied s.pool s.slots v u n f a h free)
