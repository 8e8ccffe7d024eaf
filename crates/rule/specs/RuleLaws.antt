-- The plain rule: its choice, what it needs of the targets, and what its bindings are.
use Rattle.std.specs.Prelude.{ℕ, suc, ◌+◌, ◌*◌, ◌/◌, ◌^◌, ◌≤◌, ◌<◌, ◌≡◌, refl, Bool, true, false, List, [], ◌∷◌, length, Option, Some, None}
use Rattle.std.proofs.Common.{sym, ap, ◌∙◌, inl, inr, arith, ne_eqb}
use Rattle.std.proofs.Math.Decide.{ℕ_discrete}
use Rattle.std.proofs.lemmas.Bool.{eqb-false}
use Rattle.lists.specs.AbsurdLaws.{zero_is_one}
use Rattle.lists.specs.Choice.{pick}
use Rattle.lists.specs.ChoiceLaws.{not_both}
use Rattle.lists.specs.Each.{Each}
use Rattle.lists.specs.EachLaws.{each_map}
use Rattle.wire.specs.declared.address.Address.{Address}
use Rattle.pool.specs.Free.{used}
use Rattle.pool.specs.NextFree.{next_free}
use Rattle.pool.specs.NextFreeLaws.{next_free_lem, next_full}
use Rattle.pool.specs.Pools.{member, with_address}
use Rattle.pool.specs.MemberLaws.{has_with_same, has_with_other, outside, with_keeps, within_with}
use Rattle.pool.specs.declared.Pool.{Pool}
use Rattle.udid.proofs.UdidLaws.{fixed_is}
use Rattle.udid.specs.Udids.{top_bits, is_fixed, value}
use Rattle.arbitration.specs.Among.{Among}
use Rattle.targets.specs.Target.{Target, Sized}
use Rattle.picking.specs.Picking.{has_to_pick, chosen}
use Rattle.rule.specs.PlainRule.{held, is_picked_for, plain_choice, pick_after, served, Given, next, rule, FreeIn, MovableFreeIn, Distinct}
use Rattle.rule.specs.Ready.{Ready}

-- ---- the choice

-- the controller picks for those for whom the rule does
pub controller_picks_as_rule : (p : Pool) (t : Target) → member p 127 ≡ true → (is_fixed t.udid ≡ true → t.address_byte ≡ 255 → ⊥)
    → has_to_pick p t.udid t.address_byte ≡ is_picked_for p t
unfolding has_to_pick is_picked_for
controller_picks_as_rule p t h n = go (ℕ_discrete t.address_byte 255) (is_fixed t.udid) refl
  where
    go : Dec (t.address_byte ≡ 255) → (b : Bool) → is_fixed t.udid ≡ b → has_to_pick p t.udid t.address_byte ≡ is_picked_for p t
    go (yes e) true f = absurd (n f e)
    go (yes e) false f = simp (f, e, h)
    go (no e) b f = simp (ne_eqb t.address_byte 255 e)

-- and chooses as the rule does
pub controller_chooses_as_rule : (p : Pool) (last : ℕ) (t : Target) → member p 127 ≡ true → (is_fixed t.udid ≡ true → t.address_byte ≡ 255 → ⊥)
    → chosen p last t.udid t.address_byte ≡ plain_choice p last t
unfolding chosen plain_choice
controller_chooses_as_rule p last t h n = ap (λ (b : Bool). pick b (next_free p last) (Some (held t))) (controller_picks_as_rule p t h n)

address_inj : (a b : Address) → Some a ≡ Some b → a ≡ b
address_inj a b e = cc e

fixed_not_picked : (p : Pool) (t : Target) → is_fixed t.udid ≡ true → is_picked_for p t ≡ false
unfolding is_picked_for
fixed_not_picked p t f = rw f

movable_picked : (p : Pool) (t : Target) → is_fixed t.udid ≡ false → is_picked_for p t ≡ member p (t.address_byte / 2)
unfolding is_picked_for
movable_picked p t f = rw f

-- picked, it is the next free one; else the one that the target holds
choice_picked : (p : Pool) (last : ℕ) (t : Target) → is_picked_for p t ≡ true → plain_choice p last t ≡ next_free p last
unfolding plain_choice
choice_picked p last t e = rw e

choice_held : (p : Pool) (last : ℕ) (t : Target) → is_picked_for p t ≡ false → plain_choice p last t ≡ Some (held t)
unfolding plain_choice
choice_held p last t e = rw e

-- a fixed target is given its own
pub fixed_choice_own : (p : Pool) (last : ℕ) (t : Target) (a : Address) → is_fixed t.udid ≡ true → plain_choice p last t ≡ Some a → a.0 ≡ t.address_byte / 2
fixed_choice_own p last t a f e = sym (ap (λ (x : Address). x.0) (address_inj (held t) a (sym (choice_held p last t (fixed_not_picked p t f)) ∙ e)))

choice_below : (p : Pool) (last : ℕ) (t : Target) (a : Address) → t.address_byte < 256 → plain_choice p last t ≡ Some a → a.0 < 128
choice_below p last t a z e = go (is_picked_for p t) refl
  where
    go : (b : Bool) → is_picked_for p t ≡ b → a.0 < 128
    go true q = (next_free_lem p last a.0 (sym (choice_picked p last t q) ∙ e)).0
    go false q =
        let k : t.address_byte / 2 ≡ a.0 = ap (λ (x : Address). x.0) (address_inj (held t) a (sym (choice_held p last t q) ∙ e)) in
        omega arith

-- a movable target is given a free one
pub movable_choice_free : (p : Pool) (last : ℕ) (t : Target) (a : Address) → is_fixed t.udid ≡ false → plain_choice p last t ≡ Some a → member p a.0 ≡ false
movable_choice_free p last t a f e = go (is_picked_for p t) refl
  where
    go : (b : Bool) → is_picked_for p t ≡ b → member p a.0 ≡ false
    go true q = (next_free_lem p last a.0 (sym (choice_picked p last t q) ∙ e)).1
    go false q =
        let k : t.address_byte / 2 ≡ a.0 = ap (λ (x : Address). x.0) (address_inj (held t) a (sym (choice_held p last t q) ∙ e)) in
        ap (member p) (sym k) ∙ sym (movable_picked p t f) ∙ q

-- ---- what the rule needs of the targets that are left

-- the address chosen is not shut
pub ready_choice_free : (p shut : Pool) (last : ℕ) (r : Target) (rest : List Target) (a : Address) → Ready p shut (r ∷ rest) → plain_choice p last r ≡ Some a
    → (a.0 < 128) × (member shut a.0 ≡ false)
ready_choice_free p shut last r rest a v e = (choice_below p last r a (v.sized r (inl refl)).address_byte e, go (is_fixed r.udid) refl)
  where
    go : (b : Bool) → is_fixed r.udid ≡ b → member shut a.0 ≡ false
    go true f = ap (member shut) (fixed_choice_own p last r a f e) ∙ v.fixed_free r (inl refl) f
    go false f = outside shut p a.0 (v.within a.0) (movable_choice_free p last r a f e)

-- 7Fh is in the pool, and no fixed target has FFh
pub ready_last_used : (p shut : Pool) (rest : List Target) → Ready p shut rest → member p 127 ≡ true
ready_last_used p shut rest v = v.within 127 v.last_shut

pub ready_fixed_some : (p shut : Pool) (rest : List Target) → Ready p shut rest → (t : Target) → Among t rest → is_fixed t.udid ≡ true → t.address_byte ≡ 255 → ⊥
ready_fixed_some p shut rest v t m f e = zero_is_one (cc (v.fixed_free t m f, ap (λ (n : ℕ). member shut (n / 2)) e, v.last_shut))

high_le : (a b c d : ℕ) → d < 2 ^ 64 → a * 2 ^ 64 + b < c * 2 ^ 64 + d → a ≤ c
high_le a b c d h l = omega arith

top_le : (a c : ℕ) → a ≤ c → c / 2 ^ 62 ≡ 0 → a / 2 ^ 62 ≡ 0
top_le a c l e = omega arith

-- a movable target comes after the fixed ones
pub movable_after : (r t : Target) → Sized r → Sized t → value r.udid < value t.udid → is_fixed r.udid ≡ false → is_fixed t.udid ≡ false
movable_after r t zr zt h e = go (is_fixed t.udid) refl
  where
    go : (b : Bool) → is_fixed t.udid ≡ b → is_fixed t.udid ≡ false
    go false k = k
    go true k =
        let a : top_bits t.udid ≡ 0 = (fixed_is t.udid).0 k in
        let l : r.udid.high ≤ t.udid.high = high_le r.udid.high r.udid.low t.udid.high t.udid.low zt.udid.low h in
        absurd (eqb-false (top_bits r.udid) 0 e (top_le r.udid.high t.udid.high l a))

pub ready_next : (p shut : Pool) (last : ℕ) (r : Target) (rest : List Target) (a : Address) → Ready p shut (r ∷ rest) → plain_choice p last r ≡ Some a
    → Ready (with_address p a.0) (with_address shut a.0) rest
ready_next p shut last r rest a v e = record {
  apart = v.apart.1;
  sized = λ t m. v.sized t (inr m);
  fixed_free = λ t m f. still t m f (is_fixed r.udid) refl;
  within = λ b. within_with shut p a.0 b (ready_choice_free p shut last r rest a v e).0 (v.within b);
  last_shut = with_keeps shut a.0 127 v.last_shut;
}
  where
    still : (t : Target) → Among t rest → is_fixed t.udid ≡ true → (b : Bool) → is_fixed r.udid ≡ b → member (with_address shut a.0) (t.address_byte / 2) ≡ false
    still t m f true q =
        has_with_other shut a.0 (t.address_byte / 2) (λ d. (v.apart.0 t m).elsewhere q f (sym (fixed_choice_own p last r a q e) ∙ sym d)) ∙ v.fixed_free t (inr m) f
    still t m f false q =
        zero_is_one (cc (f, movable_after r t (v.sized r (inl refl)) (v.sized t (inr m)) (v.apart.0 t m).lower q))

-- ---- the bindings that it gives

-- an address that is free in a set with a more is free in the set, and is not a
free_before : (p : Pool) (a : ℕ) → a < 128 → (g : Given) → FreeIn (with_address p a) g → FreeIn p g × (g.address ≡ a → ⊥)
free_before p a l g f =
    let n : g.address ≡ a → ⊥ = λ q. zero_is_one (cc (f.1, ap (member (with_address p a)) q, has_with_same p a l)) in
    ((f.0, sym (has_with_other p a g.address n) ∙ f.1), n)

-- every address given is one that is not shut, and none is given twice
pub rule_gives_free : (rest : List Target) (p shut : Pool) (last : ℕ) → Ready p shut rest → Each (FreeIn shut) (rule rest p last).given × Distinct (rule rest p last).given
rule_gives_free [] p shut last v = (tt, tt)
rule_gives_free (t ∷ rest) p shut last v =
    go (plain_choice p last t) refl (λ a e. rule_gives_free rest (with_address p a.0) (with_address shut a.0) (pick_after p last t a.0) (ready_next p shut last t rest a v e))
  where
    go : (c : Option Address) → plain_choice p last t ≡ c
        → ((a : Address) → plain_choice p last t ≡ Some a → Each (FreeIn (with_address shut a.0)) (rule rest (with_address p a.0) (pick_after p last t a.0)).given × Distinct (rule rest (with_address p a.0) (pick_after p last t a.0)).given)
        → Each (FreeIn shut) (next (λ q l. rule rest q l) t p last c).given × Distinct (next (λ q l. rule rest q l) t p last c).given
    go None e ih = (tt, tt)
    go (Some a) e ih =
        let f = ready_choice_free p shut last t rest a v e in
        let r = ih a e in (
          (f, each_map (rule rest (with_address p a.0) (pick_after p last t a.0)).given (λ g x. (free_before shut a.0 f.0 g x).0) r.0),
          (each_map (rule rest (with_address p a.0) (pick_after p last t a.0)).given (λ g x. (free_before shut a.0 f.0 g x).1) r.0, r.1),
        )

-- and what a movable target is given is free in the pool
pub rule_gives_movable_free : (rest : List Target) (p : Pool) (last : ℕ) → Each (MovableFreeIn p) (rule rest p last).given
rule_gives_movable_free [] p last = tt
rule_gives_movable_free (t ∷ rest) p last = go (plain_choice p last t) refl (λ a. rule_gives_movable_free rest (with_address p a.0) (pick_after p last t a.0))
  where
    go : (c : Option Address) → plain_choice p last t ≡ c
        → ((a : Address) → Each (MovableFreeIn (with_address p a.0)) (rule rest (with_address p a.0) (pick_after p last t a.0)).given)
        → Each (MovableFreeIn p) (next (λ q l. rule rest q l) t p last c).given
    go None e ih = tt
    go (Some a) e ih = (
      λ f. movable_choice_free p last t a f e,
      each_map (rule rest (with_address p a.0) (pick_after p last t a.0)).given (λ g h f. outside p (with_address p a.0) g.address (with_keeps p a.0 g.address) (h f)) (ih a),
    )

-- ---- when all are served

-- the choice is empty-handed only for a movable target, where all addresses are used
pub choice_none : (p : Pool) (last : ℕ) (t : Target) → plain_choice p last t ≡ None → (is_fixed t.udid ≡ false) × (used p ≡ 128)
choice_none p last t e = go (is_picked_for p t) refl
  where
    never_at : {A : Type 0} → Some (held t) ≡ None → A
    never_at q = zero_is_one (cc q)

    movable : is_picked_for p t ≡ true → (b : Bool) → is_fixed t.udid ≡ b → is_fixed t.udid ≡ false
    movable q true f = not_both (fixed_not_picked p t f) q
    movable q false f = f

    go : (b : Bool) → is_picked_for p t ≡ b → (is_fixed t.udid ≡ false) × (used p ≡ 128)
    go true q = (movable q (is_fixed t.udid) refl, (next_full p last).0 (sym (choice_picked p last t q) ∙ e))
    go false q = never_at (sym (choice_held p last t q) ∙ e)

-- who serves all has not ended early
pub all_given_served : (rest : List Target) (p : Pool) (last : ℕ) → length (rule rest p last).given ≡ length rest → (rule rest p last).ending ≡ served
all_given_served [] p last e = refl
all_given_served (t ∷ rest) p last e = go (plain_choice p last t) e (λ a k. all_given_served rest (with_address p a.0) (pick_after p last t a.0) k)
  where
    go : (c : Option Address) → length (next (λ q l. rule rest q l) t p last c).given ≡ suc (length rest)
        → ((a : Address) → length (rule rest (with_address p a.0) (pick_after p last t a.0)).given ≡ length rest → (rule rest (with_address p a.0) (pick_after p last t a.0)).ending ≡ served)
        → (next (λ q l. rule rest q l) t p last c).ending ≡ served
    go None k ih = absurd (omega arith)
    go (Some a) k ih = ih a (omega arith)

-- ---- whom it serves

among_later : (t : Target) (rest : List Target) (gs : List Given) → Each (λ (g : Given). Among g.who rest) gs → Each (λ (g : Given). Among g.who (t ∷ rest)) gs
among_later t rest [] h = tt
among_later t rest (g ∷ gs) h = (inr h.0, among_later t rest gs h.1)

-- those served are among the targets to serve
pub rule_serves_these : (rest : List Target) (p : Pool) (last : ℕ) → Each (λ (g : Given). Among g.who rest) (rule rest p last).given
rule_serves_these [] p last = tt
rule_serves_these (t ∷ rest) p last = go (plain_choice p last t) (λ a. rule_serves_these rest (with_address p a.0) (pick_after p last t a.0))
  where
    go : (c : Option Address) → ((a : Address) → Each (λ (g : Given). Among g.who rest) (rule rest (with_address p a.0) (pick_after p last t a.0)).given)
        → Each (λ (g : Given). Among g.who (t ∷ rest)) (next (λ q l. rule rest q l) t p last c).given
    go None ih = tt
    go (Some a) ih = (inl refl, among_later t rest (rule rest (with_address p a.0) (pick_after p last t a.0)).given (ih a))
