-- That an address was picked is told by the reply's address byte and the address alone; and the choice by the pool's addresses, with when there
-- is none.
use Rattle.std.specs.Prelude.{ℕ, ◌/◌, ◌<◌, ◌≡◌, refl, Bool, true, false, ◌⊎◌, ◌↔◌, eqb, Option, Some, None}
use Rattle.std.proofs.Common.{sym, ap, ap₂, ◌∙◌, subst, inl, inr, eq-eqb, ne_eqb, eqb-true}
use Rattle.std.proofs.Math.Decide.{ℕ_discrete}
use Rattle.lists.specs.AbsurdLaws.{zero_is_one}
use Rattle.lists.specs.Choice.{pick, or, not}
use Rattle.wire.specs.declared.address.Address.{Address}
use Rattle.pool.specs.NextFree.{next_free}
use Rattle.pool.specs.NextFreeLaws.{next_free_lem}
use Rattle.pool.specs.Pools.{member}
use Rattle.pool.specs.declared.Pool.{Pool}
use Rattle.udid.specs.Udids.{is_fixed}
use Rattle.udid.specs.declared.Udid.{Udid}
use Rattle.picking.specs.Picking.{has_to_pick, chosen, own_address}
use Rattle.picking.proofs.PickingLaws.{ff_picks, chosen_picked, chosen_own, own_is, picks_is_taken}
use Rattle.arp.proofs.FreeAfterLaws.{next_is_walked, none_met}
use Rattle.arp.specs.Replay.{free_after, given_to, NoneToPick}
use Rattle.arp.specs.RunPicks.{is_picked}

-- ---- that it was picked

-- AN ADDRESS THAT IS CHOSEN WAS PICKED exactly if the reply's byte is FFh, or names another one
pub picked_by_wire : (p : Pool) (last : ℕ) (u : Udid) (b : ℕ) (a : Address) → chosen p last u b ≡ Some a → has_to_pick p u b ≡ is_picked b a.0
picked_by_wire p last u b a e = go (ℕ_discrete b 255) (has_to_pick p u b) refl
  where
    go : Dec (b ≡ 255) → (t : Bool) → has_to_pick p u b ≡ t → has_to_pick p u b ≡ is_picked b a.0
    go (yes q) t k = ap (has_to_pick p u) q ∙ ff_picks p u ∙ ap (λ (x : Bool). or x (not (eqb a.0 (b / 2)))) (sym (eq-eqb b 255 q))
    go (no n) true k =
        let w = picks_is_taken p u b n k in
        let f = (next_free_lem p last a.0 (sym (chosen_picked p last u b k) ∙ e)).1 in
        k ∙ sym (ap₂ (λ (x y : Bool). or x (not y)) (ne_eqb b 255 n) (ne_eqb a.0 (b / 2) (λ m. zero_is_one (cc (f, w.1, ap (member p) m)))))
    go (no n) false k =
        let o = own_is b a (sym (chosen_own p last u b k) ∙ e) in
        k ∙ sym (ap₂ (λ (x y : Bool). or x (not y)) (ne_eqb b 255 n) (eq-eqb a.0 (b / 2) (sym o)))

-- ---- the choice by the pool's addresses alone, and when there is none

pub chosen_is_given : (p : Pool) (last : ℕ) (u : Udid) (b : ℕ) → last < 128 → chosen p last u b ≡ given_to (member p) last u b
unfolding chosen has_to_pick
chosen_is_given p last u b h = go (eqb b 0xFF) (is_fixed u) (member p (b / 2)) (next_is_walked p last h)
  where
    go : (x f m : Bool) → next_free p last ≡ free_after (member p) last
        → pick (pick x true (pick f false m)) (next_free p last) (Some (own_address b))
        ≡ pick x (free_after (member p) last) (pick f (Some (record { 0 = b / 2 })) (pick m (free_after (member p) last) (Some (record { 0 = b / 2 }))))
    go true f m e = e
    go false true m e = refl
    go false false true e = e
    go false false false e = refl

-- no address to pick: the pool is full, and the byte is FFh or the target is movable with its own address in the pool
pub none_given_exactly : (used : ℕ → Bool) (last : ℕ) (u : Udid) (b : ℕ) → (given_to used last u b ≡ None) ↔ NoneToPick used u b
none_given_exactly used last u b = (λ e. forth (eqb b 0xFF) refl (is_fixed u) refl (used (b / 2)) refl e, λ h. back_to h.1 h)
  where
    never : {a : Address} → Some a ≡ None → ⊥
    never q = zero_is_one (cc q)

    forth : (x : Bool) → eqb b 0xFF ≡ x → (f : Bool) → is_fixed u ≡ f → (m : Bool) → used (b / 2) ≡ m
        → pick x (free_after used last) (pick f (Some (record { 0 = b / 2 })) (pick m (free_after used last) (Some (record { 0 = b / 2 })))) ≡ None → NoneToPick used u b
    forth true p f q m r e = ((none_met used last).0 e, inl (eqb-true b 0xFF p))
    forth false p true q m r e = absurd (never e)
    forth false p false q true r e = ((none_met used last).0 e, inr (q, r))
    forth false p false q false r e = absurd (never e)

    full : NoneToPick used u b → free_after used last ≡ None
    full h = (none_met used last).1 h.0

    back_to : (b ≡ 0xFF) ⊎ ((is_fixed u ≡ false) × (used (b / 2) ≡ true)) → NoneToPick used u b → given_to used last u b ≡ None
    back_to (inl q) h =
        ap (λ (x : Bool). pick x (free_after used last) (pick (is_fixed u) (Some (record { 0 = b / 2 })) (pick (used (b / 2)) (free_after used last) (Some (record { 0 = b / 2 }))))) (eq-eqb b 0xFF q)
        ∙ full h
    back_to (inr q) h =
        ap₂ (λ (f m : Bool). pick (eqb b 0xFF) (free_after used last) (pick f (Some (record { 0 = b / 2 })) (pick m (free_after used last) (Some (record { 0 = b / 2 }))))) q.0 q.1
        ∙ either (eqb b 0xFF) ∙ full h
      where
        either : (x : Bool) → pick x (free_after used last) (free_after used last) ≡ free_after used last
        either true = refl
        either false = refl

-- 13: the pool is full, and the byte is FFh or the target is movable with its own address in the pool
pub none_chosen_exactly : (p : Pool) (last : ℕ) (u : Udid) (b : ℕ) → last < 128 → (chosen p last u b ≡ None) ↔ NoneToPick (member p) u b
none_chosen_exactly p last u b h = subst (λ (f : Option Address). (f ≡ None) ↔ NoneToPick (member p) u b) (sym (chosen_is_given p last u b h)) (none_given_exactly (member p) last u b)
