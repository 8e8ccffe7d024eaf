-- Which address is chosen for a target, case by case; that it has seven bits and is free for a movable one; and why it is chosen.
use Rattle.std.specs.Prelude.{ℕ, ◌/◌, ◌<◌, ◌≡◌, refl, Bool, true, false, ◌↔◌, Some}
use Rattle.std.proofs.Common.{sym, ap, ◌∙◌, arith, ne_eqb}
use Rattle.lists.specs.AbsurdLaws.{zero_is_one}
use Rattle.wire.specs.declared.address.Address.{Address}
use Rattle.pool.specs.NextFree.{next_free}
use Rattle.pool.specs.NextFreeLaws.{next_free_lem}
use Rattle.pool.specs.Pools.{member}
use Rattle.pool.specs.declared.Pool.{Pool}
use Rattle.udid.specs.Udids.{is_fixed}
use Rattle.udid.specs.declared.Udid.{Udid}
use Rattle.commands.specs.declared.command.Reason.TheVariants.{Fixed, Kept, Picked, Claimed}
use Rattle.picking.specs.Picking.{has_to_pick, chosen, own_address, reason_of}

-- ---- the cases

-- FFh: one has to be picked, for every identifier
pub ff_picks : (p : Pool) (u : Udid) → has_to_pick p u 255 ≡ true
unfolding has_to_pick
ff_picks p u = refl

-- for a fixed target none has to be, whether its own address is in the pool or not
pub fixed_picks_none : (p : Pool) (u : Udid) (b : ℕ) → (b ≡ 255 → ⊥) → is_fixed u ≡ true → has_to_pick p u b ≡ false
unfolding has_to_pick
fixed_picks_none p u b n f = rw (ne_eqb b 255 n, f)

-- for a movable one exactly if its own address is in the pool
pub movable_picks : (p : Pool) (u : Udid) (b : ℕ) → (b ≡ 255 → ⊥) → is_fixed u ≡ false → has_to_pick p u b ≡ member p (b / 2)
unfolding has_to_pick
movable_picks p u b n f = rw (ne_eqb b 255 n, f)

-- picked, it is the next free one; else it is the target's own
pub chosen_picked : (p : Pool) (last : ℕ) (u : Udid) (b : ℕ) → has_to_pick p u b ≡ true → chosen p last u b ≡ next_free p last
unfolding chosen
chosen_picked p last u b e = rw e

pub chosen_own : (p : Pool) (last : ℕ) (u : Udid) (b : ℕ) → has_to_pick p u b ≡ false → chosen p last u b ≡ Some (record { 0 = b / 2 })
unfolding chosen
chosen_own p last u b e = rw e

pub own_is : (b : ℕ) (a : Address) → Some (own_address b) ≡ Some a → b / 2 ≡ a.0
own_is b a k = let q : own_address b ≡ a = cc k in ap (λ (x : Address). x.0) q

-- where one has to be picked for a byte that names an address, the target is movable and that address is in the pool
pub picks_is_taken : (p : Pool) (u : Udid) (b : ℕ) → (b ≡ 255 → ⊥) → has_to_pick p u b ≡ true → (is_fixed u ≡ false) × (member p (b / 2) ≡ true)
picks_is_taken p u b n e = go (is_fixed u) refl
  where
    go : (f : Bool) → is_fixed u ≡ f → (is_fixed u ≡ false) × (member p (b / 2) ≡ true)
    go true f = zero_is_one (cc (e, fixed_picks_none p u b n f))
    go false f = (f, sym (movable_picks p u b n f) ∙ e)

-- what is chosen has seven bits, and for a movable target it is free
pub chosen_small_and_free : (p : Pool) (last : ℕ) (u : Udid) (b : ℕ) (a : Address) → b < 256 → chosen p last u b ≡ Some a → (a.0 < 128) × (is_fixed u ≡ false → member p a.0 ≡ false)
chosen_small_and_free p last u b a h e = go (has_to_pick p u b) refl
  where
    free : (b / 2 ≡ a.0) → has_to_pick p u b ≡ false → is_fixed u ≡ false → member p a.0 ≡ false
    free k q f = ap (member p) (sym k) ∙ sym (movable_picks p u b (λ m. zero_is_one (cc (q, ap (has_to_pick p u) m, ff_picks p u))) f) ∙ q

    go : (t : Bool) → has_to_pick p u b ≡ t → (a.0 < 128) × (is_fixed u ≡ false → member p a.0 ≡ false)
    go true q = let w = next_free_lem p last a.0 (sym (chosen_picked p last u b q) ∙ e) in (w.0, λ f. w.1)
    go false q = let k = own_is b a (sym (chosen_own p last u b q) ∙ e) in (omega arith, free k q)

-- ---- why: each reason exactly in its case

pub is_claimed : (t p f : Bool) → (reason_of t p f ≡ Claimed) ↔ (t ≡ true)
is_claimed true p f = (λ e. refl, λ e. refl)
is_claimed false true f = (λ e. zero_is_one (cc e), λ e. zero_is_one (cc e))
is_claimed false false true = (λ e. zero_is_one (cc e), λ e. zero_is_one (cc e))
is_claimed false false false = (λ e. zero_is_one (cc e), λ e. zero_is_one (cc e))

pub is_picked_lem : (t p f : Bool) → (reason_of t p f ≡ Picked) ↔ ((t ≡ false) × (p ≡ true))
is_picked_lem true p f = (λ e. zero_is_one (cc e), λ e. zero_is_one (cc e.0))
is_picked_lem false true f = (λ e. (refl, refl), λ e. refl)
is_picked_lem false false true = (λ e. zero_is_one (cc e), λ e. zero_is_one (cc e.1))
is_picked_lem false false false = (λ e. zero_is_one (cc e), λ e. zero_is_one (cc e.1))

pub is_fixed_lem : (t p f : Bool) → (reason_of t p f ≡ Fixed) ↔ ((t ≡ false) × (p ≡ false) × (f ≡ true))
is_fixed_lem true p f = (λ e. zero_is_one (cc e), λ e. zero_is_one (cc e.0))
is_fixed_lem false true f = (λ e. zero_is_one (cc e), λ e. zero_is_one (cc e.1))
is_fixed_lem false false true = (λ e. (refl, refl, refl), λ e. refl)
is_fixed_lem false false false = (λ e. zero_is_one (cc e), λ e. zero_is_one (cc e.2))

pub is_kept : (t p f : Bool) → (reason_of t p f ≡ Kept) ↔ ((t ≡ false) × (p ≡ false) × (f ≡ false))
is_kept true p f = (λ e. zero_is_one (cc e), λ e. zero_is_one (cc e.0))
is_kept false true f = (λ e. zero_is_one (cc e), λ e. zero_is_one (cc e.1))
is_kept false false true = (λ e. zero_is_one (cc e), λ e. zero_is_one (cc e.2))
is_kept false false false = (λ e. (refl, refl, refl), λ e. refl)
