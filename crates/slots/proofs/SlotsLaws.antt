-- What the reader of the slots gives after the writer and at the start (specs/Slots.antt).
use Rattle.std.specs.Prelude.{ℕ, ◌≤◌, ◌<◌, ◌≡◌, refl, Bool, true, false, ◌⊎◌}
use Rattle.std.proofs.Common.{sym, ap, subst, ◌∙◌, inl, inr, arith, length-set, get_or-set_same, get_or-set_other}
use Rattle.std.proofs.Math.Decide.{ℕ_discrete}
use Rattle.std.proofs.lemmas.List.{length-replicate}
use Rattle.std.proofs.Math.Seq.{set_out}
use Rattle.lists.specs.Choice.{pick}
use Rattle.pool.specs.MemberLaws.{member_above, with_above, without_above, has_with_same, has_with_other, has_without_same, has_without_other}
use Rattle.pool.specs.Pools.{member}
use Rattle.pool.proofs.StartLaws.{member_empty}
use Rattle.udid.specs.declared.Udid.{Udid}
use Rattle.slots.specs.Slots.{Sized128, zero_udid, kept_udid, held_at, with_binding, no_bindings}
use Rattle.slots.specs.declared.Slots.{Slots}
use Rattle.slots.specs.declared.Binding.{Binding}
use Rattle.slots.specs.declared.Binding.TheVariants.{Open, Bound, Claimed, Left}

-- ---- what is held by the sets of bound, of claimed and of left addresses

pub held_bound : (s : Slots) (a : ℕ) → member s.bound a ≡ true → held_at s a ≡ Bound (kept_udid s a)
unfolding held_at
held_bound s a e = rw e

pub held_claimed : (s : Slots) (a : ℕ) → member s.bound a ≡ false → member s.claimed a ≡ true → held_at s a ≡ Claimed
unfolding held_at
held_claimed s a e f = rw (e, f)

pub held_left : (s : Slots) (a : ℕ) → member s.bound a ≡ false → member s.claimed a ≡ false → member s.left a ≡ true → held_at s a ≡ Left
unfolding held_at
held_left s a e f g = rw (e, f, g)

pub held_open : (s : Slots) (a : ℕ) → member s.bound a ≡ false → member s.claimed a ≡ false → member s.left a ≡ false → held_at s a ≡ Open
unfolding held_at
held_open s a e f g = rw (e, f, g)

-- what treats an open, a claimed and a left address alike asks the set of bound addresses, and the identifier that is kept, alone
pub by_bound : {A : Type 0} (f : Binding → A) (none : A) → f Claimed ≡ none → f Left ≡ none → f Open ≡ none → (s : Slots) (a : ℕ)
    → f (held_at s a) ≡ pick (member s.bound a) (f (Bound (kept_udid s a))) none
unfolding held_at
by_bound f none k l o s a = go (member s.bound a) (member s.claimed a) (member s.left a)
  where
    go : (x y z : Bool) → f (pick x (Bound (kept_udid s a)) (pick y Claimed (pick z Left Open))) ≡ pick x (f (Bound (kept_udid s a))) none
    go true y z = refl
    go false true z = k
    go false false true = l
    go false false false = o

-- past the last address nothing is held
pub held_above_is_open : (s : Slots) (a : ℕ) → 128 ≤ a → held_at s a ≡ Open
unfolding held_at
held_above_is_open s a h = rw (member_above s.bound a h, member_above s.claimed a h, member_above s.left a h)

-- where a pass begins nothing is held
pub open_all : (a : ℕ) → held_at no_bindings a ≡ Open
unfolding held_at no_bindings
open_all a = rw (member_empty a)

-- ---- what is held after a binding is put

pub held_same : (s : Slots) (a : ℕ) (x : Binding) → Sized128 s → a < 128 → held_at (with_binding s a x) a ≡ x
unfolding held_at with_binding
held_same s a Open z h = rw (has_without_same s.bound a, has_without_same s.claimed a, has_without_same s.left a)
held_same s a (Bound u) z h =
    rw (
      has_with_same s.bound a h,
      get_or-set_same s.udids a u zero_udid (omega (arith, z.udids)),
    )
held_same s a Claimed z h = rw (has_without_same s.bound a, has_with_same s.claimed a h)
held_same s a Left z h = rw (has_without_same s.bound a, has_without_same s.claimed a, has_with_same s.left a h)

pub held_other : (s : Slots) (a i : ℕ) (x : Binding) → (i ≡ a → ⊥) → held_at (with_binding s a x) i ≡ held_at s i
unfolding held_at with_binding
held_other s a i Open n = rw (has_without_other s.bound a i n, has_without_other s.claimed a i n, has_without_other s.left a i n)
held_other s a i (Bound u) n =
    rw (
      has_with_other s.bound a i n,
      get_or-set_other s.udids a i u zero_udid n,
    )
held_other s a i Claimed n = rw (has_without_other s.bound a i n, has_with_other s.claimed a i n)
held_other s a i Left n = rw (has_without_other s.bound a i n, has_without_other s.claimed a i n, has_with_other s.left a i n)

-- a number above 127 is no address: nothing changes
pub held_out_of_range : (s : Slots) (a i : ℕ) (x : Binding) → 128 ≤ a → held_at (with_binding s a x) i ≡ held_at s i
held_out_of_range s a i x h = go (ℕ_discrete i a)
  where
    go : Dec (i ≡ a) → held_at (with_binding s a x) i ≡ held_at s i
    go (yes q) = held_above_is_open (with_binding s a x) i (omega arith) ∙ sym (held_above_is_open s i (omega arith))
    go (no q) = held_other s a i x q

-- nor does anything that is kept
pub put_above : (s : Slots) (a : ℕ) (x : Binding) → Sized128 s → 128 ≤ a → with_binding s a x ≡ s
unfolding with_binding
put_above s a Open z h = λ j. record { bound = without_above s.bound a h j; claimed = without_above s.claimed a h j; left = without_above s.left a h j; udids = s.udids }
put_above s a (Bound u) z h = λ j. record {
  bound = with_above s.bound a h j;
  claimed = s.claimed;
  left = s.left;
  udids = set_out s.udids a u (subst (λ (n : ℕ). n ≤ a) (sym z.udids) h) j;
}
put_above s a Claimed z h = λ j. record { bound = without_above s.bound a h j; claimed = with_above s.claimed a h j; left = s.left; udids = s.udids }
put_above s a Left z h = λ j. record { bound = without_above s.bound a h j; claimed = without_above s.claimed a h j; left = with_above s.left a h j; udids = s.udids }

-- what was put, or what was there elsewhere
pub held_cases : (s : Slots) (a i : ℕ) (x h : Binding) → Sized128 s → a < 128 → held_at (with_binding s a x) i ≡ h
    → ((i ≡ a) × (x ≡ h)) ⊎ ((i ≡ a → ⊥) × (held_at s i ≡ h))
held_cases s a i x h z l e = go (ℕ_discrete i a)
  where
    go : Dec (i ≡ a) → ((i ≡ a) × (x ≡ h)) ⊎ ((i ≡ a → ⊥) × (held_at s i ≡ h))
    go (yes q) = inl (q, sym (held_same s a x z l) ∙ ap (held_at (with_binding s a x)) (sym q) ∙ e)
    go (no q) = inr (q, sym (held_other s a i x q) ∙ e)

-- ---- there stays a place for each address

pub sized_none : Sized128 no_bindings
unfolding no_bindings
sized_none = record { udids = length-replicate {A = Udid} 128 zero_udid }

pub sized_with : (s : Slots) (a : ℕ) (x : Binding) → Sized128 s → Sized128 (with_binding s a x)
unfolding with_binding
sized_with s a Open z = record { udids = z.udids }
sized_with s a (Bound u) z = record { udids = length-set s.udids a u ∙ z.udids }
sized_with s a Claimed z = record { udids = z.udids }
sized_with s a Left z = record { udids = z.udids }
