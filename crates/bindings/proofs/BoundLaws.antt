-- The set of bound addresses has an address if and only if something is bound to it, and so it counts them.
use Prim.Native.Nat.{ℕ, zero, suc, ◌+◌, ◌≤◌, ◌<◌}
use Rattle.std.specs.Prelude.{◌≡◌, Bool, ◌↔◌, Option, Some, None}
use Rattle.std.proofs.Math.Path.{refl}
use Rattle.std.proofs.Common.{sym, ap, ◌∙◌, arith}
use Rattle.std.proofs.Math.Bool.{true, false}
use Rattle.std.proofs.Math.Decide.{ℕ_discrete}
use Rattle.lists.specs.Choice.{pick}
use Rattle.pool.specs.Counts.{count}
use Rattle.pool.specs.CountLaws.{count_cong}
use Rattle.pool.specs.Free.{used}
use Rattle.pool.specs.Pools.{Fits, member, with_address}
use Rattle.pool.specs.MemberLaws.{has_with_same, has_with_other, fits_with, same_members}
use Rattle.pool.specs.Start.{empty_pool}
use Rattle.pool.proofs.StartLaws.{member_empty}
use Rattle.pool.specs.declared.Pool.{Pool}
use Rattle.bindings.specs.Entries.{is_bound, with_entry, bound_from, bound_set}
use Rattle.udid.specs.declared.Udid.{Udid}

-- one address: it is added where somebody is bound to it, and the set is as it was where nobody is
pub with_bound : (set : Pool) (a : ℕ) (u : Udid) → with_entry set a (Some u) ≡ with_address set a
with_bound set a u = refl

pub with_nobody : (set : Pool) (a : ℕ) → with_entry set a None ≡ set
with_nobody set a = refl

with_entry_other : (set : Pool) (a : ℕ) (e : Option Udid) (j : ℕ) → (j ≡ a → ⊥) → member (with_entry set a e) j ≡ member set j
with_entry_other set a e j n = go (is_bound e)
  where
    go : (t : Bool) → member (pick t (with_address set a) set) j ≡ member set j
    go true = has_with_other set a j n
    go false = refl

with_entry_same : (set : Pool) (a : ℕ) (e : Option Udid) → a < 128 → member set a ≡ false → member (with_entry set a e) a ≡ is_bound e
with_entry_same set a e l f = go (is_bound e)
  where
    go : (t : Bool) → member (pick t (with_address set a) set) a ≡ t
    go true = has_with_same set a l
    go false = f

module _ (held : ℕ → Option Udid) where
  -- those before a are not touched
  bound_from_leaves_earlier : (n a : ℕ) (set : Pool) (j : ℕ) → j < a → member (bound_from held n a set) j ≡ member set j
  unfolding bound_from
  bound_from_leaves_earlier zero a set j l = refl
  bound_from_leaves_earlier (suc n) a set j l =
      bound_from_leaves_earlier n (suc a) (with_entry set a (held a)) j (omega arith) ∙ with_entry_other set a (held a) j (λ e. omega (arith, e))

  bound_from_has : (n a : ℕ) (set : Pool) → a + n ≤ 128 → ((j : ℕ) → a ≤ j → member set j ≡ false) → (j : ℕ) → a ≤ j → j < a + n → member (bound_from held n a set) j ≡ is_bound (held j)
  unfolding bound_from
  bound_from_has zero a set h e j l m = absurd (omega arith)
  bound_from_has (suc n) a set h e j l m =
      go (ℕ_discrete j a)
      (λ k. bound_from_has n (suc a) (with_entry set a (held a)) (omega arith) (λ i b. with_entry_other set a (held a) i (λ q. omega (arith, q)) ∙ e i (omega arith)) j k (omega arith))
      (bound_from_leaves_earlier n (suc a) (with_entry set a (held a)) a (omega arith))
    where
      next : Pool
      next = bound_from held n (suc a) (with_entry set a (held a))

      go : Dec (j ≡ a) → (suc a ≤ j → member next j ≡ is_bound (held j)) → member next a ≡ member (with_entry set a (held a)) a → member next j ≡ is_bound (held j)
      go (yes q) ih b =
          ap (member next) q ∙ b ∙ with_entry_same set a (held a) (omega arith) (e a (omega arith)) ∙ ap (λ (x : ℕ). is_bound (held x)) (sym q)
      go (no q) ih b = ih (omega arith)

  -- THE SET HAS THE BOUND ADDRESSES
  pub bound_set_has : (a : ℕ) → a < 128 → member (bound_set held) a ≡ is_bound (held a)
  bound_set_has a h = bound_from_has 128 0 empty_pool (omega arith) (λ j l. member_empty j) a (omega arith) (omega arith)

  pub bound_set_count : used (bound_set held) ≡ count (λ (a : ℕ). is_bound (held a)) 128
  unfolding used
  bound_set_count = count_cong (member (bound_set held)) (λ (a : ℕ). is_bound (held a)) 128 (λ j l. bound_set_has j l)

  bound_from_fits : (n a : ℕ) (set : Pool) → Fits set → Fits (bound_from held n a set)
  unfolding bound_from
  bound_from_fits zero a set f = f
  bound_from_fits (suc n) a set f = bound_from_fits n (suc a) (with_entry set a (held a)) (go (is_bound (held a)))
    where
      go : (t : Bool) → Fits (pick t (with_address set a) set)
      go true = fits_with set a f
      go false = f

  pub bound_set_fits : Fits (bound_set held)
  bound_set_fits = bound_from_fits 128 0 empty_pool (record { low = omega arith; high = omega arith })

  -- and no other set has just these
  pub bound_set_exactly : (r : Pool) → Fits r → (r ≡ bound_set held) ↔ ((a : ℕ) → a < 128 → member r a ≡ is_bound (held a))
  bound_set_exactly r f = (
    λ e a h. ap (λ (x : Pool). member x a) e ∙ bound_set_has a h,
    λ k. same_members r (bound_set held) f bound_set_fits (λ a h. k a h ∙ sym (bound_set_has a h)),
  )
