-- The first free address after the last one picked: what the answer means, by how far an address lies after it on the circle of the 128.
use Prim.Native.Nat.{ℕ, suc, ◌+◌, ◌-◌, ◌%◌, ◌<◌, ◌≤◌}
use Rattle.std.specs.Prelude.{◌≡◌, Bool, true, ◌↔◌, Option, Some, None}
use Rattle.std.proofs.Math.Path.{refl, ap}
use Rattle.std.proofs.Common.{sym, ◌∙◌}
use Rattle.std.proofs.Math.Bool.{false}
use Rattle.std.proofs.Math.Decide.{dec_lt}
use native.Mathlib.Omega.{arith}
use Rattle.pool.specs.Free.{used, free_from, lowest_free, Lowest, address}
use Rattle.pool.specs.FreeLaws.{from_free, from_full, from_cases, from_all, lowest_is, none_free, full_count}
use Rattle.pool.specs.NextFree.{next_free, Next}
use Rattle.std.specs.Option.{option_or}
use Rattle.pool.specs.Pools.{member}
use Rattle.pool.specs.declared.Pool.{Pool}
use Rattle.wire.specs.declared.address.Address.{Address}

-- ---- the distances

ahead : (l a b : ℕ) → l < a → a < 128 → b < 128 → (b < a → b ≤ l) → (a + 127 - l) % 128 ≤ (b + 127 - l) % 128
ahead l a b h k m n = go (dec_lt l b) (dec_lt b a)
  where
    x : (a + 127 - l) % 128 ≡ a - suc l
    x = omega arith

    go : Dec (l < b) → Dec (b < a) → (a + 127 - l) % 128 ≤ (b + 127 - l) % 128
    go (yes s) (yes t) = absurd (omega (arith, n t))
    go (yes s) (no t) = let y : (b + 127 - l) % 128 ≡ b - suc l = omega arith in omega arith
    go (no s) t = let y : (b + 127 - l) % 128 ≡ b + 127 - l = omega arith in omega arith

behind : (l a b : ℕ) → l < 128 → a ≤ b → b ≤ l → (a + 127 - l) % 128 ≤ (b + 127 - l) % 128
behind l a b h k m =
    let x : (a + 127 - l) % 128 ≡ a + 127 - l = omega arith in
    let y : (b + 127 - l) % 128 ≡ b + 127 - l = omega arith in
    omega arith

-- no free address lies nearer than a
ahead_back : (l a b : ℕ) → a < 128 → l < b → b < a → (a + 127 - l) % 128 ≤ (b + 127 - l) % 128 → ⊥
ahead_back l a b h k m n =
    let x : (a + 127 - l) % 128 ≡ a - suc l = omega arith in
    let y : (b + 127 - l) % 128 ≡ b - suc l = omega arith in
    omega arith

behind_ahead : (l a b : ℕ) → l < 128 → a ≤ l → l < b → b < 128 → (a + 127 - l) % 128 ≤ (b + 127 - l) % 128 → ⊥
behind_ahead l a b h k m o n =
    let x : (a + 127 - l) % 128 ≡ a + 127 - l = omega arith in
    let y : (b + 127 - l) % 128 ≡ b - suc l = omega arith in
    omega arith

behind_back : (l a b : ℕ) → l < 128 → a ≤ l → b < a → (a + 127 - l) % 128 ≤ (b + 127 - l) % 128 → ⊥
behind_back l a b h k m n =
    let x : (a + 127 - l) % 128 ≡ a + 127 - l = omega arith in
    let y : (b + 127 - l) % 128 ≡ b + 127 - l = omega arith in
    omega arith

-- what is not free is in use
used_unless : (t : Bool) → (t ≡ false → ⊥) → t ≡ true
used_unless true n = refl
used_unless false n = absurd (n refl)

both : {A : Type 0} (t : Bool) → t ≡ true → t ≡ false → A
both t e n = absurd (let z : ◌≡◌ {A = ℕ} 0 1 = cc (e, n) in omega arith)

-- ---- the next one

-- above l, or else the lowest
module _ (p : Pool) (l a : ℕ) (h : l < 128) where
  to : next_free p l ≡ Some (address a) → Next p l a
  unfolding next_free
  to e = go (free_from p (127 - l) (suc l)) refl e
    where
      go : (f : Option Address) → free_from p (127 - l) (suc l) ≡ f → option_or f (lowest_free p) ≡ Some (address a) → Next p l a
      go (Some b) q r =
          let s = from_free p (127 - l) (suc l) a (q ∙ r) in
          let k : a < 128 = omega (arith, s.2, s.1) in
          record {
            small = k;
            free = s.0;
            nearest = λ b m n. ahead l a b (omega (arith, s.1)) k m (λ o. near b n o (dec_lt l b) s.3);
          }
        where
          near : (b : ℕ) → member p b ≡ false → b < a → Dec (l < b) → ((j : ℕ) → suc l ≤ j → j < a → member p j ≡ true) → b ≤ l
          near b n o (yes t) w = both _ (w b (omega arith) o) n
          near b n o (no t) w = omega arith
      go None q r =
          let w = (lowest_is p a).0 r in
          record {
            small = w.small;
            free = w.free;
            nearest = λ b m n. behind l a b h (low b n (dec_lt b a) w) (high b m n (dec_lt l b));
          }
        where
          low : (b : ℕ) → member p b ≡ false → Dec (b < a) → Lowest p a → a ≤ b
          low b n (yes t) w = both _ (w.below b t) n
          low b n (no t) w = omega arith

          high : (b : ℕ) → b < 128 → member p b ≡ false → Dec (l < b) → b ≤ l
          high b m n (yes t) = both _ (from_full p (127 - l) (suc l) b q (omega arith) (omega arith)) n
          high b m n (no t) = omega arith

  from : Next p l a → next_free p l ≡ Some (address a)
  unfolding next_free
  from w = go (dec_lt l a)
    where
      go : Dec (l < a) → next_free p l ≡ Some (address a)
      go (yes t) =
          let e : free_from p (127 - l) (suc l) ≡ Some (address a) =
          from_cases p (127 - l) (suc l) a (omega arith) (omega (arith, w.small)) w.free
          (λ j m o. used_unless _ (λ n. ahead_back l a j w.small (omega arith) o (w.nearest j (omega (arith, w.small)) n))) in
          ap (λ (f : Option Address). option_or f (lowest_free p)) e
      go (no t) =
          let e : free_from p (127 - l) (suc l) ≡ None =
          from_all p (127 - l) (suc l)
          (λ j m o. used_unless _ (λ n. behind_ahead l a j h (omega arith) (omega arith) (omega arith) (w.nearest j (omega arith) n))) in
          ap (λ (f : Option Address). option_or f (lowest_free p)) e
          ∙ (lowest_is p a).1
          (record {
            small = w.small;
            free = w.free;
            below = λ b m. used_unless _ (λ n. behind_back l a b h (omega arith) m (w.nearest b (omega arith) n));
          })

-- an address is answered if and only if it is free and no free address lies nearer after the last one
pub next_is : (p : Pool) (l a : ℕ) → l < 128 → (next_free p l ≡ Some (address a)) ↔ Next p l a
next_is p l a h = (to p l a h, from p l a h)

-- after 127, and after any number above it, it is the lowest that is free
pub next_above : (p : Pool) (l : ℕ) → 127 ≤ l → next_free p l ≡ lowest_free p
unfolding next_free free_from
next_above p l h = let e : 127 - l ≡ 0 = omega arith in rw e

-- none is answered if and only if none of the 128 is free
pub next_none : (p : Pool) (l : ℕ) → (next_free p l ≡ None) ↔ ((b : ℕ) → b < 128 → member p b ≡ true)
unfolding next_free
next_none p l = (λ e. go (free_from p (127 - l) (suc l)) e, λ m. back m)
  where
    go : (f : Option Address) → option_or f (lowest_free p) ≡ None → (b : ℕ) → b < 128 → member p b ≡ true
    go (Some a) e = absurd (let z : ◌≡◌ {A = ℕ} 0 1 = cc in omega arith)
    go None e = (none_free p).0 e

    back : ((b : ℕ) → b < 128 → member p b ≡ true) → next_free p l ≡ None
    back m =
        let e : free_from p (127 - l) (suc l) ≡ None = from_all p (127 - l) (suc l) (λ j s t. m j (omega arith)) in
        ap (λ (f : Option Address). option_or f (lowest_free p)) e ∙ (none_free p).1 m

-- and that is where 128 are counted
pub next_full : (p : Pool) (l : ℕ) → (next_free p l ≡ None) ↔ (used p ≡ 128)
next_full p l = (
  λ e. (full_count p).0 ((none_free p).1 ((next_none p l).0 e)),
  λ e. (next_none p l).1 ((none_free p).0 ((full_count p).1 e)),
)

-- an answered address is below 128 and free, whatever the last one
pub next_free_lem : (p : Pool) (l a : ℕ) → next_free p l ≡ Some (address a) → (a < 128) × (member p a ≡ false)
next_free_lem p l a e = go (dec_lt l 128)
  where
    go : Dec (l < 128) → (a < 128) × (member p a ≡ false)
    go (yes h) = let w = (next_is p l a h).0 e in (w.small, w.free)
    go (no h) = let w = (lowest_is p a).0 (sym (next_above p l (omega arith)) ∙ e) in (w.small, w.free)

-- the last one itself is answered only if no other is free
pub again_only_if : (p : Pool) (l : ℕ) → next_free p l ≡ Some (address l) → (b : ℕ) → b < 128 → (b ≡ l → ⊥) → member p b ≡ true
again_only_if p l e b h n =
    let k : l < 128 = (next_free_lem p l l e).0 in
    used_unless _ (λ f. last l b k h n (((next_is p l l k).0 e).nearest b h f))
  where
    last : (l b : ℕ) → l < 128 → b < 128 → (b ≡ l → ⊥) → (l + 127 - l) % 128 ≤ (b + 127 - l) % 128 → ⊥
    last l b k h n m = let x : (l + 127 - l) % 128 ≡ 127 = omega arith in n (omega arith)
