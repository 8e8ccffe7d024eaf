-- The next free address of a pool is the first that is met going round the circle (specs/Replay.antt), and there is none exactly if all are in use.
use Rattle.std.specs.Prelude.{ℕ, zero, suc, ◌+◌, ◌-◌, ◌%◌, ◌≤◌, ◌<◌, ◌≡◌, refl, Bool, true, false, ◌↔◌, Option, Some, None}
use Rattle.std.proofs.Common.{sym, ap, ap₂, ◌∙◌, suc-add, zero-add, add-zero, arith}
use Rattle.std.proofs.Math.Decide.{ℕ_discrete}
use Rattle.lists.specs.AbsurdLaws.{zero_is_one}
use Rattle.lists.specs.Choice.{pick}
use Rattle.pool.specs.Free.{free_from}
use Rattle.pool.specs.NextFree.{next_free}
use Rattle.std.specs.Option.{option_or}
use Rattle.pool.specs.Pools.{member}
use Rattle.pool.specs.declared.Pool.{Pool}
use Rattle.arp.specs.Replay.{first_free, free_after}
use Rattle.wire.specs.declared.address.Address.{Address}

-- ---- a search in two parts

walk_parts : (used : ℕ → Bool) (m n a : ℕ) → first_free used (m + n) a ≡ option_or (first_free used m a) (first_free used n (a + m))
unfolding first_free
walk_parts used zero n a = rw (zero-add n, add-zero a)
walk_parts used (suc m) n a = rw (suc-add m n) (go (used (a % 128)) (walk_parts used m n (suc a) ∙ ap (λ (x : ℕ). option_or (first_free used m (suc a)) (first_free used n x)) (omega arith)))
  where
    go : (t : Bool) → first_free used (m + n) (suc a) ≡ option_or (first_free used m (suc a)) (first_free used n (a + suc m))
        → pick t (first_free used (m + n) (suc a)) (Some (record { 0 = a % 128 })) ≡ option_or (pick t (first_free used m (suc a)) (Some (record { 0 = a % 128 }))) (first_free used n (a + suc m))
    go true e = e
    go false e = refl

-- in the pool's search too
search_parts : (p : Pool) (m n a : ℕ) → free_from p (m + n) a ≡ option_or (free_from p m a) (free_from p n (a + m))
unfolding free_from
search_parts p zero n a = rw (zero-add n, add-zero a)
search_parts p (suc m) n a = rw (suc-add m n) (go (member p a) (search_parts p m n (suc a) ∙ ap (λ (x : ℕ). option_or (free_from p m (suc a)) (free_from p n x)) (omega arith)))
  where
    go : (t : Bool) → free_from p (m + n) (suc a) ≡ option_or (free_from p m (suc a)) (free_from p n (a + suc m))
        → pick t (free_from p (m + n) (suc a)) (Some (record { 0 = a })) ≡ option_or (pick t (free_from p m (suc a)) (Some (record { 0 = a }))) (free_from p n (a + suc m))
    go true e = e
    go false e = refl

-- up to 7Fh both search alike, at the first turn round the circle and at the second
walk_is_search : (p : Pool) (n a b : ℕ) → a + n ≤ 128 → b % 128 ≡ a % 128 → first_free (member p) n b ≡ free_from p n a
unfolding first_free free_from
walk_is_search p zero a b h e = refl
walk_is_search p (suc n) a b h e =
    let k : b % 128 ≡ a = omega arith in
    let ih : first_free (member p) n (suc b) ≡ free_from p n (suc a) = walk_is_search p n (suc a) (suc b) (omega arith) (omega arith) in
    rw (k, ih)

either_none : (f g : Option Address) → option_or f (option_or g f) ≡ option_or f g
either_none (Some a) g = refl
either_none None (Some a) = refl
either_none None None = refl

-- THE NEXT FREE ADDRESS is the first that is met, going all the way round after the last pick
pub next_is_walked : (p : Pool) (last : ℕ) → last < 128 → next_free p last ≡ free_after (member p) last
unfolding next_free
next_is_walked p last h =
    let m : ℕ = 127 - last in
    let n : ℕ = suc last in
    let e : 128 ≡ m + n = omega arith in
    let f : 128 ≡ n + m = omega arith in
    let low : free_from p 128 0 ≡ option_or (free_from p n 0) (free_from p m n) = ap (λ (k : ℕ). free_from p k 0) f ∙ search_parts p n m 0 ∙ ap (λ (k : ℕ). option_or (free_from p n 0) (free_from p m k)) (zero-add n) in
    ap (option_or (free_from p m n)) low
    ∙ either_none (free_from p m n) (free_from p n 0)
    ∙ sym
    (ap (λ (k : ℕ). first_free (member p) k n) e
    ∙ walk_parts (member p) m n n
    ∙ ap₂ option_or (walk_is_search p m n n (omega arith) refl) (walk_is_search p n 0 (n + m) (omega arith) (omega arith)))

-- ---- none

walk_full : (used : ℕ → Bool) (n a : ℕ) → first_free used n a ≡ None → (c : ℕ) → a ≤ c → c < a + n → used (c % 128) ≡ true
unfolding first_free
walk_full used zero a e c l h = absurd (omega arith)
walk_full used (suc n) a e c l h = go (λ k m. walk_full used n (suc a) k c m (omega arith)) (used (a % 128)) refl e (ℕ_discrete a c)
  where
    go : (first_free used n (suc a) ≡ None → suc a ≤ c → used (c % 128) ≡ true) → (b : Bool) → used (a % 128) ≡ b
        → pick b (first_free used n (suc a)) (Some (record { 0 = a % 128 })) ≡ None → Dec (a ≡ c) → used (c % 128) ≡ true
    go ih true q k (yes m) = ap (λ (x : ℕ). used (x % 128)) (sym m) ∙ q
    go ih true q k (no m) = ih k (omega arith)
    go ih false q k m = zero_is_one (cc k)

full_walk : (used : ℕ → Bool) → ((c : ℕ) → c < 128 → used c ≡ true) → (n a : ℕ) → first_free used n a ≡ None
unfolding first_free
full_walk used h zero a = refl
full_walk used h (suc n) a = ap (λ (b : Bool). pick b (first_free used n (suc a)) (Some (record { 0 = a % 128 }))) (h (a % 128) (omega arith)) ∙ full_walk used h n (suc a)

-- all the way round, no address is met exactly if all 128 are in use
pub none_met : (used : ℕ → Bool) (last : ℕ) → (free_after used last ≡ None) ↔ ((c : ℕ) → c < 128 → used c ≡ true)
none_met used last = (λ e c h. at e c h, λ h. full_walk used h 128 (suc last))
  where
    at : free_after used last ≡ None → (c : ℕ) → c < 128 → used c ≡ true
    at e c h =
        let d : ℕ = suc last + (c + 128 - suc last % 128) % 128 in
        let k : d % 128 ≡ c = omega arith in
        ap used (sym k) ∙ walk_full used 128 (suc last) e d (omega arith) (omega arith)
