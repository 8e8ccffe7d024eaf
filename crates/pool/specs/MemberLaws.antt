-- What each pool has, and that a pool is what it has. Each of with, without and union is settled by its members alone:
-- the three statements that end in -only say so, both ways.
use Rattle.std.specs.Prelude.{ℕ, ◌+◌, ◌%◌, ◌^◌, ◌<◌, ◌≤◌, ◌≡◌, refl, Bool, true, false, ◌↔◌, ltb, eqb}
use Rattle.std.proofs.Common.{sym, ap, ◌∙◌, mod-eq_of_lt, arith, lt-ltb, le-ltb, eq-eqb, ne_eqb}
use Rattle.std.proofs.Math.Decide.{dec_lt, ℕ_discrete}
use Rattle.std.specs.Int.Bits.{bit_or, bit_xor}
use Rattle.std.proofs.lemmas.Nat.{or_lt, xor_lt}
use Rattle.std.proofs.Math.Pow.{pow-lt}
use Rattle.lists.specs.Choice.{pick, or, and, not}
use Rattle.lists.specs.ChoiceLaws.{not_both}
use Rattle.pool.specs.Digits.{digit, plus, flip}
use Rattle.pool.specs.DigitLaws.{digit_power, digit_of_zero, digit_or, digit_plus_same, digit_plus_other, digit_flip_same, digit_flip_other, same_digits}
use Rattle.pool.specs.Pools.{Fits, member, with_address, without_address, union_of}
use Rattle.pool.specs.declared.Pool.{Pool}

-- ---- by halves

pub member_low : (p : Pool) (a : ℕ) → a < 64 → member p a ≡ digit p.low a
unfolding member
member_low p a h = simp (lt-ltb a 64 h, mod-eq_of_lt h)

pub member_high : (p : Pool) (a : ℕ) → a < 64 → member p (64 + a) ≡ digit p.high a
unfolding member
member_high p a h = let e : (64 + a) % 64 ≡ a = omega arith in simp (le-ltb (64 + a) 64 (omega arith), lt-ltb (64 + a) 128 (omega arith), e)

-- a number above 127 is in no pool
pub member_above : (p : Pool) (a : ℕ) → 128 ≤ a → member p a ≡ false
unfolding member
member_above p a h = simp (le-ltb a 64 (omega arith), le-ltb a 128 h)

-- in numbers: 2 ^ a as the low half is the pool of address a alone, and as the high half that of 64 + a alone
pub only_low : (a b : ℕ) → a < 64 → member (record { low = 2 ^ a; high = 0 }) b ≡ eqb b a
unfolding member
only_low a b h = go (dec_lt b 64) (dec_lt b 128)
  where
    go : Dec (b < 64) → Dec (b < 128) → member (record { low = 2 ^ a; high = 0 }) b ≡ eqb b a
    go (yes k) _ = member_low (record { low = 2 ^ a; high = 0 }) b k ∙ digit_power a b
    go (no k) (yes m) = simp (le-ltb b 64 (omega arith), lt-ltb b 128 m, digit_of_zero (b % 64), ne_eqb b a (λ e. omega arith))
    go (no k) (no m) = simp (le-ltb b 64 (omega arith), le-ltb b 128 (omega arith), ne_eqb b a (λ e. omega arith))

pub only_high : (a b : ℕ) → a < 64 → member (record { low = 0; high = 2 ^ a }) b ≡ eqb b (64 + a)
unfolding member
only_high a b h = go (dec_lt b 64) (dec_lt b 128)
  where
    place : 64 ≤ b → b < 128 → Dec (b ≡ 64 + a) → eqb (b % 64) a ≡ eqb b (64 + a)
    place l m (yes e) = eq-eqb (b % 64) a (omega arith) ∙ sym (eq-eqb b (64 + a) e)
    place l m (no n) = ne_eqb (b % 64) a (λ e. n (omega arith)) ∙ sym (ne_eqb b (64 + a) n)

    go : Dec (b < 64) → Dec (b < 128) → member (record { low = 0; high = 2 ^ a }) b ≡ eqb b (64 + a)
    go (yes k) _ = simp (lt-ltb b 64 k, digit_of_zero (b % 64), ne_eqb b (64 + a) (λ e. omega arith))
    go (no k) (yes m) = simp (le-ltb b 64 (omega arith), lt-ltb b 128 m) (digit_power a (b % 64) ∙ place (omega arith) m (ℕ_discrete b (64 + a)))
    go (no k) (no m) = simp (le-ltb b 64 (omega arith), le-ltb b 128 (omega arith), ne_eqb b (64 + a) (λ e. omega arith))

-- two pools with the same members are equal
pub same_members : (p q : Pool) → Fits p → Fits q → ((a : ℕ) → a < 128 → member p a ≡ member q a) → p ≡ q
same_members p q f g h =
    let l = same_digits 64 p.low q.low f.low g.low (λ j k. sym (member_low p j k) ∙ h j (omega arith) ∙ member_low q j k) in
    let r = same_digits 64 p.high q.high f.high g.high (λ j k. sym (member_high p j k) ∙ h (64 + j) (omega arith) ∙ member_high q j k) in
    λ i. record { low = l i; high = r i }

-- ---- one more

pub with_above : (p : Pool) (a : ℕ) → 128 ≤ a → with_address p a ≡ p
unfolding with_address
with_above p a h = simp (le-ltb a 64 (omega arith), le-ltb a 128 h)

pub has_with_same : (p : Pool) (a : ℕ) → a < 128 → member (with_address p a) a ≡ true
unfolding member with_address
has_with_same p a l = go (dec_lt a 64)
  where
    go : Dec (a < 64) → member (with_address p a) a ≡ true
    go (yes h) = simp (lt-ltb a 64 h) (digit_plus_same p.low (a % 64))
    go (no h) = simp (le-ltb a 64 (omega arith), lt-ltb a 128 l) (digit_plus_same p.high (a % 64))

pub has_with_other : (p : Pool) (a b : ℕ) → (b ≡ a → ⊥) → member (with_address p a) b ≡ member p b
unfolding member with_address
has_with_other p a b n = go (dec_lt a 64) (dec_lt a 128) (dec_lt b 64) (dec_lt b 128)
  where
    go : Dec (a < 64) → Dec (a < 128) → Dec (b < 64) → Dec (b < 128) → member (with_address p a) b ≡ member p b
    go (yes h) _ (yes k) _ = simp (lt-ltb a 64 h, lt-ltb b 64 k) (digit_plus_other p.low (a % 64) (b % 64) (λ e. n (omega arith)))
    go (yes h) _ (no k) _ = simp (lt-ltb a 64 h, le-ltb b 64 (omega arith))
    go (no h) (no m) _ _ = simp (le-ltb a 64 (omega arith), le-ltb a 128 (omega arith))
    go (no h) (yes m) (yes k) _ = simp (le-ltb a 64 (omega arith), lt-ltb a 128 m, lt-ltb b 64 k)
    go (no h) (yes m) (no k) (no o) = simp (le-ltb a 64 (omega arith), lt-ltb a 128 m, le-ltb b 64 (omega arith), le-ltb b 128 (omega arith))
    go (no h) (yes m) (no k) (yes o) =
        simp (le-ltb a 64 (omega arith), lt-ltb a 128 m, le-ltb b 64 (omega arith), lt-ltb b 128 o)
        (digit_plus_other p.high (a % 64) (b % 64) (λ e. n (omega arith)))

-- of the 128 addresses, the pool with a has a and those that it had
pub member_with : (p : Pool) (a b : ℕ) → b < 128 → member (with_address p a) b ≡ or (eqb b a) (member p b)
member_with p a b h = go (ℕ_discrete b a)
  where
    go : Dec (b ≡ a) → member (with_address p a) b ≡ or (eqb b a) (member p b)
    go (yes e) = rw (eq-eqb b a e, e) (has_with_same p a (omega arith))
    go (no e) = rw (ne_eqb b a e) (has_with_other p a b e)

-- ---- one fewer

pub without_above : (p : Pool) (a : ℕ) → 128 ≤ a → without_address p a ≡ p
unfolding without_address
without_above p a h = simp (member_above p a h)

pub has_without_same : (p : Pool) (a : ℕ) → member (without_address p a) a ≡ false
unfolding member without_address
has_without_same p a = go (dec_lt a 64) (dec_lt a 128) (member p a) refl
  where
    go : Dec (a < 64) → Dec (a < 128) → (b : Bool) → member p a ≡ b → member (without_address p a) a ≡ false
    go _ _ false e = simp e
    go (yes h) _ true e =
        let k : digit p.low (a % 64) ≡ true = simp (lt-ltb a 64 h) at e in
        simp (lt-ltb a 64 h, k) (digit_flip_same p.low (a % 64) ∙ ap not k)
    go (no h) (no m) true e = not_both (member_above p a (omega arith)) e
    go (no h) (yes m) true e =
        let l : ltb a 64 ≡ false = le-ltb a 64 (omega arith) in
        let k : digit p.high (a % 64) ≡ true = simp (l, lt-ltb a 128 m) at e in
        simp (l, lt-ltb a 128 m, k) (digit_flip_same p.high (a % 64) ∙ ap not k)

pub has_without_other : (p : Pool) (a b : ℕ) → (b ≡ a → ⊥) → member (without_address p a) b ≡ member p b
unfolding member without_address
has_without_other p a b n = go (dec_lt a 64) (dec_lt a 128) (dec_lt b 64) (dec_lt b 128) (member p a) refl
  where
    go : Dec (a < 64) → Dec (a < 128) → Dec (b < 64) → Dec (b < 128) → (t : Bool) → member p a ≡ t → member (without_address p a) b ≡ member p b
    go _ _ _ _ false e = simp e
    go (yes h) _ (yes k) _ true e =
        let q : digit p.low (a % 64) ≡ true = simp (lt-ltb a 64 h) at e in
        simp (lt-ltb a 64 h, lt-ltb b 64 k, q) (digit_flip_other p.low (a % 64) (b % 64) (λ z. n (omega arith)))
    go (yes h) _ (no k) _ true e =
        let q : digit p.low (a % 64) ≡ true = simp (lt-ltb a 64 h) at e in
        simp (lt-ltb a 64 h, le-ltb b 64 (omega arith), q)
    go (no h) (no m) _ _ true e = not_both (member_above p a (omega arith)) e
    go (no h) (yes m) (yes k) _ true e =
        let l : ltb a 64 ≡ false = le-ltb a 64 (omega arith) in
        let q : digit p.high (a % 64) ≡ true = simp (l, lt-ltb a 128 m) at e in
        simp (l, lt-ltb a 128 m, lt-ltb b 64 k, q)
    go (no h) (yes m) (no k) (no o) true e =
        let l : ltb a 64 ≡ false = le-ltb a 64 (omega arith) in
        let q : digit p.high (a % 64) ≡ true = simp (l, lt-ltb a 128 m) at e in
        simp (l, lt-ltb a 128 m, le-ltb b 64 (omega arith), le-ltb b 128 (omega arith), q)
    go (no h) (yes m) (no k) (yes o) true e =
        let l : ltb a 64 ≡ false = le-ltb a 64 (omega arith) in
        let q : digit p.high (a % 64) ≡ true = simp (l, lt-ltb a 128 m) at e in
        simp (l, lt-ltb a 128 m, le-ltb b 64 (omega arith), lt-ltb b 128 o, q) (digit_flip_other p.high (a % 64) (b % 64) (λ z. n (omega arith)))

-- the pool without a has those that it had, save a
pub member_without : (p : Pool) (a b : ℕ) → member (without_address p a) b ≡ and (not (eqb b a)) (member p b)
member_without p a b = go (ℕ_discrete b a)
  where
    go : Dec (b ≡ a) → member (without_address p a) b ≡ and (not (eqb b a)) (member p b)
    go (yes e) = rw (eq-eqb b a e, e) (has_without_same p a)
    go (no e) = rw (ne_eqb b a e) (has_without_other p a b e)

-- ---- those of two

pub member_union : (p q : Pool) (a : ℕ) → member (union_of p q) a ≡ or (member p a) (member q a)
unfolding member union_of
member_union p q a = go (dec_lt a 64) (dec_lt a 128)
  where
    go : Dec (a < 64) → Dec (a < 128) → member (union_of p q) a ≡ or (member p a) (member q a)
    go (yes h) _ = simp (lt-ltb a 64 h) (digit_or p.low q.low (a % 64))
    go (no h) (yes m) = simp (le-ltb a 64 (omega arith), lt-ltb a 128 m) (digit_or p.high q.high (a % 64))
    go (no h) (no m) = simp (le-ltb a 64 (omega arith), le-ltb a 128 (omega arith))

-- ---- numbers of 64 bits stay so

place_lt : (a : ℕ) → 2 ^ (a % 64) < 2 ^ 64
place_lt a = pow-lt {i = a % 64} {j = 64} (omega arith)

pub fits_with : (p : Pool) (a : ℕ) → Fits p → Fits (with_address p a)
unfolding with_address plus
fits_with p a f = go (ltb a 64) (ltb a 128)
  where
    go : (s t : Bool)
        → Fits (pick s (record { low = bit_or p.low (2 ^ (a % 64)); high = p.high }) (pick t (record { low = p.low; high = bit_or p.high (2 ^ (a % 64)) }) p))
    go true t = record { low = or_lt 64 p.low (2 ^ (a % 64)) f.low (place_lt a); high = f.high }
    go false true = record { low = f.low; high = or_lt 64 p.high (2 ^ (a % 64)) f.high (place_lt a) }
    go false false = f

pub fits_without : (p : Pool) (a : ℕ) → Fits p → Fits (without_address p a)
unfolding without_address flip
fits_without p a f = go (member p a) (ltb a 64)
  where
    go : (s t : Bool)
        → Fits (pick s (pick t (record { low = bit_xor p.low (2 ^ (a % 64)); high = p.high }) (record { low = p.low; high = bit_xor p.high (2 ^ (a % 64)) })) p)
    go true true = record { low = xor_lt 64 p.low (2 ^ (a % 64)) f.low (place_lt a); high = f.high }
    go true false = record { low = f.low; high = xor_lt 64 p.high (2 ^ (a % 64)) f.high (place_lt a) }
    go false t = f

pub fits_union : (p q : Pool) → Fits p → Fits q → Fits (union_of p q)
unfolding union_of
fits_union p q f g = record { low = or_lt 64 p.low q.low f.low g.low; high = or_lt 64 p.high q.high f.high g.high }

-- ---- a pool is one of these if and only if it has just these members

settled_by_members : (r q : Pool) (test : ℕ → Bool) → Fits r → Fits q → ((b : ℕ) → b < 128 → member q b ≡ test b)
    → (r ≡ q) ↔ ((b : ℕ) → b < 128 → member r b ≡ test b)
settled_by_members r q test f g h = (λ e b l. ap (λ (x : Pool). member x b) e ∙ h b l, λ k. same_members r q f g (λ b l. k b l ∙ sym (h b l)))

module _ (p : Pool) (f : Fits p) (r : Pool) (g : Fits r) where
  pub with_only : (a : ℕ) → (r ≡ with_address p a) ↔ ((b : ℕ) → b < 128 → member r b ≡ or (eqb b a) (member p b))
  with_only a = settled_by_members r (with_address p a) (λ b. or (eqb b a) (member p b)) g (fits_with p a f) (member_with p a)

  pub without_only : (a : ℕ) → (r ≡ without_address p a) ↔ ((b : ℕ) → b < 128 → member r b ≡ and (not (eqb b a)) (member p b))
  without_only a = settled_by_members r (without_address p a) (λ b. and (not (eqb b a)) (member p b)) g (fits_without p a f) (λ b l. member_without p a b)

  pub union_only : (q : Pool) → Fits q → (r ≡ union_of p q) ↔ ((b : ℕ) → b < 128 → member r b ≡ or (member p b) (member q b))
  union_only q h = settled_by_members r (union_of p q) (λ b. or (member p b) (member q b)) g (fits_union p q f h) (λ b l. member_union p q b)

-- ---- one set within another

-- what a larger set does not have, a smaller does not have
pub outside : (p q : Pool) (a : ℕ) → (member p a ≡ true → member q a ≡ true) → member q a ≡ false → member p a ≡ false
outside p q a w e = go (member p a) refl
  where
    go : (b : Bool) → member p a ≡ b → member p a ≡ false
    go false k = k
    go true k = not_both e (w k)

-- a set with one address more has those that it had
pub with_keeps : (p : Pool) (a b : ℕ) → member p b ≡ true → member (with_address p a) b ≡ true
with_keeps p a b e = go (ℕ_discrete b a) (dec_lt b 128)
  where
    go : Dec (b ≡ a) → Dec (b < 128) → member (with_address p a) b ≡ true
    go (no q) d = has_with_other p a b q ∙ e
    go (yes q) (yes l) = ap (member (with_address p a)) q ∙ has_with_same p a (omega arith)
    go (yes q) (no l) = not_both (member_above p b (omega arith)) e

-- where a set has what another has, so it is with one address more in both
pub within_with : (p q : Pool) (a b : ℕ) → a < 128 → (member p b ≡ true → member q b ≡ true) → member (with_address p a) b ≡ true → member (with_address q a) b ≡ true
within_with p q a b l w e = go (ℕ_discrete b a)
  where
    go : Dec (b ≡ a) → member (with_address q a) b ≡ true
    go (yes d) = ap (member (with_address q a)) d ∙ has_with_same q a l
    go (no d) = has_with_other q a b d ∙ w (sym (has_with_other p a b d) ∙ e)
