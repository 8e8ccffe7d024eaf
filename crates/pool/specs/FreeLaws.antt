-- The count of the addresses in use is that of the ones of both halves, and follows each address more or fewer. The lowest free address is
-- answered exactly if it is the lowest that is free, and none exactly if all 128 are in use.
use Rattle.std.specs.Prelude.{ℕ, zero, suc, ◌+◌, ◌<◌, ◌≤◌, ◌≡◌, refl, Bool, true, false, ◌↔◌, length, Some, None}
use Rattle.std.proofs.Common.{sym, ap, ap₂, ◌∙◌, arith, zero-add}
use Rattle.std.proofs.Math.Decide.{ℕ_discrete}
use Rattle.std.specs.Int.Count.{ones}
use Rattle.lists.specs.AbsurdLaws.{zero_is_one}
use Rattle.lists.specs.Choice.{pick}
use Rattle.lists.specs.Passing.{passing}
use Rattle.wire.specs.declared.address.Address.{Address}
use Rattle.pool.specs.Digits.{digit}
use Rattle.pool.specs.DigitLaws.{ones_count}
use Rattle.pool.specs.CountLaws.{count_add, count_cong, count_more, count_le, count_all, count_passing}
use Rattle.pool.specs.Free.{used, free_from, lowest_free, Lowest, address}
use Rattle.pool.specs.MemberLaws.{member_low, member_high, has_with_same, has_with_other, has_without_same, has_without_other}
use Rattle.pool.specs.Pools.{Fits, member, with_address, without_address}
use Rattle.pool.specs.declared.Pool.{Pool}

-- ---- how many

-- the ones of the two halves are the addresses in use, counted
pub used_ones : (p : Pool) → Fits p → ones p.low + ones p.high ≡ used p
unfolding used
used_ones p f =
    ap₂ (λ (x y : ℕ). x + y)
    (ones_count 64 p.low f.low ∙ count_cong (digit p.low) (member p) 64 (λ j h. sym (member_low p j h)))
    (ones_count 64 p.high f.high ∙ count_cong (digit p.high) (λ j. member p (64 + j)) 64 (λ j h. sym (member_high p j h)))
    ∙ sym (count_add (member p) 64 64)

-- and so many has the list of them
pub used_listed : (p : Pool) → length (passing (member p) 0 128) ≡ used p
unfolding used
used_listed p = count_passing (member p) 0 128 ∙ count_cong (λ j. member p (0 + j)) (member p) 128 (λ j h. ap (member p) (zero-add j))

pub used_le : (p : Pool) → used p ≤ 128
unfolding used
used_le p = count_le (member p) 128

-- an address more, and one fewer
pub used_with_new : (p : Pool) (a : ℕ) → a < 128 → member p a ≡ false → used (with_address p a) ≡ suc (used p)
unfolding used
used_with_new p a h e = count_more (member p) (member (with_address p a)) 128 a h e (has_with_same p a h) (λ j l n. has_with_other p a j n)

pub used_with_old : (p : Pool) (a : ℕ) → member p a ≡ true → used (with_address p a) ≡ used p
unfolding used
used_with_old p a e = count_cong (member (with_address p a)) (member p) 128 at
  where
    at : (j : ℕ) → j < 128 → member (with_address p a) j ≡ member p j
    at j h = go (ℕ_discrete j a)
      where
        go : Dec (j ≡ a) → member (with_address p a) j ≡ member p j
        go (yes d) = ap (member (with_address p a)) d ∙ has_with_same p a (omega arith) ∙ sym e ∙ ap (member p) (sym d)
        go (no d) = has_with_other p a j d

pub used_without : (p : Pool) (a : ℕ) → a < 128 → member p a ≡ true → suc (used (without_address p a)) ≡ used p
unfolding used
used_without p a h e = sym (count_more (member (without_address p a)) (member p) 128 a h (has_without_same p a) e (λ j l n. sym (has_without_other p a j n)))

-- ---- the lowest that is free

pub from_free : (p : Pool) (n a b : ℕ) → free_from p n a ≡ Some (address b) → (member p b ≡ false) × (a ≤ b) × (b < a + n) × ((j : ℕ) → a ≤ j → j < b → member p j ≡ true)
unfolding free_from
from_free p zero a b e = zero_is_one cc
from_free p (suc n) a b e = go (λ q. from_free p n (suc a) b q) (member p a) refl
  where
    go : (free_from p n (suc a) ≡ Some (address b) → (member p b ≡ false) × (suc a ≤ b) × (b < suc a + n) × ((j : ℕ) → suc a ≤ j → j < b → member p j ≡ true))
        → (t : Bool) → member p a ≡ t → (member p b ≡ false) × (a ≤ b) × (b < a + suc n) × ((j : ℕ) → a ≤ j → j < b → member p j ≡ true)
    go ih true h =
        let q : free_from p n (suc a) ≡ Some (address b) = simp h at e in
        let r = ih q in
        (r.0, omega arith, omega arith, λ j l k. first j l k (ℕ_discrete a j) r.3)
      where
        first : (j : ℕ) → a ≤ j → j < b → Dec (a ≡ j) → ((j : ℕ) → suc a ≤ j → j < b → member p j ≡ true) → member p j ≡ true
        first j l k (yes d) m = ap (member p) (sym d) ∙ h
        first j l k (no d) m = m j (omega arith) k
    go ih false h =
        let q : Some (address a) ≡ Some (address b) = simp h at e in
        let k : address a ≡ address b = cc in
        let m : a ≡ b = ap (λ (x : Address). x.0) k in
        (ap (member p) (sym m) ∙ h, omega arith, omega arith, λ j l o. absurd (omega arith))

pub from_full : (p : Pool) (n a j : ℕ) → free_from p n a ≡ None → a ≤ j → j < a + n → member p j ≡ true
unfolding free_from
from_full p zero a j e l h = absurd (omega arith)
from_full p (suc n) a j e l h = go (λ q m k. from_full p n (suc a) j q m k) (member p a) refl (ℕ_discrete a j)
  where
    go : (free_from p n (suc a) ≡ None → suc a ≤ j → j < suc a + n → member p j ≡ true) → (t : Bool) → member p a ≡ t → Dec (a ≡ j) → member p j ≡ true
    go ih true k (yes d) = ap (member p) (sym d) ∙ k
    go ih true k (no d) = let q : free_from p n (suc a) ≡ None = simp k at e in ih q (omega arith) (omega arith)
    go ih false k d = let q : Some (address a) ≡ None = simp k at e in zero_is_one cc

-- either all n from a on are in use, or one of them is found
pub from_cases : (p : Pool) (n a b : ℕ) → a ≤ b → b < a + n → member p b ≡ false → ((j : ℕ) → a ≤ j → j < b → member p j ≡ true) → free_from p n a ≡ Some (address b)
unfolding free_from
from_cases p zero a b l h e m = absurd (omega arith)
from_cases p (suc n) a b l h e m = go (ℕ_discrete a b) (λ k. from_cases p n (suc a) b k (omega arith) e (λ j o q. m j (omega arith) q))
  where
    go : Dec (a ≡ b) → (suc a ≤ b → free_from p n (suc a) ≡ Some (address b)) → pick (member p a) (free_from p n (suc a)) (Some (address a)) ≡ Some (address b)
    go (yes d) ih = let z : member p a ≡ false = ap (member p) d ∙ e in rw (z, d)
    go (no d) ih = let z : member p a ≡ true = m a (omega arith) (omega arith) in rw z (ih (omega arith))

pub from_all : (p : Pool) (n a : ℕ) → ((j : ℕ) → a ≤ j → j < a + n → member p j ≡ true) → free_from p n a ≡ None
unfolding free_from
from_all p zero a m = refl
from_all p (suc n) a m = let z : member p a ≡ true = m a (omega arith) (omega arith) in rw z (from_all p n (suc a) (λ j l h. m j (omega arith) (omega arith)))

-- an address is answered if and only if it is the lowest that is free
pub lowest_is : (p : Pool) (a : ℕ) → (lowest_free p ≡ Some (address a)) ↔ Lowest p a
lowest_is p a = (
  λ e. (let r = from_free p 128 0 a e in record { small = omega arith; free = r.0; below = λ b h. r.3 b (omega arith) h }),
  λ w. from_cases p 128 0 a (omega arith) (omega (arith, w.small)) w.free (λ j l h. w.below j h),
)

-- none is answered if and only if all 128 are in use
pub none_free : (p : Pool) → (lowest_free p ≡ None) ↔ ((b : ℕ) → b < 128 → member p b ≡ true)
none_free p = (
  λ e b h. from_full p 128 0 b e (omega arith) (omega arith),
  λ m. from_all p 128 0 (λ j l h. m j (omega arith)),
)

-- and that is where 128 are counted
pub full_count : (p : Pool) → (lowest_free p ≡ None) ↔ (used p ≡ 128)
unfolding used
full_count p = (λ e. count_all (member p) 128 ((none_free p).0 e), λ e. (none_free p).1 (λ b h. go b h e (member p b) refl))
  where
    go : (b : ℕ) → b < 128 → used p ≡ 128 → (t : Bool) → member p b ≡ t → member p b ≡ true
    go b h k true e = e
    go b h k false e = absurd (omega (arith, used_with_new p b h e, used_le (with_address p b)))
