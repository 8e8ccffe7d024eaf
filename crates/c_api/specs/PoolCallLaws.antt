-- What the functions on pools answer for C, in numbers.
use Rattle.std.specs.Prelude.{◌≡◌, refl, Bool, false, ◌⊎◌, ◌↔◌, ℕ, ◌+◌, ◌-◌, ◌/◌, ◌%◌, ◌^◌, ◌≤◌, ◌<◌, eqb, Option, Some, None}
use Rattle.std.proofs.Common.{sym, ◌∙◌, subst}
use Rattle.std.proofs.Math.Path.{ap}
use Rattle.std.proofs.Math.Bool.{true}
use Rattle.std.proofs.Math.Logic.{inl, inr}
use Rattle.std.proofs.Math.Logic.Iff.{trans as iff_trans, symm as iff_symm}
use Rattle.std.proofs.Math.Decide.{dec_lt}
use native.Mathlib.Omega.{arith}
use Rattle.std.specs.Int.Count.{ones}
use Rattle.lists.specs.AbsurdLaws.{zero_is_one}
use Rattle.lists.specs.Choice.{not}
use Rattle.lists.specs.TestLaws.{eqb_is, or_is, and_is, false_is, not_is}
use Rattle.wire.specs.Addresses.{is_reserved, is_listed}
use Rattle.pool.specs.Digits.{digit}
use Rattle.pool.specs.Free.{used, lowest_free, Lowest}
use Rattle.pool.specs.NextFree.{next_free, Next}
use Rattle.pool.specs.NextFreeLaws.{next_is, next_none, next_above}
use Rattle.pool.specs.FreeLaws.{used_ones, lowest_is, none_free}
use Rattle.pool.specs.MemberLaws.{member_low, member_high, member_above, member_with, member_without, member_union}
use Rattle.pool.specs.Pools.{member, with_address, without_address, union_of}
use Rattle.pool.specs.Start.{starting_pool, barred_pool}
use Rattle.pool.proofs.StartLaws.{member_starting, member_barred}
use Rattle.pool.specs.declared.Pool.{Pool}
use Rattle.c_arp.specs.declared.parts.HbPool.{HbPool}
use Rattle.c_codec.specs.Numbers.{bit, Says}
use Rattle.c_arp.specs.Parts.{pool_in, told_pool, free_number}
use Rattle.c_api.specs.PoolParts.{Reserved, Listed, InPool}
use Rattle.c_codec.specs.NumberLaws.{bit_says}
use Rattle.wire.proofs.AddressLaws.{reserved_is}
use Rattle.c_api.specs.AddressCallLaws.{listed_in_numbers}
use Rattle.wire.specs.declared.address.Address.{Address}

module _ (low high a : ℕ) where
  abbrev p : Pool
  p = record { low = low; high = high }

  in_low : a < 64 → (member p a ≡ true) ↔ InPool low high a
  unfolding digit
  in_low h = (λ q. inl (h, (eqb_is (low / 2 ^ a % 2) 1).0 (sym (member_low p a h) ∙ q)), back)
    where
      back : InPool low high a → member p a ≡ true
      back (inl x) = member_low p a h ∙ (eqb_is (low / 2 ^ a % 2) 1).1 x.1
      back (inr x) = absurd (omega (arith, x.0))

  in_high : 64 ≤ a → a < 128 → (member p a ≡ true) ↔ InPool low high a
  unfolding digit
  in_high h m = (λ q. inr (h, m, (eqb_is (high / 2 ^ (a - 64) % 2) 1).0 (sym place ∙ q)), back)
    where
      place : member p a ≡ digit high (a - 64)
      place = ap (member p) (let e : a ≡ 64 + (a - 64) = omega arith in e) ∙ member_high p (a - 64) (omega arith)

      back : InPool low high a → member p a ≡ true
      back (inl x) = absurd (omega (arith, x.0))
      back (inr x) = place ∙ (eqb_is (high / 2 ^ (a - 64) % 2) 1).1 x.2

  in_none : 128 ≤ a → (member p a ≡ true) ↔ InPool low high a
  in_none h = (λ q. zero_is_one (cc (q, member_above p a h)), back)
    where
      back : InPool low high a → member p a ≡ true
      back (inl x) = absurd (omega (arith, x.0))
      back (inr x) = absurd (omega (arith, x.1))

  pool_is : (member p a ≡ true) ↔ InPool low high a
  pool_is = go (dec_lt a 64) (dec_lt a 128)
    where
      go : Dec (a < 64) → Dec (a < 128) → (member p a ≡ true) ↔ InPool low high a
      go (yes h) m = in_low h
      go (no h) (yes m) = in_high (omega arith) m
      go (no h) (no m) = in_none (omega arith)

pub hb_pool_has : (pool : HbPool) (address r : ℕ) → r ≡ bit (member (pool_in pool) address) → Says r (InPool pool.low pool.high address)
hb_pool_has pool address r e = bit_says (member (pool_in pool) address) (pool_is pool.low pool.high address) r e

-- the pool that a struct's halves are has what the definition's pool has
of_struct : (q : Pool) (r : HbPool) → r ≡ told_pool q → (a : ℕ) → (member q a ≡ true) ↔ InPool r.low r.high a
of_struct q r e a =
    subst (λ (x : HbPool). (member q a ≡ true) ↔ InPool x.low x.high a) (sym e) (pool_is q.low q.high a)

same_test : {P : Type 0} {b c : Bool} → b ≡ c → (c ≡ true) ↔ P → (b ≡ true) ↔ P
same_test e h = (λ q. h.0 (sym e ∙ q), λ p. e ∙ h.1 p)

pub hb_pool_with : (pool : HbPool) (address : ℕ) (r : HbPool) → r ≡ told_pool (with_address (pool_in pool) address)
    → (a : ℕ) → a < 128 → InPool r.low r.high a ↔ ((a ≡ address) ⊎ InPool pool.low pool.high a)
hb_pool_with pool address r e a h =
    iff_trans (iff_symm (of_struct (with_address (pool_in pool) address) r e a))
    (same_test (member_with (pool_in pool) address a h) (or_is (eqb a address) (member (pool_in pool) a) (eqb_is a address) (pool_is pool.low pool.high a)))

pub hb_pool_without : (pool : HbPool) (address : ℕ) (r : HbPool) → r ≡ told_pool (without_address (pool_in pool) address)
    → (a : ℕ) → InPool r.low r.high a ↔ ((a ≡ address → ⊥) × InPool pool.low pool.high a)
hb_pool_without pool address r e a =
    iff_trans (iff_symm (of_struct (without_address (pool_in pool) address) r e a))
    (same_test (member_without (pool_in pool) address a) (and_is (not (eqb a address)) (member (pool_in pool) a) (not_is (eqb a address) (eqb_is a address)) (pool_is pool.low pool.high a)))

pub hb_pool_union : (one other : HbPool) (r : HbPool) → r ≡ told_pool (union_of (pool_in one) (pool_in other))
    → (a : ℕ) → InPool r.low r.high a ↔ (InPool one.low one.high a ⊎ InPool other.low other.high a)
hb_pool_union one other r e a =
    iff_trans (iff_symm (of_struct (union_of (pool_in one) (pool_in other)) r e a))
    (same_test (member_union (pool_in one) (pool_in other) a) (or_is (member (pool_in one) a) (member (pool_in other) a) (pool_is one.low one.high a) (pool_is other.low other.high a)))

-- the two sets to begin with: the listed addresses and the occupied ones, the reserved addresses and the occupied ones
pub hb_pool_starting : (occupied : HbPool) (r : HbPool) → r ≡ told_pool (starting_pool (pool_in occupied))
    → (a : ℕ) → InPool r.low r.high a ↔ (Listed a ⊎ InPool occupied.low occupied.high a)
hb_pool_starting occupied r e a =
    iff_trans (iff_symm (of_struct (starting_pool (pool_in occupied)) r e a))
    (same_test (member_starting (pool_in occupied) a) (or_is (is_listed a) (member (pool_in occupied) a) (listed_in_numbers a) (pool_is occupied.low occupied.high a)))

pub hb_pool_barred : (occupied : HbPool) (r : HbPool) → r ≡ told_pool (barred_pool (pool_in occupied))
    → (a : ℕ) → InPool r.low r.high a ↔ (Reserved a ⊎ InPool occupied.low occupied.high a)
hb_pool_barred occupied r e a =
    iff_trans (iff_symm (of_struct (barred_pool (pool_in occupied)) r e a))
    (same_test (member_barred (pool_in occupied) a) (or_is (is_reserved a) (member (pool_in occupied) a) (reserved_is a) (pool_is occupied.low occupied.high a)))

-- how many of the 128 addresses are in the pool, as bits that are one
pub hb_pool_used : (pool : HbPool) (r : ℕ) → pool.low < 2 ^ 64 → pool.high < 2 ^ 64 → r ≡ used (pool_in pool) → r ≡ ones pool.low + ones pool.high
hb_pool_used pool r hl hh e = e ∙ sym (used_ones (pool_in pool) (record { low = hl; high = hh }))

-- an address below 128: not in the pool, with all below it in; 128: all are
pub hb_pool_lowest_free : (pool : HbPool) (r : ℕ) → r ≡ free_number (lowest_free (pool_in pool))
    → ((r < 128) × (InPool pool.low pool.high r → ⊥) × ((a : ℕ) → a < r → InPool pool.low pool.high a)) ⊎ ((r ≡ 128) × ((a : ℕ) → a < 128 → InPool pool.low pool.high a))
hb_pool_lowest_free pool r e = go (lowest_free (pool_in pool)) refl e
  where
    go : (f : Option Address) → lowest_free (pool_in pool) ≡ f → r ≡ free_number f
        → ((r < 128) × (InPool pool.low pool.high r → ⊥) × ((a : ℕ) → a < r → InPool pool.low pool.high a)) ⊎ ((r ≡ 128) × ((a : ℕ) → a < 128 → InPool pool.low pool.high a))
    go (Some a) q h =
        let w : Lowest (pool_in pool) r = subst (Lowest (pool_in pool)) (sym h) ((lowest_is (pool_in pool) a.0).0 q) in
        inl (w.small, (false_is (member (pool_in pool) r) (pool_is pool.low pool.high r)).0 w.free, λ b l. (pool_is pool.low pool.high b).0 (w.below b l))
    go None q h = inr (h, λ b l. (pool_is pool.low pool.high b).0 ((none_free (pool_in pool)).0 q b l))

-- below 128: not in the pool, and of all that are not the one at the least distance after the last; 128: all are
pub hb_pool_next_free : (pool : HbPool) (last r : ℕ) → last < 128 → r ≡ free_number (next_free (pool_in pool) last)
    → ((r < 128) × (InPool pool.low pool.high r → ⊥) × ((a : ℕ) → a < 128 → (InPool pool.low pool.high a → ⊥) → (r + 127 - last) % 128 ≤ (a + 127 - last) % 128))
    ⊎ ((r ≡ 128) × ((a : ℕ) → a < 128 → InPool pool.low pool.high a))
hb_pool_next_free pool last r small e = go (next_free (pool_in pool) last) refl e
  where
    free : (a : ℕ) → (member (pool_in pool) a ≡ false) ↔ (InPool pool.low pool.high a → ⊥)
    free a = false_is (member (pool_in pool) a) (pool_is pool.low pool.high a)

    go : (f : Option Address) → next_free (pool_in pool) last ≡ f → r ≡ free_number f
        → ((r < 128) × (InPool pool.low pool.high r → ⊥) × ((a : ℕ) → a < 128 → (InPool pool.low pool.high a → ⊥) → (r + 127 - last) % 128 ≤ (a + 127 - last) % 128))
        ⊎ ((r ≡ 128) × ((a : ℕ) → a < 128 → InPool pool.low pool.high a))
    go (Some a) q h =
        let w : Next (pool_in pool) last r = subst (Next (pool_in pool) last) (sym h) ((next_is (pool_in pool) last a.0 small).0 q) in
        inl (w.small, (free r).0 w.free, λ b l n. w.nearest b l ((free b).1 n))
    go None q h = inr (h, λ b l. (pool_is pool.low pool.high b).0 ((next_none (pool_in pool) last).0 q b l))

-- from 127 on the last counts as 127
pub hb_pool_next_above : (pool : HbPool) (last : ℕ) → 127 ≤ last → free_number (next_free (pool_in pool) last) ≡ free_number (next_free (pool_in pool) 127)
hb_pool_next_above pool last h = ap free_number (next_above (pool_in pool) last h ∙ sym (next_above (pool_in pool) 127 (omega arith)))
