-- The starting pool has the listed addresses and the occupied ones, the barred ones are the reserved and the occupied ones, and neither has others.
use Rattle.std.specs.Prelude.{ℕ, suc, ◌<◌, ◌≤◌, ◌≡◌, refl, Bool, true, false, leb}
use Rattle.std.proofs.Common.{sym, ap, ◌∙◌, arith}
use Rattle.std.proofs.Math.Decide.{dec_lt}
use Rattle.lists.specs.All.{all_below}
use Rattle.lists.specs.AllLaws.{at_below}
use Rattle.lists.specs.Choice.{pick, or, same}
use Rattle.lists.specs.ChoiceLaws.{same_true, or_last}
use Rattle.wire.specs.Addresses.{is_reserved, is_preassigned, is_listed}
use Rattle.wire.proofs.AddressLaws.{reserved_above, listed_above, reserved_is_listed}
use Rattle.pool.specs.Digits.{digit}
use Rattle.pool.specs.DigitLaws.{digit_of_zero}
use Rattle.pool.specs.MemberLaws.{member_above, member_union}
use Rattle.pool.specs.Pools.{member}
use Rattle.pool.specs.Start.{empty_pool, reserved_pool, listed_pool, starting_pool, barred_pool}
use Rattle.pool.specs.declared.Pool.{Pool}

-- ---- none

pub member_empty : (a : ℕ) → member empty_pool a ≡ false
unfolding member
member_empty a = simp digit_of_zero (go (leb (suc a) 64) (leb (suc a) 128))
  where
    go : (s t : Bool) → pick s false (pick t false false) ≡ false
    go true t = refl
    go false true = refl
    go false false = refl

-- ---- the 21, and the 35

-- a pool has just the addresses that pass a test, where no number above 127 passes it
members_pass : (p : Pool) (test : ℕ → Bool) → all_below (λ a. same (member p a) (test a)) 128 ≡ true → ((a : ℕ) → 128 ≤ a → test a ≡ false) → (a : ℕ) → member p a ≡ test a
members_pass p test all above a = go (dec_lt a 128)
  where
    go : Dec (a < 128) → member p a ≡ test a
    go (yes h) = same_true _ _ (at_below (λ a. same (member p a) (test a)) 128 all a h)
    go (no h) = member_above p a (omega arith) ∙ sym (above a (omega arith))

all_reserved : all_below (λ a. same (member reserved_pool a) (is_reserved a)) 128 ≡ true
unfolding member digit reserved_pool is_reserved
all_reserved = refl

pub member_reserved : (a : ℕ) → member reserved_pool a ≡ is_reserved a
member_reserved = members_pass reserved_pool is_reserved all_reserved reserved_above

all_listed : all_below (λ a. same (member listed_pool a) (is_listed a)) 128 ≡ true
unfolding member digit listed_pool is_reserved is_preassigned is_listed
all_listed = refl

pub member_listed : (a : ℕ) → member listed_pool a ≡ is_listed a
member_listed = members_pass listed_pool is_listed all_listed listed_above

-- ---- each with the occupied ones

pub member_starting : (occupied : Pool) (a : ℕ) → member (starting_pool occupied) a ≡ or (is_listed a) (member occupied a)
unfolding starting_pool
member_starting occupied a = member_union listed_pool occupied a ∙ ap (λ (x : Bool). or x (member occupied a)) (member_listed a)

pub member_barred : (occupied : Pool) (a : ℕ) → member (barred_pool occupied) a ≡ or (is_reserved a) (member occupied a)
unfolding barred_pool
member_barred occupied a = member_union reserved_pool occupied a ∙ ap (λ (x : Bool). or x (member occupied a)) (member_reserved a)

-- a barred address is in the starting pool
pub barred_starting : (occupied : Pool) (a : ℕ) → member (barred_pool occupied) a ≡ true → member (starting_pool occupied) a ≡ true
barred_starting occupied a e = member_starting occupied a ∙ go (is_reserved a) refl (sym (member_barred occupied a) ∙ e)
  where
    go : (b : Bool) → is_reserved a ≡ b → or b (member occupied a) ≡ true → or (is_listed a) (member occupied a) ≡ true
    go true k h = rw (reserved_is_listed a k)
    go false k h = rw h (or_last (is_listed a))
