-- The named addresses in numbers. The reserved ones are these 21; with these 14 they are the 35 listed ones, and 93 are left. An address comes
-- back from its wire byte.
use Rattle.std.specs.Prelude.{◌≡◌, refl, Bool, true, false, [], ◌∷◌, ◌⊎◌, ◌↔◌, ℕ, ◌+◌, ◌*◌, ◌/◌, ◌%◌, ◌≤◌, ◌<◌, length, leb, eqb}
use Rattle.std.proofs.Common.{ap₂, arith, ne_eqb}
use Rattle.std.proofs.Math.Decide.{dec_lt}
use Rattle.std.proofs.lemmas.Bool.{lt-leb}
use Rattle.lists.specs.All.{all_below}
use Rattle.lists.specs.AllLaws.{at_below}
use Rattle.lists.specs.Choice.{or, and, not}
use Rattle.lists.specs.ChoiceLaws.{false_not_true, not_both, and_none}
use Rattle.lists.specs.Passing.{passing}
use Rattle.lists.specs.TestLaws.{eqb_is, leb_is, or_is, and_is}
use Rattle.wire.specs.Addresses.{default_address, host_address, alert_address, is_from_to, is_reserved, is_preassigned, is_listed, reserved, preassigned, listed, assignable}

-- the default address is 61h, the host's 08h, that of the alert response 0Ch
pub default_is : default_address ≡ 0x61
default_is = refl

pub host_is : host_address ≡ 0x08
host_is = refl

pub alert_is : alert_address ≡ 0x0C
alert_is = refl

from_to_is : (a low high : ℕ) → (is_from_to a low high ≡ true) ↔ ((low ≤ a) × (a ≤ high))
from_to_is a low high = and_is (leb low a) (leb a high) (leb_is low a) (leb_is a high)

pub the_reserved : reserved
    ≡ 0x00 ∷ 0x01 ∷ 0x02 ∷ 0x03 ∷ 0x04 ∷ 0x05 ∷ 0x06 ∷ 0x07 ∷ 0x08 ∷ 0x0C ∷ 0x28 ∷ 0x37 ∷ 0x61 ∷ 0x78 ∷ 0x79 ∷ 0x7A ∷ 0x7B ∷ 0x7C ∷ 0x7D ∷ 0x7E ∷ 0x7F ∷ []
unfolding passing is_reserved
the_reserved = refl

pub reserved_count : length reserved ≡ 21
unfolding passing is_reserved
reserved_count = refl

-- a number above 127 is no reserved address
pub reserved_above : (a : ℕ) → 128 ≤ a → is_reserved a ≡ false
unfolding is_reserved
reserved_above a h =
    simp (lt-leb a 0x08 (omega arith), ne_eqb a 0x0C (λ e. omega arith), ne_eqb a 0x28 (λ e. omega arith), ne_eqb a 0x37 (λ e. omega arith), ne_eqb a 0x61 (λ e. omega arith), lt-leb a 0x7F (omega arith))
    (and_none (leb 0x78 a))

pub the_preassigned : preassigned ≡ 0x09 ∷ 0x0A ∷ 0x0B ∷ 0x2C ∷ 0x2D ∷ 0x40 ∷ 0x41 ∷ 0x42 ∷ 0x43 ∷ 0x44 ∷ 0x48 ∷ 0x49 ∷ 0x4A ∷ 0x4B ∷ []
unfolding passing is_preassigned
the_preassigned = refl

pub preassigned_above : (a : ℕ) → 128 ≤ a → is_preassigned a ≡ false
unfolding is_preassigned
preassigned_above a h =
    simp (lt-leb a 0x0B (omega arith), lt-leb a 0x2D (omega arith), lt-leb a 0x44 (omega arith), lt-leb a 0x4B (omega arith))
    (go (leb 0x09 a) (leb 0x2C a) (leb 0x40 a) (leb 0x48 a))
  where
    go : (b c d e : Bool) → or (and b false) (or (and c false) (or (and d false) (and e false))) ≡ false
    go b c d e = simp and_none

pub listed_count : length listed ≡ 35
unfolding passing is_reserved is_preassigned is_listed
listed_count = refl

pub listed_above : (a : ℕ) → 128 ≤ a → is_listed a ≡ false
unfolding is_listed
listed_above a h = simp (reserved_above a h, preassigned_above a h)

pub reserved_is_listed : (a : ℕ) → is_reserved a ≡ true → is_listed a ≡ true
unfolding is_listed
reserved_is_listed a e = rw e

-- in numbers
pub reserved_is : (a : ℕ) → (is_reserved a ≡ true) ↔ ((a ≤ 0x08) ⊎ ((a ≡ 0x0C) ⊎ ((a ≡ 0x28) ⊎ ((a ≡ 0x37) ⊎ ((a ≡ 0x61) ⊎ ((0x78 ≤ a) × (a ≤ 0x7F)))))))
unfolding is_reserved
reserved_is a =
    or_is (leb a 0x08) _ (leb_is a 0x08)
    (or_is (eqb a 0x0C) _ (eqb_is a 0x0C)
    (or_is (eqb a 0x28) _ (eqb_is a 0x28)
    (or_is (eqb a 0x37) _ (eqb_is a 0x37)
    (or_is (eqb a 0x61) _ (eqb_is a 0x61) (from_to_is a 0x78 0x7F)))))

pub preassigned_is : (a : ℕ) → (is_preassigned a ≡ true) ↔ (((0x09 ≤ a) × (a ≤ 0x0B)) ⊎ (((0x2C ≤ a) × (a ≤ 0x2D)) ⊎ (((0x40 ≤ a) × (a ≤ 0x44)) ⊎ ((0x48 ≤ a) × (a ≤ 0x4B)))))
unfolding is_preassigned
preassigned_is a =
    or_is (is_from_to a 0x09 0x0B) _ (from_to_is a 0x09 0x0B)
    (or_is (is_from_to a 0x2C 0x2D) _ (from_to_is a 0x2C 0x2D)
    (or_is (is_from_to a 0x40 0x44) _ (from_to_is a 0x40 0x44) (from_to_is a 0x48 0x4B)))

-- the pre-assigned ones are those that are listed and not reserved
apart : all_below (λ a. not (and (is_reserved a) (is_preassigned a))) 128 ≡ true
unfolding is_reserved is_preassigned
apart = refl

pub preassigned_exactly : (a : ℕ) → (is_preassigned a ≡ true) ↔ ((is_listed a ≡ true) × (is_reserved a ≡ false))
unfolding is_listed
preassigned_exactly a = go (is_reserved a) refl (is_preassigned a) refl
  where
    below : is_reserved a ≡ true → a < 128
    below e = small (dec_lt a 128)
      where
        small : Dec (a < 128) → a < 128
        small (yes h) = h
        small (no h) = not_both (reserved_above a (omega arith)) e

    go : (b : Bool) → is_reserved a ≡ b → (c : Bool) → is_preassigned a ≡ c → (c ≡ true) ↔ ((or b c ≡ true) × (b ≡ false))
    go true e true k = (λ q. not_both (ap₂ (λ (x y : Bool). not (and x y)) e k) (at_below (λ a. not (and (is_reserved a) (is_preassigned a))) 128 apart a (below e)), λ q. refl)
    go true e false k = (λ q. false_not_true q, λ q. not_both q.1 refl)
    go false e c k = (λ q. (q, refl), λ q. q.0)

pub assignable_count : length assignable ≡ 93
unfolding passing is_reserved is_preassigned is_listed
assignable_count = refl

-- an address comes back from its wire byte, for either direction
pub from_write : (a : ℕ) → a < 128 → 2 * (a % 128) / 2 ≡ a
from_write a h = omega arith

pub from_read : (a : ℕ) → a < 128 → (2 * (a % 128) + 1) / 2 ≡ a
from_read a h = omega arith
