-- Numbers by their bits: bit k of n is n / 2 ^ k % 2. Numbers with the same low bits are the same below, one whose high bits are 0 is small,
-- and one whose highest bit is known is known from there on.
use Rattle.std.specs.Prelude.{◌≡◌, ℕ, zero, suc, ◌+◌, ◌-◌, ◌*◌, ◌/◌, ◌%◌, ◌^◌, ◌≤◌, ◌<◌}
use Rattle.std.proofs.Common.{sym, ap, ap₂, ◌∙◌, subst, mod-lt, mul_comm, arith, pow_pos, shr_lt}
use Rattle.std.proofs.Math.Decide.{dec_lt}
use Rattle.std.proofs.Math.Nat.{zero-div, div-eq_of_lt}
use Rattle.std.specs.Int.Bits.{bit_xor}
use Rattle.std.proofs.lemmas.Nat.{xor_shr, mod-pow-add}
use Rattle.std.proofs.Math.Pow.{pow-lt, mod-mod-pow, field, split}
use Rattle.pec.proofs.PecBitLaws.{xor_odd}

-- a bit is 0 or 1
pub not_one : (x : ℕ) → (x % 2 ≡ 1 → ⊥) → x % 2 ≡ 0
not_one x n = go (dec_lt (x % 2) 1)
  where
    go : Dec (x % 2 < 1) → x % 2 ≡ 0
    go (yes l) = omega arith
    go (no l) = absurd (n (omega arith))

-- a bit more
next_bit : (a n : ℕ) → a % 2 ^ suc n ≡ (a / 2 ^ n % 2) * 2 ^ n + a % 2 ^ n
next_bit a n = ap (λ (k : ℕ). a % 2 ^ k) (one_plus n) ∙ mod-pow-add a 1 n
  where
    one_plus : (n : ℕ) → suc n ≡ 1 + n
    one_plus n = omega arith

pub low_same : (a b n : ℕ) → ((k : ℕ) → k < n → a / 2 ^ k % 2 ≡ b / 2 ^ k % 2) → a % 2 ^ n ≡ b % 2 ^ n
low_same a b zero h = omega arith
low_same a b (suc n) h =
    next_bit a n ∙ ap₂ (λ (x y : ℕ). x * 2 ^ n + y) (h n (omega arith)) (low_same a b n (λ k l. h k (omega (arith, l)))) ∙ sym (next_bit b n)

none_left : (p q r a : ℕ) → q ≡ 0 → q * p + r ≡ a → r ≡ a
none_left p q r a e f = let h = subst (λ (x : ℕ). x * p + r ≡ a) e f in omega (arith, h)

-- nothing from bit n on
pub small_of_none : (a n : ℕ) → a / 2 ^ n ≡ 0 → a < 2 ^ n
small_of_none a n e = subst (λ (x : ℕ). x < 2 ^ n) (none_left (2 ^ n) (a / 2 ^ n) (a % 2 ^ n) a e (split a n)) (mod-lt a (pow_pos n))

one_above : (a n : ℕ) → a < 2 ^ suc n → a / 2 ^ n < 2
one_above a n h = shr_lt 1 n (subst (λ (k : ℕ). a < 2 ^ k) (one_plus n) h)
  where
    one_plus : (n : ℕ) → suc n ≡ 1 + n
    one_plus n = omega arith

below_two : (x : ℕ) → x < 2 → x ≡ x % 2
below_two x h = omega arith

-- where bit n is the highest that a number may have, it is all that stands from there on
pub highest : (a n : ℕ) → a < 2 ^ suc n → a / 2 ^ n ≡ a / 2 ^ n % 2
highest a n h = below_two (a / 2 ^ n) (one_above a n h)

pub high_none : (a m d : ℕ) → a < 2 ^ (m + d) → ((k : ℕ) → m ≤ k → k < m + d → a / 2 ^ k % 2 ≡ 0) → a < 2 ^ m
high_none a m zero h f = subst (λ (k : ℕ). a < 2 ^ k) (plus_none m) h
  where
    plus_none : (m : ℕ) → m + 0 ≡ m
    plus_none m = omega arith
high_none a m (suc d) h f =
    high_none a m d (small_of_none a (m + d) (highest a (m + d) (subst (λ (k : ℕ). a < 2 ^ k) (plus_suc m d) h) ∙ f (m + d) (omega arith) (omega arith)))
    (λ k l g. f k l (omega (arith, g)))
  where
    plus_suc : (m d : ℕ) → m + suc d ≡ suc (m + d)
    plus_suc m d = omega arith

-- a bit of the low byte goes by the low byte alone
low_bit : (y m : ℕ) → m < 8 → y / 2 ^ m % 2 ≡ y % 256 % 2 ^ (1 + m) / 2 ^ m
low_bit y m h =
    sym (field y 1 m) ∙ ap (λ (t : ℕ). t / 2 ^ m) (sym (mod-mod-pow y (7 - m) (1 + m)) ∙ ap (λ (k : ℕ). y % 2 ^ k % 2 ^ (1 + m)) (eight m h))
  where
    eight : (m : ℕ) → m < 8 → (7 - m) + (1 + m) ≡ 8
    eight m h = omega arith

pub same_low_byte : (y z m : ℕ) → m < 8 → y % 256 ≡ z % 256 → y / 2 ^ m % 2 ≡ z / 2 ^ m % 2
same_low_byte y z m h e = low_bit y m h ∙ ap (λ (t : ℕ). t % 2 ^ (1 + m) / 2 ^ m) e ∙ sym (low_bit z m h)

-- the bit of a sum
pub bit_of_sum : (a b k : ℕ) → bit_xor a b / 2 ^ k % 2 ≡ (a / 2 ^ k % 2 + b / 2 ^ k % 2) % 2
bit_of_sum a b k = ap (λ (n : ℕ). n % 2) (xor_shr a b k) ∙ xor_odd (a / 2 ^ k) (b / 2 ^ k) ∙ by_bits (a / 2 ^ k) (b / 2 ^ k)
  where
    by_bits : (a b : ℕ) → (a + b) % 2 ≡ (a % 2 + b % 2) % 2
    by_bits a b = omega arith

-- the bits of 0
pub zero_bit : (k : ℕ) → 0 / 2 ^ k % 2 ≡ 0
zero_bit k = ap (λ (n : ℕ). n % 2) (zero-div (2 ^ k))

-- 1 is below x^n from n = 1 on, and so has no bit there
pub one_small : (n : ℕ) → 1 < 2 ^ suc n
one_small n = pow-lt {i = 0} (omega arith)

pub later_bit_of_one : (n : ℕ) → 1 / 2 ^ suc n % 2 ≡ 0
later_bit_of_one n = ap (λ (x : ℕ). x % 2) (div-eq_of_lt (one_small n))

-- a number with nothing below a place
pub placed : (p q r a : ℕ) → r ≡ 0 → q * p + r ≡ a → a ≡ p * q
placed p q r a e f = sym f ∙ ap (λ (x : ℕ). q * p + x) e ∙ plus_none (q * p) ∙ mul_comm q p
  where
    plus_none : (n : ℕ) → n + 0 ≡ n
    plus_none n = omega arith
