-- The drop-out bit: how many leading bits two numbers share is the leading zeros of the bits in which they differ.
use Rattle.std.specs.Prelude.{ℕ, zero, suc, ◌+◌, ◌%◌, ◌^◌, ◌≤◌, ◌<◌, ◌≡◌, refl, Bool, true, false, ◌⊎◌, List, [], ◌∷◌, ◌++◌, length}
use Rattle.std.proofs.Common.{sym, ap, ap₂, ◌∙◌, inl, inr, mod-lt, mod-eq_of_lt, pow-suc, zero-add, suc-add, arith, pow_pos}
use Rattle.std.specs.Int.Bits.{bit_xor, xor_add_and}
use Rattle.std.proofs.lemmas.Nat.{xor_lt, and_le_l, and_le_r, leading_length, leading_top}
use Rattle.std.specs.Int.Count.{count_leading_zeros, leading_unique}
use Rattle.lists.specs.ChoiceLaws.{not_both}
use Rattle.pool.specs.Digits.{digit}
use Rattle.pool.specs.Digits.{differs}
use Rattle.pool.specs.DigitLaws.{top_digit, digit_xor}
use Rattle.udid.specs.declared.Udid.{Udid}
use Rattle.arbitration.specs.Bits.{bits, udid_bits}
use Rattle.arbitration.specs.BitLaws.{length_bits}
use Rattle.arbitration.specs.DropOut.{shared}

-- ---- leading bits that are shared

pub shared_after_same_front : (xs ys zs : List Bool) → shared (xs ++ ys) (xs ++ zs) ≡ length xs + shared ys zs
shared_after_same_front [] ys zs = sym (zero-add (shared ys zs))
shared_after_same_front (true ∷ xs) ys zs = ap suc (shared_after_same_front xs ys zs) ∙ sym (suc-add (length xs) (shared ys zs))
shared_after_same_front (false ∷ xs) ys zs = ap suc (shared_after_same_front xs ys zs) ∙ sym (suc-add (length xs) (shared ys zs))

-- what follows the first bit that differs does not count
pub shared_whatever_follows : (xs ys zs ws : List Bool) → length xs ≡ length ys → shared xs ys < length xs → shared (xs ++ zs) (ys ++ ws) ≡ shared xs ys
shared_whatever_follows [] ys zs ws e h = absurd (omega arith)
shared_whatever_follows (x ∷ xs) [] zs ws e h = absurd (omega arith)
shared_whatever_follows (true ∷ xs) (true ∷ ys) zs ws e h = ap suc (shared_whatever_follows xs ys zs ws (omega arith) (omega arith))
shared_whatever_follows (false ∷ xs) (false ∷ ys) zs ws e h = ap suc (shared_whatever_follows xs ys zs ws (omega arith) (omega arith))
shared_whatever_follows (true ∷ xs) (false ∷ ys) zs ws e h = refl
shared_whatever_follows (false ∷ xs) (true ∷ ys) zs ws e h = refl

-- ---- of two numbers

leading_more : (k x : ℕ) → x < 2 ^ k → count_leading_zeros (suc k) x ≡ suc (count_leading_zeros k x)
leading_more k x h =
    let l = leading_length k x h in
    sym (leading_unique (suc k) x (suc (count_leading_zeros k x)) l.0 (omega arith) l.2 l.3)

leading_none : (k x : ℕ) → 2 ^ k ≤ x → x < 2 ^ suc k → count_leading_zeros (suc k) x ≡ 0
leading_none k x h l = sym (leading_unique (suc k) x 0 (suc k) (omega arith) l (omega (arith, pow-suc 2 k)))

shared_leading_mod : (k n m : ℕ) → shared (bits k n) (bits k m) ≡ count_leading_zeros k (bit_xor n m % 2 ^ k)
unfolding bits count_leading_zeros
shared_leading_mod zero n m = refl
shared_leading_mod (suc k) n m = go (digit n k) (digit m k) refl refl (top_digit (bit_xor n m) k) (shared_leading_mod k n m) (digit_xor n m k)
  where
    x : ℕ
    x = bit_xor n m

    Top : Type 0
    Top = ((digit x k ≡ false) × (x % 2 ^ suc k ≡ x % 2 ^ k)) ⊎ ((digit x k ≡ true) × (x % 2 ^ suc k ≡ 2 ^ k + x % 2 ^ k))

    same : Top → digit x k ≡ false → count_leading_zeros (suc k) (x % 2 ^ suc k) ≡ suc (count_leading_zeros k (x % 2 ^ k))
    same (inl a) e = ap (count_leading_zeros (suc k)) a.1 ∙ leading_more k (x % 2 ^ k) (mod-lt x (pow_pos k))
    same (inr a) e = not_both e a.0

    other : Top → digit x k ≡ true → count_leading_zeros (suc k) (x % 2 ^ suc k) ≡ 0
    other (inl a) e = not_both a.0 e
    other (inr a) e = leading_none k (x % 2 ^ suc k) (omega arith) (mod-lt x (pow_pos (suc k)))

    go : (b c : Bool) → digit n k ≡ b → digit m k ≡ c → Top → shared (bits k n) (bits k m) ≡ count_leading_zeros k (x % 2 ^ k)
        → digit x k ≡ differs (digit n k) (digit m k) → shared (digit n k ∷ bits k n) (digit m k ∷ bits k m) ≡ count_leading_zeros (suc k) (x % 2 ^ suc k)
    go true true p q t ih d = rw (p, q) (ap suc ih ∙ sym (same t (simp (p, q) at d)))
    go false false p q t ih d = rw (p, q) (ap suc ih ∙ sym (same t (simp (p, q) at d)))
    go true false p q t ih d = rw (p, q) (sym (other t (simp (p, q) at d)))
    go false true p q t ih d = rw (p, q) (sym (other t (simp (p, q) at d)))

pub shared_leading : (k n m : ℕ) → n < 2 ^ k → m < 2 ^ k → shared (bits k n) (bits k m) ≡ count_leading_zeros k (bit_xor n m)
shared_leading k n m h l = shared_leading_mod k n m ∙ ap (count_leading_zeros k) (mod-eq_of_lt (xor_lt k n m h l))

-- ---- of two identifiers, by halves

pub xor_pos : (a b : ℕ) → (a ≡ b → ⊥) → 0 < bit_xor a b
xor_pos a b n = omega (arith, xor_add_and a b, and_le_l a b, and_le_r a b, n)

pub drop_out_in_high_half : (a b : Udid) → a.high < 2 ^ 64 → b.high < 2 ^ 64 → (a.high ≡ b.high → ⊥)
    → count_leading_zeros 64 (bit_xor a.high b.high) ≡ shared (udid_bits a) (udid_bits b)
drop_out_in_high_half a b ha hb n =
    let e = shared_leading 64 a.high b.high ha hb in
    let t = leading_top 64 (bit_xor a.high b.high) (xor_pos a.high b.high n) (xor_lt 64 a.high b.high ha hb) in
    sym (shared_whatever_follows (bits 64 a.high) (bits 64 b.high) _ _ (length_bits 64 a.high ∙ sym (length_bits 64 b.high)) (omega (arith, e, t.1, length_bits 64 a.high)) ∙ e)

pub drop_out_in_low_half : (a b : Udid) → a.low < 2 ^ 64 → b.low < 2 ^ 64 → a.high ≡ b.high
    → 64 + count_leading_zeros 64 (bit_xor a.low b.low) ≡ shared (udid_bits a) (udid_bits b)
drop_out_in_low_half a b ha hb h =
    sym (ap (λ (x : ℕ). shared (bits 64 x ++ bits 64 a.low) (bits 64 b.high ++ bits 64 b.low)) h
    ∙ shared_after_same_front (bits 64 b.high) _ _
    ∙ ap₂ (λ (x y : ℕ). x + y) (length_bits 64 b.high) (shared_leading 64 a.low b.low ha hb))
