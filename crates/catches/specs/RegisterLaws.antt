-- The register that holds 1 holds what x^k leaves after k zero bits. It holds 1 again after 127 bits and not before: so x^k + 1 is a multiple
-- of x^8+x^2+x+1 exactly if k is one of 127.
use Rattle.std.specs.Prelude.{◌≡◌, refl, Bool, true, false, ◌↔◌, ℕ, zero, suc, ◌+◌, ◌*◌, ◌/◌, ◌%◌, ◌^◌, ◌<◌, eqb}
use Rattle.std.proofs.Common.{sym, ap, ◌∙◌, subst, mul_assoc, mul-one, one-mul, pow-suc, arith, eq-eqb}
use Rattle.std.specs.Int.Bits.{bit_xor, xor_shifted}
use Rattle.lists.specs.Choice.{and, not}
use Rattle.lists.specs.ChoiceLaws.{both_true, false_not_true}
use Rattle.pec.specs.Pec.{bit_step}
use Rattle.pec.proofs.PecLaws.{bit_byte}
use Rattle.pec.specs.PecDivision.{times_g, Leaves}
use Rattle.pec.proofs.PecDivisionLaws.{next_bit, remainder_unique}
use Rattle.pec.proofs.PecBitLaws.{xor_back, leaves_self}
use Rattle.catches.specs.Multiples.{Multiple}
use Rattle.catches.specs.Register.{shifted}

-- ---- what x^k leaves

shifted_leaves : (k p c : ℕ) → c < 256 → Leaves p c → Leaves (2 ^ k * p) (shifted c k)
unfolding shifted
shifted_leaves zero p c h l = subst (λ (n : ℕ). Leaves n c) (sym (one-mul p)) l
shifted_leaves (suc k) p c h l =
    let e : 2 ^ suc k * p ≡ 2 ^ k * (2 * p) = ap (λ (n : ℕ). n * p) (pow-suc 2 k) ∙ mul_assoc (2 ^ k) 2 p in
    subst (λ (n : ℕ). Leaves n (shifted (bit_step c) k)) (sym e) (shifted_leaves k (2 * p) (bit_step c) (bit_byte c h) (next_bit p c h l))

shifted_byte : (k c : ℕ) → c < 256 → shifted c k < 256
unfolding shifted
shifted_byte zero c h = h
shifted_byte (suc k) c h = shifted_byte k (bit_step c) (bit_byte c h)

power_leaves : (k : ℕ) → Leaves (2 ^ k) (shifted 1 k)
power_leaves k = subst (λ (n : ℕ). Leaves n (shifted 1 k)) (mul-one (2 ^ k)) (shifted_leaves k 1 1 (omega arith) (leaves_self 1))

-- x^(k+1) + 1, without a carry
without_carry : (k : ℕ) → 2 ^ suc k + 1 ≡ bit_xor (2 ^ suc k) 1
without_carry k = ap (λ (n : ℕ). n + 1) (pow-suc 2 k) ∙ sym (xor_shifted (2 ^ k) 1 1 (omega arith)) ∙ ap (λ (n : ℕ). bit_xor n 1) (sym (pow-suc 2 k))

multiple_by_register : (k : ℕ) → Multiple (2 ^ suc k + 1) ↔ (shifted 1 (suc k) ≡ 1)
multiple_by_register k = (there, back)
  where
    there : Multiple (2 ^ suc k + 1) → shifted 1 (suc k) ≡ 1
    there (q, e) =
        let (a, f) = power_leaves (suc k) in
        let g : 2 ^ suc k ≡ bit_xor (times_g q) 1 = sym (xor_back (2 ^ suc k) 1) ∙ ap (λ (n : ℕ). bit_xor n 1) (sym (without_carry k) ∙ e) in
        remainder_unique a q (shifted 1 (suc k)) 1 (shifted_byte (suc k) 1 (omega arith)) (omega arith) (sym f ∙ g)

    back : shifted 1 (suc k) ≡ 1 → Multiple (2 ^ suc k + 1)
    back e =
        let (a, f) = power_leaves (suc k) in
        (a, without_carry k ∙ ap (λ (n : ℕ). bit_xor n 1) (f ∙ ap (bit_xor (times_g a)) e) ∙ xor_back (times_g a) 1)

-- ---- when the register holds 1 again

-- from c on it does not come to 1 within n bits
unfoldable away : ℕ → ℕ → Bool
away c zero = true
away c (suc n) = and (not (eqb (bit_step c) 1)) (away (bit_step c) n)

not_away : (a : Bool) → not a ≡ true → a ≡ true → ⊥
not_away true n h = false_not_true n
not_away false n h = false_not_true h

never_one : (n c : ℕ) → away c n ≡ true → (k : ℕ) → k < n → shifted c (suc k) ≡ 1 → ⊥
unfolding away shifted
never_one zero c t k h e = omega arith
never_one (suc n) c t zero h e = not_away (eqb (bit_step c) 1) (both_true (not (eqb (bit_step c) 1)) (away (bit_step c) n) t).0 (eq-eqb (bit_step c) 1 e)
never_one (suc n) c t (suc k) h e = never_one n (bit_step c) (both_true (not (eqb (bit_step c) 1)) (away (bit_step c) n) t).1 k (omega arith) e

-- from 1 it is back after 127 bits, and not before: computed, once
away_126 : away 1 126 ≡ true
unfolding away bit_step
away_126 = refl

back_127 : shifted 1 127 ≡ 1
unfolding shifted bit_step
back_127 = refl

-- some bits and then more
shifted_on : (a b c : ℕ) → shifted c (a + b) ≡ shifted (shifted c a) b
unfolding shifted
shifted_on zero b c = ap (shifted c) (none b)
  where
    none : (b : ℕ) → 0 + b ≡ b
    none b = omega arith
shifted_on (suc a) b c = ap (shifted c) (more a b) ∙ shifted_on a b (bit_step c)
  where
    more : (a b : ℕ) → suc a + b ≡ suc (a + b)
    more a b = omega arith

-- whole turns of 127 bits change nothing
turns : (m r : ℕ) → shifted 1 (127 * m + r) ≡ shifted 1 r
turns zero r = ap (shifted 1) (none r)
  where
    none : (r : ℕ) → 127 * 0 + r ≡ r
    none r = omega arith
turns (suc m) r = ap (shifted 1) (more m r) ∙ shifted_on 127 (127 * m + r) 1 ∙ ap (λ (c : ℕ). shifted c (127 * m + r)) back_127 ∙ turns m r
  where
    more : (m r : ℕ) → 127 * suc m + r ≡ 127 + (127 * m + r)
    more m r = omega arith

last_turn : (n : ℕ) → shifted 1 n ≡ shifted 1 (n % 127)
last_turn n = ap (shifted 1) (whole n) ∙ turns (n / 127) (n % 127)
  where
    whole : (n : ℕ) → n ≡ 127 * (n / 127) + n % 127
    whole n = omega arith

one_again : (n : ℕ) → (shifted 1 n ≡ 1) ↔ (n % 127 ≡ 0)
unfolding shifted
one_again n = (λ e. go (n % 127) (omega arith) (sym (last_turn n) ∙ e), λ e. last_turn n ∙ ap (shifted 1) e)
  where
    go : (r : ℕ) → r < 127 → shifted 1 r ≡ 1 → r ≡ 0
    go zero h e = refl
    go (suc r) h e = absurd (never_one 126 1 away_126 r (omega arith) e)

-- x^k + 1 is a multiple exactly if k is one of 127
pub period_127 : (k : ℕ) → Multiple (2 ^ suc k + 1) ↔ (suc k % 127 ≡ 0)
period_127 k = (λ m. (one_again (suc k)).0 ((multiple_by_register k).0 m), λ e. (multiple_by_register k).1 ((one_again (suc k)).1 e))
