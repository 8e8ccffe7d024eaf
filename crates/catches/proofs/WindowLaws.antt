-- What is flipped within a window of w consecutive bits is a pattern of a degree below w, times a power of x, and is not 0.
use Rattle.std.specs.Prelude.{◌≡◌, List, ℕ, ◌+◌, ◌-◌, ◌*◌, ◌/◌, ◌%◌, ◌^◌, ◌≤◌, ◌<◌, length}
use Rattle.std.proofs.Common.{sym, ap, ◌∙◌, subst, lt_of_lt_of_le, arith, pow_mono, shr_lt}
use Rattle.std.proofs.Math.Nat.{zero-mod}
use Rattle.std.proofs.Math.Pow.{split}
use Rattle.catches.specs.Changes.{Came, Within}
use Rattle.catches.proofs.FlippedLaws.{inside, flips_size, flipped_exactly, coefficient_flipped}
use Rattle.catches.specs.Multiples.{flips}
use Rattle.catches.specs.NumberBitsLaws.{not_one, low_same, high_none, zero_bit, placed}

module _ (w : ℕ) (xs ys : List ℕ) (c : Came xs ys) (b : Within w xs ys) where
  abbrev bits : ℕ
  bits = 8 * length xs

  -- the coefficient of the window's last bit, or 0 where the window reaches over the end
  abbrev pub lowest : ℕ
  lowest = bits - (b.from + w)

  -- each coefficient that is 1 lies in it
  in_window : (k : ℕ) → k < bits → flips xs ys / 2 ^ k % 2 ≡ 1 → (lowest ≤ k) × (k < lowest + w)
  in_window k l o =
      let p = bits - 1 - k in
      let m = b.among (p / 8) (p % 8) (omega arith) (coefficient_flipped xs ys c.sent c.came c.as_many k l o) in
      (omega (arith, l, m.0, m.1), omega (arith, l, m.0, m.1))

  none_below : flips xs ys % 2 ^ lowest ≡ 0
  none_below =
      low_same (flips xs ys) 0 lowest (λ k l. not_one _ (λ o. (let m = in_window k (omega (arith, l)) o in omega (arith, l, m.0))) ∙ sym (zero_bit k))
      ∙ zero-mod (2 ^ lowest)

  none_above : flips xs ys < 2 ^ (lowest + w)
  none_above =
      high_none (flips xs ys) (lowest + w) (bits - (lowest + w)) (lt_of_lt_of_le (flips_size xs ys c.sent c.came c.as_many) (pow_mono (omega arith)))
      (λ k l g. not_one _ (λ o. (let m = in_window k (omega (arith, l, g)) o in omega (arith, l, m.1))))

  -- the pattern
  pub pattern_small : flips xs ys / 2 ^ lowest < 2 ^ w
  pattern_small = shr_lt w lowest (subst (λ (k : ℕ). flips xs ys < 2 ^ k) (other_way lowest w) none_above)
    where
      other_way : (a b : ℕ) → a + b ≡ b + a
      other_way a b = omega arith

  pub pattern_placed : flips xs ys ≡ 2 ^ lowest * (flips xs ys / 2 ^ lowest)
  pattern_placed = placed (2 ^ lowest) (flips xs ys / 2 ^ lowest) _ _ none_below (split (flips xs ys) lowest)

  pub some_flipped : flips xs ys ≡ 0 → ⊥
  some_flipped e =
      let l = inside xs ys c.as_many b.byte b.bit b.one in
      let o = (flipped_exactly xs ys c.sent c.came c.as_many b.byte b.bit l b.in_byte).0 b.one in
      let z = zero_bit (bits - 1 - (8 * b.byte + b.bit)) in
      omega (arith, sym z ∙ ap (λ (n : ℕ). n / 2 ^ (bits - 1 - (8 * b.byte + b.bit)) % 2) (sym e) ∙ o)
