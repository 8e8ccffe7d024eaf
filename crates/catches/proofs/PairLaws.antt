-- TWO BITS: not caught exactly if their distance is a multiple of 127 bits. So up to 15 bytes all pairs are caught, and of 16 bytes all but one.
use Rattle.std.specs.Prelude.{◌≡◌, refl, List, ◌⊎◌, ◌↔◌, ℕ, zero, suc, ◌+◌, ◌-◌, ◌*◌, ◌/◌, ◌%◌, ◌^◌, ◌≤◌, ◌<◌, length}
use Rattle.std.proofs.Common.{sym, ap, ap₂, ◌∙◌, subst, inl, inr, mod-lt, mod-eq_of_lt, one-mul, arith, shr-shr}
use Rattle.std.proofs.Math.Pow.{split}
use Rattle.catches.specs.Changes.{Flipped, RightPec, Came, Within, TwoBits, FirstAndLast}
use Rattle.catches.proofs.FlippedLaws.{inside, flipped_exactly, coefficient_flipped}
use Rattle.catches.specs.Multiples.{Multiple, flips}
use Rattle.catches.proofs.MultiplesLaws.{escapes_exactly, shifted_exactly}
use Rattle.catches.specs.NumberBitsLaws.{not_one, low_same, highest, one_small, later_bit_of_one}
use Rattle.catches.specs.RegisterLaws.{period_127}
use Rattle.catches.proofs.WindowLaws.{lowest, pattern_small, pattern_placed}

-- the coefficient of a bit, back from its byte and its number in the byte
place_back : (b m i j : ℕ) → m < b → (b - 1 - m) / 8 ≡ i → (b - 1 - m) % 8 ≡ j → m ≡ b - 1 - (8 * i + j)
place_back b m i j d e f = omega arith

of_eight : (n : ℕ) → n % 8 < 8
of_eight n = mod-lt n (omega arith)

nearer : (x n g b : ℕ) → n < g → x + suc g < b → x + suc n < b
nearer x n g b h l = omega arith

apart : (x n g : ℕ) → n < g → x + suc n ≡ x + suc g → ⊥
apart x n g h e = omega arith

above : (x n : ℕ) → x + suc n ≡ x → ⊥
above x n e = omega arith

module _ (xs ys : List ℕ) (c : Came xs ys) (i j k l : ℕ) (t : TwoBits xs ys i j k l) where
  abbrev bits : ℕ
  bits = 8 * length xs

  -- how far the two lie apart, less one
  abbrev gap : ℕ
  gap = (8 * k + l) - (8 * i + j) - 1

  first_flipped : Flipped xs ys i j
  first_flipped = (t.flipped i j t.first_in_byte).1 (inl (refl, refl))

  second_flipped : Flipped xs ys k l
  second_flipped = (t.flipped k l t.second_in_byte).1 (inr (refl, refl))

  first_inside : i < length xs
  first_inside = inside xs ys c.as_many i j first_flipped

  second_inside : k < length xs
  second_inside = inside xs ys c.as_many k l second_flipped

  -- both places lie in the message, and so do the coefficients
  pub places : (8 * i + j < 8 * k + l) × (8 * k + l < bits)
  places = (omega (arith, t.order), omega (arith, second_inside, t.second_in_byte))

  -- the window from the one to the other
  among_both : (a b : ℕ) → ((a ≡ i) × (b ≡ j)) ⊎ ((a ≡ k) × (b ≡ l)) → (8 * i + j ≤ 8 * a + b) × (8 * a + b < 8 * i + j + suc (suc gap))
  among_both a b (inl e) = (omega (arith, e.0, e.1), omega (arith, e.0, e.1))
  among_both a b (inr e) = (omega (arith, e.0, e.1, places.0), omega (arith, e.0, e.1, places.0))

  abbrev window : Within (suc (suc gap)) xs ys
  window = record { from = 8 * i + j; among = λ a b h f. among_both a b ((t.flipped a b h).0 f); byte = i; bit = j; in_byte = t.first_in_byte; one = first_flipped }

  -- the coefficients of the two
  abbrev lower : ℕ
  lower = lowest (suc (suc gap)) xs ys c window

  lower_is : bits - 1 - (8 * k + l) ≡ lower
  lower_is = let p = places in omega (arith, p.0, p.1)

  upper_is : bits - 1 - (8 * i + j) ≡ lower + suc gap
  upper_is = let p = places in omega (arith, p.0, p.1)

  upper_inside : lower + suc gap < bits
  upper_inside = subst (λ (n : ℕ). n < bits) upper_is (omega (arith, places.1))

  lower_one : flips xs ys / 2 ^ lower % 2 ≡ 1
  lower_one =
      subst (λ (n : ℕ). flips xs ys / 2 ^ n % 2 ≡ 1) lower_is
      ((flipped_exactly xs ys c.sent c.came c.as_many k l second_inside t.second_in_byte).0 second_flipped)

  upper_one : flips xs ys / 2 ^ (lower + suc gap) % 2 ≡ 1
  upper_one =
      subst (λ (n : ℕ). flips xs ys / 2 ^ n % 2 ≡ 1) upper_is
      ((flipped_exactly xs ys c.sent c.came c.as_many i j first_inside t.first_in_byte).0 first_flipped)

  -- no coefficient between them is 1
  between_none : (n : ℕ) → n < gap → flips xs ys / 2 ^ (lower + suc n) % 2 ≡ 0
  between_none n h =
      let m = lower + suc n in
      let d : m < bits = nearer lower n gap bits h upper_inside in
      not_one _ (λ o. neither m d (λ e. apart lower n gap h (e ∙ upper_is)) (λ e. above lower n (e ∙ lower_is)) ((t.flipped ((bits - 1 - m) / 8) ((bits - 1 - m) % 8) (of_eight (bits - 1 - m))).0 (coefficient_flipped xs ys c.sent c.came c.as_many m d o)))
    where
      neither : (m : ℕ) → m < bits → (m ≡ bits - 1 - (8 * i + j) → ⊥) → (m ≡ bits - 1 - (8 * k + l) → ⊥)
          → (((bits - 1 - m) / 8 ≡ i) × ((bits - 1 - m) % 8 ≡ j)) ⊎ (((bits - 1 - m) / 8 ≡ k) × ((bits - 1 - m) % 8 ≡ l)) → ⊥
      neither m d u v (inl e) = u (place_back bits m i j d e.0 e.1)
      neither m d u v (inr e) = v (place_back bits m k l d e.0 e.1)

  -- what is flipped, from the lower of the two on
  abbrev pattern : ℕ
  pattern = flips xs ys / 2 ^ lower

  pattern_bit : (n : ℕ) → pattern / 2 ^ n ≡ flips xs ys / 2 ^ (lower + n)
  pattern_bit n = shr-shr (flips xs ys) lower n

  pattern_above : pattern / 2 ^ suc gap ≡ 1
  pattern_above = highest pattern (suc gap) (pattern_small (suc (suc gap)) xs ys c window) ∙ ap (λ (n : ℕ). n % 2) (pattern_bit (suc gap)) ∙ upper_one

  pattern_below : pattern % 2 ^ suc gap ≡ 1
  pattern_below = low_same pattern 1 (suc gap) each ∙ mod-eq_of_lt (one_small gap)
    where
      each : (n : ℕ) → n < suc gap → pattern / 2 ^ n % 2 ≡ 1 / 2 ^ n % 2
      each zero h = ap (λ (x : ℕ). x % 2) (pattern_bit 0 ∙ ap (λ (n : ℕ). flips xs ys / 2 ^ n) (plus_none lower)) ∙ lower_one
        where
          plus_none : (n : ℕ) → n + 0 ≡ n
          plus_none n = omega arith
      each (suc n) h =
          ap (λ (x : ℕ). x % 2) (pattern_bit (suc n)) ∙ between_none n (omega (arith, h)) ∙ sym (later_bit_of_one n)

  pattern_is : pattern ≡ 2 ^ suc gap + 1
  pattern_is = sym (split pattern (suc gap)) ∙ ap₂ (λ (a b : ℕ). a * 2 ^ suc gap + b) pattern_above pattern_below ∙ ap (λ (n : ℕ). n + 1) (one-mul (2 ^ suc gap))

  -- what is flipped
  flips_both : flips xs ys ≡ 2 ^ lower * (2 ^ suc gap + 1)
  flips_both = pattern_placed (suc (suc gap)) xs ys c window ∙ ap (λ (n : ℕ). 2 ^ lower * n) pattern_is

  pub pair_flips : (n : ℕ) × (g : ℕ) × (flips xs ys ≡ 2 ^ n * (2 ^ suc g + 1))
  pair_flips = (lower, gap, flips_both)

  -- NOT CAUGHT EXACTLY IF the distance of the two is a multiple of 127, at any length
  pub pair_escapes_exactly : RightPec ys ↔ (((8 * k + l) - (8 * i + j)) % 127 ≡ 0)
  pair_escapes_exactly =
      let d : suc gap ≡ (8 * k + l) - (8 * i + j) = (let o = places.0 in omega (arith, o)) in
      let m = escapes_exactly xs ys c in
      let s = shifted_exactly lower (2 ^ suc gap + 1) in
      let p = period_127 gap in (
        λ r. subst (λ (n : ℕ). n % 127 ≡ 0) d (p.0 (s.0 (subst Multiple flips_both (m.0 r)))),
        λ z. m.1 (subst Multiple (sym flips_both) (s.1 (p.1 (subst (λ (n : ℕ). n % 127 ≡ 0) (sym d) z)))),
      )

  -- CAUGHT: any two bits of up to 15 bytes in all
  pub two_bits_caught : length xs ≤ 15 → RightPec ys → ⊥
  two_bits_caught h r = omega (arith, h, places.0, places.1, pair_escapes_exactly.0 r)

  -- of 16 bytes in all, two bits escape exactly if they are the very first and the very last
  pub one_pair_of_sixteen : length xs ≡ 16 → RightPec ys ↔ FirstAndLast i j k l
  one_pair_of_sixteen h = (there, λ z. pair_escapes_exactly.1 (ap (λ (n : ℕ). n % 127) (far i j k l z)))
    where
      there : RightPec ys → FirstAndLast i j k l
      there r =
          let e = pair_escapes_exactly.0 r in
          let p = places in
          let u = t.second_in_byte in
          (omega (arith, h, e, p.0, p.1), omega (arith, h, e, p.0, p.1), omega (arith, h, e, p.0, p.1, u), omega (arith, h, e, p.0, p.1, u))

      far : (i j k l : ℕ) → FirstAndLast i j k l → (8 * k + l) - (8 * i + j) ≡ 127
      far i j k l z = omega (arith, z.0, z.1, z.2, z.3)
