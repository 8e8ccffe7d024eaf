-- The flipped bits of a message, as the reader counts them, are the ones of its polynomial of flips: bit j of byte i of n bytes is the
-- coefficient of x^(8 n - 1 - (8 i + j)).
use Rattle.std.specs.Prelude.{◌≡◌, List, [], ◌∷◌, ◌⊎◌, ◌↔◌, ℕ, zero, suc, ◌+◌, ◌-◌, ◌*◌, ◌/◌, ◌%◌, ◌^◌, ◌<◌, length, get_or}
use Rattle.std.proofs.Common.{sym, ap, ap₂, ◌∙◌, subst, inl, inr, arith, shr-shr}
use Rattle.std.proofs.Math.Decide.{dec_lt}
use Rattle.std.proofs.lemmas.Nat.{xor_lt}
use Rattle.std.proofs.Math.ListN.{get_or-eq_default}
use Rattle.lists.specs.Each.{Bytes}
use Rattle.pec.specs.PecDivision.{polynomial_from, polynomial}
use Rattle.catches.specs.Changes.{power, bit_of, Flipped}
use Rattle.catches.specs.Multiples.{flips}
use Rattle.catches.specs.NumberBitsLaws.{small_of_none, same_low_byte, bit_of_sum}

-- ---- the bits of a polynomial

byte_more : (l : ℕ) → 8 * suc l ≡ 8 * l + 8
byte_more l = omega arith

-- what went before stands above
before_above : (n : ℕ) (xs : List ℕ) → Bytes xs → polynomial_from n xs / 2 ^ (8 * length xs) ≡ n
unfolding polynomial_from
before_above n [] h = omega arith
before_above n (x ∷ xs) h =
    ap (λ (k : ℕ). polynomial_from (256 * n + x) xs / 2 ^ k) (byte_more (length xs)) ∙ sym (shr-shr (polynomial_from (256 * n + x) xs) (8 * length xs) 8)
    ∙ ap (λ (p : ℕ). p / 256) (before_above (256 * n + x) xs h.1) ∙ upper n x h.0
  where
    upper : (n x : ℕ) → x < 256 → (256 * n + x) / 256 ≡ n
    upper n x h = omega arith

pub polynomial_size : (xs : List ℕ) → Bytes xs → polynomial xs < 2 ^ (8 * length xs)
polynomial_size xs h = small_of_none (polynomial xs) (8 * length xs) (before_above 0 xs h)

first_place : (l j : ℕ) → j < 8 → 8 * suc l - 1 - (8 * 0 + j) ≡ 8 * l + power j
first_place l j h = omega arith

later_place : (l i j : ℕ) → 8 * suc l - 1 - (8 * suc i + j) ≡ 8 * l - 1 - (8 * i + j)
later_place l i j = omega arith

bit_from : (n : ℕ) (xs : List ℕ) → Bytes xs → (i j : ℕ) → i < length xs → j < 8 → polynomial_from n xs / 2 ^ (8 * length xs - 1 - (8 * i + j)) % 2 ≡ bit_of xs i j
unfolding polynomial_from
bit_from n [] h i j l g = absurd (omega (arith, l))
bit_from n (x ∷ xs) h zero j l g =
    ap (λ (k : ℕ). polynomial_from (256 * n + x) xs / 2 ^ k % 2) (first_place (length xs) j g)
    ∙ ap (λ (p : ℕ). p % 2) (sym (shr-shr (polynomial_from (256 * n + x) xs) (8 * length xs) (power j)) ∙ ap (λ (p : ℕ). p / 2 ^ power j) (before_above (256 * n + x) xs h.1))
    ∙ same_low_byte (256 * n + x) x (power j) (omega arith) (lower n x)
  where
    lower : (n x : ℕ) → (256 * n + x) % 256 ≡ x % 256
    lower n x = omega arith
bit_from n (x ∷ xs) h (suc i) j l g =
    ap (λ (k : ℕ). polynomial_from (256 * n + x) xs / 2 ^ k % 2) (later_place (length xs) i j) ∙ bit_from (256 * n + x) xs h.1 i j (omega arith) g

-- ---- the bits of what is flipped

odd_exactly : (a b : ℕ) → ((a % 2 + b % 2) % 2 ≡ 1) ↔ (a % 2 ≡ b % 2 → ⊥)
odd_exactly a b = (λ o e. omega (arith, o, e), λ n. go (two a) (two b) n)
  where
    two : (a : ℕ) → (a % 2 ≡ 0) ⊎ (a % 2 ≡ 1)
    two a = (go (dec_lt (a % 2) 1))
      where
        go : Dec (a % 2 < 1) → (a % 2 ≡ 0) ⊎ (a % 2 ≡ 1)
        go (yes l) = inl (omega arith)
        go (no l) = inr (omega arith)

    go : (a % 2 ≡ 0) ⊎ (a % 2 ≡ 1) → (b % 2 ≡ 0) ⊎ (b % 2 ≡ 1) → (a % 2 ≡ b % 2 → ⊥) → (a % 2 + b % 2) % 2 ≡ 1
    go (inl x) (inl y) n = absurd (n (x ∙ sym y))
    go (inl x) (inr y) n = omega arith
    go (inr x) (inl y) n = omega arith
    go (inr x) (inr y) n = absurd (n (x ∙ sym y))

-- a byte that a message does not have is no different in the other
pub inside : (xs ys : List ℕ) → length ys ≡ length xs → (i j : ℕ) → Flipped xs ys i j → i < length xs
inside xs ys e i j f = go (dec_lt i (length xs))
  where
    go : Dec (i < length xs) → i < length xs
    go (yes l) = l
    go (no l) =
        absurd (f (ap (λ (x : ℕ). x / 2 ^ power j % 2) (get_or-eq_default xs 0 (omega (arith, l)) ∙ sym (get_or-eq_default ys 0 (omega (arith, l, e))))))

module _ (xs ys : List ℕ) (h : Bytes xs) (g : Bytes ys) (e : length ys ≡ length xs) where
  pub flips_size : flips xs ys < 2 ^ (8 * length xs)
  flips_size = xor_lt (8 * length xs) _ _ (polynomial_size xs h) (subst (λ (n : ℕ). polynomial ys < 2 ^ (8 * n)) e (polynomial_size ys g))

  both_bits : (i j : ℕ) → i < length xs → j < 8 → flips xs ys / 2 ^ (8 * length xs - 1 - (8 * i + j)) % 2 ≡ (bit_of xs i j + bit_of ys i j) % 2
  both_bits i j l b =
      let k = 8 * length xs - 1 - (8 * i + j) in
      let s : polynomial ys / 2 ^ k % 2 ≡ bit_of ys i j =
      subst (λ (n : ℕ). polynomial ys / 2 ^ (8 * n - 1 - (8 * i + j)) % 2 ≡ bit_of ys i j) e (bit_from 0 ys g i j (subst (λ (n : ℕ). i < n) (sym e) l) b) in
      bit_of_sum (polynomial xs) (polynomial ys) k ∙ ap₂ (λ (a b : ℕ). (a + b) % 2) (bit_from 0 xs h i j l b) s

  -- a bit is flipped exactly if its coefficient is 1
  pub flipped_exactly : (i j : ℕ) → i < length xs → j < 8 → Flipped xs ys i j ↔ (flips xs ys / 2 ^ (8 * length xs - 1 - (8 * i + j)) % 2 ≡ 1)
  flipped_exactly i j l b =
      let o = odd_exactly (get_or xs i 0 / 2 ^ power j) (get_or ys i 0 / 2 ^ power j) in
      let s = both_bits i j l b in
      (λ f. s ∙ o.1 f, λ k. o.0 (sym s ∙ k))

  -- and by the coefficient: which bit it is
  pub coefficient_flipped : (k : ℕ) → k < 8 * length xs → flips xs ys / 2 ^ k % 2 ≡ 1 → Flipped xs ys ((8 * length xs - 1 - k) / 8) ((8 * length xs - 1 - k) % 8)
  coefficient_flipped k l o =
      let p = 8 * length xs - 1 - k in
      (flipped_exactly (p / 8) (p % 8) (omega arith) (omega arith)).1 (subst (λ (n : ℕ). flips xs ys / 2 ^ n % 2 ≡ 1) (back (length xs) k l) o)
    where
      back : (n k : ℕ) → k < 8 * n → k ≡ 8 * n - 1 - (8 * ((8 * n - 1 - k) / 8) + (8 * n - 1 - k) % 8)
      back n k l = omega arith
