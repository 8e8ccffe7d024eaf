-- As many bits are flipped as the polynomial of what is flipped has ones.
use Rattle.std.specs.Prelude.{◌≡◌, refl, Bool, true, false, List, ◌∷◌, ◌↔◌, ℕ, zero, suc, ◌+◌, ◌-◌, ◌*◌, ◌/◌, ◌%◌, ◌^◌, ◌<◌, eqb, length}
use Rattle.std.proofs.Common.{sym, ap, ap₂, ◌∙◌, subst, mod-lt, mul_comm, one-mul, arith, pow_pos}
use Rattle.std.specs.Int.Count.{ones}
use Rattle.std.proofs.lemmas.Nat.{ones_cat}
use Rattle.std.proofs.Math.Pow.{field, mod-mod-pow, split}
use Rattle.lists.specs.Choice.{pick}
use Rattle.lists.specs.Passing.{passing}
use Rattle.lists.specs.TestLaws.{eqb_is, not_is}
use Rattle.catches.specs.Changes.{bit_of, Flipped, Came, TwoBits, is_flipped, how_many}
use Rattle.catches.proofs.FlippedLaws.{flips_size, flipped_exactly}
use Rattle.catches.specs.Multiples.{flips}
use Rattle.catches.specs.NumberBitsLaws.{highest, one_small}
use Rattle.catches.proofs.PairLaws.{pair_flips}

-- ---- lists of what passes

pick_length : (b : Bool) (x : ℕ) (l : List ℕ) → length (pick b (x ∷ l) l) ≡ pick b 1 0 + length l
pick_length true x l = omega arith
pick_length false x l = omega arith

-- tests that are the same on the way pass as many
passing_alike : (f g : ℕ → Bool) (a b n : ℕ) → ((k : ℕ) → k < n → f (a + k) ≡ g (b + k)) → length (passing f a n) ≡ length (passing g b n)
unfolding passing
passing_alike f g a b zero h = refl
passing_alike f g a b (suc n) h =
    pick_length (f a) a (passing f (suc a) n)
    ∙ ap₂ (λ (x : Bool) (y : ℕ). pick x 1 0 + y) (first (h 0 (omega arith))) (passing_alike f g (suc a) (suc b) n (λ k l. later k (h (suc k) (omega (arith, l)))))
    ∙ sym (pick_length (g b) b (passing g (suc b) n))
  where
    first : f (a + 0) ≡ g (b + 0) → f a ≡ g b
    first e = sym (ap f (none a)) ∙ e ∙ ap g (none b)
      where
        none : (n : ℕ) → n + 0 ≡ n
        none n = omega arith

    later : (k : ℕ) → f (a + suc k) ≡ g (b + suc k) → f (suc a + k) ≡ g (suc b + k)
    later k e = ap f (over a k) ∙ e ∙ sym (ap g (over b k))
      where
        over : (n k : ℕ) → suc n + k ≡ n + suc k
        over n k = omega arith

-- ---- the ones of a number, place by place from the highest

-- the coefficient at a place, of n places
abbrev is_one : ℕ → ℕ → ℕ → Bool
is_one e n k = eqb (e / 2 ^ (n - 1 - k) % 2) 1

pub no_ones : ones 0 ≡ 0
unfolding ones
no_ones = refl

one_is_one : ones 1 ≡ 1
unfolding ones
one_is_one = refl

-- a number below 2 is its own number of ones
one_of_bit : (x : ℕ) → x < 2 → pick (eqb (x % 2) 1) 1 0 ≡ ones x
unfolding ones
one_of_bit zero h = refl
one_of_bit (suc zero) h = refl
one_of_bit (suc (suc x)) h = absurd (omega (arith, h))

-- bit m below n is not touched by what stands from n on
low_of_low : (e n m : ℕ) → m < n → e % 2 ^ n / 2 ^ m % 2 ≡ e / 2 ^ m % 2
low_of_low e n m h =
    let j : n - m + m ≡ n = omega (arith, h) in
    ap (λ (k : ℕ). e % 2 ^ k / 2 ^ m % 2) (sym j) ∙ ap (λ (x : ℕ). x % 2) (field e (n - m) m)
    ∙ ap (λ (k : ℕ). e / 2 ^ m % 2 ^ k % 2) (one_apart n m h) ∙ mod-mod-pow (e / 2 ^ m) (n - m - 1) 1
  where
    one_apart : (n m : ℕ) → m < n → n - m ≡ n - m - 1 + 1
    one_apart n m h = omega arith

ones_by_place : (n e : ℕ) → e < 2 ^ n → length (passing (is_one e n) 0 n) ≡ ones e
unfolding passing
ones_by_place zero e h = sym (ap ones (none e h) ∙ no_ones)
  where
    none : (e : ℕ) → e < 1 → e ≡ 0
    none e h = omega arith
ones_by_place (suc n) e h =
    pick_length (is_one e (suc n) 0) 0 (passing (is_one e (suc n)) 1 n)
    ∙ ap₂ (λ (x y : ℕ). x + y)
    (ap (λ (k : ℕ). pick (eqb (e / 2 ^ k % 2) 1) 1 0) (last n) ∙ one_of_bit (e / 2 ^ n) (top e n h))
    (passing_alike (is_one e (suc n)) (is_one (e % 2 ^ n) n) 1 0 n (λ k l. ap (λ (x : ℕ). eqb x 1) (same k l)) ∙ ones_by_place n (e % 2 ^ n) (mod-lt e (pow_pos n)))
    ∙ sym (ones_cat n (e / 2 ^ n) (e % 2 ^ n) (mod-lt e (pow_pos n)))
    ∙ ap ones (split e n)
  where
    last : (n : ℕ) → suc n - 1 - 0 ≡ n
    last n = omega arith

    top : (e n : ℕ) → e < 2 ^ suc n → e / 2 ^ n < 2
    top e n h = subst (λ (x : ℕ). x < 2) (sym (highest e n h)) (mod-lt (e / 2 ^ n) (omega arith))

    same : (k : ℕ) → k < n → e / 2 ^ (suc n - 1 - (1 + k)) % 2 ≡ e % 2 ^ n / 2 ^ (n - 1 - (0 + k)) % 2
    same k l = ap (λ (m : ℕ). e / 2 ^ m % 2) (place n k) ∙ sym (low_of_low e n (n - 1 - (0 + k)) (omega (arith, l)))
      where
        place : (n k : ℕ) → suc n - 1 - (1 + k) ≡ n - 1 - (0 + k)
        place n k = omega arith

-- times x^k
pub ones_placed : (k q : ℕ) → ones (2 ^ k * q) ≡ ones q
ones_placed k q = ap ones (other_way (2 ^ k) q) ∙ ones_cat k q 0 (pow_pos k) ∙ (omega (arith, no_ones))
  where
    other_way : (p q : ℕ) → p * q ≡ q * p + 0
    other_way p q = mul_comm p q ∙ plus_none (q * p)
      where
        plus_none : (n : ℕ) → n ≡ n + 0
        plus_none n = omega arith

-- ---- the flipped bits

same_test : {P : Type 0} (a b : Bool) → (a ≡ true) ↔ P → (b ≡ true) ↔ P → a ≡ b
same_test true b p q = sym (q.1 (p.0 refl))
same_test false true p q = p.1 (q.0 refl)
same_test false false p q = refl

-- AS MANY AS ONES
pub how_many_is : (xs ys : List ℕ) → Came xs ys → ones (flips xs ys) ≡ how_many xs ys
how_many_is xs ys c =
    sym (ones_by_place (8 * length xs) (flips xs ys) (flips_size xs ys c.sent c.came c.as_many))
    ∙ passing_alike (is_one (flips xs ys) (8 * length xs)) (is_flipped xs ys) 0 0 (8 * length xs) (λ k l. at (0 + k) (omega (arith, l)))
  where
    at : (n : ℕ) → n < 8 * length xs → is_one (flips xs ys) (8 * length xs) n ≡ is_flipped xs ys n
    at n l =
        let f = flipped_exactly xs ys c.sent c.came c.as_many (n / 8) (n % 8) (omega (arith, l)) (omega arith) in
        let o = subst (λ (k : ℕ). Flipped xs ys (n / 8) (n % 8) ↔ (flips xs ys / 2 ^ (8 * length xs - 1 - k) % 2 ≡ 1)) (place n) f in
        let t = not_is (eqb (bit_of xs (n / 8) (n % 8)) (bit_of ys (n / 8) (n % 8))) (eqb_is (bit_of xs (n / 8) (n % 8)) (bit_of ys (n / 8) (n % 8))) in
        same_test (is_one (flips xs ys) (8 * length xs) n) (is_flipped xs ys n) (eqb_is _ 1) (λ b. o.0 (t.0 b), λ b. t.1 (o.1 b))
      where
        place : (n : ℕ) → 8 * (n / 8) + n % 8 ≡ n
        place n = omega arith

-- so of two flipped bits there are two
pub two_are_two : (xs ys : List ℕ) → Came xs ys → (i j k l : ℕ) → TwoBits xs ys i j k l → how_many xs ys ≡ 2
two_are_two xs ys c i j k l t =
    let (n, g, e) = pair_flips xs ys c i j k l t in
    sym (how_many_is xs ys c)
    ∙ ap ones e
    ∙ ones_placed n (2 ^ suc g + 1)
    ∙ ap (λ (p : ℕ). ones (p + 1)) (sym (one-mul (2 ^ suc g)))
    ∙ ones_cat (suc g) 1 1 (one_small g)
    ∙ one_and_one
  where
    one_and_one : ones 1 + ones 1 ≡ 2
    one_and_one = ap₂ (λ (x y : ℕ). x + y) one_is_one one_is_one
