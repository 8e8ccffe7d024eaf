-- Which characters are digits, the value with one digit more, the cap at 65,536, and the case of each answer.
use Rattle.std.specs.Prelude.{ℕ, zero, suc, ◌+◌, ◌-◌, ◌*◌, ◌^◌, ◌<◌, ◌≤◌, ◌≡◌, refl, Some, None, Ok, Err, Bool, true, false, List, [], ◌∷◌, ltb, length, take, drop, get_or}
use Rattle.std.proofs.Common.{sym, ap, ◌∙◌, add-zero, mul-suc, ◌&&◌, pow-add, pow_mono, arith, drop_of_length-le, take_all, length-drop, eqb, min, drop-cons, lt-ltb, le-ltb, ltb-true, ltb-false, le-leb, eq-eqb, ne_eqb}
use Rattle.std.proofs.Math.Numerals.{add-one}
use Rattle.std.proofs.Math.Arith.{digits_lt}
use Rattle.std.proofs.lemmas.Bool.{lt-leb}
use Rattle.std.specs.Str.{bytes_eq}
use Rattle.lists.specs.Choice.{pick, and}
use Rattle.lists.specs.ChoiceLaws.{false_not_true}
use Rattle.digits.specs.Numbers.{from_to, digit_of, digit_said, digit_in, are_digits, value_from, value_of, capped, digits_of, is_hex, number_of, hex_of, hex_said, halves_of, quarter_of}
use Rattle.digits.specs.declared.number.NumberError.TheVariants.{NoNumber, TooLarge}

-- ---- a digit

abbrev off : (a b c : ℕ) → c < a → from_to a b c ≡ false
off a b c h = simp (lt-leb a c h)

abbrev past : (a b c : ℕ) → a ≤ c → b < c → from_to a b c ≡ false
past a b c h g = simp (le-leb a c h, lt-leb c b g)

abbrev within : (a b c : ℕ) → a ≤ c → c ≤ b → from_to a b c ≡ true
within a b c h g = simp (le-leb a c h, le-leb c b g)

module _ (c : ℕ) where
  pub digit_before : c < 48 → digit_of c ≡ 16
  unfolding digit_of
  digit_before h = simp (off 48 57 c h, off 65 70 c (omega arith), off 97 102 c (omega arith))

  pub digit_decimal : 48 ≤ c → c ≤ 57 → digit_of c ≡ c - 48
  unfolding digit_of
  digit_decimal h g = simp (within 48 57 c h g)

  pub digit_between : 57 < c → c < 65 → digit_of c ≡ 16
  unfolding digit_of
  digit_between h g = simp (past 48 57 c (omega arith) h, off 65 70 c g, off 97 102 c (omega arith))

  pub digit_upper : 65 ≤ c → c ≤ 70 → digit_of c ≡ c - 55
  unfolding digit_of
  digit_upper h g = simp (past 48 57 c (omega arith) (omega arith), within 65 70 c h g)

  pub digit_behind : 70 < c → c < 97 → digit_of c ≡ 16
  unfolding digit_of
  digit_behind h g = simp (past 48 57 c (omega arith) (omega arith), past 65 70 c (omega arith) h, off 97 102 c g)

  pub digit_lower : 97 ≤ c → c ≤ 102 → digit_of c ≡ c - 87
  unfolding digit_of
  digit_lower h g = simp (past 48 57 c (omega arith) (omega arith), past 65 70 c (omega arith) (omega arith), within 97 102 c h g)

  pub digit_after : 102 < c → digit_of c ≡ 16
  unfolding digit_of
  digit_after h = simp (past 48 57 c (omega arith) (omega arith), past 65 70 c (omega arith) (omega arith), past 97 102 c (omega arith) h)

  -- as an answer: a value below 16, or none
  pub digit_is : (d : ℕ) → d ≡ digit_of c → d < 16 → Some d ≡ digit_said c
  digit_is d e h = rw (← e, lt-ltb d 16 h)

  pub digit_none : digit_of c ≡ 16 → None ≡ digit_said c
  digit_none e = rw e

-- and back: a digit in a base has its value, below the base, and no other character has one
pub said_value : (base c d : ℕ) → Some d ≡ digit_in base c → (d ≡ digit_of c) × (d < base)
said_value base c d = go (ltb (digit_of c) base) refl
  where
    go : (t : Bool) → ltb (digit_of c) base ≡ t → Some d ≡ pick t (Some (digit_of c)) None → (d ≡ digit_of c) × (d < base)
    go true e f = let g : d ≡ digit_of c = cc in (g, omega (arith, g, ltb-true _ _ e))
    go false e f = cc

pub said_none : (base c : ℕ) → None ≡ digit_in base c → base ≤ digit_of c
said_none base c = go (ltb (digit_of c) base) refl
  where
    go : (t : Bool) → ltb (digit_of c) base ≡ t → None ≡ pick t (Some (digit_of c)) None → base ≤ digit_of c
    go true e f = cc
    go false e f = ltb-false _ _ e

pub in_base : (base c : ℕ) → digit_of c < base → Some (digit_of c) ≡ digit_in base c
in_base base c h = rw (lt-ltb (digit_of c) base h)

pub no_digit : (base c : ℕ) → base ≤ digit_of c → None ≡ digit_in base c
no_digit base c h = rw (le-ltb (digit_of c) base h)

-- ---- all digits

module _ (base : ℕ) (s : List ℕ) (i : ℕ) where
  pub digits_on : i < length s → digit_of (get_or s i 0) < base → are_digits base (drop i s) ≡ are_digits base (drop (i + 1) s)
  unfolding are_digits
  digits_on h e = rw (drop-cons s i 0 h, add-one i) (simp (lt-ltb _ _ e))

  pub digits_not : i < length s → base ≤ digit_of (get_or s i 0) → are_digits base (drop i s) ≡ false
  unfolding are_digits
  digits_not h e = rw (drop-cons s i 0 h) (simp (le-ltb _ _ e))

  pub digits_over : length s ≤ i → are_digits base (drop i s) ≡ true
  unfolding are_digits
  digits_over h = rw (drop_of_length-le s h)

digits_cons : (base c : ℕ) (t : Bool) (l : Bool) → ltb (digit_of c) base ≡ t → and t l ≡ true → (digit_of c < base) × (l ≡ true)
digits_cons base c true l e f = (ltb-true _ _ e, f)
digits_cons base c false l e f = false_not_true f

-- each of them is one
pub digit_at : (base : ℕ) (s : List ℕ) (i : ℕ) → are_digits base s ≡ true → i < length s → digit_of (get_or s i 0) < base
unfolding are_digits
digit_at base [] i e h = absurd (omega arith)
digit_at base (c ∷ s) zero e h = (digits_cons base c (ltb (digit_of c) base) (are_digits base s) refl e).0
digit_at base (c ∷ s) (suc i) e h = digit_at base s i (digits_cons base c (ltb (digit_of c) base) (are_digits base s) refl e).1 (omega arith)

-- ---- the value

pub value_on : (base v : ℕ) (s : List ℕ) (i : ℕ) → i < length s → value_from base v (drop i s) ≡ value_from base (v * base + digit_of (get_or s i 0)) (drop (i + 1) s)
unfolding value_from
value_on base v s i h = rw (drop-cons s i 0 h, add-one i)

pub value_over : (base v : ℕ) (s : List ℕ) (i : ℕ) → length s ≤ i → value_from base v (drop i s) ≡ v
unfolding value_from
value_over base v s i h = rw (drop_of_length-le s h)

-- ---- the cap

pub capped_low : (n : ℕ) → n < 65536 → capped n ≡ n
capped_low n h = simp (lt-ltb _ _ h)

pub capped_high : (n : ℕ) → 65536 ≤ n → capped n ≡ 65536
capped_high n h = simp (le-ltb _ _ h)

-- no more than the cap is left as it is
pub capped_within : (n : ℕ) → n ≤ 65536 → capped n ≡ n
capped_within n h = go (ltb n 65536) refl
  where
    go : (t : Bool) → ltb n 65536 ≡ t → pick t n 65536 ≡ n
    go true e = refl
    go false e = omega (arith, ltb-false n 65536 e)

times_more : (v base : ℕ) → 0 < base → v ≤ v * base
times_more v zero h = absurd (omega arith)
times_more v (suc b) h = omega (arith, mul-suc v b)

-- a digit more of a number that is capped
digit_more : (base v d : ℕ) → 0 < base → capped (v * base + d) ≡ capped (capped v * base + d)
digit_more base v d h = go (ltb v 65536) refl
  where
    go : (t : Bool) → ltb v 65536 ≡ t → capped (v * base + d) ≡ capped (pick t v 65536 * base + d)
    go true e = refl
    go false e =
        capped_high (v * base + d) (omega (arith, ltb-false v 65536 e, times_more v base h))
        ∙ sym (capped_high (65536 * base + d) (omega (arith, times_more 65536 base h)))

capped_twice : (n : ℕ) → capped n ≡ capped (capped n)
capped_twice n = go (ltb n 65536) refl
  where
    go : (t : Bool) → ltb n 65536 ≡ t → pick t n 65536 ≡ capped (pick t n 65536)
    go true e = sym (capped_low n (ltb-true _ _ e))
    go false e = refl

-- what follows a capped number
pub value_capped : (base v : ℕ) (cs : List ℕ) → 0 < base → capped (value_from base v cs) ≡ capped (value_from base (capped v) cs)
unfolding value_from
value_capped base v [] h = capped_twice v
value_capped base v (c ∷ cs) h =
    value_capped base (v * base + digit_of c) cs h
    ∙ ap (λ (x : ℕ). capped (value_from base x cs)) (digit_more base v (digit_of c) h)
    ∙ sym (value_capped base (capped v * base + digit_of c) cs h)

-- a turn of the loop
pub capped_on : (base v : ℕ) (s : List ℕ) (i : ℕ) → 0 < base → i < length s
    → capped (value_from base v (drop i s)) ≡ capped (value_from base (capped (v * base + digit_of (get_or s i 0))) (drop (i + 1) s))
capped_on base v s i l h = ap capped (value_on base v s i h) ∙ value_capped base (v * base + digit_of (get_or s i 0)) (drop (i + 1) s) l

-- ---- what the digits say

pub no_digits_no_number : (base : ℕ) (s : List ℕ) (i : ℕ) → length s ≤ i → digits_of base (drop i s) ≡ Err NoNumber
unfolding digits_of
no_digits_no_number base s i h = rw (drop_of_length-le s h)

pub other_characters_no_number : (base : ℕ) (l : List ℕ) → are_digits base l ≡ false → digits_of base l ≡ Err NoNumber
unfolding digits_of
other_characters_no_number base [] e = refl
other_characters_no_number base (c ∷ cs) e = simp e

pub digits_say_number : (base : ℕ) (l : List ℕ) → 0 < length l → are_digits base l ≡ true → value_of base l < 65536 → digits_of base l ≡ Ok (value_of base l)
unfolding digits_of
digits_say_number base [] h e f = absurd (omega arith)
digits_say_number base (c ∷ cs) h e f = simp (e, lt-ltb _ _ f)

pub digits_too_large : (base : ℕ) (l : List ℕ) → 0 < length l → are_digits base l ≡ true → 65536 ≤ value_of base l → digits_of base l ≡ Err TooLarge
unfolding digits_of
digits_too_large base [] h e f = absurd (omega arith)
digits_too_large base (c ∷ cs) h e f = simp (e, le-ltb _ _ f)

-- the least of a number and the cap
pub capped_min : (n : ℕ) → min n 65536 ≡ capped n
capped_min n = go (ltb n 65536) refl
  where
    go : (t : Bool) → ltb n 65536 ≡ t → min n 65536 ≡ pick t n 65536
    go true e = omega (arith, ltb-true n 65536 e)
    go false e = omega (arith, ltb-false n 65536 e)

-- a capped value below the cap is the value, and at the cap the value is no less
pub below_cap : (n v : ℕ) → v ≡ capped n → v < 65536 → n ≡ v
below_cap n v e h = go (ltb n 65536) refl e
  where
    go : (t : Bool) → ltb n 65536 ≡ t → v ≡ pick t n 65536 → n ≡ v
    go true q f = sym f
    go false q f = absurd (omega arith)

pub at_cap : (n v : ℕ) → v ≡ capped n → 65536 ≤ v → 65536 ≤ n
at_cap n v e h = go (ltb n 65536) refl e
  where
    go : (t : Bool) → ltb n 65536 ≡ t → v ≡ pick t n 65536 → 65536 ≤ n
    go true q f = omega (arith, ltb-true n 65536 q)
    go false q f = ltb-false _ _ q

-- `0x` at the front, as the first two characters
pub hex_mark : (s : List ℕ) → is_hex s ≡ bytes_eq (take 2 s) (48 ∷ 120 ∷ [])
unfolding is_hex
hex_mark [] = refl
hex_mark (a ∷ []) = elim (eqb a 48) as (λ (t : Bool). false ≡ t && false) [ true ↦ refl | false ↦ refl ]
hex_mark (a ∷ b ∷ s) = rw (le-leb 2 (length (a ∷ b ∷ s)) (omega arith)) (go (eqb a 48) (eqb b 120))
  where
    go : (t u : Bool) → and t u ≡ (t && (u && true))
    go true true = refl
    go true false = refl
    go false u = refl

-- a word with `0x` at its front, and one without
pub number_hex : (s : List ℕ) → is_hex s ≡ true → number_of s ≡ digits_of 16 (drop 2 s)
unfolding number_of
number_hex s e = rw e

pub number_decimal : (s : List ℕ) → is_hex s ≡ false → number_of s ≡ digits_of 10 s
unfolding number_of
number_decimal s e = rw e

pub marked_hex : (s : List ℕ) → is_hex s ≡ true → hex_of s ≡ digits_of 16 (drop 2 s)
unfolding hex_of
marked_hex s e = rw e

pub plain_hex : (s : List ℕ) → is_hex s ≡ false → hex_of s ≡ digits_of 16 s
unfolding hex_of
plain_hex s e = rw e

-- ---- the value of hexadecimal digits, and none

module _ (s : List ℕ) where
  pub hex_none : are_digits 16 s ≡ false → None ≡ hex_said s
  hex_none e = rw e

  pub hex_some : (v : ℕ) → are_digits 16 s ≡ true → value_of 16 s ≡ v → Some v ≡ hex_said s
  hex_some v e f = rw (e, f)

  pub said_hex : (v : ℕ) → Some v ≡ hex_said s → (are_digits 16 s ≡ true) × (value_of 16 s ≡ v)
  said_hex v = go (are_digits 16 s) refl
    where
      go : (t : Bool) → are_digits 16 s ≡ t → Some v ≡ pick t (Some (value_of 16 s)) None → (are_digits 16 s ≡ true) × (value_of 16 s ≡ v)
      go true e f = (e, cc)
      go false e f = cc

  pub said_no_hex : None ≡ hex_said s → are_digits 16 s ≡ false
  said_no_hex = go (are_digits 16 s) refl
    where
      go : (t : Bool) → are_digits 16 s ≡ t → None ≡ pick t (Some (value_of 16 s)) None → are_digits 16 s ≡ false
      go true e f = cc
      go false e f = e

-- digits all over are digits in both parts
and_assoc : (a b c : Bool) → and a (and b c) ≡ and (and a b) c
and_assoc true b c = refl
and_assoc false b c = refl

digits_parts : (base n : ℕ) (s : List ℕ) → are_digits base s ≡ and (are_digits base (take n s)) (are_digits base (drop n s))
unfolding are_digits
digits_parts base zero s = refl
digits_parts base (suc n) [] = refl
digits_parts base (suc n) (c ∷ s) =
    ap (and (ltb (digit_of c) base)) (digits_parts base n s) ∙ and_assoc (ltb (digit_of c) base) (are_digits base (take n s)) (are_digits base (drop n s))

-- ---- halves

pub halves_length : (s : List ℕ) → (length s ≡ 32 → ⊥) → halves_of s ≡ None
unfolding halves_of
halves_length s h = simp (ne_eqb _ _ h)

pub halves_digits : (s : List ℕ) → length s ≡ 32 → are_digits 16 s ≡ false → halves_of s ≡ None
unfolding halves_of
halves_digits s h e = simp (eq-eqb _ _ h, e)

pub halves_are : (s : List ℕ) → length s ≡ 32 → are_digits 16 s ≡ true → halves_of s ≡ Some (value_of 16 (take 16 s), value_of 16 (take 16 (drop 16 s)))
unfolding halves_of
halves_are s h e = simp (eq-eqb _ _ h, e)

-- from the halves themselves
low_half : (s : List ℕ) → take (length s - 16) (drop 16 s) ≡ drop 16 s
low_half s = take_all (length s - 16) (drop 16 s) (omega (arith, length-drop 16 s))

module _ (s : List ℕ) (h : length s ≡ 32) where
  pub no_high_half : None ≡ hex_said (take 16 s) → None ≡ halves_of s
  no_high_half e = sym (halves_digits s h (digits_parts 16 16 s ∙ rw (said_no_hex (take 16 s) e)))

  pub no_low_half : (v : ℕ) → Some v ≡ hex_said (take 16 s) → None ≡ hex_said (take (length s - 16) (drop 16 s)) → None ≡ halves_of s
  no_low_half v e f =
      let g = said_no_hex (take (length s - 16) (drop 16 s)) f in
      sym (halves_digits s h (digits_parts 16 16 s ∙ rw ((said_hex (take 16 s) v e).0, sym (low_half s), g)))

  pub both_halves : (v w : ℕ) → Some v ≡ hex_said (take 16 s) → Some w ≡ hex_said (take (length s - 16) (drop 16 s)) → Some (v, w) ≡ halves_of s
  both_halves v w e f =
      let a = said_hex (take 16 s) v e in
      let b = said_hex (take (length s - 16) (drop 16 s)) w f in
      let k : take 16 (drop 16 s) ≡ take (length s - 16) (drop 16 s) = let n : length s - 16 ≡ 16 = omega arith in rw n in
      sym (halves_are s h (digits_parts 16 16 s ∙ rw (a.0, sym (low_half s), b.0)) ∙ rw (k, a.1, b.1))

-- a digit more: four bits more, 64 at most
pub hex_bound : (v d k : ℕ) → v < 2 ^ (4 * k) → d < 16 → v * 16 + d < 2 ^ (4 * (k + 1))
hex_bound v d k h g =
    let l = digits_lt {q = v} {m = 2 ^ (4 * k)} {r = d} {c = 2 ^ 4} h g in
    let e : 2 ^ (4 * (k + 1)) ≡ 2 ^ (4 * k) * 2 ^ 4 = ap (λ (x : ℕ). 2 ^ x) (omega arith) ∙ pow-add 2 (4 * k) 4 in
    omega arith

pub hex_fits : (v d k : ℕ) → k < 16 → v < 2 ^ (4 * k) → d < 16 → v * 16 + d < 2 ^ 64
hex_fits v d k l h g = let m = pow_mono {i = 4 * (k + 1)} {j = 64} (omega arith) in omega (arith, hex_bound v d k h g)

-- a turn, and the end
pub hex_on : (s : List ℕ) (n v at k : ℕ) → k < n → at + k < length s
    → value_from 16 v (take (n - k) (drop (at + k) s)) ≡ value_from 16 (v * 16 + digit_of (get_or s (at + k) 0)) (take (n - (k + 1)) (drop (at + (k + 1)) s))
unfolding value_from
hex_on s n v at k h g =
    let e : n - k ≡ suc (n - (k + 1)) = omega arith in
    let f : suc (at + k) ≡ at + (k + 1) = omega arith in
    rw (e, drop-cons s (at + k) 0 g, f)

pub hex_over : (s : List ℕ) (n v at k : ℕ) → n ≤ k → value_from 16 v (take (n - k) (drop (at + k) s)) ≡ v
unfolding value_from
hex_over s n v at k h = let e : n - k ≡ 0 = omega arith in rw e

pub hex_start : (s : List ℕ) (n at : ℕ) → value_from 16 0 (take n (drop at s)) ≡ value_from 16 0 (take (n - 0) (drop (at + 0) s))
hex_start s n at =
    let e : n ≡ n - 0 = omega arith in
    ap (λ (m : ℕ). value_from 16 0 (take m (drop at s))) e ∙ ap (λ (x : ℕ). value_from 16 0 (take (n - 0) (drop x s))) (sym (add-zero at))

-- four bits a digit
pub hex_below : (v n k : ℕ) → v < 2 ^ (4 * k) → k ≤ n → v < 2 ^ (4 * n)
hex_below v n k h g = let m = pow_mono {i = 4 * k} {j = 4 * n} (omega arith) in omega arith

-- ---- a quarter

pub quarter_length : (s : List ℕ) → (length s ≡ 8 → ⊥) → quarter_of s ≡ None
unfolding quarter_of
quarter_length s h = simp (ne_eqb _ _ h)

pub quarter_digits : (s : List ℕ) → length s ≡ 8 → are_digits 16 s ≡ false → quarter_of s ≡ None
unfolding quarter_of
quarter_digits s h e = simp (eq-eqb _ _ h, e)

pub quarter_is : (s : List ℕ) → length s ≡ 8 → are_digits 16 s ≡ true → quarter_of s ≡ Some (value_of 16 (take 8 s))
unfolding quarter_of
quarter_is s h e = simp (eq-eqb _ _ h, e)

-- from its digits themselves
module _ (s : List ℕ) (h : length s ≡ 8) where
  pub no_quarter : None ≡ hex_said s → None ≡ quarter_of s
  no_quarter e = sym (quarter_digits s h (said_no_hex s e))

  pub all_quarter : (v : ℕ) → Some v ≡ hex_said s → Some v ≡ quarter_of s
  all_quarter v e =
      let a = said_hex s v e in
      sym (quarter_is s h a.0 ∙ rw (take_all 8 s (omega arith), a.1))
