-- The number that is read from an answer is the one that was printed: decimal digits, and a blank or a line feed after them. A line that
-- begins with `?` begins with none.
use Prim.Native.Nat.{ℕ, zero, suc, ◌+◌, ◌-◌, ◌/◌, ◌%◌, ◌≤◌, ◌<◌, zero-le}
use Rattle.std.specs.Prelude.{◌≡◌, Err, Bool, false, ltb, leb, eqb}
use Rattle.std.proofs.Math.Path.{refl, sym, ap}
use Rattle.std.proofs.Common.{◌∙◌, arith, lt-ltb, ltb-true, ltb-false, eqb-true}
use Rattle.std.proofs.Math.Bool.{true}
use mathlib.Core.List.{List, [], ◌∷◌, ◌++◌, append-nil}
use Rattle.std.proofs.Math.ListN.{length, take, length-append}
use Rattle.std.proofs.Math.Seq.{take_at, take-append-add}
use Rattle.lists.specs.Choice.{pick, or, and, not}
use Rattle.lists.specs.ChoiceLaws.{both_true, and_none}
use Rattle.text.specs.Words.{blank, outside, feed, before, start_from, word_from, part_of}
use Rattle.text.specs.WordLaws.{part_in}
use Rattle.writing.specs.Written.{glyph, decimal, decimal_of}
use Rattle.writing.specs.WrittenLaws.{decimal_digit, decimal_more}
use Rattle.digits.specs.Numbers.{digit_of, are_digits, value_of, is_hex, number_of}
use Rattle.digits.specs.NumberLaws.{number_decimal, digits_say_number, other_characters_no_number}
use Rattle.digits.specs.BackLaws.{glyph_back, decimal_back}
use Rattle.digits.specs.declared.number.NumberError.TheVariants.{NoNumber}
use Rattle.meanings.specs.Meanings.{has_words}
use Rattle.meanings.specs.MeaningLaws.{none_below}
use Rattle.meanings.specs.Worded.{first_line, or_zero, number_in, number, worded}
use Rattle.meanings.specs.WordedLaws.{before_within, before_all, copied}

-- ---- the digits of a number

digits_append : (base : ℕ) (xs ys : List ℕ) → are_digits base xs ≡ true → are_digits base ys ≡ true → are_digits base (xs ++ ys) ≡ true
unfolding are_digits
digits_append base [] ys e f = f
digits_append base (x ∷ xs) ys e f =
    let b = both_true (ltb (digit_of x) base) (are_digits base xs) e in
    rw b.0 (digits_append base xs ys b.1 f)

one_digit : (d : ℕ) → d < 10 → are_digits 10 (glyph d ∷ []) ≡ true
unfolding are_digits
one_digit d h = let l : digit_of (glyph d) < 10 = omega (arith, glyph_back d (omega arith)) in simp (lt-ltb (digit_of (glyph d)) 10 l)

digits_step : (k n : ℕ) → are_digits 10 (decimal k (n / 10)) ≡ true → (t : Bool) → ltb n 10 ≡ t
    → are_digits 10 (pick t (glyph n ∷ []) (decimal k (n / 10) ++ (glyph (n % 10) ∷ []))) ≡ true
digits_step k n h true e = one_digit n (ltb-true n 10 e)
digits_step k n h false e = digits_append 10 (decimal k (n / 10)) (glyph (n % 10) ∷ []) h (one_digit (n % 10) (omega arith))

are_digits_lem : (k n : ℕ) → are_digits 10 (decimal k n) ≡ true
unfolding decimal are_digits
are_digits_lem zero n = refl
are_digits_lem (suc k) n = digits_step k n (are_digits_lem k (n / 10)) (ltb n 10) refl

-- there is one at least
some_digit : (n : ℕ) → 0 < length (decimal_of n)
some_digit n = go (ltb n 10) refl
  where
    go : (t : Bool) → ltb n 10 ≡ t → 0 < length (decimal_of n)
    go true e = omega (arith, ap length (decimal_digit n (ltb-true n 10 e)))
    go false e = omega (arith, ap length (decimal_more n (ltb-false n 10 e)), length-append (decimal_of (n / 10)) (glyph (n % 10) ∷ []))

-- ---- a word of digits

-- none of its characters is of a kind whose characters are no digits
clean : (kind : ℕ → Bool) → ((c : ℕ) → kind c ≡ true → 10 ≤ digit_of c) → (w : List ℕ) → are_digits 10 w ≡ true → before kind w ≡ length w
unfolding before are_digits
clean kind h [] e = refl
clean kind h (c ∷ cs) e =
    let b = both_true (ltb (digit_of c) 10) (are_digits 10 cs) e in
    go (ltb-true (digit_of c) 10 b.0) (clean kind h cs b.1) (kind c) refl
  where
    go : digit_of c < 10 → before kind cs ≡ length cs → (t : Bool) → kind c ≡ t → pick t 0 (suc (before kind cs)) ≡ suc (length cs)
    go l r true k = absurd (omega (arith, h c k))
    go l r false k = ap suc r

feed_no_digit : (c : ℕ) → feed c ≡ true → 10 ≤ digit_of c
unfolding digit_of
feed_no_digit c e = let f : c ≡ 10 = eqb-true c 10 e in rw f (omega arith)

blank_no_digit : (c : ℕ) → blank c ≡ true → 10 ≤ digit_of c
unfolding digit_of
blank_no_digit c e = go (eqb c 32) refl (eqb c 9) refl e
  where
    go : (s : Bool) → eqb c 32 ≡ s → (t : Bool) → eqb c 9 ≡ t → or s (or t (eqb c 13)) ≡ true → 10 ≤ digit_of c
    go true a t b h = let f : c ≡ 32 = eqb-true c 32 a in rw f (omega arith)
    go false a true b h = let f : c ≡ 9 = eqb-true c 9 b in rw f (omega arith)
    go false a false b h = let f : c ≡ 13 = eqb-true c 13 h in rw f (omega arith)

-- its first character is no blank
starts : (w ys : List ℕ) → are_digits 10 w ≡ true → 0 < length w → before outside (w ++ ys) ≡ 0
unfolding before are_digits
starts [] ys e h = absurd (omega arith)
starts (c ∷ cs) ys e h = go (ltb-true (digit_of c) 10 (both_true (ltb (digit_of c) 10) (are_digits 10 cs) e).0) (blank c) refl
  where
    go : digit_of c < 10 → (t : Bool) → blank c ≡ t → pick (not t) 0 (suc (before outside (cs ++ ys))) ≡ 0
    go l true k = absurd (omega (arith, blank_no_digit c k))
    go l false k = refl

-- nor does it begin with `0x`
no_hex : (w : List ℕ) → are_digits 10 w ≡ true → is_hex w ≡ false
unfolding is_hex are_digits digit_of
no_hex [] e = refl
no_hex (a ∷ []) e = refl
no_hex (a ∷ b ∷ w) e =
    let r = both_true (ltb (digit_of a) 10) (are_digits 10 (b ∷ w)) e in
    let q = both_true (ltb (digit_of b) 10) (are_digits 10 w) r.1 in
    go (eqb b 120) refl (ltb-true (digit_of b) 10 q.0)
  where
    go : (t : Bool) → eqb b 120 ≡ t → digit_of b < 10 → and (leb 2 (suc (suc (length w)))) (and (eqb a 48) t) ≡ false
    go true k l = let f : b ≡ 120 = eqb-true b 120 k in let z = rw f at l in absurd (omega arith)
    go false k l = ap (and (leb 2 (suc (suc (length w))))) (and_none (eqb a 48)) ∙ and_none (leb 2 (suc (suc (length w))))

-- the first word of a line that begins with it, and has a blank or nothing after it
module _ (w ys : List ℕ) (digits : are_digits 10 w ≡ true) (some : 0 < length w) (gap : before blank ys ≡ 0) where
  first_word : part_of (w ++ ys) (word_from (w ++ ys) 0).from (word_from (w ++ ys) 0).to ≡ w
  unfolding word_from start_from
  first_word =
      let f : 0 + before outside (w ++ ys) ≡ 0 = omega (arith, starts w ys digits some) in
      let g : before blank (w ++ ys) ≡ length w = before_all blank w ys (clean blank blank_no_digit w digits) ∙ omega (arith, gap) in
      rw (f, g) (part_in (w ++ ys) 0 (0 + length w) zero-le (omega (arith, length-append w ys)) ∙ take_at w ys (0 + length w - 0) (omega arith))

  says : (n : ℕ) → n < 65536 → value_of 10 w ≡ n → number_in (w ++ ys) ≡ n
  unfolding number_in
  says n h e =
      ap (λ (p : List ℕ). or_zero (number_of p)) first_word
      ∙ ap or_zero (number_decimal w (no_hex w digits) ∙ digits_say_number 10 w some digits (omega (arith, e)))
      ∙ e

-- ---- the number of an answer

past_blank : (xs : List ℕ) → before feed (32 ∷ xs) ≡ suc (before feed xs)
unfolding before
past_blank xs = refl

at_blank : (xs : List ℕ) → before blank (32 ∷ xs) ≡ 0
unfolding before
at_blank xs = refl

at_feed : (xs : List ℕ) → before feed (10 ∷ xs) ≡ 0
unfolding before
at_feed xs = refl

at_end : before blank [] ≡ 0
unfolding before
at_end = refl

module _ (n : ℕ) (fits : n < 65536) (xs : List ℕ) where
  -- before a blank
  pub number_before_blank : number (decimal_of n ++ (32 ∷ xs)) ≡ n
  unfolding number first_line
  number_before_blank =
      let d : are_digits 10 (decimal_of n) ≡ true = are_digits_lem (suc n) n in
      let b : before feed (decimal_of n ++ (32 ∷ xs)) ≡ length (decimal_of n) + suc (before feed xs) = before_all feed (decimal_of n) (32 ∷ xs) (clean feed feed_no_digit (decimal_of n) d) ∙ ap (λ (k : ℕ). length (decimal_of n) + k) (past_blank xs) in
      ap number_in (ap (λ (k : ℕ). take k (decimal_of n ++ (32 ∷ xs))) b ∙ take-append-add (decimal_of n) (32 ∷ xs) (suc (before feed xs)))
      ∙ says (decimal_of n) (32 ∷ take (before feed xs) xs) d (some_digit n) (at_blank (take (before feed xs) xs)) n fits (decimal_back n)

  -- before a line feed
  pub number_before_feed : number (decimal_of n ++ (10 ∷ xs)) ≡ n
  unfolding number first_line
  number_before_feed =
      let d : are_digits 10 (decimal_of n) ≡ true = are_digits_lem (suc n) n in
      let b : before feed (decimal_of n ++ (10 ∷ xs)) ≡ length (decimal_of n) = before_all feed (decimal_of n) (10 ∷ xs) (clean feed feed_no_digit (decimal_of n) d) ∙ (ap (λ (k : ℕ). length (decimal_of n) + k) (at_feed xs) ∙ omega arith) in
      ap number_in (ap (λ (k : ℕ). take k (decimal_of n ++ (10 ∷ xs))) b ∙ take_at (decimal_of n) (10 ∷ xs) (length (decimal_of n)) refl ∙ sym (append-nil (decimal_of n)))
      ∙ says (decimal_of n) [] d (some_digit n) at_end n fits (decimal_back n)

-- ---- a line that begins with `?`

no_number : (w : List ℕ) → number_of (63 ∷ w) ≡ Err NoNumber
unfolding is_hex are_digits digit_of
no_number w =
    number_decimal (63 ∷ w) (and_none (leb 2 (suc (length w)))) ∙ other_characters_no_number 10 (63 ∷ w) refl

pub question_has_no_number : (xs : List ℕ) → number (63 ∷ xs) ≡ 0
unfolding number first_line number_in word_from start_from before
question_has_no_number xs =
    let ys : List ℕ = take (before feed xs) xs in
    let k : ℕ = before blank ys in
    let z : 0 + suc k - 0 ≡ suc k = omega arith in
    ap (λ (p : List ℕ). or_zero (number_of p)) (part_in (63 ∷ ys) 0 (0 + suc k) zero-le (omega (arith, before_within blank ys)) ∙ ap (λ (n : ℕ). take n (63 ∷ ys)) z)
    ∙ ap or_zero (no_number (take k ys))

-- so it is copied
pub question_copied : (xs : List ℕ) → worded (63 ∷ xs) ≡ 63 ∷ xs
question_copied xs = copied (63 ∷ xs) (ap has_words (question_has_no_number xs) ∙ none_below 0 (omega arith))
