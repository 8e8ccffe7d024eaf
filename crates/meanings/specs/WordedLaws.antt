-- An answer with words: the words are put in at the end of its first line, and all else stays as it is.
use Prim.Native.Nat.{ℕ, suc, ◌+◌, ◌-◌, ◌≤◌, zero-le}
use Rattle.std.specs.Prelude.{◌≡◌, refl, Bool, true, false, List, [], ◌∷◌, ◌++◌, eqb, get_or, Result}
use Rattle.std.proofs.Math.Path.{sym, ap}
use Rattle.std.proofs.Common.{◌∙◌, append-nil, arith, take-append-drop, length-append, eqb-true}
use Rattle.std.proofs.Math.ListN.{length, take, drop, length-drop}
use Rattle.std.proofs.Math.Seq.{take_all, take_at, drop_at}
use Rattle.lists.specs.AllLaws.{at_any}
use Rattle.lists.specs.Choice.{pick}
use Rattle.text.specs.Chars.{chars}
use Rattle.text.specs.Words.{feed, before, start_from, word_from, part_of}
use Rattle.text.specs.WordLaws.{part_in}
use Rattle.text.specs.declared.word.LineWord.{LineWord}
use Rattle.digits.specs.Numbers.{digit_of, are_digits, value_from, digits_of, is_hex, number_of}
use Rattle.digits.specs.declared.number.NumberError.{NumberError}
use Rattle.meanings.specs.Meanings.{meanings, meaning, has_words, noted}
use Rattle.meanings.specs.MeaningLaws.{words_none}
use Rattle.meanings.specs.Worded.{first_line, rest, or_zero, number_in, number, headed, worded}

-- ---- what the functions read

-- the first of a kind stands in the text, or at its end
pub before_within : (kind : ℕ → Bool) (s : List ℕ) → before kind s ≤ length s
unfolding before
before_within kind [] = zero-le
before_within kind (c ∷ cs) = go (kind c) (before_within kind cs)
  where
    go : (t : Bool) → before kind cs ≤ length cs → pick t 0 (suc (before kind cs)) ≤ suc (length cs)
    go true h = zero-le
    go false h = omega arith

-- a text that has none of a kind, and what follows it
pub before_all : (kind : ℕ → Bool) (w ys : List ℕ) → before kind w ≡ length w → before kind (w ++ ys) ≡ length w + before kind ys
unfolding before
before_all kind [] ys e = omega arith
before_all kind (c ∷ cs) ys e = go (before_all kind cs ys) (kind c) e
  where
    go : (before kind cs ≡ length cs → before kind (cs ++ ys) ≡ length cs + before kind ys)
        → (t : Bool) → pick t 0 (suc (before kind cs)) ≡ suc (length cs) → pick t 0 (suc (before kind (cs ++ ys))) ≡ suc (length cs) + before kind ys
    go r true h = absurd (omega arith)
    go r false h = omega (arith, r (omega arith))

module _ (answer : List ℕ) (k : ℕ) (e : k ≡ 0 + before feed (drop 0 answer)) where
  end_is : k ≡ before feed answer
  end_is = e ∙ omega arith

  pub first_part : part_of answer 0 k ≡ first_line answer
  unfolding first_line
  first_part =
      let f : k - 0 ≡ before feed answer = omega (arith, end_is) in
      part_in answer 0 k zero-le (omega (arith, end_is, before_within feed answer)) ∙ ap (λ (n : ℕ). take n answer) f

  pub rest_part : part_of answer k (length answer) ≡ rest answer
  unfolding rest
  rest_part =
      part_in answer k (length answer) (omega (arith, end_is, before_within feed answer)) (omega arith)
      ∙ take_all (length answer - k) (drop k answer) (omega (arith, length-drop k answer))
      ∙ ap (λ (n : ℕ). drop n answer) end_is

-- the number of the first word
pub number_is : (line : List ℕ) (w : LineWord) (p : List ℕ) (n : Result ℕ NumberError) (v : ℕ) → w ≡ word_from line 0 → p ≡ part_of line w.from w.to → n ≡ number_of p
    → v ≡ or_zero n → v ≡ number_in line
unfolding number_in
number_is line w p n v e f g h = h ∙ ap or_zero (g ∙ ap number_of (f ∙ ap (λ (x : LineWord). part_of line x.from x.to) e))

-- ---- what is changed, and what is not

-- the words stand between the first line and the rest, and without them that is the answer
pub words_inserted : (answer : List ℕ) → (worded answer ≡ first_line answer ++ noted (number answer) ++ rest answer) × (answer ≡ first_line answer ++ rest answer)
unfolding worded headed first_line rest
words_inserted answer = (refl, sym (take-append-drop (before feed answer) answer))

-- an answer whose number has no words is copied
pub copied : (answer : List ℕ) → has_words (number answer) ≡ false → worded answer ≡ answer
copied answer e =
    (words_inserted answer).0
    ∙ ap (λ (w : List ℕ). first_line answer ++ w ++ rest answer) (words_none (number answer) e)
    ∙ ap (λ (l : List ℕ). l ++ rest answer) (append-nil (first_line answer))
    ∙ sym (words_inserted answer).1

-- no words have a line feed, so they stay on the first line, and the other lines are as they were
no_feed : (n : ℕ) → before feed (meaning n) ≡ length (meaning n)
unfolding meaning meanings before
no_feed n = eqb-true (before feed (get_or meanings n [])) (length (get_or meanings n [])) (at_any (λ (t : List ℕ). eqb (before feed t) (length t)) meanings [] refl refl n)

noted_no_feed : (n : ℕ) → before feed (noted n) ≡ length (noted n)
unfolding noted before
noted_no_feed n = go (has_words n)
  where
    go : (t : Bool) → before feed (pick t (chars ": " ++ meaning n) []) ≡ length (pick t (chars ": " ++ meaning n) [])
    go true = ap (λ (k : ℕ). suc (suc k)) (no_feed n)
    go false = refl

-- there is no line feed before the first, and none before the rest
line_no_feed : (s : List ℕ) → before feed (take (before feed s) s) ≡ length (take (before feed s) s)
unfolding before
line_no_feed [] = refl
line_no_feed (c ∷ cs) = go (line_no_feed cs) (feed c) refl
  where
    go : before feed (take (before feed cs) cs) ≡ length (take (before feed cs) cs) → (t : Bool) → feed c ≡ t
        → before feed (take (pick t 0 (suc (before feed cs))) (c ∷ cs)) ≡ length (take (pick t 0 (suc (before feed cs))) (c ∷ cs))
    go r true e = refl
    go r false e = rw e (ap suc r)

rest_at_feed : (s : List ℕ) → before feed (drop (before feed s) s) ≡ 0
unfolding before
rest_at_feed [] = refl
rest_at_feed (c ∷ cs) = go (rest_at_feed cs) (feed c) refl
  where
    go : before feed (drop (before feed cs) cs) ≡ 0 → (t : Bool) → feed c ≡ t → before feed (drop (pick t 0 (suc (before feed cs))) (c ∷ cs)) ≡ 0
    go r true e = rw e
    go r false e = r

module _ (answer : List ℕ) where
  headed_ends : before feed (worded answer) ≡ length (headed answer)
  unfolding worded headed first_line rest
  headed_ends =
      let h : before feed (headed answer) ≡ length (headed answer) =
      before_all feed (first_line answer) (noted (number answer)) (line_no_feed answer)
      ∙ ap (λ (k : ℕ). length (first_line answer) + k) (noted_no_feed (number answer))
      ∙ sym (length-append (first_line answer) (noted (number answer))) in
      before_all feed (headed answer) (rest answer) h ∙ (ap (λ (k : ℕ). length (headed answer) + k) (rest_at_feed answer) ∙ omega arith)

  pub first_line_worded : first_line (worded answer) ≡ headed answer
  unfolding first_line worded
  first_line_worded = take_at (headed answer) (rest answer) (before feed (worded answer)) (sym headed_ends)

  pub rest_unchanged : rest (worded answer) ≡ rest answer
  unfolding rest worded
  rest_unchanged = drop_at (headed answer) (rest answer) (before feed (worded answer)) (sym headed_ends)

-- ---- examples

pub pec_differs_at_12 : worded (chars "7 place 12\n") ≡ chars "7 place 12: PEC differs\n"
unfolding worded headed first_line rest number number_in noted has_words meaning meanings before start_from word_from part_of number_of is_hex digits_of are_digits value_from digit_of
pec_differs_at_12 = refl
