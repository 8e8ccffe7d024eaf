-- Different numbers have different words. Which numbers have words.
use Rattle.std.specs.Prelude.{ℕ, zero, suc, ◌≤◌, ◌<◌, ◌≡◌, refl, Bool, true, false, List, [], ◌∷◌, ◌++◌, ltb, length, get_or}
use Rattle.std.proofs.Common.{sym, ap, ◌∙◌, arith, lt-ltb, le-ltb, eq-eqb}
use Rattle.std.proofs.Math.ListN.{get_or-eq_default}
use Rattle.lists.specs.Choice.{and, not}
use Rattle.lists.specs.ChoiceLaws.{both_true, false_not_true}
use Rattle.text.specs.Chars.{chars}
use Rattle.text.specs.Words.{same_text}
use Rattle.meanings.specs.Meanings.{meanings, meaning, has_words, noted}

-- ---- different numbers, different words

-- a text is none of these, and no two of these are the same
unfoldable pub none_is : List ℕ → List (List ℕ) → Bool
none_is s [] = true
none_is s (t ∷ ts) = and (not (same_text s t)) (none_is s ts)

unfoldable pub all_differ : List (List ℕ) → Bool
all_differ [] = true
all_differ (t ∷ ts) = and (none_is t ts) (all_differ ts)

-- a text is the same as itself
same_refl : (s : List ℕ) → same_text s s ≡ true
same_refl [] = refl
same_refl (c ∷ cs) = rw (eq-eqb c c refl) (same_refl cs)

none_is_lem : (s : List ℕ) (ts : List (List ℕ)) (j : ℕ) → none_is s ts ≡ true → j < length ts → s ≡ get_or ts j [] → ⊥
unfolding none_is
none_is_lem s [] j e h q = omega arith
none_is_lem s (t ∷ ts) zero e h q =
    let b = both_true (not (same_text s t)) (none_is s ts) e in
    false_not_true (ap not (sym (same_refl s) ∙ ap (same_text s) q) ∙ b.0)
none_is_lem s (t ∷ ts) (suc j) e h q = none_is_lem s ts j (both_true (not (same_text s t)) (none_is s ts) e).1 (omega arith) q

same_place : (ts : List (List ℕ)) (i j : ℕ) → all_differ ts ≡ true → i < length ts → j < length ts → get_or ts i [] ≡ get_or ts j [] → i ≡ j
unfolding all_differ
same_place [] i j e h g q = absurd (omega arith)
same_place (t ∷ ts) zero zero e h g q = refl
same_place (t ∷ ts) zero (suc j) e h g q = absurd (none_is_lem t ts j (both_true (none_is t ts) (all_differ ts) e).0 (omega arith) q)
same_place (t ∷ ts) (suc i) zero e h g q = absurd (none_is_lem t ts i (both_true (none_is t ts) (all_differ ts) e).0 (omega arith) (sym q))
same_place (t ∷ ts) (suc i) (suc j) e h g q = ap suc (same_place ts i j (both_true (none_is t ts) (all_differ ts) e).1 (omega arith) (omega arith) q)

meanings_differ : all_differ meanings ≡ true
unfolding meanings all_differ none_is
meanings_differ = refl

-- also from those of 0, which are none
pub words_differ : (m n : ℕ) → m ≤ 21 → n ≤ 21 → meaning m ≡ meaning n → m ≡ n
unfolding meaning meanings
words_differ m n h g e = same_place meanings m n meanings_differ (omega arith) (omega arith) e

-- ---- which numbers have words

-- a number that is none of those up to k is one of those after it
pub up : (k n : ℕ) → k ≤ n → (n ≡ k → ⊥) → suc k ≤ n
up k n h g = omega arith

pub above_none : (n : ℕ) → 22 ≤ n → meaning n ≡ []
unfolding meaning meanings
above_none n h = get_or-eq_default meanings [] h

-- neither 0 nor any number above 21, which is all that differs from 1 to 21
pub others_none : (n : ℕ) → (1 ≤ n → 22 ≤ n) → meaning n ≡ []
unfolding meaning meanings
others_none zero h = refl
others_none (suc n) h = above_none (suc n) (h (omega arith))

pub none_below : (n : ℕ) → n < 1 → has_words n ≡ false
unfolding has_words
none_below n h = rw (le-ltb 0 n (omega arith))

pub some_from : (n : ℕ) → 1 ≤ n → ltb n 22 ≡ has_words n
unfolding has_words meanings
some_from n h = rw (lt-ltb 0 n (omega arith))

pub words_none : (n : ℕ) → has_words n ≡ false → noted n ≡ []
unfolding noted
words_none n e = rw e

pub words_after_colon : (n : ℕ) → has_words n ≡ true → chars ": " ++ meaning n ≡ noted n
unfolding noted
words_after_colon n e = rw e
