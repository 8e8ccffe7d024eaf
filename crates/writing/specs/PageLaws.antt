-- What is added to a page piece after piece is added at once.
use Rattle.std.specs.Prelude.{ℕ, ◌+◌, ◌/◌, ◌%◌, ◌<◌, ◌≤◌, ◌≡◌, List, [], ◌∷◌, ◌++◌, length, take, get_or, slice_set}
use Rattle.std.proofs.Common.{refl, sym, ap, ◌∙◌, add-one, mod-eq_of_lt, arith, lt-ltb, le-ltb, append-nil}
use Rattle.std.proofs.Math.Seq.{take-suc}
use lib.Seq.{set_out}
use Rattle.writing.specs.declared.page.Page.{Page}
use Rattle.writing.specs.Written.{after, written, pair_of, pairs_of, Appended}
use Rattle.writing.specs.WrittenLaws.{after_append, written_append, length_written, after_one, written_one}
use Rattle.writing.specs.declared.page.Case.{Case}
use Rattle.writing.specs.Pages.{with_text, glyph_in}

-- two pages of one buffer are one, where their characters and their places are
same : (p : Page) {l l' : List ℕ} {n n' : ℕ} → l ≡ l' → n ≡ n'
    → record p { out = record p.out { now = l }; at = n } ≡ record p { out = record p.out { now = l' }; at = n' }
same p e f = rw (e, f) refl

-- it is the text written from the page's place on
pub appended : (p : Page) (xs : List ℕ) → Appended p.out.now p.at xs (with_text p xs).out.now (with_text p xs).at
unfolding with_text
appended p xs = record { place = refl; text = refl }

-- one text after another
pub text_on : (p : Page) (xs ys : List ℕ) → with_text (with_text p xs) ys ≡ with_text p (xs ++ ys)
unfolding with_text
text_on p xs ys =
    same p
    (sym (written_append p.out.now (length p.out.now) p.at xs ys refl))
    (ap (λ (n : ℕ). after n (after (length p.out.now) p.at xs) ys) (length_written p.out.now p.at xs) ∙ sym (after_append (length p.out.now) p.at xs ys))

pub then_text : (p q r : Page) (xs ys : List ℕ) → q ≡ with_text p xs → r ≡ with_text q ys → r ≡ with_text p (xs ++ ys)
then_text p q r xs ys e f = f ∙ ap (λ (z : Page). with_text z ys) e ∙ text_on p xs ys

-- no text
pub text_none : (p : Page) → with_text p [] ≡ p
unfolding with_text after written
text_none p = refl

-- one character, where there is room, and where there is none
pub text_one : (p : Page) (c : ℕ) → p.at < length p.out.now
    → record p { out = record p.out { now = slice_set p.out.now p.at c }; at = p.at + 1 } ≡ with_text p (c ∷ [])
unfolding with_text
text_one p c h =
    same p (sym (written_one p.out.now p.at c)) (sym (after_one (length p.out.now) p.at c ∙ simp (lt-ltb p.at (length p.out.now) h)))

pub text_past : (p : Page) (c : ℕ) → length p.out.now ≤ p.at → p ≡ with_text p (c ∷ [])
unfolding with_text
text_past p c h =
    same p (sym (written_one p.out.now p.at c ∙ set_out p.out.now p.at c h)) (sym (after_one (length p.out.now) p.at c ∙ simp (le-ltb p.at (length p.out.now) h)))

-- the digits of a byte are below 16
pub digit_high : (case : Case) (b : ℕ) → b < 256 → glyph_in case (b / 16 % 16) ≡ glyph_in case (b / 16)
digit_high case b h = ap (glyph_in case) (mod-eq_of_lt (omega arith))

-- the pieces of a loop
pub taken_more : (s : List ℕ) (i : ℕ) → i < length s → take (i + 1) s ≡ take i s ++ (get_or s i 0 ∷ [])
taken_more s i h = rw (add-one i) (take-suc s i 0 h)

pub pairs_none : pairs_of [] ≡ []
unfolding pairs_of
pairs_none = refl

pairs_append : (xs ys : List ℕ) → pairs_of (xs ++ ys) ≡ pairs_of xs ++ pairs_of ys
unfolding pairs_of
pairs_append [] ys = refl
pairs_append (x ∷ xs) ys = ap (λ (zs : List ℕ). pair_of x ++ zs) (pairs_append xs ys)

pub pairs_more : (s : List ℕ) (i : ℕ) → i < length s → pairs_of (take (i + 1) s) ≡ pairs_of (take i s) ++ pair_of (get_or s i 0)
unfolding pairs_of
pairs_more s i h =
    ap pairs_of (taken_more s i h) ∙ pairs_append (take i s) (get_or s i 0 ∷ [])
    ∙ ap (λ (zs : List ℕ). pairs_of (take i s) ++ zs) (append-nil (pair_of (get_or s i 0)))

-- what the check uses where text is added to a page, and what it uses in this crate besides
pub ruleset pages = (text_on, text_none)

pub ruleset first_pages = (pages, text_one, text_past, taken_more, pairs_none, pairs_more, digit_high)
