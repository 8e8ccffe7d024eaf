-- The search for a character of a kind, turn by turn and in std's word; texts are the same exactly if all their characters are; a part of a text.
use Rattle.std.specs.Prelude.{ℕ, suc, not, eqb, leb, Option, Some, None, MatchOption, slice_range, ◌⊎◌, cond, ◌+◌, ◌-◌, ◌<◌, ◌≤◌, ◌≡◌, refl, Bool, true, false, List, [], ◌∷◌, length, take, drop, get_or}
use Rattle.std.proofs.Common.{sym, ap, inl, inr, ◌∙◌, leb-true, leb-false, arith, drop_of_length-le}
use Rattle.std.proofs.Math.Numerals.{add-one}
use Rattle.std.proofs.Math.Seq.{drop-cons}
use borrow.Author.Tests.{eq-eqb, ne_eqb, eqb-true, le-leb, lt-leb}
use denote.Ref.{Bor}
use Rattle.std.specs.Option.{unwrap_or}
use Rattle.std.proofs.lemmas.Slice.Eq.{bytes_eq-Decides}
use Rattle.std.specs.List.{prefix_len}
use Rattle.lists.specs.Choice.{pick, and}
use Rattle.lists.specs.ChoiceLaws.{false_not_true}
use Rattle.text.specs.Words.{before, part_of, same_text}

module _ (kind : ℕ → Bool) (s : List ℕ) (i : ℕ) where
  -- a character of the kind ends the search
  pub before_stops : i < length s → kind (get_or s i 0) ≡ true → before kind (drop i s) ≡ 0
  unfolding before
  before_stops h e = rw (drop-cons s i 0 h) (simp e)

  -- any other is counted
  pub before_counts : i < length s → kind (get_or s i 0) ≡ false → before kind (drop i s) ≡ suc (before kind (drop (i + 1) s))
  unfolding before
  before_counts h e = rw (drop-cons s i 0 h, add-one i) (simp e)

  -- and so does the end of the text
  pub before_ends : length s ≤ i → before kind (drop i s) ≡ 0
  unfolding before
  before_ends h = rw (drop_of_length-le s h)

-- a search from a place on, which has come to place i
module _ (kind : ℕ → Bool) (s : List ℕ) (at i : ℕ) (inv : at + before kind (drop at s) ≡ i + before kind (drop i s)) where
  pub search_found : i < length s → kind (get_or s i 0) ≡ true → i ≡ at + before kind (drop at s)
  search_found h e = omega (arith, before_stops kind s i h e)

  pub search_on : i < length s → kind (get_or s i 0) ≡ false → at + before kind (drop at s) ≡ i + 1 + before kind (drop (i + 1) s)
  search_on h e = omega (arith, before_counts kind s i h e)

  pub search_over : length s ≤ i → i ≡ at + before kind (drop at s)
  search_over h = omega (arith, before_ends kind s i h)

-- how many characters stand before the first of a kind, in std's word
before_cons : (t : Bool) (m n : ℕ) → m ≡ n → cond (not t) (1 + m) 0 ≡ pick t 0 (suc n)
before_cons true m n e = refl
before_cons false m n e = omega (arith, e)

pub before_prefix : (kind : ℕ → Bool) (s : List ℕ) → prefix_len (λ c. not (kind c)) s ≡ before kind s
unfolding before
before_prefix kind [] = refl
before_prefix kind (c ∷ s) = before_cons (kind c) (prefix_len (λ x. not (kind x)) s) (before kind s) (before_prefix kind s)

-- the same text is the same list
same_cons : (x y : ℕ) (a b : List ℕ) → (same_text a b ≡ true → a ≡ b) → (t : Bool) → eqb x y ≡ t → and t (same_text a b) ≡ true → ◌≡◌ {A = List ℕ} (x ∷ a) (y ∷ b)
same_cons x y a b rest true q f = cc (rest f, eqb-true x y q)
same_cons x y a b rest false q f = false_not_true f

pub same_text_equal : (a b : List ℕ) → same_text a b ≡ true → a ≡ b
same_text_equal a b e = (bytes_eq-Decides a b).0 e

-- texts of different lengths differ
pub other_lengths_differ : (a b : List ℕ) → (length a ≡ length b → ⊥) → same_text a b ≡ false
other_lengths_differ a b h = go (same_text a b) refl
  where
    go : (t : Bool) → same_text a b ≡ t → t ≡ false
    go true e = absurd (h (ap length (same_text_equal a b e)))
    go false e = refl

module _ (a b : List ℕ) (i : ℕ) (h : i < length a) (g : i < length b) where
  pub same_on : get_or a i 0 ≡ get_or b i 0 → same_text (drop i a) (drop i b) ≡ same_text (drop (i + 1) a) (drop (i + 1) b)
  same_on e = rw (drop-cons a i 0 h, drop-cons b i 0 g, add-one i) (simp (eq-eqb _ _ e))

  pub same_not : (get_or a i 0 ≡ get_or b i 0 → ⊥) → same_text (drop i a) (drop i b) ≡ false
  same_not e = rw (drop-cons a i 0 h, drop-cons b i 0 g) (simp (ne_eqb _ _ e))

pub same_over : (a b : List ℕ) (i : ℕ) → length a ≡ length b → length a ≤ i → same_text (drop i a) (drop i b) ≡ true
same_over a b i e h = let g : length b ≤ i = omega arith in rw (drop_of_length-le a h, drop_of_length-le b g)

-- a part that lies in the text, and one that does not
module _ {A : Type 0} (s : List A) (from to : ℕ) where
  pub part_in : from ≤ to → to ≤ length s → part_of s from to ≡ take (to - from) (drop from s)
  unfolding part_of
  part_in h g = simp (le-leb _ _ h, le-leb _ _ g)

  pub part_turned : to < from → part_of s from to ≡ []
  unfolding part_of
  part_turned h = simp (lt-leb _ _ h)

  pub part_past : from ≤ to → length s < to → part_of s from to ≡ []
  unfolding part_of
  part_past h g = simp (le-leb _ _ h, lt-leb _ _ g)

  -- what `get` answers for the part, or nothing
  pub part_got : (o : Option (Bor (List A))) (none : Bor (List A)) → none.now ≡ []
      → MatchOption o ((to < from) ⊎ (length s < to)) (λ x. (from ≤ to) × (to ≤ length s) × (x.now ≡ slice_range s from to) × (length x.now + from ≡ to))
      → (unwrap_or o none).now ≡ part_of s from to
  part_got (Some x) none e h = h.2 ∙ sym (part_in h.0 h.1)
  part_got None none e (inl h) = e ∙ sym (part_turned h)
  part_got None none e (inr h) = e ∙ sym (go (leb from to) refl)
    where
      go : (t : Bool) → leb from to ≡ t → part_of s from to ≡ []
      go true q = part_past (leb-true _ _ q) h
      go false q = part_turned (leb-false _ _ q)
