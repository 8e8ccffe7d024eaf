-- The table has a row for each name, and no other. Which word of a text a word is, one word at a time.
use Rattle.std.specs.Prelude.{ℕ, suc, ◌+◌, ◌≤◌, ◌<◌, ◌≡◌, refl, Bool, true, false, List, length, Some, None}
use borrow.Author.Tests.{lt-ltb, le-ltb}
use Rattle.text.specs.Chars.{chars}
use Rattle.text.specs.Words.{before, start_from, word_from, part_of, same_text}
use Rattle.text.specs.declared.word.LineWord.{LineWord}
use Rattle.trace.specs.Shapes.{protocols}
use Rattle.names.specs.Names.{place_in, names, protocol_named, words_in}

-- ---- the names and the table

pub as_many_as_rows : words_in 255 names 0 ≡ protocols
unfolding words_in word_from start_from before
as_many_as_rows = refl

-- two of them
pub quick_is_0 : protocol_named (chars "quick") ≡ Some 0
unfolding protocol_named place_in word_from start_from before part_of
quick_is_0 = refl

pub block_process_call_is_10 : protocol_named (chars "block_process_call") ≡ Some 10
unfolding protocol_named place_in word_from start_from before part_of
block_process_call_is_10 = refl

-- ---- word by word

module _ (text s : List ℕ) (at k n m : ℕ) (left : n ≡ suc m) (w : LineWord) (e : w ≡ word_from text at) where
  pub place_over : length text ≤ w.from → place_in n text s at k ≡ None
  unfolding place_in
  place_over h = rw (left, ← e, le-ltb w.from (length text) h)

  module _ (h : w.from < length text) (p : List ℕ) (f : p ≡ part_of text w.from w.to) (b : Bool) (g : b ≡ same_text p s) where
    pub place_here : b ≡ true → place_in n text s at k ≡ Some k
    unfolding place_in
    place_here q = rw (left, ← e, lt-ltb w.from (length text) h, ← f, ← g, q)

    pub place_on : b ≡ false → place_in n text s at k ≡ place_in m text s w.to (k + 1)
    unfolding place_in
    place_on q = rw (left, ← e, lt-ltb w.from (length text) h, ← f, ← g, q)

pub place_full : (text s : List ℕ) (at k n : ℕ) → n ≡ 0 → place_in n text s at k ≡ None
unfolding place_in
place_full text s at k n h = rw h
