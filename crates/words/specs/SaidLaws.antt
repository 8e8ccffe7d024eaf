-- What the next word says, from its place, its characters and what these are.
use Rattle.std.specs.Prelude.{ℕ, ◌≤◌, ◌<◌, ◌≡◌, Bool, true, false, List, length, Option, Some, None, Result, Ok, Err}
use Rattle.std.proofs.Common.{◌∙◌}
use borrow.Author.Tests.{lt-ltb, le-ltb}
use Rattle.text.specs.declared.word.LineWord.{LineWord}
use Rattle.digits.specs.declared.number.NumberError.{NumberError}
use Rattle.digits.specs.declared.number.NumberError.TheVariants.{NoNumber, TooLarge}
use Rattle.text.specs.Chars.{chars}
use Rattle.text.specs.Words.{word_from, part_of, same_text}
use Rattle.digits.specs.Numbers.{number_of, halves_of, quarter_of}
use Rattle.names.specs.Names.{protocol_named}
use Rattle.words.specs.Said.{number_at, byte_at, symbol_at, udid_at, fresh_at, protocol_at, pec_at, mark_at, rest_at}
use Rattle.words.specs.declared.word.Word.{Word}
use Rattle.words.specs.declared.word.MarkWord.TheVariants.{Mark, Over, Another}

module _ (line : List ℕ) (at : ℕ) (w : LineWord) (s : List ℕ) (e : w ≡ word_from line at) (f : s ≡ part_of line w.from w.to) where
  -- ---- a byte

  pub byte_is : (n : Result ℕ NumberError) (v : ℕ) → n ≡ number_of s → n ≡ Ok v → v < 256 → Ok (record { value = v; from = w.from; to = w.to }) ≡ byte_at line at
  unfolding number_at
  byte_is n v g h t = rw (← e, ← f, ← g, h, lt-ltb v 256 t)

  pub byte_large : (n : Result ℕ NumberError) (v : ℕ) → n ≡ number_of s → n ≡ Ok v → 256 ≤ v → Err w.from ≡ byte_at line at
  unfolding number_at
  byte_large n v g h t = rw (← e, ← f, ← g, h, le-ltb v 256 t)

  pub byte_none : (n : Result ℕ NumberError) → n ≡ number_of s → n ≡ Err NoNumber → Err w.from ≡ byte_at line at
  unfolding number_at
  byte_none n g h = rw (← e, ← f, ← g, h)

  pub byte_over : (n : Result ℕ NumberError) → n ≡ number_of s → n ≡ Err TooLarge → Err w.from ≡ byte_at line at
  unfolding number_at
  byte_over n g h = rw (← e, ← f, ← g, h)

  -- ---- a symbol

  pub symbol_is : (n : Result ℕ NumberError) (v : ℕ) → n ≡ number_of s → n ≡ Ok v → v < 65536 → Ok (record { value = v; from = w.from; to = w.to }) ≡ symbol_at line at
  unfolding number_at
  symbol_is n v g h t = rw (← e, ← f, ← g, h, lt-ltb v 65536 t)

  pub symbol_large : (n : Result ℕ NumberError) (v : ℕ) → n ≡ number_of s → n ≡ Ok v → 65536 ≤ v → Err w.from ≡ symbol_at line at
  unfolding number_at
  symbol_large n v g h t = rw (← e, ← f, ← g, h, le-ltb v 65536 t)

  pub symbol_none : (n : Result ℕ NumberError) → n ≡ number_of s → n ≡ Err NoNumber → Err w.from ≡ symbol_at line at
  unfolding number_at
  symbol_none n g h = rw (← e, ← f, ← g, h)

  pub symbol_over : (n : Result ℕ NumberError) → n ≡ number_of s → n ≡ Err TooLarge → Err w.from ≡ symbol_at line at
  unfolding number_at
  symbol_over n g h = rw (← e, ← f, ← g, h)

  -- ---- an identifier

  pub udid_is : (h : Option (ℕ × ℕ)) (x y : ℕ) → h ≡ halves_of s → h ≡ Some (x, y) → Ok (record { value = record { high = x; low = y }; from = w.from; to = w.to }) ≡ udid_at line at
  unfolding udid_at
  udid_is h x y g k = rw (← e, ← f, ← g, k)

  pub udid_none : (h : Option (ℕ × ℕ)) → h ≡ halves_of s → h ≡ None → Err w.from ≡ udid_at line at
  unfolding udid_at
  udid_none h g k = rw (← e, ← f, ← g, k)

  pub fresh_is : (q : Option ℕ) (x : ℕ) → q ≡ quarter_of s → q ≡ Some x → Ok (record { value = x; from = w.from; to = w.to }) ≡ fresh_at line at
  unfolding fresh_at
  fresh_is q x g k = rw (← e, ← f, ← g, k)

  pub fresh_none : (q : Option ℕ) → q ≡ quarter_of s → q ≡ None → Err w.from ≡ fresh_at line at
  unfolding fresh_at
  fresh_none q g k = rw (← e, ← f, ← g, k)

  -- ---- a protocol

  pub protocol_named_lem : (p : Option ℕ) (n : ℕ) → p ≡ protocol_named s → p ≡ Some n → Ok (record { value = n; from = w.from; to = w.to }) ≡ protocol_at line at
  unfolding protocol_at
  protocol_named_lem p n g k = rw (← e, ← f, ← g, k, ← e)

  pub protocol_numbered : (p : Option ℕ) (b : Result (Word ℕ) ℕ) → p ≡ protocol_named s → p ≡ None → b ≡ byte_at line at → b ≡ protocol_at line at
  unfolding protocol_at
  protocol_numbered p b g h k = k ∙ rw (← e, ← f, ← g, h)

  -- ---- p or -

  pub pec_with : (b : Bool) → b ≡ same_text s (chars "p") → b ≡ true → Ok (record { value = true; from = w.from; to = w.to }) ≡ pec_at line at
  unfolding pec_at
  pec_with b g k = rw (← e, ← f, ← g, k)

  pub pec_without : (b c : Bool) → b ≡ same_text s (chars "p") → b ≡ false → c ≡ same_text s (chars "-") → c ≡ true → Ok (record { value = false; from = w.from; to = w.to }) ≡ pec_at line at
  unfolding pec_at
  pec_without b c g k h l = rw (← e, ← f, ← g, k, ← h, l)

  pub pec_neither : (b c : Bool) → b ≡ same_text s (chars "p") → b ≡ false → c ≡ same_text s (chars "-") → c ≡ false → Err w.from ≡ pec_at line at
  unfolding pec_at
  pec_neither b c g k h l = rw (← e, ← f, ← g, k, ← h, l)

  -- ---- a mark

  pub mark_is : (mark : List ℕ) (b : Bool) → b ≡ same_text s mark → b ≡ true → Mark w.to ≡ mark_at line at mark
  unfolding mark_at
  mark_is mark b g k = rw (← e, ← f, ← g, k)

  pub mark_another : (mark : List ℕ) (b : Bool) → b ≡ same_text s mark → b ≡ false → w.from < length line → Another w.from ≡ mark_at line at mark
  unfolding mark_at
  mark_another mark b g k t = rw (← e, ← f, ← g, k, lt-ltb w.from (length line) t)

  pub mark_over : (mark : List ℕ) (b : Bool) → b ≡ same_text s mark → b ≡ false → length line ≤ w.from → Over w.from ≡ mark_at line at mark
  unfolding mark_at
  mark_over mark b g k t = rw (← e, ← f, ← g, k, le-ltb w.from (length line) t)

-- ---- the rest of the line

pub rest_word : (line : List ℕ) (at : ℕ) (w : LineWord) → w ≡ word_from line at → w.from < length line → Some w.from ≡ rest_at line at
unfolding rest_at
rest_word line at w e t = rw (← e, lt-ltb w.from (length line) t)

pub rest_none : (line : List ℕ) (at : ℕ) (w : LineWord) → w ≡ word_from line at → length line ≤ w.from → None ≡ rest_at line at
unfolding rest_at
rest_none line at w e t = rw (← e, le-ltb w.from (length line) t)
