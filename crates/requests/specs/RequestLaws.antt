-- What a line means, from what its words say.
use Rattle.std.specs.Prelude.{ℕ, ◌≤◌, ◌<◌, ◌≡◌, refl, List, length, Option, Ok}
use borrow.Author.Tests.{lt-ltb, le-ltb, le-leb, lt-leb}
use Rattle.text.specs.declared.word.LineWord.{LineWord}
use Rattle.text.specs.Chars.{chars}
use Rattle.text.specs.Words.{word_from, part_of}
use Rattle.words.specs.Verbs.{verb_of}
use Rattle.words.specs.Said.{mark_at}
use Rattle.requests.specs.Clear.{unclear, after}
use Rattle.requests.specs.Lists.{bytes_end, symbols_end}
use Rattle.requests.specs.Requests.{Asked, symbols_to, pec_request, occupied_request, head_at, fields_at, sent_at, received_at, encode_request, decode_request, request_is, request_of}
use Rattle.requests.specs.declared.expected.Expected.TheVariants as expected
use Rattle.words.specs.declared.verb.Verb.{Verb}
use Rattle.words.specs.declared.word.Word.{Word}
use Rattle.words.specs.declared.word.MarkWord.{MarkWord}
use Rattle.words.specs.declared.word.MarkWord.TheVariants.{Mark, Over, Another}
use Rattle.requests.specs.declared.request.Head.{Head}
use Rattle.requests.specs.declared.request.Fields.{Fields}
use Rattle.requests.specs.declared.request.Request.TheVariants.{Nothing, Pec, Encode, Decode, Occupied}

-- ---- a list to the end of the line

module _ (line : List ℕ) (at end : ℕ) (e : end ≡ bytes_end (length line) line at) where
  pub pec_unclear : end < length line → unclear expected.Byte end ≡ pec_request line at
  unfolding pec_request
  pec_unclear t = rw (← e, lt-ltb end (length line) t)

  pub pec_is_lem : length line ≤ end → Ok (Pec at) ≡ pec_request line at
  unfolding pec_request
  pec_is_lem t = rw (← e, le-ltb end (length line) t)

  pub occupied_unclear : end < length line → unclear expected.Byte end ≡ occupied_request line at
  unfolding occupied_request
  occupied_unclear t = rw (← e, lt-ltb end (length line) t)

  pub occupied_is : length line ≤ end → Ok (Occupied at) ≡ occupied_request line at
  unfolding occupied_request
  occupied_is t = rw (← e, le-ltb end (length line) t)

module _ {A : Type 0} (q : A) (line : List ℕ) (at end : ℕ) (e : end ≡ symbols_end (length line) line at) where
  pub symbols_unclear : end < length line → unclear expected.Symbol end ≡ symbols_to line at q
  symbols_unclear t = rw (← e, lt-ltb end (length line) t)

  pub symbols_are : length line ≤ end → Ok q ≡ symbols_to line at q
  symbols_are t = rw (← e, le-ltb end (length line) t)

-- what decode asks for after its head
abbrev pub decode_trace : Head → List ℕ → ℕ → Asked
decode_trace h line at = symbols_to line at (Decode h at)

pub decode_traced : (line : List ℕ) (at : ℕ) → decode_request line at ≡ after (head_at line at) (λ (h : Word Head). decode_trace h.value line h.to)
unfolding decode_request
decode_traced line at = refl

module _ (h : Head) (line : List ℕ) (at end : ℕ) (e : end ≡ symbols_end (length line) line at) where
  pub decode_unclear : end < length line → unclear expected.Symbol end ≡ decode_trace h line at
  decode_unclear t = rw (← e, lt-ltb end (length line) t)

  pub decode_is : length line ≤ end → Ok (Decode h at) ≡ decode_trace h line at
  decode_is t = rw (← e, le-ltb end (length line) t)

-- ---- the bytes that are received

-- what encode asks for after the bytes that are sent
abbrev pub encode_received : Head → Fields → ℕ → List ℕ → ℕ → Asked
encode_received h f sent line at = after (received_at line at) (λ (r : ℕ). Ok (Encode h f sent r))

pub encode_receives : (line : List ℕ) (at : ℕ)
    → encode_request line at
    ≡ after (head_at line at) (λ (h : Word Head). after (fields_at line h.to) (λ (f : Word Fields). after (sent_at line f.to) (λ (s : ℕ × ℕ). encode_received h.value f.value s.0 line s.1)))
unfolding encode_request
encode_receives line at = refl

module _ (h : Head) (f : Fields) (sent : ℕ) (line : List ℕ) (at : ℕ) (m : MarkWord) (e : m ≡ mark_at line at (chars "r")) where
  pub received_unclear : (next end : ℕ) → m ≡ Mark next → end ≡ bytes_end (length line) line next → end < length line
      → unclear expected.Byte end ≡ encode_received h f sent line at
  unfolding received_at
  received_unclear next end g k t = rw (← e, g, ← k, lt-ltb end (length line) t)

  pub received_is_lem : (next end : ℕ) → m ≡ Mark next → end ≡ bytes_end (length line) line next → length line ≤ end
      → Ok (Encode h f sent next) ≡ encode_received h f sent line at
  unfolding received_at
  received_is_lem next end g k t = rw (← e, g, ← k, le-ltb end (length line) t)

  pub received_over : (place : ℕ) → m ≡ Over place → Ok (Encode h f sent place) ≡ encode_received h f sent line at
  unfolding received_at
  received_over place g = rw (← e, g)

  pub received_another : (place : ℕ) → m ≡ Another place → unclear expected.Received place ≡ encode_received h f sent line at
  unfolding received_at
  received_another place g = rw (← e, g)

-- ---- a line

pub request_none : (line : List ℕ) (w : LineWord) → w ≡ word_from line 0 → w.to ≤ w.from → Ok Nothing ≡ request_of line
unfolding request_of
request_none line w e t = rw (← e, le-leb w.to w.from t)

-- of a verb, and of a word that is none
pub request_is_lem : (line : List ℕ) (w : LineWord) (s : List ℕ) (v : Option Verb) (q : Asked) → w ≡ word_from line 0 → w.from < w.to
    → s ≡ part_of line w.from w.to → v ≡ verb_of s → q ≡ request_is v line w.from w.to → q ≡ request_of line
unfolding request_of
request_is_lem line w s v q e t f g k = rw (← e, lt-leb w.to w.from t, ← f, ← g, k)
