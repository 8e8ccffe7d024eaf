-- The encoder for C in the parts of its struct: when each answer is given, and what the output holds then.
use Rattle.std.specs.Prelude.{◌≡◌, List, ◌↔◌, ℕ, ◌+◌, ◌*◌, ◌/◌, ◌%◌, ◌≤◌, ◌<◌, length, take, drop, get_or}
use Rattle.trace.specs.Shapes.{shape_of}
use Rattle.trace.specs.Trace.{Message, trace}
use Rattle.encode.specs.Listed.{Listed}
use Rattle.c_codec.specs.declared.codec.HbWritten.{HbWritten}
use Rattle.c_codec.specs.Numbers.{truth}

-- what the encoder is given
abbrev pub asked : ℕ → ℕ → ℕ → List ℕ → List ℕ → Message
asked address direction command sent received =
    record { address = address; direction = direction; command = command; sent = sent; received = received }

module _ (protocol pec address direction command : ℕ) (sent received : List ℕ) where
  abbrev t : Message
  t = asked address direction command sent received

  abbrev tr : List ℕ
  tr = trace (shape_of protocol) (truth pec) t

  -- 1 exactly in the listed cases; 2 exactly where none is listed and the room, in symbols, is shorter than the trace; else 0 with its length
  pub record EncodeAnswers (room : ℕ) (h : HbWritten) : Type 0 where
    pub answer_1 : (h.answer ≡ 1) ↔ Listed protocol (truth pec) t
    pub answer_2 : (h.answer ≡ 2) ↔ ((Listed protocol (truth pec) t → ⊥) × (room < length tr))
    pub answer_0 : (h.answer ≡ 0) ↔ ((Listed protocol (truth pec) t → ⊥) × (length tr ≤ room))
    pub with_0 : h.answer ≡ 0 → h.symbols ≡ length tr
    pub with_1_2 : (h.answer ≡ 0 → ⊥) → h.symbols ≡ 0

  -- hb_encode_symbols: with 0 the trace stands at the front of the output and the rest is as it was; with 1 and 2 all of it is
  pub record EncodesSymbols (before : List ℕ) (h : HbWritten) (after : List ℕ) : Type 0 where
    pub answered : EncodeAnswers (length before) h
    pub same_length : length after ≡ length before
    pub front : h.answer ≡ 0 → take h.symbols after ≡ tr
    pub rest : h.answer ≡ 0 → drop h.symbols after ≡ drop h.symbols before
    pub untouched : (h.answer ≡ 0 → ⊥) → after ≡ before

  -- hb_encode: the same, with symbol i as byte 2 i, the low one, and byte 2 i + 1, the high one
  pub record EncodesPairs (before : List ℕ) (h : HbWritten) (after : List ℕ) : Type 0 where
    pub answered : EncodeAnswers (length before / 2) h
    pub same_length : length after ≡ length before
    pub low : h.answer ≡ 0 → (i : ℕ) → i < h.symbols → get_or after (2 * i) 0 ≡ get_or tr i 0 % 256
    pub high : h.answer ≡ 0 → (i : ℕ) → i < h.symbols → get_or after (2 * i + 1) 0 ≡ get_or tr i 0 / 256
    pub rest : h.answer ≡ 0 → drop (2 * h.symbols) after ≡ drop (2 * h.symbols) before
    pub untouched : (h.answer ≡ 0 → ⊥) → after ≡ before
