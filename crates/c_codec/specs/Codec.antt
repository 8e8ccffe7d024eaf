-- The codec for C: the same answers as numbers; over byte pairs, the room in pairs and the symbols as pairs.
use Rattle.std.specs.Prelude.{◌≡◌, Bool, List, ℕ, ◌/◌, length, Ok, Err}
use Rattle.lists.specs.Onto.{onto}
use Rattle.trace.specs.Shapes.{shape_of}
use Rattle.trace.specs.Trace.{Message, trace}
use Rattle.encode.specs.Encode.{Encoded}
use Rattle.encode.specs.Encode.{encode_number, encoded, symbols_of}
use Rattle.scan.specs.Numbers.{refusal_number}
use Rattle.scan.specs.Decoded.{Decoded}
use Rattle.decode.specs.Outcome.{Outcome}
use Rattle.c_codec.specs.declared.answer.HbDecoded.{HbDecoded}
use Rattle.c_codec.specs.declared.codec.HbWritten.{HbWritten}
use Rattle.pairs.specs.Pairs.{pairs_of}

abbrev pub answer_of : ℕ → ℕ → HbWritten
answer_of a n = record { answer = a; symbols = n }

abbrev pub told : Encoded → HbWritten
told r = answer_of (encode_number r).0 (encode_number r).1

pub record WrotePairs (protocol : ℕ) (pec : Bool) (t : Message) (before : List ℕ) (r : HbWritten) (after : List ℕ) : Type 0 where
  pub answer : r ≡ told (encoded protocol pec t (length before / 2))
  pub output : after ≡ onto (pairs_of (symbols_of (encoded protocol pec t (length before / 2)) (trace (shape_of protocol) pec t))) before

-- the same on symbols as they are
pub record WroteSymbols (protocol : ℕ) (pec : Bool) (t : Message) (before : List ℕ) (r : HbWritten) (after : List ℕ) : Type 0 where
  pub answer : r ≡ told (encoded protocol pec t (length before))
  pub output : after ≡ onto (symbols_of (encoded protocol pec t (length before)) (trace (shape_of protocol) pec t)) before

-- the decoder's answer as numbers
abbrev pub refusal_of : ℕ → ℕ → HbDecoded
refusal_of a v = record { answer = a; address = 0; direction = 0; command = 0; value = v; sent = 0; received = 0 }

abbrev pub told_decoded : Decoded → HbDecoded
told_decoded (Ok t) =
    record { answer = 0; address = t.address.0; direction = t.direction; command = t.command; value = 0; sent = t.sent; received = t.received }
told_decoded (Err e) = refusal_of (refusal_number e.why) e.place

-- a call of the decoder on symbols tr: the answer as numbers of an outcome of decode
pub record ReadSymbols (protocol : ℕ) (pec : Bool) (tr sent₀ received₀ : List ℕ) (h : HbDecoded) (sent received : List ℕ) : Type 0 where
  pub answer : Decoded
  pub outcome : Outcome protocol pec tr sent₀ received₀ answer sent received
  pub is_told : h ≡ told_decoded answer
