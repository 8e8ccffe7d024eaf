-- What a call of hb_encode and of hb_encode_symbols gives, in the scope's numbers and in the parts of the struct of include/headboarded.h.
use Rattle.std.specs.Prelude.{◌≡◌, List, ℕ, ◌*◌, ◌/◌, length, take, drop}
use Rattle.std.proofs.Common.{sym, ap, ◌∙◌, arith}
use Rattle.std.proofs.Math.Decide.{ℕ_discrete}
use Rattle.trace.specs.Shapes.{shape_of}
use Rattle.trace.specs.Trace.{Message, trace}
use Rattle.encode.specs.Encode.{message, encoded}
use Rattle.c_codec.specs.declared.codec.HbWritten.{HbWritten}
use Rattle.c_codec.specs.Numbers.{truth}
use Rattle.pairs.specs.Pairs.{pairs_of}
use Rattle.c_codec.specs.Codec.{told, WrotePairs, WroteSymbols}
use Rattle.c_codec.specs.EncodeParts.{asked, EncodeAnswers, EncodesSymbols, EncodesPairs}
use Rattle.c_codec.specs.WrittenLaws as written

by_answer : {A : Type 0} (h : HbWritten) → (h.answer ≡ 0 → A) → ((h.answer ≡ 0 → ⊥) → A) → A
by_answer {A = A} h f g = go (ℕ_discrete h.answer 0)
  where
    go : Dec (h.answer ≡ 0) → A
    go (yes q) = f q
    go (no z) = g z

module _ (protocol pec address direction command : ℕ) (sent received : List ℕ) where
  abbrev t : Message
  t = asked address direction command sent received

  abbrev tr : List ℕ
  tr = trace (shape_of protocol) (truth pec) t

  encode_answers : (room : ℕ) (h : HbWritten) → h ≡ told (encoded protocol (truth pec) (message address direction command sent received) room) → EncodeAnswers protocol pec address direction command sent received room h
  encode_answers room h e = record {
    answer_1 = written.written_1 protocol (truth pec) t room h e;
    answer_2 = written.written_2 protocol (truth pec) t room h e;
    answer_0 = written.written_0 protocol (truth pec) t room h e;
    with_0 = written.written_length protocol (truth pec) t room h e;
    with_1_2 = λ z. (written.none_written protocol (truth pec) t room h e z).0;
  }

  pub hb_encode_symbols : (before : List ℕ) (h : HbWritten) (after : List ℕ)
      → WroteSymbols protocol (truth pec) (message address direction command sent received) before h after → EncodesSymbols protocol pec address direction command sent received before h after
  hb_encode_symbols before h after w =
      let a = encode_answers (length before) h w.answer in
      let o = written.symbols_out protocol (truth pec) t before h after w in
      let k = written.symbols_kept protocol (truth pec) t before h after w in
      let f : h.answer ≡ 0 → (length after ≡ length before) × (take (length tr) after ≡ tr) × (drop (length tr) after ≡ drop (length tr) before) =
      λ q. written.front_symbols tr before after (a.answer_0.0 q).1 (o q) in
      record {
        answered = a;
        same_length = by_answer h (λ q. (f q).0) (λ z. ap length (k z));
        front = λ q. ap (λ (n : ℕ). take n after) (a.with_0 q) ∙ (f q).1;
        rest = λ q. ap (λ (n : ℕ). drop n after) (a.with_0 q) ∙ (f q).2 ∙ ap (λ (n : ℕ). drop n before) (sym (a.with_0 q));
        untouched = k;
      }

  pub hb_encode : (before : List ℕ) (h : HbWritten) (after : List ℕ)
      → WrotePairs protocol (truth pec) (message address direction command sent received) before h after → EncodesPairs protocol pec address direction command sent received before h after
  hb_encode before h after w =
      let a = encode_answers (length before / 2) h w.answer in
      let o = written.pairs_out protocol (truth pec) t before h after w in
      let k = written.pairs_kept protocol (truth pec) t before h after w in
      let f : h.answer ≡ 0 → (length after ≡ length before) × (take (2 * length tr) after ≡ pairs_of tr) × (drop (2 * length tr) after ≡ drop (2 * length tr) before) =
      λ q. written.front_pairs tr before after (omega (arith, (a.answer_0.0 q).1)) (o q) in
      record {
        answered = a;
        same_length = by_answer h (λ q. (f q).0) (λ z. ap length (k z));
        low = λ q i l. (written.output_at tr before after (o q) i (omega (arith, a.with_0 q))).0;
        high = λ q i l. (written.output_at tr before after (o q) i (omega (arith, a.with_0 q))).1;
        rest = λ q. ap (λ (n : ℕ). drop (2 * n) after) (a.with_0 q) ∙ (f q).2 ∙ ap (λ (n : ℕ). drop (2 * n) before) (sym (a.with_0 q));
        untouched = k;
      }
