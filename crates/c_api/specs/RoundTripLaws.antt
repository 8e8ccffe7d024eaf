-- Demand 2 for C: what the encoder wrote the decoder gives back, and what the decoder accepted the encoder writes again.
use Rattle.std.specs.Prelude.{◌≡◌, refl, List, ℕ, ◌+◌, ◌*◌, ◌/◌, ◌%◌, ◌≤◌, ◌<◌, length, take, drop, get_or, replicate}
use Rattle.std.proofs.Common.{sym, ap, ap₂, ◌∙◌, subst, arith, take_at, get_or-take, length-take-le}
use Rattle.std.proofs.lemmas.List.{length-replicate}
use Rattle.lists.specs.Each.{Bytes}
use Rattle.lists.specs.Onto.{onto}
use Rattle.trace.specs.Shapes.{shape_of}
use Rattle.trace.specs.Table.{TraceOf}
use Rattle.trace.proofs.TableLaws.{listed_trace, quick_plain}
use Rattle.trace.specs.Trace.{Message, trace}
use Rattle.std.specs.Prelude.{Ok}
use Rattle.encode.specs.Encode.{message, encoded, Wrote}
use Rattle.encode.specs.Listed.{Listed}
use Rattle.encode.specs.EncodeLaws.{written_exactly, written_valid}
use Rattle.decode.specs.Outcome.{Outcome}
use Rattle.c_codec.specs.declared.answer.HbDecoded.{HbDecoded}
use Rattle.c_codec.specs.declared.codec.HbWritten.{HbWritten}
use Rattle.c_codec.specs.Numbers.{truth}
use Rattle.pairs.specs.Pairs.{pairs_of, symbols_in}
use Rattle.pairs.specs.PairLaws.{bytes_back, length_symbols}
use Rattle.c_codec.specs.Codec.{told, told_decoded, WrotePairs, WroteSymbols, ReadSymbols}
use Rattle.promises.specs.DemandsLaws.{of_bytes, demand_2}
use Rattle.c_codec.specs.DecodeParts.{Pairs, GivesBack}
use Rattle.c_codec.specs.EncodeParts.{asked}
use Rattle.c_codec.specs.EncodeCallLaws.{hb_encode, hb_encode_symbols}
use Rattle.c_codec.specs.DecodeCallLaws.{hb_decode, hb_decode_0, gives_back}
use Rattle.c_codec.specs.WrittenLaws as written

symbol_of_bytes : (x a b : ℕ) → a ≡ x % 256 → b ≡ x / 256 → x ≡ a + 256 * b
symbol_of_bytes x a b e f = omega arith

-- a call of the encoder, and one of the decoder on what it wrote
module _ (protocol pec address direction command : ℕ) (sent received : List ℕ) (c : command < 256) (bs : Bytes sent) (br : Bytes received) (before : List ℕ) (h : HbWritten) (after : List ℕ)
    (sent₀ received₀ : List ℕ) (hs : 255 ≤ length sent₀) (hr : 255 ≤ length received₀) (k : HbDecoded) (sent₁ received₁ : List ℕ) where
  abbrev asks : Message
  asks = asked address direction command sent received

  abbrev wrote : List ℕ
  wrote = trace (shape_of protocol) (truth pec) asks

  -- on the trace itself, which is written into any room that has it
  trace_gives_back : (Listed protocol (truth pec) asks → ⊥) → ReadSymbols protocol (truth pec) wrote sent₀ received₀ k sent₁ received₁
      → GivesBack address direction command sent received sent₀ received₀ k sent₁ received₁
  trace_gives_back n d =
      let zeros : List ℕ = replicate (length wrote) 0 in
      let e : encoded protocol (truth pec) asks (length zeros) ≡ Ok (length wrote) =
      (written_exactly protocol (truth pec) asks (length zeros) (length wrote)).1 (n, refl, omega (arith, length-replicate {A = ℕ} (length wrote) 0)) in
      let w : Wrote protocol (truth pec) asks zeros (Ok (length wrote)) (onto wrote zeros) = record { answer = sym e; output = refl } in
      let f : take (length wrote) (onto wrote zeros) ≡ wrote = take_at wrote (drop (length wrote) zeros) (length wrote) refl in
      let g =
      (demand_2 protocol (truth pec)).there asks zeros (Ok (length wrote)) (onto wrote zeros) (c, bs, br) w (length wrote) refl sent₀ received₀ d.answer sent₁ received₁ hs hr
      (subst (λ (l : List ℕ). Outcome protocol (truth pec) l sent₀ received₀ d.answer sent₁ received₁) (sym f) d.outcome) in
      gives_back protocol asks sent₀ received₀ k sent₁ received₁ (d.is_told ∙ ap told_decoded g.0) g.1 g.2

  -- hb_encode_symbols, then hb_decode_symbols on the symbols that it wrote: every field comes back
  pub hb_symbols_back : WroteSymbols protocol (truth pec) (message address direction command sent received) before h after → h.answer ≡ 0
      → ReadSymbols protocol (truth pec) (take h.symbols after) sent₀ received₀ k sent₁ received₁
      → GivesBack address direction command sent received sent₀ received₀ k sent₁ received₁
  hb_symbols_back w q d =
      let e = hb_encode_symbols protocol pec address direction command sent received before h after w in
      trace_gives_back (e.answered.answer_0.0 q).0 (subst (λ (l : List ℕ). ReadSymbols protocol (truth pec) l sent₀ received₀ k sent₁ received₁) (e.front q) d)

  -- hb_encode, then hb_decode on the bytes that it wrote: every field comes back
  pub hb_pairs_back : WrotePairs protocol (truth pec) (message address direction command sent received) before h after → h.answer ≡ 0
      → ReadSymbols protocol (truth pec) (symbols_in (length (take (2 * h.symbols) after) / 2) (take (2 * h.symbols) after)) sent₀ received₀ k sent₁ received₁
      → GivesBack address direction command sent received sent₀ received₀ k sent₁ received₁
  hb_pairs_back w q d =
      let e = hb_encode protocol pec address direction command sent received before h after w in
      let l : h.symbols ≡ length wrote = e.answered.with_0 q in
      let r = (e.answered.answer_0.0 q).1 in
      let n : length (take (2 * h.symbols) after) / 2 ≡ h.symbols =
      omega (arith, length-take-le (2 * h.symbols) after (omega (arith, e.same_length, l, r))) in
      let p : Pairs (take (2 * h.symbols) after) wrote = record {
        count = sym l ∙ sym n;
        each = λ i g. (
            let g' : i < h.symbols = omega (arith, n) in
            let x : get_or (take (2 * h.symbols) after) (2 * i) 0 ≡ get_or wrote i 0 % 256 = get_or-take (2 * h.symbols) after (2 * i) 0 (omega arith) ∙ e.low q i g' in
            let y : get_or (take (2 * h.symbols) after) (2 * i + 1) 0 ≡ get_or wrote i 0 / 256 = get_or-take (2 * h.symbols) after (2 * i + 1) 0 (omega arith) ∙ e.high q i g' in
            symbol_of_bytes (get_or wrote i 0) _ _ x y
            );
      } in
      trace_gives_back (e.answered.answer_0.0 q).0 (hb_decode protocol pec (take (2 * h.symbols) after) wrote sent₀ received₀ k sent₁ received₁ p d)

-- a call of the decoder that answers 0, and one of the encoder on what it handed back
module _ (protocol pec : ℕ) (tr sent₀ received₀ : List ℕ) (h : HbDecoded) (sent received : List ℕ) (d : ReadSymbols protocol (truth pec) tr sent₀ received₀ h sent received) (q : h.answer ≡ 0) where
  abbrev handed : Message
  handed = message h.address h.direction h.command (take h.sent sent) (take h.received received)

  handed_message : (m : Message) × TraceOf protocol (truth pec) m tr × (handed ≡ m)
  handed_message =
      let k = hb_decode_0 protocol pec tr sent₀ received₀ h sent received d q in
      let m = k.0 in
      let g = k.2 in
      let s : take h.sent sent ≡ m.sent = ap₂ take g.sent_length_lem g.sent_data ∙ take_at m.sent (drop (length m.sent) sent₀) (length m.sent) refl in
      let r : take h.received received ≡ m.received = ap₂ take g.received_length_lem g.received_data ∙ take_at m.received (drop (length m.received) received₀) (length m.received) refl in
      (m, k.1, λ i. record { address = g.address_is i; direction = g.direction_is_lem i; command = g.command_is_lem i; sent = s i; received = r i })

  -- the encoder's answer for it, and its trace
  encodes_again : (room : ℕ) → length tr ≤ room → (encoded protocol (truth pec) handed room ≡ Ok (length tr)) × (trace (shape_of protocol) (truth pec) handed ≡ tr)
  encodes_again room l =
      let a = handed_message in
      let m = a.0 in
      let t = a.1 in
      let v = listed_trace protocol (truth pec) m tr t in
      let b = of_bytes protocol (truth pec) m tr t in (
        ap (λ (x : Message). encoded protocol (truth pec) x room) a.2
            ∙ (written_valid protocol (truth pec) m room (length tr) b.0 b.1 b.2).1 (v.0, λ z. quick_plain (truth pec) _ t.0 t.1 (t.2 ∙ z), v.1, ap length v.2, l),
        ap (trace (shape_of protocol) (truth pec)) a.2 ∙ sym v.2,
      )

  pub hb_symbols_again : (before : List ℕ) → length tr ≤ length before → (w : HbWritten) (after : List ℕ)
      → WroteSymbols protocol (truth pec) (message h.address h.direction h.command (take h.sent sent) (take h.received received)) before w after
      → (w.answer ≡ 0) × (w.symbols ≡ length tr) × (take (length tr) after ≡ tr)
  hb_symbols_again before l w after v =
      let a = encodes_again (length before) l in
      let e : w ≡ told (Ok (length tr)) = v.answer ∙ ap told a.0 in
      let z : w.answer ≡ 0 = ap (λ (x : HbWritten). x.answer) e in
      let n : w.symbols ≡ length tr = ap (λ (x : HbWritten). x.symbols) e in
      let f = hb_encode_symbols protocol pec h.address h.direction h.command (take h.sent sent) (take h.received received) before w after v in
      (z, n, ap (λ (i : ℕ). take i after) (sym n) ∙ f.front z ∙ a.1)

pub hb_pairs_again : (protocol pec : ℕ) (bytes sent₀ received₀ : List ℕ) → Bytes bytes → (h : HbDecoded) (sent received : List ℕ)
    → ReadSymbols protocol (truth pec) (symbols_in (length bytes / 2) bytes) sent₀ received₀ h sent received → h.answer ≡ 0
    → (before : List ℕ) → length bytes / 2 ≤ length before / 2 → (w : HbWritten) (after : List ℕ)
    → WrotePairs protocol (truth pec) (message h.address h.direction h.command (take h.sent sent) (take h.received received)) before w after
    → (w.answer ≡ 0) × (w.symbols ≡ length bytes / 2) × (take (2 * w.symbols) after ≡ take (2 * w.symbols) bytes)
hb_pairs_again protocol pec bytes sent₀ received₀ b h sent received d q before l w after v =
    let n : ℕ = length bytes / 2 in
    let tr : List ℕ = symbols_in n bytes in
    let m : Message = message h.address h.direction h.command (take h.sent sent) (take h.received received) in
    let k : length tr ≡ n = length_symbols n bytes in
    let a = encodes_again protocol pec tr sent₀ received₀ h sent received d q (length before / 2) (omega (arith, k)) in
    let e : w ≡ told (Ok (length tr)) = v.answer ∙ ap told a.0 in
    let z : w.answer ≡ 0 = ap (λ (x : HbWritten). x.answer) e in
    let s : w.symbols ≡ n = ap (λ (x : HbWritten). x.symbols) e ∙ k in
    let o : after ≡ onto (pairs_of tr) before = written.pairs_out protocol (truth pec) m before w after v z ∙ ap (λ (x : List ℕ). onto (pairs_of x) before) a.1 in
    let f = written.front_pairs tr before after (omega (arith, k)) o in
    let g : 2 * w.symbols ≡ 2 * length tr = omega (arith, s, k) in
    let i : 2 * n ≡ 2 * w.symbols = omega (arith, s) in
    (z, s, ap (λ (x : ℕ). take x after) g ∙ f.1 ∙ bytes_back n bytes b (omega arith) ∙ ap (λ (x : ℕ). take x bytes) i)
