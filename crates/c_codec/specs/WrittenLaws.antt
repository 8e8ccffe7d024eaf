-- What the encoder's answer for C means, whatever the room is counted in, and what stands in the output.
use Rattle.std.specs.Prelude.{◌≡◌, refl, Bool, ◌↔◌, ℕ, ◌+◌, ◌*◌, ◌/◌, ◌%◌, ◌≤◌, ◌<◌, length, take, drop, get_or}
use Rattle.std.proofs.Common.{sym, ◌∙◌, arith, take_at, drop_at}
use Rattle.std.proofs.Math.Path.{ap}
use mathlib.Core.List.{List, []}
use Rattle.std.proofs.Math.ListN.{get_or-append}
use Rattle.lists.specs.Onto.{onto}
use Rattle.lists.specs.OntoLaws.{length_onto}
use Rattle.trace.specs.Shapes.{shape_of}
use Rattle.trace.specs.Trace.{Message, trace}
use Rattle.encode.specs.Encode.{Encoded}
use Rattle.std.specs.Prelude.{Ok, Err}
use Rattle.encode.specs.declared.EncodeError.TheVariants.{Forbidden, OutputTooShort}
use Rattle.encode.specs.Encode.{encoded, symbols_of}
use Rattle.encode.specs.Listed.{Listed}
use Rattle.encode.specs.EncodeLaws.{forbidden_exactly, too_short_exactly, written_exactly}
use Rattle.c_codec.specs.declared.codec.HbWritten.{HbWritten}
use Rattle.pairs.specs.Pairs.{pairs_of}
use Rattle.pairs.specs.PairLaws.{pair_at, length_pairs}
use Rattle.c_codec.specs.Codec.{told, WrotePairs, WroteSymbols}

-- the case of each number
is_written : (r : Encoded) → (told r).answer ≡ 0 → r ≡ Ok (told r).symbols
is_written (Ok n) e = refl
is_written (Err Forbidden) e = absurd (omega arith)
is_written (Err OutputTooShort) e = absurd (omega arith)

pub is_forbidden : (r : Encoded) → (told r).answer ≡ 1 → r ≡ Err Forbidden
is_forbidden (Ok n) e = absurd (omega arith)
is_forbidden (Err Forbidden) e = refl
is_forbidden (Err OutputTooShort) e = absurd (omega arith)

is_short_lem : (r : Encoded) → (told r).answer ≡ 2 → r ≡ Err OutputTooShort
is_short_lem (Ok n) e = absurd (omega arith)
is_short_lem (Err Forbidden) e = absurd (omega arith)
is_short_lem (Err OutputTooShort) e = refl

no_symbols : (r : Encoded) (tr : List ℕ) → ((told r).answer ≡ 0 → ⊥) → ((told r).symbols ≡ 0) × (symbols_of r tr ≡ [])
no_symbols (Ok n) tr z = absurd (z refl)
no_symbols (Err Forbidden) tr z = (refl, refl)
no_symbols (Err OutputTooShort) tr z = (refl, refl)

module _ (protocol : ℕ) (pec : Bool) (t : Message) (room : ℕ) (h : HbWritten) (e : h ≡ told (encoded protocol pec t room)) where
  answer_is : h.answer ≡ (told (encoded protocol pec t room)).answer
  answer_is = ap (λ (x : HbWritten). x.answer) e

  symbols_is : h.symbols ≡ (told (encoded protocol pec t room)).symbols
  symbols_is = ap (λ (x : HbWritten). x.symbols) e

  -- 1 exactly in the listed cases
  pub written_1 : (h.answer ≡ 1) ↔ Listed protocol pec t
  written_1 =
      let f = forbidden_exactly protocol pec t room in
      (λ q. f.0 (is_forbidden (encoded protocol pec t room) (sym answer_is ∙ q)), λ l. answer_is ∙ ap (λ (x : Encoded). (told x).answer) (f.1 l))

  -- 2 exactly where no case is listed and the trace is longer than the room
  pub written_2 : (h.answer ≡ 2) ↔ ((Listed protocol pec t → ⊥) × (room < length (trace (shape_of protocol) pec t)))
  written_2 =
      let f = too_short_exactly protocol pec t room in
      (λ q. f.0 (is_short_lem (encoded protocol pec t room) (sym answer_is ∙ q)), λ l. answer_is ∙ ap (λ (x : Encoded). (told x).answer) (f.1 l))

  -- with 0 the symbols are those of the trace
  pub is_trace : h.answer ≡ 0 → encoded protocol pec t room ≡ Ok (length (trace (shape_of protocol) pec t))
  is_trace q =
      let w = is_written (encoded protocol pec t room) (sym answer_is ∙ q) in
      w ∙ ap Ok ((written_exactly protocol pec t room (told (encoded protocol pec t room)).symbols).0 w).1

  pub written_length : h.answer ≡ 0 → h.symbols ≡ length (trace (shape_of protocol) pec t)
  written_length q = symbols_is ∙ ap (λ (x : Encoded). (told x).symbols) (is_trace q)

  -- 0 exactly where no case is listed and there is room
  pub written_0 : (h.answer ≡ 0) ↔ ((Listed protocol pec t → ⊥) × (length (trace (shape_of protocol) pec t) ≤ room))
  written_0 =
      let f = written_exactly protocol pec t room (length (trace (shape_of protocol) pec t)) in
      (λ q. let w = f.0 (is_trace q) in (w.0, w.2), λ l. answer_is ∙ ap (λ (x : Encoded). (told x).answer) (f.1 (l.0, refl, l.1)))

  -- a refusal has no symbols, and nothing is written
  pub none_written : (h.answer ≡ 0 → ⊥) → (h.symbols ≡ 0) × (symbols_of (encoded protocol pec t room) (trace (shape_of protocol) pec t) ≡ [])
  none_written z =
      let k = no_symbols (encoded protocol pec t room) (trace (shape_of protocol) pec t) (λ q. z (answer_is ∙ q)) in
      (symbols_is ∙ k.0, k.1)

-- ---- the output, in symbols
module _ (protocol : ℕ) (pec : Bool) (t : Message) (before : List ℕ) (h : HbWritten) (after : List ℕ) (w : WroteSymbols protocol pec t before h after) where
  pub symbols_out : h.answer ≡ 0 → after ≡ onto (trace (shape_of protocol) pec t) before
  symbols_out q =
      w.output
      ∙ ap (λ (x : Encoded). onto (symbols_of x (trace (shape_of protocol) pec t)) before) (is_trace protocol pec t (length before) h w.answer q)

  pub symbols_kept : (h.answer ≡ 0 → ⊥) → after ≡ before
  symbols_kept z = w.output ∙ ap (λ (x : List ℕ). onto x before) (none_written protocol pec t (length before) h w.answer z).1

-- ---- the output, in pairs
module _ (protocol : ℕ) (pec : Bool) (t : Message) (before : List ℕ) (h : HbWritten) (after : List ℕ) (w : WrotePairs protocol pec t before h after) where
  pub pairs_out : h.answer ≡ 0 → after ≡ onto (pairs_of (trace (shape_of protocol) pec t)) before
  pairs_out q =
      w.output
      ∙ ap (λ (x : Encoded). onto (pairs_of (symbols_of x (trace (shape_of protocol) pec t))) before) (is_trace protocol pec t (length before / 2) h w.answer q)

  pub pairs_kept : (h.answer ≡ 0 → ⊥) → after ≡ before
  unfolding pairs_of
  pairs_kept z = w.output ∙ ap (λ (x : List ℕ). onto (pairs_of x) before) (none_written protocol pec t (length before / 2) h w.answer z).1

-- ---- what stands at the front, place by place, and behind it

pub front_symbols : (tr before after : List ℕ) → length tr ≤ length before → after ≡ onto tr before
    → (length after ≡ length before) × (take (length tr) after ≡ tr) × (drop (length tr) after ≡ drop (length tr) before)
front_symbols tr before after k e = (
  ap length e ∙ length_onto tr before k,
  ap (take (length tr)) e ∙ take_at tr (drop (length tr) before) (length tr) refl,
  ap (drop (length tr)) e ∙ drop_at tr (drop (length tr) before) (length tr) refl,
)

pub front_pairs : (tr before after : List ℕ) → 2 * length tr ≤ length before → after ≡ onto (pairs_of tr) before
    → (length after ≡ length before) × (take (2 * length tr) after ≡ pairs_of tr) × (drop (2 * length tr) after ≡ drop (2 * length tr) before)
front_pairs tr before after k e =
    let n : length (pairs_of tr) ≡ 2 * length tr = length_pairs tr in
    let f = front_symbols (pairs_of tr) before after (omega (arith, n)) e in (
      f.0,
      ap (λ (i : ℕ). take i after) (sym n) ∙ f.1,
      ap (λ (i : ℕ). drop i after) (sym n) ∙ f.2 ∙ ap (λ (i : ℕ). drop i before) n,
    )

-- byte 2 i and byte 2 i + 1 of the output are the low and the high byte of symbol i
pub output_at : (tr before after : List ℕ) → after ≡ onto (pairs_of tr) before → (i : ℕ) → i < length tr
    → (get_or after (2 * i) 0 ≡ get_or tr i 0 % 256) × (get_or after (2 * i + 1) 0 ≡ get_or tr i 0 / 256)
output_at tr before after e i h =
    let n : length (pairs_of tr) ≡ 2 * length tr = length_pairs tr in
    let p = pair_at tr i h in
    let rest : List ℕ = drop (length (pairs_of tr)) before in (
      ap (λ (l : List ℕ). get_or l (2 * i) 0) e ∙ get_or-append (pairs_of tr) rest 0 (2 * i) (omega (arith, n)) ∙ p.0,
      ap (λ (l : List ℕ). get_or l (2 * i + 1) 0) e ∙ get_or-append (pairs_of tr) rest 0 (2 * i + 1) (omega (arith, n)) ∙ p.1,
    )
