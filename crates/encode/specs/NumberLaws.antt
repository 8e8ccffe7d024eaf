-- The encoder's numbers, each if and only if its case, over the table of the protocols (trace/specs/Table), and what the output holds then.
use Rattle.std.specs.Prelude.{◌≡◌, refl, Bool, true, false, List, ◌++◌, ◌↔◌, ℕ, ◌≤◌, ◌<◌, length, drop}
use Rattle.std.proofs.Common.{sym, ap, ◌∙◌, subst, arith}
use Rattle.lists.specs.ChoiceLaws.{not_both}
use Rattle.lists.specs.Each.{Bytes}
use Rattle.trace.specs.Shapes.{shape_of}
use Rattle.trace.specs.Table.{TraceOf}
use Rattle.trace.proofs.TableLaws.{listed_trace, trace_listed, quick_plain}
use Rattle.trace.specs.Trace.{Message, trace}
use Rattle.encode.specs.Encode.{encode_number, refused, Wrote}
use Rattle.encode.specs.EncodeLaws.{unlisted_valid, answer_0, answer_1, answer_2}
use Rattle.encode.specs.Listed.{Listed}
use Rattle.encode.specs.ListedLaws.{refused_listed, listed_refused}
use Rattle.encode.specs.Encode.{Encoded}
use Rattle.std.specs.Prelude.{Ok, Err}
use Rattle.encode.specs.declared.EncodeError.TheVariants.{Forbidden, OutputTooShort}

-- whether a case is listed is decided by the tests
not_unlisted : (protocol : ℕ) (pec : Bool) (t : Message) → ((Listed protocol pec t → ⊥) → ⊥) → Listed protocol pec t
not_unlisted protocol pec t n = go (refused protocol pec t) refl
  where
    go : (b : Bool) → refused protocol pec t ≡ b → Listed protocol pec t
    go true e = refused_listed protocol pec t e
    go false e = absurd (n (λ l. not_both e (listed_refused protocol pec t l)))

module _ (protocol : ℕ) (pec : Bool) (t : Message) (command : t.command < 256) (sent : Bytes t.sent) (received : Bytes t.received) where
  abbrev tr : List ℕ
  tr = trace (shape_of protocol) pec t

  -- a message of bytes is in no listed case exactly if the table has a trace of it
  unlisted_listed : (Listed protocol pec t → ⊥) → TraceOf protocol pec t tr
  unlisted_listed n =
      let v = (unlisted_valid protocol pec t command sent received).0 n in
      trace_listed protocol pec t tr v.0 v.1 v.2 refl

  listed_unlisted : (x : List ℕ) → TraceOf protocol pec t x → Listed protocol pec t → ⊥
  listed_unlisted x w =
      let l = listed_trace protocol pec t x w in
      let q : protocol ≡ 0 → pec ≡ false = λ e. quick_plain pec _ w.0 w.1 (w.2 ∙ e) in
      (unlisted_valid protocol pec t command sent received).1 (l.0, q, l.1)

  module _ (before : List ℕ) (r : Encoded) (after : List ℕ) (w : Wrote protocol pec t before r after) where
    -- 0 with n: the table has a trace of the message, of n symbols, and there is room
    pub encode_0 : (n : ℕ) → (encode_number r ≡ (0, n)) ↔ ((x : List ℕ) × TraceOf protocol pec t x × (length x ≡ n) × (n ≤ length before))
    encode_0 n =
        let a = answer_0 protocol pec t before r after w n in (
          λ e. (let k = a.0 e in (tr, unlisted_listed k.0, sym k.1, k.2)),
          λ k. a.1 (listed_unlisted k.0 k.1, sym k.2 ∙ ap length (listed_trace protocol pec t k.0 k.1).2, k.3),
        )

    -- 1: the table has no trace of the message; Listed has the cases one by one
    pub encode_1 : (encode_number r ≡ (1, 0)) ↔ ((x : List ℕ) → TraceOf protocol pec t x → ⊥)
    encode_1 =
        let a = answer_1 protocol pec t before r after w in
        (λ e x l. listed_unlisted x l (a.0 e), λ n. a.1 (not_unlisted protocol pec t (λ m. n tr (unlisted_listed m))))

    -- 2: the table has a trace of the message, and it is longer than the output
    pub encode_2 : (encode_number r ≡ (2, 0)) ↔ ((x : List ℕ) × TraceOf protocol pec t x × (length before < length x))
    encode_2 =
        let a = answer_2 protocol pec t before r after w in (
          λ e. (let k = a.0 e in (tr, unlisted_listed k.0, k.1)),
          λ k. a.1 (listed_unlisted k.0 k.1, subst (λ (l : List ℕ). length before < length l) (listed_trace protocol pec t k.0 k.1).2 k.2),
        )

  -- with 0 the trace stands at the front of the output, and the rest is as it was
  pub encode_writes : (before : List ℕ) (r : Encoded) (after : List ℕ) → Wrote protocol pec t before r after → (encode_number r).0 ≡ 0
      → (x : List ℕ) → TraceOf protocol pec t x → after ≡ x ++ drop (length x) before
  encode_writes before (Ok n) after w e x l =
      w.output ∙ ap (λ (y : List ℕ). y ++ drop (length y) before) (sym (listed_trace protocol pec t x l).2)
  encode_writes before (Err Forbidden) after w e x l = absurd (omega (arith, e))
  encode_writes before (Err OutputTooShort) after w e x l = absurd (omega (arith, e))
