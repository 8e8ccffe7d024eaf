-- The data that any answer of the decoder hands over lie inside the trace, and are at most 255 bytes.
use Rattle.std.specs.Prelude.{◌≡◌, refl, Bool, true, false, List, [], ◌∷◌, ◌++◌, ℕ, ◌+◌, ◌*◌, ◌≤◌, ◌<◌, length, Ok, Err}
use Rattle.std.proofs.Common.{ap, arith, length-append}
use Rattle.lists.specs.Choice.{pick}
use Rattle.wire.specs.Symbols.{STOP}
use Rattle.trace.specs.declared.shape.Part.{Part}
use Rattle.trace.specs.declared.shape.Part.TheVariants.{Nothing, Fixed, Counted}
use Rattle.trace.specs.declared.shape.Shape.{Shape}
use Rattle.trace.specs.declared.transaction.Transaction.{Transaction}
use Rattle.trace.specs.Shapes.{some, writes}
use Rattle.trace.specs.Trace.{Message, laid, acked, nacked, first_byte, by_target, trace_at, pec_of, in_place, LengthOf, counted}
use Rattle.trace.proofs.LengthLaws.{length_acked, length_nacked, length_place}
use Rattle.trace.specs.Sane.{Small, Sane}
use Rattle.scan.specs.Decoded.{Decoded}
use Rattle.scan.specs.Run.{decoded_by}
use Rattle.scan.specs.Handed.{sent_length, received_length, count_places, sent_place}
use Rattle.scan.specs.Answers.{Carries, Answers}
use Rattle.scan.specs.JoinedLaws.{trace_joined}
use Rattle.scan.specs.Joined.{after}
use Rattle.scan.specs.Sizes.{Sizes}
use Rattle.scan.proofs.AnswersLaws.{answer_holds}

part_at_most_255 : (least : ℕ) (a : Part) (s : List ℕ) → Small a → LengthOf least a s → counted a s ≤ 255 → length s ≤ 255
part_at_most_255 least Nothing s h l c = omega arith
part_at_most_255 least (Fixed k) s h l c = omega (arith, h.1)
part_at_most_255 least Counted s h l c = c

-- the lengths of the parts of a trace
front_length : (b : Bool) (a : Part) (c : ℕ) (s : List ℕ) → 2 * length (pick b (c ∷ []) [] ++ laid a s) ≡ pick b 2 0 + count_places a + 2 * length s
front_length true Nothing c s = omega arith
front_length true (Fixed k) c s = omega arith
front_length true Counted c s = omega arith
front_length false Nothing c s = omega arith
front_length false (Fixed k) c s = omega arith
front_length false Counted c s = omega arith

sent_inside : (sh : Shape) (t : Message) (q : List ℕ) → sent_place sh + 2 * length t.sent ≤ length (trace_at sh t q)
sent_inside sh t q =
    let body : List ℕ = pick sh.command (t.command ∷ []) [] ++ laid sh.sent t.sent in
    omega (arith, ap length (trace_joined sh t q), length-append (acked body) (after sh.received (writes sh) (first_byte sh t + 1) t.received q), length_acked body, front_length sh.command sh.sent t.command t.sent)

back_inside : (least : ℕ) (b : List ℕ) (a : Part) (r : List ℕ) (p : Bool) (y : ℕ) → LengthOf least a r → 0 < length r
    → 2 * (length r + pick p 1 0) + 1 ≤ length (b ++ (pick (some a) (nacked (laid a r ++ in_place p y)) [] ++ STOP ∷ []))
back_inside least b Nothing r p y l h = absurd (omega arith)
back_inside least b (Fixed k) r p y l h =
    let on : List ℕ = nacked (r ++ in_place p y) in
    omega (arith, length-append b (on ++ STOP ∷ []), length-append on (STOP ∷ []), length_nacked (r ++ in_place p y), length-append r (in_place p y), length_place p y)
back_inside least b Counted r p y l h =
    let on : List ℕ = nacked (length r ∷ r ++ in_place p y) in
    omega (arith, length-append b (on ++ STOP ∷ []), length-append on (STOP ∷ []), length_nacked (length r ∷ r ++ in_place p y), length-append r (in_place p y), length_place p y)

module _ (num : ℕ) (sh : Shape) (hs : Sane sh) (p : Bool) (tr : List ℕ) where
  no_data_sizes : (a : Decoded) → sent_length a ≡ 0 → received_length a ≡ 0 → Sizes sh p tr a
  no_data_sizes a e g = record { sent = λ j h. absurd (omega arith); received = λ j h. absurd (omega arith); sent_small = omega arith; received_small = omega arith }

  done_sizes : (t : Transaction) (s r : List ℕ) → Carries num sh p tr t s r → Sizes sh p tr (Ok t)
  done_sizes t s r c =
      let m = c.message in
      let v = c.valid in
      let q : List ℕ = in_place p (pec_of sh m) in
      let es : t.sent ≡ length m.sent = ap (λ (u : Transaction). u.sent) c.fields in
      let er : t.received ≡ length m.received = ap (λ (u : Transaction). u.received) c.fields in
      let len : length tr ≡ length (trace_at sh m q) = ap length c.is in
      record {
        sent = λ j h. omega (arith, es, len, sent_inside sh m q);
        received = λ j h. omega (arith, er, len, back_inside sh.least (by_target sh m q) sh.received m.received p (pec_of sh m) v.received_length_lem (omega (arith, er)));
        sent_small = (let k = part_at_most_255 sh.least sh.sent m.sent hs.sent_small v.sent_length_lem (omega (arith, v.counts, hs.most_byte)) in omega (arith, es));
        received_small = (let k = part_at_most_255 sh.least sh.received m.received hs.received_small v.received_length_lem (omega (arith, v.counts, hs.most_byte)) in omega (arith, er));
      }

  sizes_by_meaning : (a : Decoded) (s r : List ℕ) → Answers num sh p tr a s r → Sizes sh p tr a
  sizes_by_meaning (Ok t) s r h = done_sizes t s r h
  sizes_by_meaning (Err e) s r h = no_data_sizes (Err e) refl refl

  pub sizes_of_answer : Sizes sh p tr (decoded_by num sh p tr)
  sizes_of_answer = sizes_by_meaning (decoded_by num sh p tr) _ _ (answer_holds num sh hs p tr)
