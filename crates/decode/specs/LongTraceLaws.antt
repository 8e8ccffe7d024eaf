-- No trace that fits has more than 525 symbols, so the first 526 symbols of a longer one decide its answer.
use Rattle.std.specs.Prelude.{◌≡◌, Bool, ℕ, suc, ◌≤◌, length, take, drop, Result, Ok, Err}
use Rattle.std.proofs.Math.Path.{refl, ap}
use Rattle.std.proofs.Common.{sym, ◌∙◌, inl, inr, arith, length-append, take-append-drop, length-take-le}
use Rattle.std.proofs.Math.Bool.{true, false}
use mathlib.Core.List.{List, [], ◌∷◌, ◌++◌}
use Rattle.lists.specs.Choice.{pick}
use Rattle.lists.specs.Onto.{onto}
use Rattle.wire.specs.Symbols.{STOP, ACK, NACK}
use Rattle.trace.specs.declared.shape.Shape.{Shape}
use Rattle.trace.specs.Shapes.{shape_of, forbidden, reads}
use Rattle.trace.proofs.ShapeLaws.{sane}
use Rattle.trace.specs.Trace.{Message, in_place, nacked, laid, by_target, by_controller, trace_at, Valid}
use Rattle.trace.proofs.LengthLaws.{length_at, trace_length_lem}
use Rattle.trace.proofs.ColumnsLaws.{longest}
use Rattle.scan.specs.Decoded.{Decoded, refused}
use Rattle.scan.specs.declared.answer.Refused.{Refused}
use Rattle.scan.specs.declared.answer.Refusal.TheVariants.{Forbidden, BufferTooShort}
use Rattle.step.specs.declared.state.Decoder.{Decoder}
use Rattle.step.specs.State.{fresh}
use Rattle.step.specs.Fits.{fits}
use Rattle.step.specs.Move.{move}
use Rattle.scan.specs.Refusal.{why}
use Rattle.scan.specs.Run.{run, concluded, decoded_by}
use Rattle.scan.specs.Handed.{lows, sent_length, sent_place, received_length, received_place}
use Rattle.scan.specs.Answers.{Member, Fits, Answers}
use Rattle.scan.proofs.RunLaws.{refused_not_reading}
use Rattle.scan.proofs.MemberLaws.{fits_back}
use Rattle.scan.proofs.DecideLaws.{answer_holds}
use Rattle.decode.specs.Outcome.{short, answered_by, answered, Outcome}

module _ (protocol : ℕ) (p : Bool) where
  abbrev sh : Shape
  sh = shape_of protocol

  at_most : (t : Message) (y : ℕ) → Valid sh t → length (trace_at sh t (in_place p y)) ≤ 525
  at_most t y v = omega (arith, length_at sh p t y, trace_length_lem sh p t, longest protocol p t v)

  -- STOP at the least
  some_end : (t : Message) (q : List ℕ) → 1 ≤ length (by_controller sh t q)
  some_end t q = omega (arith, length-append (pick (reads sh) (nacked (laid sh.received t.received ++ q)) []) (STOP ∷ []))

  member_small : (tr : List ℕ) → Member sh p tr → length tr ≤ 525
  member_small tr (inl w) = omega (arith, ap length w.is, at_most w.message w.pec w.valid)
  member_small tr (inr (b, c)) =
      let q : List ℕ = in_place p c.pec in
      omega (
        arith,
        ap length c.is,
        length-append c.before (NACK ∷ STOP ∷ []),
        ap length c.ack,
        length-append c.before (ACK ∷ c.after),
        length-append (by_target sh c.message q) (by_controller sh c.message q),
        some_end c.message q,
        at_most c.message c.pec c.valid,
      )

  fits_small : (tr : List ℕ) → Fits sh p tr → length tr ≤ 525
  fits_small tr f = omega (arith, member_small (tr ++ f.0) f.1, length-append tr f.0)

  -- what is refused stays refused, whatever follows
  refused_on : (xs ys : List ℕ) (d : Decoder) (i : ℕ) (e : Refused) → run sh p d i xs ≡ Err e → run sh p d i (xs ++ ys) ≡ Err e
  unfolding run
  refused_on [] ys d i e q = absurd (refused_not_reading (sym q))
  refused_on (x ∷ xs) ys d i e q = go (fits sh d x) q (λ k. refused_on xs ys (move sh p d x) (suc i) e k)
    where
      go : (b : Bool) → pick b (run sh p (move sh p d x) (suc i) xs) (Err (why sh d i x)) ≡ Err e
          → (run sh p (move sh p d x) (suc i) xs ≡ Err e → run sh p (move sh p d x) (suc i) (xs ++ ys) ≡ Err e)
          → pick b (run sh p (move sh p d x) (suc i) (xs ++ ys)) (Err (why sh d i x)) ≡ Err e
      go true q ih = ih q
      go false q ih = q

  module _ (tr : List ℕ) (long : 526 ≤ length tr) where
    front_refused : (g : Result Decoder Refused) → run sh p fresh 0 (take 526 tr) ≡ g → (e : Refused) × (g ≡ Err e)
    front_refused (Ok d) q =
        let n = fits_small (take 526 tr) (fits_back sh (sane protocol) p (take 526 tr) d q) in
        absurd (omega (arith, length-take-le 526 tr long))
    front_refused (Err e) q = (e, refl)

    pub same_run : run sh p fresh 0 (take 526 tr) ≡ run sh p fresh 0 tr
    same_run =
        let f = front_refused (run sh p fresh 0 (take 526 tr)) refl in
        f.1 ∙ sym (refused_on (take 526 tr) (drop 526 tr) fresh 0 f.0 f.1) ∙ ap (run sh p fresh 0) (take-append-drop 526 tr)

    -- the answer of the first 526 symbols
    pub same_decoded : decoded_by protocol sh p (take 526 tr) ≡ decoded_by protocol sh p tr
    unfolding decoded_by
    same_decoded =
        let f = front_refused (run sh p fresh 0 (take 526 tr)) refl in
        ap (concluded protocol sh (take 526 tr)) f.1 ∙ ap (concluded protocol sh tr) (sym f.1 ∙ same_run)

    -- it hands over no data
    no_data : (a : Decoded) (s r : List ℕ) → Answers protocol sh p tr a s r → (sent_length a ≡ 0) × (received_length a ≡ 0)
    no_data (Ok t) s r c = absurd (omega (arith, ap length c.is, longest protocol p c.message c.valid))
    no_data (Err e) s r c = (refl, refl)

    pub decoded_none : (sent_length (decoded_by protocol sh p tr) ≡ 0) × (received_length (decoded_by protocol sh p tr) ≡ 0)
    decoded_none = no_data (decoded_by protocol sh p tr) _ _ (answer_holds protocol sh (sane protocol) p tr)

    answered_none : (s r : ℕ) → (sent_length (answered protocol p tr s r) ≡ 0) × (received_length (answered protocol p tr s r) ≡ 0)
    unfolding answered_by
    answered_none s r = go (forbidden protocol p) (short s r)
      where
        go : (b c : Bool) → (sent_length (pick b (refused Forbidden 0) (pick c (refused BufferTooShort 0) (decoded_by protocol sh p tr))) ≡ 0) × (received_length (pick b (refused Forbidden 0) (pick c (refused BufferTooShort 0) (decoded_by protocol sh p tr))) ≡ 0)
        go true c = (refl, refl)
        go false true = (refl, refl)
        go false false = decoded_none

    same_answered : (s r : ℕ) → answered protocol p (take 526 tr) s r ≡ answered protocol p tr s r
    unfolding answered_by
    same_answered s r = ap (λ (a : Decoded). pick (forbidden protocol p) (refused Forbidden 0) (pick (short s r) (refused BufferTooShort 0) a)) same_decoded

    -- what the first 526 symbols give is what the whole gives
    pub of_front : (s₀ r₀ : List ℕ) (a : Decoded) (s r : List ℕ) → Outcome protocol p (take 526 tr) s₀ r₀ a s r → Outcome protocol p tr s₀ r₀ a s r
    of_front s₀ r₀ a s r o =
        let e : a ≡ answered protocol p tr (length s₀) (length r₀) = o.answer ∙ same_answered (length s₀) (length r₀) in
        let n = answered_none (length s₀) (length r₀) in
        let ns : sent_length a ≡ 0 = ap sent_length e ∙ n.0 in
        let nr : received_length a ≡ 0 = ap received_length e ∙ n.1 in
        record {
          answer = e;
          data_sent = o.data_sent ∙ ap (λ (k : ℕ). onto (lows k (drop (sent_place sh) (take 526 tr))) s₀) ns ∙ ap (λ (k : ℕ). onto (lows k (drop (sent_place sh) tr)) s₀) (sym ns);
          data_received =
              o.data_received ∙ ap (λ (k : ℕ). onto (lows k (drop (received_place p (received_length a) (length (take 526 tr))) (take 526 tr))) r₀) nr
              ∙ ap (λ (k : ℕ). onto (lows k (drop (received_place p (received_length a) (length tr)) tr)) r₀) (sym nr);
        }
