-- The decoder's call over a shape. One outcome is possible, and it is what the scope says. Each number is given exactly in its case, a refusal
-- changes no byte of either buffer, and a trace of the encoder gives back its message.
use Rattle.std.specs.Prelude.{◌≡◌, Bool, List, ◌++◌, ◌↔◌, length, drop, Ok, Err}
use Rattle.std.proofs.Math.Path.{refl, ap}
use Rattle.std.proofs.Common.{sym, ◌∙◌, arith, le-ltb}
use Rattle.std.proofs.Math.Bool.{true, false}
use Prim.Native.Nat.{ℕ}
use Rattle.lists.specs.Choice.{pick}
use Rattle.lists.specs.Onto.{onto}
use Rattle.trace.specs.declared.shape.Shape.{Shape}
use Rattle.trace.specs.Sane.{Sane}
use Rattle.trace.specs.Trace.{Message, trace, Valid}
use Rattle.scan.specs.Decoded.{Decoded, refused}
use Rattle.scan.specs.declared.answer.Refusal.{Refusal}
use Rattle.scan.specs.declared.answer.Refusal.TheVariants.{Forbidden, BufferTooShort}
use Rattle.scan.specs.Run.{decoded_by}
use Rattle.scan.specs.Handed.{sent_data, received_data}
use Rattle.scan.specs.NumberLaws.{refused_of}
use Rattle.scan.specs.Numbers.{refusal_number, decode_number}
use Rattle.scan.specs.Answers.{Because, summary}
use Rattle.scan.proofs.AnswersLaws as step
use Rattle.decode.specs.EntryLaws.{both_at_least_255}
use Rattle.decode.specs.Outcome.{short, EnteredBy, answered_by, OutcomeBy, Unread, Read, MeansBy}

module _ (number : ℕ) (sh : Shape) (hs : Sane sh) (barred pec : Bool) (tr sent₀ received₀ : List ℕ) where
  -- one outcome alone: the answer, and what each buffer holds
  pub one_outcome : (a b : Decoded) (s t r q : List ℕ) → OutcomeBy number sh barred pec tr sent₀ received₀ a s r → OutcomeBy number sh barred pec tr sent₀ received₀ b t q
      → (a ≡ b) × (s ≡ t) × (r ≡ q)
  one_outcome a b s t r q h g =
      let e : a ≡ b = h.answer ∙ sym g.answer in (
        e,
        h.data_sent ∙ ap (λ (x : Decoded). onto (sent_data sh tr x) sent₀) e ∙ sym g.data_sent,
        h.data_received ∙ ap (λ (x : Decoded). onto (received_data pec tr x) received₀) e ∙ sym g.data_received,
      )

  -- the outcome is what the scope says, and nothing else is
  abbrev Computed : Bool → Bool → Decoded → List ℕ → List ℕ → Type 0
  Computed b c a s r =
      (a ≡ pick b (refused Forbidden 0) (pick c (refused BufferTooShort 0) (decoded_by number sh pec tr)))
      × (s ≡ onto (sent_data sh tr a) sent₀) × (r ≡ onto (received_data pec tr a) received₀)

  abbrev Says : Bool → Bool → Decoded → List ℕ → List ℕ → Type 0
  Says b c a s r =
      pick b (Unread (refused Forbidden 0) sent₀ received₀ a s r) (pick c (Unread (refused BufferTooShort 0) sent₀ received₀ a s r) (Read number sh pec tr sent₀ received₀ a s r))

  computed_says : (b c : Bool) (a : Decoded) (s r : List ℕ) → Computed b c a s r → Says b c a s r
  computed_says true c a s r h = record {
    answer = h.0;
    same_sent = h.1 ∙ ap (λ (x : Decoded). onto (sent_data sh tr x) sent₀) h.0;
    same_received = h.2 ∙ ap (λ (x : Decoded). onto (received_data pec tr x) received₀) h.0;
  }
  computed_says false true a s r h = record {
    answer = h.0;
    same_sent = h.1 ∙ ap (λ (x : Decoded). onto (sent_data sh tr x) sent₀) h.0;
    same_received = h.2 ∙ ap (λ (x : Decoded). onto (received_data pec tr x) received₀) h.0;
  }
  computed_says false false a s r h = record {
    s = sent_data sh tr a;
    r = received_data pec tr a;
    means = (step.answer_exactly number sh hs pec tr a).0 (sym h.0);
    front_sent = h.1;
    front_received = h.2;
  }

  says_computed : (b c : Bool) (a : Decoded) (s r : List ℕ) → Says b c a s r → Computed b c a s r
  says_computed true c a s r h = (
    h.answer,
    h.same_sent ∙ sym (ap (λ (x : Decoded). onto (sent_data sh tr x) sent₀) h.answer),
    h.same_received ∙ sym (ap (λ (x : Decoded). onto (received_data pec tr x) received₀) h.answer),
  )
  says_computed false true a s r h = (
    h.answer,
    h.same_sent ∙ sym (ap (λ (x : Decoded). onto (sent_data sh tr x) sent₀) h.answer),
    h.same_received ∙ sym (ap (λ (x : Decoded). onto (received_data pec tr x) received₀) h.answer),
  )
  says_computed false false a s r h =
      let k = step.no_other_answer number sh hs pec tr a h.s h.r h.means in (
        sym k.0,
        h.front_sent ∙ ap (λ (x : List ℕ). onto x sent₀) (sym k.1 ∙ ap (sent_data sh tr) k.0),
        h.front_received ∙ ap (λ (x : List ℕ). onto x received₀) (sym k.2 ∙ ap (received_data pec tr) k.0),
      )

  pub outcome_means : (a : Decoded) (s r : List ℕ) → OutcomeBy number sh barred pec tr sent₀ received₀ a s r ↔ MeansBy number sh barred pec tr sent₀ received₀ a s r
  unfolding answered_by
  outcome_means a s r = (
    λ h. computed_says barred (short (length sent₀) (length received₀)) a s r (h.answer, h.data_sent, h.data_received),
    λ h. (let k = says_computed barred (short (length sent₀) (length received₀)) a s r h in record { answer = k.0; data_sent = k.1; data_received = k.2 }),
  )

-- 1 and 2 are given exactly in their cases, in this order; every other number is the trace's
never_unread : (number : ℕ) (sh : Shape) (hs : Sane sh) (pec : Bool) (tr : List ℕ) (w : Refusal) (k : ℕ) → (Because sh pec tr w k → ⊥)
    → decode_number (decoded_by number sh pec tr) ≡ (refusal_number w, k) → ⊥
never_unread number sh hs pec tr w k n e =
    n ((step.answer_exactly number sh hs pec tr (refused w k)).0 (refused_of (decoded_by number sh pec tr) w k e)).0

module _ (number : ℕ) (sh : Shape) (hs : Sane sh) (barred pec : Bool) (tr sent₀ received₀ : List ℕ) (a : Decoded) (s r : List ℕ) (h : OutcomeBy number sh barred pec tr sent₀ received₀ a s r) where
  abbrev is_short : Bool
  is_short = short (length sent₀) (length received₀)

  abbrev whole : Bool → Bool → Decoded
  whole b c = pick b (refused Forbidden 0) (pick c (refused BufferTooShort 0) (decoded_by number sh pec tr))

  first_of : (e : ℕ × ℕ) (n : ℕ) → e ≡ (n, 0) → e.0 ≡ n
  first_of e n q = ap (λ (x : ℕ × ℕ). x.0) q

  pub number_1 : (decode_number a ≡ (1, 0)) ↔ (barred ≡ true)
  unfolding answered_by
  number_1 = (λ e. there barred is_short (ap decode_number (sym h.answer) ∙ e), λ e. ap decode_number h.answer ∙ back barred is_short e)
    where
      there : (b c : Bool) → decode_number (whole b c) ≡ (1, 0) → b ≡ true
      there true c e = refl
      there false true e = absurd (omega (arith, first_of _ 1 e))
      there false false e = absurd (never_unread number sh hs pec tr Forbidden 0 (λ h. h) e)

      back : (b c : Bool) → b ≡ true → decode_number (whole b c) ≡ (1, 0)
      back b c e = rw e

  pub number_2 : (decode_number a ≡ (2, 0)) ↔ ((barred ≡ false) × (short (length sent₀) (length received₀) ≡ true))
  unfolding answered_by
  number_2 = (λ e. there barred is_short (ap decode_number (sym h.answer) ∙ e), λ e. ap decode_number h.answer ∙ back barred is_short e.0 e.1)
    where
      there : (b c : Bool) → decode_number (whole b c) ≡ (2, 0) → (b ≡ false) × (c ≡ true)
      there true c e = absurd (omega (arith, first_of _ 2 e))
      there false true e = (refl, refl)
      there false false e = absurd (never_unread number sh hs pec tr BufferTooShort 0 (λ h. h) e)

      back : (b c : Bool) → b ≡ false → c ≡ true → decode_number (whole b c) ≡ (2, 0)
      back b c e g = rw (e, g)

  -- neither 1 nor 2: the answer is the one that the trace has
  pub answer_by_trace : barred ≡ false → short (length sent₀) (length received₀) ≡ false → a ≡ decoded_by number sh pec tr
  unfolding answered_by
  answer_by_trace e g = h.answer ∙ back barred is_short e g
    where
      back : (b c : Bool) → b ≡ false → c ≡ false → whole b c ≡ decoded_by number sh pec tr
      back b c e g = rw (e, g)

  -- every other number is given exactly where the trace is read and has it
  pub other_number_exactly : (n v : ℕ) → (n ≡ 1 → ⊥) → (n ≡ 2 → ⊥)
      → (decode_number a ≡ (n, v)) ↔ ((barred ≡ false) × (short (length sent₀) (length received₀) ≡ false) × (decode_number (decoded_by number sh pec tr) ≡ (n, v)))
  unfolding answered_by
  other_number_exactly n v one two = (λ e. there barred is_short (ap decode_number (sym h.answer) ∙ e), λ k. ap decode_number (answer_by_trace k.0 k.1) ∙ k.2)
    where
      there : (b c : Bool) → decode_number (whole b c) ≡ (n, v) → (b ≡ false) × (c ≡ false) × (decode_number (decoded_by number sh pec tr) ≡ (n, v))
      there true c e = absurd (one (sym (ap (λ (x : ℕ × ℕ). x.0) e)))
      there false true e = absurd (two (sym (ap (λ (x : ℕ × ℕ). x.0) e)))
      there false false e = (refl, refl, e)

  pub number_by_trace : (n v : ℕ) → (n ≡ 1 → ⊥) → (n ≡ 2 → ⊥)
      → (decode_number a ≡ (n, v)) ↔ (EnteredBy barred sent₀ received₀ × (decode_number (decoded_by number sh pec tr) ≡ (n, v)))
  number_by_trace n v one two =
      let q = other_number_exactly n v one two in (
        λ e. (let z = q.0 e in let l = both_at_least_255 (length sent₀) (length received₀) z.1 in ((z.0, l.0, l.1), z.2)),
        λ k. q.1 (k.0.0, rw (le-ltb (length sent₀) 255 k.0.1, le-ltb (length received₀) 255 k.0.2), k.1),
      )

-- a refusal changes no byte of either buffer
no_data : (sh : Shape) (pec : Bool) (tr l : List ℕ) (a : Decoded) → ((decode_number a).0 ≡ 0 → ⊥) → (onto (sent_data sh tr a) l ≡ l) × (onto (received_data pec tr a) l ≡ l)
no_data sh pec tr l (Ok t) n = absurd (n refl)
no_data sh pec tr l (Err e) n = (refl, refl)

pub refusal_changes_nothing : (number : ℕ) (sh : Shape) (barred pec : Bool) (tr sent₀ received₀ : List ℕ) (a : Decoded) (s r : List ℕ) → OutcomeBy number sh barred pec tr sent₀ received₀ a s r
    → ((decode_number a).0 ≡ 0 → ⊥) → (s ≡ sent₀) × (r ≡ received₀)
refusal_changes_nothing number sh barred pec tr sent₀ received₀ a s r h n =
    (h.data_sent ∙ (no_data sh pec tr sent₀ a n).0, h.data_received ∙ (no_data sh pec tr received₀ a n).1)

-- the encoder's trace of a message gives back its protocol, every field and both lists, and leaves the rest of the buffers as it was
pub round_trip : (number : ℕ) (sh : Shape) (hs : Sane sh) (barred pec : Bool) (t : Message) (sent₀ received₀ : List ℕ) (a : Decoded) (s r : List ℕ)
    → barred ≡ false → short (length sent₀) (length received₀) ≡ false → Valid sh t
    → OutcomeBy number sh barred pec (trace sh pec t) sent₀ received₀ a s r
    → (a ≡ Ok (summary number t)) × (s ≡ t.sent ++ drop (length t.sent) sent₀) × (r ≡ t.received ++ drop (length t.received) received₀)
round_trip number sh hs barred pec t sent₀ received₀ a s r f c v h =
    let tr : List ℕ = trace sh pec t in
    let k = step.round_trip number sh hs pec t v in
    let e : a ≡ decoded_by number sh pec tr = answer_by_trace number sh hs barred pec tr sent₀ received₀ a s r h f c in (
      e ∙ k.0,
      h.data_sent ∙ ap (λ (x : List ℕ). onto x sent₀) (ap (sent_data sh tr) e ∙ k.1),
      h.data_received ∙ ap (λ (x : List ℕ). onto x received₀) (ap (received_data pec tr) e ∙ k.2),
    )
