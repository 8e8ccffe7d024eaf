-- The decoder's call at the table of the protocols. One outcome is possible, and it is what the scope says. Each number is given exactly in its
-- case, a refusal changes no byte of either buffer, and a trace of the encoder gives back its message.
use Rattle.std.specs.Prelude.{◌≡◌, Bool, true, false, List, ◌++◌, ◌↔◌, ℕ, length, drop, Ok}
use Rattle.trace.specs.Shapes.{shape_of, forbidden}
use Rattle.trace.proofs.ShapeLaws.{sane}
use Rattle.trace.specs.Trace.{Message, trace, Valid}
use Rattle.scan.specs.Decoded.{Decoded}
use Rattle.scan.specs.Run.{decoded_by}
use Rattle.scan.specs.Numbers.{decode_number}
use Rattle.scan.specs.Answers.{summary}
use Rattle.decode.specs.Outcome.{short, Outcome, Means}
use Rattle.decode.specs.OutcomeByLaws as shaped

module _ (protocol : ℕ) (pec : Bool) (tr sent₀ received₀ : List ℕ) where
  -- one outcome alone: the answer, and what each buffer holds
  pub one_outcome : (a b : Decoded) (s t r q : List ℕ) → Outcome protocol pec tr sent₀ received₀ a s r → Outcome protocol pec tr sent₀ received₀ b t q
      → (a ≡ b) × (s ≡ t) × (r ≡ q)
  one_outcome = shaped.one_outcome protocol (shape_of protocol) (sane protocol) (forbidden protocol pec) pec tr sent₀ received₀

  -- the outcome is what the scope says, and nothing else is
  pub outcome_means : (a : Decoded) (s r : List ℕ) → Outcome protocol pec tr sent₀ received₀ a s r ↔ Means protocol pec tr sent₀ received₀ a s r
  outcome_means = shaped.outcome_means protocol (shape_of protocol) (sane protocol) (forbidden protocol pec) pec tr sent₀ received₀

-- 1 and 2 are given exactly in their cases, in this order; every other number is the trace's
module _ (protocol : ℕ) (pec : Bool) (tr sent₀ received₀ : List ℕ) (a : Decoded) (s r : List ℕ) (h : Outcome protocol pec tr sent₀ received₀ a s r) where
  pub number_1 : (decode_number a ≡ (1, 0)) ↔ (forbidden protocol pec ≡ true)
  number_1 = shaped.number_1 protocol (shape_of protocol) (sane protocol) (forbidden protocol pec) pec tr sent₀ received₀ a s r h

  pub number_2 : (decode_number a ≡ (2, 0)) ↔ ((forbidden protocol pec ≡ false) × (short (length sent₀) (length received₀) ≡ true))
  number_2 = shaped.number_2 protocol (shape_of protocol) (sane protocol) (forbidden protocol pec) pec tr sent₀ received₀ a s r h

  -- neither 1 nor 2: the answer is the one that the trace has
  pub answer_by_trace : forbidden protocol pec ≡ false → short (length sent₀) (length received₀) ≡ false → a ≡ decoded_by protocol (shape_of protocol) pec tr
  answer_by_trace = shaped.answer_by_trace protocol (shape_of protocol) (sane protocol) (forbidden protocol pec) pec tr sent₀ received₀ a s r h

  -- every other number is given exactly where the trace is read and has it
  pub other_number_exactly : (n v : ℕ) → (n ≡ 1 → ⊥) → (n ≡ 2 → ⊥)
      → (decode_number a ≡ (n, v)) ↔ ((forbidden protocol pec ≡ false) × (short (length sent₀) (length received₀) ≡ false) × (decode_number (decoded_by protocol (shape_of protocol) pec tr) ≡ (n, v)))
  other_number_exactly = shaped.other_number_exactly protocol (shape_of protocol) (sane protocol) (forbidden protocol pec) pec tr sent₀ received₀ a s r h

-- a refusal changes no byte of either buffer
pub refusal_changes_nothing : (protocol : ℕ) (pec : Bool) (tr sent₀ received₀ : List ℕ) (a : Decoded) (s r : List ℕ) → Outcome protocol pec tr sent₀ received₀ a s r
    → ((decode_number a).0 ≡ 0 → ⊥) → (s ≡ sent₀) × (r ≡ received₀)
refusal_changes_nothing protocol pec = shaped.refusal_changes_nothing protocol (shape_of protocol) (forbidden protocol pec) pec

-- the encoder's trace of a message gives back its protocol, every field and both lists, and leaves the rest of the buffers as it was
pub round_trip : (protocol : ℕ) (pec : Bool) (t : Message) (sent₀ received₀ : List ℕ) (a : Decoded) (s r : List ℕ)
    → forbidden protocol pec ≡ false → short (length sent₀) (length received₀) ≡ false → Valid (shape_of protocol) t
    → Outcome protocol pec (trace (shape_of protocol) pec t) sent₀ received₀ a s r
    → (a ≡ Ok (summary protocol t)) × (s ≡ t.sent ++ drop (length t.sent) sent₀) × (r ≡ t.received ++ drop (length t.received) received₀)
round_trip protocol pec = shaped.round_trip protocol (shape_of protocol) (sane protocol) (forbidden protocol pec) pec
