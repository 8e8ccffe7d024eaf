-- The outcome of each way through the entry over a shape, from the tests that it makes; and where the trace is read, both copies have room and stay inside
-- the trace.
use Rattle.std.specs.Prelude.{◌≡◌, refl, Bool, true, false, List, ℕ, ◌+◌, ◌*◌, ◌≤◌, ◌<◌, length, ltb}
use Rattle.std.proofs.Math.Path.{sym}
use Rattle.std.proofs.Common.{◌∙◌, subst, arith, ltb-false}
use Rattle.lists.specs.Choice.{pick}
use Rattle.lists.specs.ChoiceLaws.{neither}
use Rattle.lists.specs.Onto.{onto}
use Rattle.trace.specs.declared.shape.Shape.{Shape}
use Rattle.trace.specs.Shapes.{shape_of, forbidden}
use Rattle.trace.specs.Sane.{Sane}
use Rattle.trace.proofs.ShapeLaws.{sane}
use Rattle.scan.specs.Decoded.{Decoded, refused}
use Rattle.scan.specs.declared.answer.Refusal.TheVariants.{Forbidden, BufferTooShort}
use Rattle.scan.specs.Run.{decoded_by}
use Rattle.scan.specs.Handed.{sent_length, received_length, sent_place, received_place, sent_data, received_data}
use Rattle.scan.specs.Sizes.{Sizes}
use Rattle.scan.proofs.SizeLaws.{sizes_of_answer}
use Rattle.decode.specs.Outcome.{short, answered_by, OutcomeBy, Outcome}

-- both buffers are long enough
pub both_at_least_255 : (s r : ℕ) → short s r ≡ false → (255 ≤ s) × (255 ≤ r)
both_at_least_255 s r h = let n = neither (ltb s 255) (ltb r 255) h in (ltb-false s 255 n.0, ltb-false r 255 n.1)

module _ (number : ℕ) (sh : Shape) (barred p : Bool) (tr s r : List ℕ) where
  -- the answer, from the tests
  answered_is : (b c : Bool) → barred ≡ b → short (length s) (length r) ≡ c
      → pick b (refused Forbidden 0) (pick c (refused BufferTooShort 0) (decoded_by number sh p tr)) ≡ answered_by number sh barred p tr (length s) (length r)
  unfolding answered_by
  answered_is b c e f = sym (rw (e, f))

  -- refused before the trace is read
  pub outcome_forbidden : barred ≡ true → OutcomeBy number sh barred p tr s r (refused Forbidden 0) s r
  outcome_forbidden h = record { answer = answered_is true _ h refl; data_sent = refl; data_received = refl }

  pub outcome_short : barred ≡ false → short (length s) (length r) ≡ true → OutcomeBy number sh barred p tr s r (refused BufferTooShort 0) s r
  outcome_short h g = record { answer = answered_is false true h g; data_sent = refl; data_received = refl }

  module _ (hs : Sane sh) (a : Decoded) (g : a ≡ decoded_by number sh p tr) where
    here : Sizes sh p tr a
    here = subst (Sizes sh p tr) (sym g) (sizes_of_answer number sh hs p tr)

    pub sent_copy_fits : short (length s) (length r) ≡ false → (sent_length a ≤ length s) × ((j : ℕ) → j < sent_length a → sent_place sh + 2 * j < length tr)
    sent_copy_fits h = (omega (arith, here.sent_small, both_at_least_255 (length s) (length r) h), here.sent)

    pub received_copy_fits : short (length s) (length r) ≡ false
        → (received_length a ≤ length r) × ((j : ℕ) → j < received_length a → received_place p (received_length a) (length tr) + 2 * j < length tr)
    received_copy_fits h = (omega (arith, here.received_small, both_at_least_255 (length s) (length r) h), here.received)

    pub outcome_read : barred ≡ false → short (length s) (length r) ≡ false → (x y : List ℕ) → x ≡ onto (sent_data sh tr a) s → y ≡ onto (received_data p tr a) r
        → OutcomeBy number sh barred p tr s r a x y
    outcome_read f h x y q k = record { answer = g ∙ answered_is false false f h; data_sent = q; data_received = k }

-- ---- at the table of the protocols

module _ (protocol : ℕ) (p : Bool) (sh : Shape) (es : sh ≡ shape_of protocol) where
  pub sane_shape : Sane sh
  sane_shape = subst Sane (sym es) (sane protocol)

  pub outcome_at_table : (barred : Bool) → barred ≡ forbidden protocol p → (tr s r : List ℕ) (a : Decoded) (x y : List ℕ) → OutcomeBy protocol sh barred p tr s r a x y
      → Outcome protocol p tr s r a x y
  outcome_at_table barred eb tr s r a x y o =
      subst (λ (b : Bool). OutcomeBy protocol (shape_of protocol) b p tr s r a x y) eb (subst (λ (u : Shape). OutcomeBy protocol u barred p tr s r a x y) es o)
