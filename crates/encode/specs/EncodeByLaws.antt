-- The encoder over a shape: each answer is given exactly in its case, a refusal leaves the output as it was, and what is written is the trace.
-- One answer and one output keep the promise.
use Rattle.std.specs.Prelude.{◌≡◌, refl, ◌↔◌, Bool, true, false, List, ℕ, ◌≤◌, ◌<◌, ltb, length, take, drop}
use Rattle.std.proofs.Common.{sym, ap, ◌∙◌, arith, take_at, drop_at, ltb-true, ltb-false, lt-ltb, le-ltb}
use Rattle.lists.specs.AbsurdLaws.{zero_is_one}
use Rattle.lists.specs.Choice.{pick, or, not}
use Rattle.lists.specs.ChoiceLaws.{false_not_true}
use Rattle.lists.specs.Each.{Bytes}
use Rattle.lists.specs.Onto.{onto}
use Rattle.trace.specs.declared.shape.Shape.{Shape}
use Rattle.trace.specs.Trace.{Message, trace, Valid}
use Rattle.trace.specs.Allowed.{allowed}
use Rattle.trace.proofs.ValidLaws.{allowed_valid, valid_allowed}
use Rattle.encode.specs.Encode.{Encoded}
use Rattle.std.specs.Prelude.{Ok, Err}
use Rattle.encode.specs.declared.EncodeError.TheVariants.{Forbidden, OutputTooShort}
use Rattle.encode.specs.Encode.{encode_number, refused_by, encoded_by, symbols_of, WroteBy}

-- ---- the answer

module _ (sh : Shape) (barred pec : Bool) (t : Message) (room : ℕ) where
  abbrev symbols : ℕ
  symbols = length (trace sh pec t)

  by_tests : (b s : Bool) → refused_by sh barred t ≡ b → ltb room symbols ≡ s → encoded_by sh barred pec t room ≡ pick b (Err Forbidden) (pick s (Err OutputTooShort) (Ok symbols))
  unfolding encoded_by
  by_tests b s e f = rw (e, f)

  -- 1: exactly where a test of refusal 1 fails
  pub forbidden_exactly : (encoded_by sh barred pec t room ≡ Err Forbidden) ↔ (refused_by sh barred t ≡ true)
  forbidden_exactly = (λ e. go e (refused_by sh barred t) refl _ refl, λ e. by_tests true _ e refl)
    where
      go : encoded_by sh barred pec t room ≡ Err Forbidden → (b : Bool) → refused_by sh barred t ≡ b → (s : Bool) → ltb room symbols ≡ s → refused_by sh barred t ≡ true
      go e true eb s es = eb
      go e false eb true es = let f = by_tests false true eb es in zero_is_one cc
      go e false eb false es = let f = by_tests false false eb es in zero_is_one cc

  -- 2: none fails, and the room is shorter than the trace
  pub too_short_exactly : (encoded_by sh barred pec t room ≡ Err OutputTooShort) ↔ ((refused_by sh barred t ≡ false) × (room < symbols))
  too_short_exactly = (λ e. go e (refused_by sh barred t) refl _ refl, λ h. by_tests false true h.0 (lt-ltb room symbols h.1))
    where
      go : encoded_by sh barred pec t room ≡ Err OutputTooShort → (b : Bool) → refused_by sh barred t ≡ b → (s : Bool) → ltb room symbols ≡ s → (refused_by sh barred t ≡ false) × (room < symbols)
      go e true eb s es = let f = by_tests true s eb es in zero_is_one cc
      go e false eb true es = (eb, ltb-true room symbols es)
      go e false eb false es = let f = by_tests false false eb es in zero_is_one cc

  -- 0 with n: none fails, n is the length of the trace, and there is room for it
  pub written_exactly : (n : ℕ) → (encoded_by sh barred pec t room ≡ Ok n) ↔ ((refused_by sh barred t ≡ false) × (n ≡ symbols) × (n ≤ room))
  written_exactly n = (
    λ e. go e (refused_by sh barred t) refl _ refl,
    λ h. by_tests false false h.0 (le-ltb room symbols (omega (arith, h.1, h.2))) ∙ ap Ok (sym h.1),
  )
    where
      go : encoded_by sh barred pec t room ≡ Ok n → (b : Bool) → refused_by sh barred t ≡ b → (s : Bool) → ltb room symbols ≡ s → (refused_by sh barred t ≡ false) × (n ≡ symbols) × (n ≤ room)
      go e true eb s es = let f = by_tests true s eb es in zero_is_one cc
      go e false eb true es = let f = by_tests false true eb es in zero_is_one cc
      go e false eb false es =
          let f = by_tests false false eb es in
          let same : n ≡ symbols = cc in
          (eb, same, omega (arith, ltb-false room symbols es))

-- ---- the tests of refusal 1 pass exactly for the valid messages, where nothing is forbidden

or_false : (b a : Bool) → or b (not a) ≡ false → (b ≡ false) × (a ≡ true)
or_false true a e = false_not_true (sym e)
or_false false true e = (refl, refl)
or_false false false e = false_not_true (sym e)

pub taken_exactly : (sh : Shape) (barred : Bool) (t : Message) → t.command < 256 → Bytes t.sent → Bytes t.received
    → (refused_by sh barred t ≡ false) ↔ ((barred ≡ false) × Valid sh t)
unfolding refused_by
taken_exactly sh barred t c s r = (
  λ e. (let h = or_false barred (allowed sh t.address t.direction t.command (length t.sent) (length t.received)) e in (h.0, allowed_valid sh t c s r h.1)),
  λ h. rw (h.0, valid_allowed sh t h.1),
)

-- ---- the output

-- what is written: the trace at the front, and behind it what was there
pub front_is_trace : (sh : Shape) (barred pec : Bool) (t : Message) (before : List ℕ) (n : ℕ) (after : List ℕ) → WroteBy sh barred pec t before (Ok n) after
    → (take n after ≡ trace sh pec t) × (drop n after ≡ drop n before)
front_is_trace sh barred pec t before n after w =
    let tr : List ℕ = trace sh pec t in
    let e : n ≡ length tr = ((written_exactly sh barred pec t (length before) n).0 (sym w.answer)).1 in (
      ap (λ (l : List ℕ). take n l) w.output ∙ take_at tr (drop (length tr) before) n (sym e),
      ap (λ (l : List ℕ). drop n l) w.output ∙ drop_at tr (drop (length tr) before) n (sym e) ∙ ap (λ (k : ℕ). drop k before) (sym e),
    )

-- a refusal changes no element
pub refusal_untouched : (sh : Shape) (barred pec : Bool) (t : Message) (before : List ℕ) (r : Encoded) (after : List ℕ) → WroteBy sh barred pec t before r after
    → ((encode_number r).0 ≡ 0 → ⊥) → after ≡ before
refusal_untouched sh barred pec t before (Ok n) after w z = absurd (z refl)
refusal_untouched sh barred pec t before (Err Forbidden) after w z = w.output
refusal_untouched sh barred pec t before (Err OutputTooShort) after w z = w.output

-- two outcomes that keep the promise for the same inputs are equal
pub one_outcome : (sh : Shape) (barred pec : Bool) (t : Message) (before : List ℕ) (r r' : Encoded) (after after' : List ℕ) → WroteBy sh barred pec t before r after
    → WroteBy sh barred pec t before r' after' → (r ≡ r') × (after ≡ after')
one_outcome sh barred pec t before r r' after after' w v =
    let e : r ≡ r' = w.answer ∙ sym v.answer in
    (e, w.output ∙ ap (λ (x : Encoded). onto (symbols_of x (trace sh pec t)) before) e ∙ sym v.output)
