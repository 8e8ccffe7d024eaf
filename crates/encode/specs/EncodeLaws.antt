-- The encoder at the table of the protocols: each answer is given exactly in its listed case, a refusal leaves the output as it was, and what is
-- written is the trace. One answer and one output keep the promise.
use Rattle.std.specs.Prelude.{◌≡◌, refl, ◌↔◌, Bool, true, false, List, ◌++◌, ℕ, ◌≤◌, ◌<◌, length, take, drop}
use Rattle.std.proofs.Common.{sym, ap, ap₂, ◌∙◌, take-append-drop}
use Rattle.lists.specs.AbsurdLaws.{zero_is_one}
use Rattle.lists.specs.ChoiceLaws.{not_both}
use Rattle.lists.specs.Each.{Bytes}
use Rattle.trace.specs.declared.shape.Shape.{Shape}
use Rattle.trace.specs.Shapes.{protocols, shape_of, forbidden}
use Rattle.trace.proofs.ForbiddenLaws.{taken_cases}
use Rattle.trace.specs.Trace.{Message, trace, Valid}
use Rattle.encode.specs.Encode.{Encoded}
use Rattle.std.specs.Prelude.{Ok, Err}
use Rattle.encode.specs.declared.EncodeError.TheVariants.{Forbidden, OutputTooShort}
use Rattle.encode.specs.Encode.{encode_number, message, refused, encoded, Wrote, Means}
use Rattle.encode.specs.EncodeByLaws as shaped
use Rattle.encode.specs.Listed.{Listed}
use Rattle.encode.specs.ListedLaws.{refused_listed, listed_refused}

-- ---- what a caller gives: each part is the field of its name

pub message_fields : (a d c : ℕ) (s r : List ℕ)
    → ((message a d c s r).address ≡ a) × ((message a d c s r).direction ≡ d) × ((message a d c s r).command ≡ c) × ((message a d c s r).sent ≡ s) × ((message a d c s r).received ≡ r)
message_fields a d c s r = (refl, refl, refl, refl, refl)

-- ---- the answer

pub unlisted_not_refused : (protocol : ℕ) (pec : Bool) (t : Message) → (Listed protocol pec t → ⊥) → refused protocol pec t ≡ false
unlisted_not_refused protocol pec t n = go (refused protocol pec t) refl
  where
    go : (b : Bool) → refused protocol pec t ≡ b → refused protocol pec t ≡ false
    go true e = absurd (n (refused_listed protocol pec t e))
    go false e = e

module _ (protocol : ℕ) (pec : Bool) (t : Message) (room : ℕ) where
  abbrev sh : Shape
  sh = shape_of protocol

  abbrev barred : Bool
  barred = forbidden protocol pec

  not_listed : refused protocol pec t ≡ false → Listed protocol pec t → ⊥
  not_listed e l = not_both e (listed_refused protocol pec t l)

  -- 1: exactly the listed cases
  pub forbidden_exactly : (encoded protocol pec t room ≡ Err Forbidden) ↔ Listed protocol pec t
  forbidden_exactly =
      let f = shaped.forbidden_exactly sh barred pec t room in
      (λ e. refused_listed protocol pec t (f.0 e), λ l. f.1 (listed_refused protocol pec t l))

  -- 2: no listed case, and a room that is shorter than the trace
  pub too_short_exactly : (encoded protocol pec t room ≡ Err OutputTooShort) ↔ ((Listed protocol pec t → ⊥) × (room < length (trace (shape_of protocol) pec t)))
  too_short_exactly =
      let f = shaped.too_short_exactly sh barred pec t room in
      (λ e. (not_listed (f.0 e).0, (f.0 e).1), λ h. f.1 (unlisted_not_refused protocol pec t h.0, h.1))

  -- 0 with n: no listed case, n the length of the trace, and room for it
  pub written_exactly : (n : ℕ) → (encoded protocol pec t room ≡ Ok n) ↔ ((Listed protocol pec t → ⊥) × (n ≡ length (trace (shape_of protocol) pec t)) × (n ≤ room))
  written_exactly n =
      let f = shaped.written_exactly sh barred pec t room n in
      (λ e. (not_listed (f.0 e).0, (f.0 e).1, (f.0 e).2), λ h. f.1 (unlisted_not_refused protocol pec t h.0, h.1, h.2))

-- ---- the valid messages

-- a message of bytes is in no listed case exactly if the protocol is one of the table, Quick goes without PEC, and it is valid for the protocol's shape
pub unlisted_valid : (protocol : ℕ) (pec : Bool) (t : Message) → t.command < 256 → Bytes t.sent → Bytes t.received
    → (Listed protocol pec t → ⊥) ↔ ((protocol < protocols) × (protocol ≡ 0 → pec ≡ false) × Valid (shape_of protocol) t)
unlisted_valid protocol pec t c s r =
    let v = shaped.taken_exactly (shape_of protocol) (forbidden protocol pec) t c s r in
    let k = taken_cases protocol pec in (
      λ n. (let h = v.0 (unlisted_not_refused protocol pec t n) in let q = k.0 h.0 in (q.0, q.1, h.1)),
      λ h l. not_both (v.1 (k.1 (h.0, h.1), h.2)) (listed_refused protocol pec t l),
    )

-- the encoder writes exactly these, where there is room
pub written_valid : (protocol : ℕ) (pec : Bool) (t : Message) (room n : ℕ) → t.command < 256 → Bytes t.sent → Bytes t.received
    → (encoded protocol pec t room ≡ Ok n)
    ↔ ((protocol < protocols) × (protocol ≡ 0 → pec ≡ false) × Valid (shape_of protocol) t × (n ≡ length (trace (shape_of protocol) pec t)) × (n ≤ room))
written_valid protocol pec t room n c s r = (
  λ e. let w = (written_exactly protocol pec t room n).0 e in let v = (unlisted_valid protocol pec t c s r).0 w.0 in (v.0, v.1, v.2, w.1, w.2),
  λ h. (written_exactly protocol pec t room n).1 ((unlisted_valid protocol pec t c s r).1 (h.0, h.1, h.2), h.3, h.4),
)

-- ---- the scope's numbers, and the output

first : {a b : ℕ × ℕ} → a ≡ b → a.0 ≡ b.0
first e = ap (λ (x : ℕ × ℕ). x.0) e

number_one : (r : Encoded) → encode_number r ≡ (1, 0) → r ≡ Err Forbidden
number_one (Ok n) e = zero_is_one (cc (first e))
number_one (Err Forbidden) e = refl
number_one (Err OutputTooShort) e = zero_is_one (cc (first e))

number_two : (r : Encoded) → encode_number r ≡ (2, 0) → r ≡ Err OutputTooShort
number_two (Ok n) e = zero_is_one (cc (first e))
number_two (Err Forbidden) e = zero_is_one (cc (first e))
number_two (Err OutputTooShort) e = refl

number_zero : (r : Encoded) (n : ℕ) → encode_number r ≡ (0, n) → r ≡ Ok n
number_zero (Ok m) n e = ap (λ (x : ℕ × ℕ). Ok x.1) e
number_zero (Err Forbidden) n e = zero_is_one (cc (first e))
number_zero (Err OutputTooShort) n e = zero_is_one (cc (first e))

module _ (protocol : ℕ) (pec : Bool) (t : Message) (before : List ℕ) (r : Encoded) (after : List ℕ) (w : Wrote protocol pec t before r after) where
  pub answer_1 : (encode_number r ≡ (1, 0)) ↔ Listed protocol pec t
  answer_1 =
      let f = forbidden_exactly protocol pec t (length before) in
      (λ e. f.0 (sym w.answer ∙ number_one r e), λ l. ap encode_number (w.answer ∙ f.1 l))

  pub answer_2 : (encode_number r ≡ (2, 0)) ↔ ((Listed protocol pec t → ⊥) × (length before < length (trace (shape_of protocol) pec t)))
  answer_2 =
      let f = too_short_exactly protocol pec t (length before) in
      (λ e. f.0 (sym w.answer ∙ number_two r e), λ h. ap encode_number (w.answer ∙ f.1 h))

  pub answer_0 : (n : ℕ) → (encode_number r ≡ (0, n)) ↔ ((Listed protocol pec t → ⊥) × (n ≡ length (trace (shape_of protocol) pec t)) × (n ≤ length before))
  answer_0 n =
      let f = written_exactly protocol pec t (length before) n in
      (λ e. f.0 (sym w.answer ∙ number_zero r n e), λ h. ap encode_number (w.answer ∙ f.1 h))

-- what is written: the trace at the front, and behind it what was there
pub front_is_trace : (protocol : ℕ) (pec : Bool) (t : Message) (before : List ℕ) (n : ℕ) (after : List ℕ) → Wrote protocol pec t before (Ok n) after
    → (take n after ≡ trace (shape_of protocol) pec t) × (drop n after ≡ drop n before)
front_is_trace protocol pec = shaped.front_is_trace (shape_of protocol) (forbidden protocol pec) pec

-- a refusal changes no element
pub refusal_untouched : (protocol : ℕ) (pec : Bool) (t : Message) (before : List ℕ) (r : Encoded) (after : List ℕ) → Wrote protocol pec t before r after
    → ((encode_number r).0 ≡ 0 → ⊥) → after ≡ before
refusal_untouched protocol pec = shaped.refusal_untouched (shape_of protocol) (forbidden protocol pec) pec

-- ---- the whole promise, with nothing of how it is computed

pub wrote_means : (protocol : ℕ) (pec : Bool) (t : Message) (before : List ℕ) (r : Encoded) (after : List ℕ)
    → Wrote protocol pec t before r after ↔ Means protocol pec t before r after
wrote_means protocol pec t before (Ok n) after = (there, back)
  where
    there : Wrote protocol pec t before (Ok n) after → Means protocol pec t before (Ok n) after
    there w =
        let m = (written_exactly protocol pec t (length before) n).0 (sym w.answer) in
        let f = front_is_trace protocol pec t before n after w in
        (m.0, m.1, m.2, f.0, f.1)

    back : Means protocol pec t before (Ok n) after → Wrote protocol pec t before (Ok n) after
    back h =
        record {
          answer = sym ((written_exactly protocol pec t (length before) n).1 (h.0, h.1, h.2));
          output = sym (take-append-drop n after) ∙ ap₂ (λ (x y : List ℕ). x ++ y) h.3 (h.4 ∙ ap (λ (k : ℕ). drop k before) h.1);
        }
wrote_means protocol pec t before (Err Forbidden) after = (
  λ w. ((forbidden_exactly protocol pec t (length before)).0 (sym w.answer), w.output),
  λ h. record { answer = sym ((forbidden_exactly protocol pec t (length before)).1 h.0); output = h.1 },
)
wrote_means protocol pec t before (Err OutputTooShort) after = (
  λ w. let m = (too_short_exactly protocol pec t (length before)).0 (sym w.answer) in (m.0, m.1, w.output),
  λ h. record { answer = sym ((too_short_exactly protocol pec t (length before)).1 (h.0, h.1)); output = h.2 },
)

-- two outcomes that keep the promise for the same inputs are equal
pub one_outcome : (protocol : ℕ) (pec : Bool) (t : Message) (before : List ℕ) (r r' : Encoded) (after after' : List ℕ) → Wrote protocol pec t before r after
    → Wrote protocol pec t before r' after' → (r ≡ r') × (after ≡ after')
one_outcome protocol pec = shaped.one_outcome (shape_of protocol) (forbidden protocol pec) pec
