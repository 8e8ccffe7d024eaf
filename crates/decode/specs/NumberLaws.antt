-- The decoder's numbers, each if and only if its case, over the table of the protocols (trace/specs/Table, scan/specs/Fitting): what a call
-- answers, and what it leaves in the two buffers.
use Rattle.std.specs.Prelude.{◌≡◌, refl, Bool, true, false, List, [], ◌∷◌, ◌++◌, ◌⊎◌, ◌↔◌, ℕ, ◌-◌, ◌*◌, ◌/◌, ◌≤◌, ◌<◌, ltb, length, drop, get_or, Ok}
use Rattle.std.proofs.Common.{ap, ◌∙◌, subst, inl, inr, arith, ltb-true, lt-ltb, le-ltb}
use Rattle.lists.specs.Choice.{or}
use Rattle.lists.specs.ChoiceLaws.{or_last}
use Rattle.trace.proofs.ForbiddenLaws.{forbidden_cases, taken_cases}
use Rattle.trace.specs.Table.{last_protocol}
use Rattle.trace.proofs.ShapeLaws.{sane, to_last_known, known_to_last}
use Rattle.trace.specs.Shapes.{protocols, shape_of, forbidden}
use Rattle.trace.specs.Table.{TraceOf, send_byte}
use Rattle.trace.proofs.TableLaws.{listed_trace, trace_listed}
use Rattle.trace.specs.Trace.{Message, trace, Valid}
use Rattle.trace.specs.declared.shape.Shape.{Shape}
use Rattle.misfit.specs.declared.kind.Kind.{Kind}
use Rattle.misfit.specs.declared.kind.Kind.TheVariants.{Swapped, Misaddressed, Miscounted, Other}
use Rattle.scan.specs.Answers.{summary, shape_cases}
use Rattle.scan.proofs.AnswersLaws as step
use Rattle.scan.proofs.BytesInLaws.{byte_more}
use Rattle.scan.specs.Because.{Because}
use Rattle.scan.specs.BecauseLaws.{Agree, wrong_agrees, because_agrees}
use Rattle.scan.proofs.CountFittingLaws.{count_too_high}
use Rattle.scan.proofs.DecideLaws as Decides
use Rattle.scan.specs.Fitting.{OtherPec, Wrong, BitSwapped, CountTooHigh, table_cases}
use Rattle.scan.proofs.FittingLaws.{cases_shaped, other_pec_shaped, other_pec_byte, bit_shaped}
use Rattle.scan.specs.Numbers.{refusal_number, decode_number}
use Rattle.scan.specs.Refusal.{refusal_of}
use Rattle.scan.specs.Run.{decoded_by}
use Rattle.scan.proofs.SwapLaws.{wrong_ack_is, is_wrong_ack}
use Rattle.scan.specs.Decoded.{Decoded}
use Rattle.scan.specs.declared.answer.Refusal.{Refusal}
use Rattle.scan.specs.declared.answer.Refusal.TheVariants.{Unexpected, NotAcknowledged, WrongAck, WrongAddress, WrongCount}
use Rattle.decode.specs.EntryLaws.{both_at_least_255}
use Rattle.decode.specs.Outcome.{short, EnteredBy, Entered, Outcome}
use Rattle.decode.specs.OutcomeLaws as decode

-- 2: a buffer of under 255 bytes
pub short_cases : (s r : ℕ) → (short s r ≡ true) ↔ ((s < 255) ⊎ (r < 255))
short_cases s r = (λ h. there (ltb s 255) refl h, back)
  where
    there : (b : Bool) → ltb s 255 ≡ b → or b (ltb r 255) ≡ true → (s < 255) ⊎ (r < 255)
    there true e h = inl (ltb-true s 255 e)
    there false e h = inr (ltb-true r 255 h)

    back : (s < 255) ⊎ (r < 255) → short s r ≡ true
    back (inl h) = rw (lt-ltb s 255 h)
    back (inr h) = rw (lt-ltb r 255 h) (or_last (ltb s 255))

pub long_cases : (s r : ℕ) → (short s r ≡ false) ↔ ((255 ≤ s) × (255 ≤ r))
long_cases s r = (λ h. both_at_least_255 s r h, λ h. rw (le-ltb s 255 h.0, le-ltb r 255 h.1))

module _ (protocol : ℕ) (pec : Bool) (tr sent₀ received₀ : List ℕ) (a : Decoded) (sent received : List ℕ) (o : Outcome protocol pec tr sent₀ received₀ a sent received) where
  abbrev shape : Shape
  shape = shape_of protocol

  abbrev Here : Type 0
  Here = Entered protocol pec sent₀ received₀

  -- 1: a protocol above the last, or Quick with PEC
  pub decode_1 : (decode_number a ≡ (1, 0)) ↔ ((last_protocol < protocol) ⊎ ((protocol ≡ 0) × (pec ≡ true)))
  decode_1 =
      let n = decode.number_1 protocol pec tr sent₀ received₀ a sent received o in
      let f = forbidden_cases protocol pec in
      (λ e. f.0 (n.0 e), λ h. n.1 (f.1 h))

  -- 2: none of these, and a buffer of under 255 bytes
  pub decode_2 : (decode_number a ≡ (2, 0)) ↔ ((protocol ≤ last_protocol) × (protocol ≡ 0 → pec ≡ false) × ((length sent₀ < 255) ⊎ (length received₀ < 255)))
  decode_2 =
      let n = decode.number_2 protocol pec tr sent₀ received₀ a sent received o in
      let t = taken_cases protocol pec in
      let f = short_cases (length sent₀) (length received₀) in
      (λ e. (known_to_last protocol (t.0 (n.0 e).0).0, (t.0 (n.0 e).0).1, f.0 (n.0 e).1), λ h. n.1 (t.1 (to_last_known protocol h.0, h.1), f.1 h.2))

  entered : forbidden protocol pec ≡ false → short (length sent₀) (length received₀) ≡ false → Here
  entered f c =
      let t = (taken_cases protocol pec).0 f in
      let l = (long_cases (length sent₀) (length received₀)).0 c in
      (known_to_last protocol t.0, t.1, l.0, l.1)

  pub entered_known : Here → protocol < protocols
  entered_known r = to_last_known protocol r.0

  pub entered_taken : Here → forbidden protocol pec ≡ false
  entered_taken r = (taken_cases protocol pec).1 (entered_known r, r.1)

  pub entered_long : Here → short (length sent₀) (length received₀) ≡ false
  entered_long r = (long_cases (length sent₀) (length received₀)).1 (r.2, r.3)

  -- entered at the table is entered over the shape
  pub entered_exactly : Here ↔ EnteredBy (forbidden protocol pec) sent₀ received₀
  entered_exactly = (λ r. (entered_taken r, r.2, r.3), λ k. entered k.0 ((long_cases (length sent₀) (length received₀)).1 (k.1, k.2)))

  -- every number but 1 and 2 is the trace's, where it is read: in the case Q over shapes, which is the case P over the table
  by_trace : (P Q : Type 0) (n v : ℕ) → (n ≡ 1 → ⊥) → (n ≡ 2 → ⊥) → (Here → P ↔ Q) → (decode_number (decoded_by protocol shape pec tr) ≡ (n, v)) ↔ Q
      → (decode_number a ≡ (n, v)) ↔ (Here × P)
  by_trace P Q n v one two s e =
      let q = decode.other_number_exactly protocol pec tr sent₀ received₀ a sent received o n v one two in (
        λ k. (let z = q.0 k in let h : Here = entered z.0 z.1 in (h, (s h).1 (e.0 z.2))),
        λ k. q.1 (entered_taken k.0, entered_long k.0, e.1 ((s k.0).0 k.1)),
      )

  -- a refusal of the trace by its number: the trace is read, and this is why it is refused. 1 and 2 are given before
  pub decode_refused : (w : Refusal) (k : ℕ) → 2 < refusal_number w → (decode_number a ≡ (refusal_number w, k)) ↔ (Here × Because (table_cases protocol pec tr) tr w k)
  decode_refused w k n =
      by_trace _ _ (refusal_number w) k (λ e. omega (arith, e, n)) (λ e. omega (arith, e, n))
      (λ h. because_agrees (table_cases protocol pec tr) (shape_cases shape pec tr) (cases_shaped protocol pec (entered_known h) h.1 tr) tr w k)
      (step.refused_exactly protocol shape (sane protocol) pec tr w k)

  -- a wrong symbol is refused by its kind: 5, 17, 18 and 19 together are given where there is one
  pub decode_wrong : (k : ℕ) → ((decode_number a ≡ (5, k)) ⊎ ((decode_number a ≡ (17, k)) ⊎ ((decode_number a ≡ (18, k)) ⊎ (decode_number a ≡ (19, k))))) ↔ (Here × Wrong protocol pec tr k)
  decode_wrong k = (there, λ h. back h (Decides.wrong_decided protocol shape (sane protocol) pec tr k ((wrong_agrees (table_cases protocol pec tr) (shape_cases shape pec tr) (agree h.0) tr k).0 h.1)))
    where
      agree : Here → Agree (table_cases protocol pec tr) (shape_cases shape pec tr)
      agree h = cases_shaped protocol pec (entered_known h) h.1 tr

      there : (decode_number a ≡ (5, k)) ⊎ ((decode_number a ≡ (17, k)) ⊎ ((decode_number a ≡ (18, k)) ⊎ (decode_number a ≡ (19, k)))) → Here × Wrong protocol pec tr k
      there (inl e) = let r = (decode_refused Unexpected k (omega arith)).0 e in (r.0, r.1.0)
      there (inr (inl e)) = let r = (decode_refused WrongAck k (omega arith)).0 e in (r.0, r.1.0)
      there (inr (inr (inl e))) = let r = (decode_refused WrongAddress k (omega arith)).0 e in (r.0, r.1.0)
      there (inr (inr (inr e))) = let r = (decode_refused WrongCount k (omega arith)).0 e in (r.0, r.1.0)

      given : Here → (w : Refusal) → 2 < refusal_number w → Because (shape_cases shape pec tr) tr w k → decode_number a ≡ (refusal_number w, k)
      given h w n b = (decode_refused w k n).1 (h, (because_agrees (table_cases protocol pec tr) (shape_cases shape pec tr) (agree h) tr w k).1 b)

      back : Here × Wrong protocol pec tr k → (w : Kind) × Because (shape_cases shape pec tr) tr (refusal_of w) k → (decode_number a ≡ (5, k)) ⊎ ((decode_number a ≡ (17, k)) ⊎ ((decode_number a ≡ (18, k)) ⊎ (decode_number a ≡ (19, k))))
      back h (Other, b) = inl (given h.0 Unexpected (omega arith) b)
      back h (Swapped, b) = inr (inl (given h.0 WrongAck (omega arith) b))
      back h (Misaddressed, b) = inr (inr (inl (given h.0 WrongAddress (omega arith) b)))
      back h (Miscounted, b) = inr (inr (inr (given h.0 WrongCount (omega arith) b)))

  -- 17 and 19 worked out over the table
  pub decode_bit : (k : ℕ) → (decode_number a ≡ (17, k)) ↔ (Here × BitSwapped protocol pec tr k)
  decode_bit k =
      by_trace _ _ 17 k (λ e. omega (arith, e)) (λ e. omega (arith, e))
      (λ h. (let b = bit_shaped protocol pec (entered_known h) h.1 tr k in (λ s. is_wrong_ack shape (sane protocol) pec tr k (b.0 s), λ w. b.1 (wrong_ack_is shape (sane protocol) pec tr k w))))
      (step.refused_exactly protocol shape (sane protocol) pec tr WrongAck k)

  pub decode_count : (k : ℕ) → (decode_number a ≡ (19, k)) ↔ (Here × CountTooHigh protocol tr k)
  decode_count k =
      by_trace _ _ 19 k (λ e. omega (arith, e)) (λ e. omega (arith, e)) (λ h. count_too_high protocol pec (entered_known h) tr k)
      (step.refused_exactly protocol shape (sane protocol) pec tr WrongCount k)

  -- with 6, which byte it is, by the length of the trace alone: two places a byte, one for START, one for a repeated START, NACK and STOP
  pub decode_6_byte : (byte : ℕ) → decode_number a ≡ (6, byte) → byte ≡ (length tr - 4) / 2
  decode_6_byte b e =
      let q = (decode.other_number_exactly protocol pec tr sent₀ received₀ a sent received o 6 b (λ z. omega (arith, z)) (λ z. omega (arith, z))).0 e in
      step.byte_by_length protocol shape (sane protocol) pec tr b q.2

  -- with 7, the place is where the PEC stands
  pub decode_7_place : Here → (place : ℕ) (q : OtherPec protocol pec tr place) → get_or tr place 0 ≡ q.1.0
  decode_7_place h k q =
      step.pec_there protocol shape (sane protocol) pec tr k ((other_pec_shaped protocol pec (entered_known h) h.1 tr k).0 q) ∙ other_pec_byte protocol pec (entered_known h) h.1 tr k q

  -- 0: the trace is that of a message in the table
  pub decode_0 : (decode_number a ≡ (0, 0)) ↔ (Here × ((m : Message) × TraceOf protocol pec m tr))
  decode_0 =
      by_trace _ ((m : Message) × Valid shape m × (tr ≡ trace shape pec m)) 0 0 (λ e. omega (arith, e)) (λ e. omega (arith, e))
      (λ h. (
        λ b. (b.0, (listed_trace protocol pec b.0 tr b.1).1, (listed_trace protocol pec b.0 tr b.1).2),
        λ b. (b.0, trace_listed protocol pec b.0 tr (entered_known h) h.1 b.1 b.2),
      ))
      (step.number_0 protocol shape (sane protocol) pec tr)

  -- and then the message is handed over: its fields, and its data at the fronts of the two buffers, which are as they were behind
  pub decode_hands_over : Here → (m : Message) → TraceOf protocol pec m tr
      → (a ≡ Ok (summary protocol m)) × (sent ≡ m.sent ++ drop (length m.sent) sent₀) × (received ≡ m.received ++ drop (length m.received) received₀)
  decode_hands_over h m w =
      let l = listed_trace protocol pec m tr w in
      decode.round_trip protocol pec m sent₀ received₀ a sent received (entered_taken h) (entered_long h) l.1
      (subst (λ (x : List ℕ). Outcome protocol pec x sent₀ received₀ a sent received) l.2 o)

  -- a refusal changes neither buffer
  pub decode_refusal : ((decode_number a).0 ≡ 0 → ⊥) → (sent ≡ sent₀) × (received ≡ received₀)
  decode_refusal n = decode.refusal_changes_nothing protocol pec tr sent₀ received₀ a sent received o n

-- a Send Byte whose data byte the target does not acknowledge is 6 with 1, whatever that byte is
pub send_byte_cut : (a d : ℕ) → a < 128 → d < 256 → (sent₀ received₀ : List ℕ) → 255 ≤ length sent₀ → 255 ≤ length received₀ → (r : Decoded) (sent received : List ℕ)
    → Outcome 1 false (256 ∷ 2 * a ∷ 258 ∷ d ∷ 259 ∷ 257 ∷ []) sent₀ received₀ r sent received → decode_number r ≡ (6, 1)
send_byte_cut a d ha hd sent₀ received₀ ls lr r sent received o =
    (decode_refused 1 false (256 ∷ 2 * a ∷ 258 ∷ d ∷ 259 ∷ 257 ∷ []) sent₀ received₀ r sent received o NotAcknowledged 1 (omega arith)).1 (
      (omega arith, λ e. refl, ls, lr),
      record {
        y = 0;
        row = _;
        listed = (send_byte a d ha hd refl, refl, omega arith);
        before = 256 ∷ 2 * a ∷ 258 ∷ d ∷ [];
        after = [];
        ack = refl;
        is = refl;
        number = ap length (byte_more (2 * a) (258 ∷ d ∷ []) (omega arith) ∙ ap (λ (l : List ℕ). 2 * a ∷ l) (byte_more d [] hd));
      },
    )
