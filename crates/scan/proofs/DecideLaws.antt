-- The computed answer is one that the declared meaning allows, and the meaning allows no other. AnswersLaws draws from it what is promised.
use Rattle.std.specs.Prelude.{◌≡◌, Bool, List, [], ◌∷◌, ◌++◌, ℕ, suc, ◌+◌, ◌-◌, ◌≤◌, ◌<◌, length, take, drop, get_or, leb, eqb, Result, Ok, Err}
use Rattle.std.proofs.Math.Path.{refl, sym, ap}
use Rattle.std.proofs.Common.{◌∙◌, subst, arith, leb-true, leb-false, le-leb, eqb-true, eq-eqb, ne_eqb}
use Rattle.std.proofs.Math.Bool.{true, false}
use Rattle.std.proofs.lemmas.Bool.{lt-leb, eqb-false}
use Rattle.lists.specs.Choice.{pick}
use Rattle.lists.specs.ChoiceLaws.{false_not_true, not_both}
use Rattle.lists.specs.Each.{Bytes}
use Rattle.wire.specs.Symbols.{NACK}
use Rattle.trace.specs.declared.shape.Shape.{Shape}
use Rattle.trace.specs.declared.transaction.Transaction.{Transaction}
use Rattle.trace.specs.Trace.{Message, trace_at, pec_of, in_place, trace, Valid}
use Rattle.trace.specs.Sane.{Sane}
use Rattle.step.specs.declared.state.Slot.{Slot}
use Rattle.step.specs.declared.state.Slot.TheVariants.{End}
use Rattle.step.specs.declared.state.Due.{Due}
use Rattle.step.specs.declared.state.Due.TheVariants.{Nobody, Target, Controller, Halted, Cut}
use Rattle.step.specs.declared.state.Decoder.{Decoder}
use Rattle.scan.specs.Decoded.{Decoded, refused}
use Rattle.scan.specs.declared.answer.Refused.{Refused}
use Rattle.scan.specs.declared.answer.Refusal.{Refusal}
use Rattle.scan.specs.declared.answer.Refusal.TheVariants.{Forbidden, BufferTooShort, NoSymbol, EndsEarly, Unexpected, NotAcknowledged, PecDiffers, AfterStop, WrongAck, WrongAddress, WrongCount}
use Rattle.step.specs.State.{fresh}
use Rattle.step.specs.Fits.{fits}
use Rattle.scan.specs.Refusal.{over, refusal_of, why}
use Rattle.scan.proofs.BytesInLaws.{byte_count_is}
use Rattle.scan.specs.Run.{run, byte_count, transaction, is_cut, finish, concluded, decoded_by}
use Rattle.scan.specs.Handed.{sent_place, received_place, lows, sent_data, received_data}
use Rattle.misfit.specs.CasesLaws.{one_kind}
use Rattle.misfit.specs.Kinds.{kind_of}
use Rattle.misfit.specs.declared.kind.Kind.{Kind}
use Rattle.misfit.specs.declared.kind.Kind.TheVariants.{Swapped, Misaddressed, Miscounted, Other}
use Rattle.scan.specs.Because.{AfterStart, Wrong, OfKind}
use Rattle.scan.specs.BecauseLaws.{of_kind}
use Rattle.scan.proofs.WrongLaws.{kind_holds}
use Rattle.scan.specs.Answers.{Whole, CutAt, Member, Fits, summary, Breaks, OtherPec, Carries, shape_cases, Because, Answers}
use Rattle.scan.proofs.RunLaws.{same_state}
use Rattle.scan.specs.EndState.{end_state}
use Rattle.scan.specs.JoinedLaws.{trace_joined}
use Rattle.scan.proofs.ReverseLaws.{ended_is_whole}
use Rattle.scan.proofs.MemberLaws.{whole_runs, cut_runs, ended_is_end, nack_adds_no_byte, cut_back, fits_back, member_runs, member_back, fits_runs}
use Rattle.scan.proofs.DataLaws.{sent_is_lem, received_is_lem, fields_are}
use Rattle.scan.proofs.PecByteLaws.{pec_byte}
use Rattle.scan.specs.Stopped.{Stopped}
use Rattle.scan.proofs.PlaceLaws.{refused_at_place, stops_at, reads_one_more, reads_no_more, nothing_follows}

-- the answer with its data
abbrev Right : ℕ → Shape → Bool → List ℕ → Decoded → Type 0
Right num sh p tr a = Answers num sh p tr a (sent_data sh tr a) (received_data p tr a)

-- the state at the end of a whole trace, where the decoder is neither cut nor short
not_cut : (a : Due) (s : Slot) → is_cut a ≡ false → over a s ≡ true → (a ≡ Nobody) × (s ≡ End)
not_cut Nobody s c h = (refl, ended_is_end s h)
not_cut Target s c h = false_not_true h
not_cut Controller s c h = false_not_true h
not_cut Halted s c h = false_not_true h
not_cut Cut s c h = false_not_true (sym c)

is_cut_lem : (a : Due) → is_cut a ≡ true → a ≡ Cut
is_cut_lem Cut h = refl
is_cut_lem Nobody h = false_not_true h
is_cut_lem Target h = false_not_true h
is_cut_lem Controller h = false_not_true h
is_cut_lem Halted h = false_not_true h

-- the byte in PEC's place is PEC
same_place : (p : Bool) (y z : ℕ) → pick p (eqb y z) true ≡ true → in_place p y ≡ in_place p z
same_place true y z h = ap (λ (n : ℕ). n ∷ []) (eqb-true y z h)
same_place false y z h = refl

other_place : (p : Bool) (y z : ℕ) → pick p (eqb y z) true ≡ false → (p ≡ true) × (y ≡ z → ⊥)
other_place true y z h = (refl, eqb-false y z h)
other_place false y z h = false_not_true (sym h)

good_place : (p : Bool) (z : ℕ) → pick p (eqb z z) true ≡ true
good_place true z = eq-eqb z z refl
good_place false z = refl

open_cut : (a : Due) (s : Slot) → over a s ≡ false → is_cut a ≡ false
open_cut Nobody s h = refl
open_cut Target s h = refl
open_cut Controller s h = refl
open_cut Halted s h = refl
open_cut Cut s h = false_not_true (sym h)

-- a trace has at least START, the first address byte and its ACK
at_least_three : (sh : Shape) (t : Message) (q : List ℕ) → 3 ≤ length (trace_at sh t q)
at_least_three sh t q = omega (arith, ap length (trace_joined sh t q))

module _ (num : ℕ) (sh : Shape) (hs : Sane sh) (p : Bool) (tr : List ℕ) where
  cut_right : (d : Decoder) → run sh p fresh 0 tr ≡ Ok d → is_cut d.due ≡ true → CutAt sh p tr (byte_count tr - 1)
  cut_right d q c =
      let r = cut_back sh hs p tr d q (is_cut_lem d.due c) in
      let k = r.1 in
      let n : byte_count tr ≡ suc r.0 = ap byte_count k.is ∙ nack_adds_no_byte k.before ∙ byte_count_is k.before ∙ k.number in
      subst (CutAt sh p tr) (omega arith) k

  -- the whole trace, and the state at its end
  whole_right : (w : Whole sh p tr) (d : Decoder) → run sh p fresh 0 tr ≡ Ok d → d ≡ end_state sh p w.message w.pec
  whole_right w d q = same_state (sym q ∙ ap (run sh p fresh 0) w.is ∙ whole_runs sh hs p w.message w.pec w.valid w.byte)

  carries : (m : Message) (v : Valid sh m) (t : Transaction) → tr ≡ trace sh p m → t ≡ summary num m
      → Carries num sh p tr t (lows t.sent (drop (sent_place sh) tr)) (lows t.received (drop (received_place p t.received (length tr)) tr))
  carries m v t e f =
      record {
        message = m;
        valid = v;
        is = e;
        fields = f;
        data_sent = rw (f, e) (sent_is_lem sh m (in_place p (pec_of sh m)) v.sent_bytes);
        data_received = rw (f, e) (received_is_lem sh m p (pec_of sh m) v);
      }

  done_right : (w : Whole sh p tr) (d : Decoder) → run sh p fresh 0 tr ≡ Ok d → d.good ≡ true → Right num sh p tr (Ok (transaction num sh d))
  done_right w d q g =
      let e = whole_right w d q in
      let s = same_place p w.pec (pec_of sh w.message) (sym (ap (λ (u : Decoder). u.good) e) ∙ g) in
      carries w.message w.valid (transaction num sh d) (w.is ∙ ap (trace_at sh w.message) s) (ap (transaction num sh) e ∙ fields_are num sh hs p w.message w.pec w.valid w.byte)

  pec_right : (w : Whole sh p tr) (d : Decoder) → run sh p fresh 0 tr ≡ Ok d → d.good ≡ false → OtherPec sh p tr (length tr - 3)
  pec_right w d q g =
      let o = other_place p w.pec (pec_of sh w.message) (sym (ap (λ (u : Decoder). u.good) (whole_right w d q)) ∙ g) in
      let i : in_place p w.pec ≡ w.pec ∷ [] = ap (λ (b : Bool). in_place b w.pec) o.0 in
      let b : Bytes (w.pec ∷ []) = subst Bytes i w.byte in
      record {
        used = o.0;
        message = w.message;
        pec = w.pec;
        valid = w.valid;
        byte = b.0;
        is = w.is ∙ ap (trace_at sh w.message) i;
        differs = o.1;
        place = omega (arith, ap length w.is, at_least_three sh w.message (in_place p w.pec));
      }

  -- the whole trace was read
  finish_right : (d : Decoder) → run sh p fresh 0 tr ≡ Ok d → (b c g : Bool) → is_cut d.due ≡ b → over d.due d.slot ≡ c → d.good ≡ g
      → Right num sh p tr (pick b (refused NotAcknowledged (byte_count tr - 1)) (pick c (pick g (Ok (transaction num sh d)) (refused PecDiffers (length tr - 3))) (refused EndsEarly (length tr))))
  finish_right d q true c g e f h = (cut_right d q e, refl, refl)
  finish_right d q false true g e f h =
      let n = not_cut d.due d.slot e f in
      whole (ended_is_whole sh hs p tr d 0 q n.1 n.0) g h
    where
      whole : Whole sh p tr → (g : Bool) → d.good ≡ g → Right num sh p tr (pick g (Ok (transaction num sh d)) (refused PecDiffers (length tr - 3)))
      whole w true h = done_right w d q h
      whole w false h = (pec_right w d q h, refl, refl)
  finish_right d q false false g e f h =
      ((fits_back sh hs p tr d q, λ m. (let r = member_runs sh hs p tr m in not_both f (ap (λ (u : Decoder). over u.due u.slot) (same_state (sym q ∙ r.1)) ∙ r.2)), refl), refl, refl)

  -- a symbol was refused
  breaks : (k : ℕ) (d : Decoder) → k < length tr → run sh p fresh 0 (take k tr) ≡ Ok d → fits sh d (get_or tr k 0) ≡ false → Breaks sh p tr k
  breaks k d h q f =
      record { inside = h; before = fits_back sh hs p (take k tr) d q; here = λ g. (let r = fits_runs sh hs p (take (suc k) tr) g in reads_no_more sh p tr k fresh d h q f r.0 r.1) }

  no_member : (k : ℕ) (d : Decoder) → run sh p fresh 0 (take k tr) ≡ Ok d → over d.due d.slot ≡ false → Member sh p (take k tr) → ⊥
  no_member k d q f m = let r = member_runs sh hs p (take k tr) m in not_both f (ap (λ (u : Decoder). over u.due u.slot) (same_state (sym q ∙ r.1)) ∙ r.2)

  why_right : (k : ℕ) (d : Decoder) → k < length tr → run sh p fresh 0 (take k tr) ≡ Ok d → fits sh d (get_or tr k 0) ≡ false
      → (b c : Bool) → leb (get_or tr k 0) NACK ≡ b → over d.due d.slot ≡ c → Right num sh p tr (refused (pick b (pick c AfterStop (refusal_of (kind_of sh d (get_or tr k 0)))) NoSymbol) k)
  why_right k d h q f false c e g = ((breaks k d h q f, leb-false (get_or tr k 0) NACK e), refl, refl)
  why_right k d h q f true true e g = ((h, member_back sh hs p (take k tr) d q g, leb-true (get_or tr k 0) NACK e), refl, refl)
  why_right k d h q f true false e g =
      let w : Wrong (shape_cases sh p tr) tr k = (breaks k d h q f, no_member k d q g, leb-true (get_or tr k 0) NACK e) in
      (of_kind (shape_cases sh p tr) tr k (kind_of sh d (get_or tr k 0)) w (kind_holds sh hs p tr k d w q f), refl, refl)

  stopped_right : (e : Refused) → Stopped sh p fresh 0 tr e → Right num sh p tr (Err e)
  stopped_right e s =
      let k : 0 + s.place ≡ s.place = omega arith in
      subst (λ (u : Refused). Right num sh p tr (Err u)) (sym (s.is ∙ ap (λ (n : ℕ). why sh s.state n (get_or tr s.place 0)) k))
      (why_right s.place s.state s.inside s.leads s.stuck _ _ refl refl)

  right_by : (g : Result Decoder Refused) → run sh p fresh 0 tr ≡ g → Right num sh p tr (concluded num sh tr g)
  unfolding finish
  right_by (Ok d) q = finish_right d q _ _ _ refl refl refl
  right_by (Err e) q = stopped_right e (refused_at_place sh p tr fresh 0 e q)

  -- the computed answer is one that the declared meaning allows
  pub answer_holds : Answers num sh p tr (decoded_by num sh p tr) (sent_data sh tr (decoded_by num sh p tr)) (received_data p tr (decoded_by num sh p tr))
  unfolding decoded_by
  answer_holds = right_by (run sh p fresh 0 tr) refl

  -- the other way: what the meaning allows is what is computed
  by_reading : (d : Decoder) (b c g : Bool) → run sh p fresh 0 tr ≡ Ok d → is_cut d.due ≡ b → over d.due d.slot ≡ c → d.good ≡ g
      → decoded_by num sh p tr ≡ pick b (refused NotAcknowledged (byte_count tr - 1)) (pick c (pick g (Ok (transaction num sh d)) (refused PecDiffers (length tr - 3))) (refused EndsEarly (length tr)))
  unfolding decoded_by finish
  by_reading d b c g q e f h = rw q (rw (e, f, h))

  pub by_stop : (k : ℕ) (d : Decoder) (b c : Bool) → k < length tr → run sh p fresh 0 (take k tr) ≡ Ok d → fits sh d (get_or tr k 0) ≡ false
      → leb (get_or tr k 0) NACK ≡ b → over d.due d.slot ≡ c → decoded_by num sh p tr ≡ refused (pick b (pick c AfterStop (refusal_of (kind_of sh d (get_or tr k 0)))) NoSymbol) k
  unfolding decoded_by
  by_stop k d b c h q f e g = rw (stops_at sh p tr k fresh d h q f) (rw (e, g))

  -- where the first k symbols fit and one more do not
  pub stuck : (k : ℕ) (z : Breaks sh p tr k) (d : Decoder) → run sh p fresh 0 (take k tr) ≡ Ok d → fits sh d (get_or tr k 0) ≡ false
  stuck k z d q = go (fits sh d (get_or tr k 0)) refl
    where
      go : (b : Bool) → fits sh d (get_or tr k 0) ≡ b → b ≡ false
      go false e = refl
      go true e = absurd (z.here (fits_back sh hs p (take (suc k) tr) _ (reads_one_more sh p tr k fresh d z.inside q e)))

  not_over : (k : ℕ) (d : Decoder) → run sh p fresh 0 (take k tr) ≡ Ok d → (Member sh p (take k tr) → ⊥) → over d.due d.slot ≡ false
  not_over k d q n = go (over d.due d.slot) refl
    where
      go : (b : Bool) → over d.due d.slot ≡ b → b ≡ false
      go false e = refl
      go true e = absurd (n (member_back sh hs p (take k tr) d q e))

  -- an answer and its data
  computed : (a : Decoded) (s r : List ℕ) → decoded_by num sh p tr ≡ a → sent_data sh tr a ≡ s → received_data p tr a ≡ r
      → (decoded_by num sh p tr ≡ a) × (sent_data sh tr (decoded_by num sh p tr) ≡ s) × (received_data p tr (decoded_by num sh p tr) ≡ r)
  computed a s r e es er = (e, ap (sent_data sh tr) e ∙ es, ap (received_data p tr) e ∙ er)

  only_done : (t : Transaction) (s r : List ℕ) → Carries num sh p tr t s r → (decoded_by num sh p tr ≡ Ok t) × (sent_data sh tr (Ok t) ≡ s) × (received_data p tr (Ok t) ≡ r)
  unfolding carries
  only_done t s r h =
      let m = h.message in
      let y = pec_byte sh hs p m h.valid in
      let q : run sh p fresh 0 tr ≡ Ok (end_state sh p m (pec_of sh m)) = ap (run sh p fresh 0) h.is ∙ whole_runs sh hs p m (pec_of sh m) h.valid y in
      let k = carries m h.valid t h.is h.fields in (
        by_reading _ false true true q refl refl (good_place p (pec_of sh m)) ∙ ap Ok (fields_are num sh hs p m (pec_of sh m) h.valid y ∙ sym h.fields),
        k.data_sent ∙ sym h.data_sent,
        k.data_received ∙ sym h.data_received,
      )

  only_pec : (k : ℕ) → OtherPec sh p tr k → decoded_by num sh p tr ≡ refused PecDiffers k
  only_pec k h =
      let m = h.message in
      let i : h.pec ∷ [] ≡ in_place p h.pec = ap (λ (b : Bool). in_place b h.pec) (sym h.used) in
      let y : Bytes (in_place p h.pec) = subst Bytes i (h.byte, tt) in
      let q : run sh p fresh 0 tr ≡ Ok (end_state sh p m h.pec) =
      ap (run sh p fresh 0) (h.is ∙ ap (trace_at sh m) i) ∙ whole_runs sh hs p m h.pec h.valid y in
      let g : pick p (eqb h.pec (pec_of sh m)) true ≡ false = ap (λ (b : Bool). pick b (eqb h.pec (pec_of sh m)) true) h.used ∙ ne_eqb h.pec (pec_of sh m) h.differs in
      by_reading _ false true false q refl refl g ∙ ap (refused PecDiffers) (omega (arith, h.place))

  only_cut : (b : ℕ) → CutAt sh p tr b → decoded_by num sh p tr ≡ refused NotAcknowledged b
  only_cut b h =
      let r = cut_runs sh hs p tr b h in
      let n : byte_count tr ≡ suc b = ap byte_count h.is ∙ nack_adds_no_byte h.before ∙ byte_count_is h.before ∙ h.number in
      by_reading r.0 true _ _ r.1 (ap is_cut r.2) refl refl ∙ ap (refused NotAcknowledged) (omega arith)

  only_early : Fits sh p tr → (Member sh p tr → ⊥) → decoded_by num sh p tr ≡ refused EndsEarly (length tr)
  only_early f n =
      let r = fits_runs sh hs p tr f in
      let o : over r.0.due r.0.slot ≡ false = go r.0 r.1 (over r.0.due r.0.slot) refl in
      by_reading r.0 false false _ r.1 (open_cut r.0.due r.0.slot o) o refl
    where
      go : (d : Decoder) → run sh p fresh 0 tr ≡ Ok d → (b : Bool) → over d.due d.slot ≡ b → b ≡ false
      go d q false e = refl
      go d q true e = absurd (n (member_back sh hs p tr d q e))

  -- a wrong symbol: the kind that is worked out, and no other
  wrong_is : (k : ℕ) → Wrong (shape_cases sh p tr) tr k → (w : Kind) × OfKind (shape_cases sh p tr) tr k w × (decoded_by num sh p tr ≡ refused (refusal_of w) k)
  wrong_is k h =
      let z = h.0 in
      let f = fits_runs sh hs p (take k tr) z.before in
      let s = stuck k z f.0 f.1 in (
        kind_of sh f.0 (get_or tr k 0),
        kind_holds sh hs p tr k f.0 h f.1 s,
        by_stop k f.0 true false z.inside f.1 s (le-leb (get_or tr k 0) NACK h.2) (not_over k f.0 f.1 h.1),
      )

  only_wrong : (w : Kind) (k : ℕ) → Wrong (shape_cases sh p tr) tr k → OfKind (shape_cases sh p tr) tr k w → decoded_by num sh p tr ≡ refused (refusal_of w) k
  only_wrong w k h m =
      let r = wrong_is k h in
      r.2 ∙ ap (λ (u : Kind). refused (refusal_of u) k) (one_kind (λ y. Fits sh p (take k tr ++ y ∷ [])) (AfterStart tr k) (sh.tohost ≡ true) (get_or tr k 0) r.0 w r.1 m)

  -- every wrong symbol is refused for its kind
  pub wrong_decided : (k : ℕ) → Wrong (shape_cases sh p tr) tr k → (w : Kind) × Because sh p tr (refusal_of w) k
  wrong_decided k h = let r = wrong_is k h in (r.0, of_kind (shape_cases sh p tr) tr k r.0 h r.1)

  only_refused : (w : Refusal) (k : ℕ) → Because sh p tr w k → decoded_by num sh p tr ≡ refused w k
  only_refused Forbidden k h = absurd h
  only_refused BufferTooShort k h = absurd h
  only_refused NoSymbol k h =
      let z = h.0 in
      let f = fits_runs sh hs p (take k tr) z.before in
      by_stop k f.0 false _ z.inside f.1 (stuck k z f.0 f.1) (lt-leb (get_or tr k 0) NACK h.1) refl
  only_refused EndsEarly k h = only_early h.0 h.1 ∙ ap (refused EndsEarly) (sym h.2)
  only_refused Unexpected k h = only_wrong Other k h.0 h.1
  only_refused NotAcknowledged k h = only_cut k h
  only_refused PecDiffers k h = only_pec k h
  only_refused WrongAck k h = only_wrong Swapped k h.0 h.1
  only_refused WrongAddress k h = only_wrong Misaddressed k h.0 h.1
  only_refused WrongCount k h = only_wrong Miscounted k h.0 h.1
  only_refused AfterStop k h =
      let m = member_runs sh hs p (take k tr) h.1 in
      by_stop k m.0 true true h.0 m.1 (nothing_follows sh p m.0 (get_or tr k 0) m.2) (le-leb (get_or tr k 0) NACK h.2) m.2

  -- and the declared meaning allows no other answer, and no other data
  pub no_other_answer : (a : Decoded) (s r : List ℕ) → Answers num sh p tr a s r → (decoded_by num sh p tr ≡ a) × (sent_data sh tr (decoded_by num sh p tr) ≡ s) × (received_data p tr (decoded_by num sh p tr) ≡ r)
  no_other_answer (Ok t) s r h = let k = only_done t s r h in computed (Ok t) s r k.0 k.1 k.2
  no_other_answer (Err e) s r h = computed (Err e) s r (only_refused e.why e.place h.0) (sym h.1) (sym h.2)
