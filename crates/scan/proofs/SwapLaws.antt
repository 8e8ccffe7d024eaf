-- Where the controller's bit is swapped, worked out: 17 is given exactly where a whole trace goes on with the controller's ACK or NACK, and the
-- other of the two stands there.
use Rattle.std.specs.Prelude.{◌≡◌, Bool, true, false, List, [], ◌∷◌, ◌++◌, ◌⊎◌, ℕ, ◌≤◌, ◌<◌, eqb, length, take, get_or, Ok}
use Rattle.std.proofs.Math.Path.{refl, subst}
use Rattle.std.proofs.Common.{sym, ◌∙◌, ap, inl, inr, arith, eqb-true, ne_eqb, le-leb}
use Rattle.lists.specs.AbsurdLaws.{zero_is_one}
use Rattle.lists.specs.Choice.{or}
use Rattle.lists.specs.ChoiceLaws.{false_not_true}
use Rattle.lists.specs.Each.{Bytes}
use Rattle.wire.specs.Symbols.{NACK}
use Rattle.trace.specs.declared.shape.Shape.{Shape}
use Rattle.trace.specs.Sane.{Sane}
use Rattle.trace.specs.Trace.{Message, in_place, by_target, by_controller, Valid}
use Rattle.step.specs.declared.state.Due.{Due}
use Rattle.step.specs.declared.state.Due.TheVariants.{Nobody, Target, Controller, Halted, Cut}
use Rattle.step.specs.declared.state.Decoder.{Decoder}
use Rattle.step.specs.State.{fresh}
use Rattle.step.specs.Fits.{ack_at, fits_due, fits}
use Rattle.step.specs.Move.{at}
use Rattle.misfit.specs.Cases.{IsSwapped}
use Rattle.misfit.specs.CasesLaws.{one_kind}
use Rattle.misfit.proofs.KindLaws.{no_ack_fits, swapped_due}
use Rattle.misfit.specs.Kinds.{kind_of}
use Rattle.misfit.specs.declared.kind.Kind.TheVariants.{Swapped}
use Rattle.scan.specs.declared.answer.Refusal.TheVariants.{WrongAck}
use Rattle.scan.specs.Decoded.{refused}
use Rattle.scan.specs.Answers.{Fits, Because}
use Rattle.scan.proofs.AnswersLaws.{answer_exactly}
use Rattle.scan.specs.Because.{AfterStart}
use Rattle.scan.proofs.CompletionLaws.{controller_due_ends}
use Rattle.scan.proofs.DecideLaws.{by_stop, stuck}
use Rattle.scan.specs.EndState.{turn_state, end_state}
use Rattle.scan.specs.Ends.{Ends}
use Rattle.scan.proofs.ForwardLaws.{target_part_leads, controller_part_leads}
use Rattle.scan.proofs.LeadLaws.{leads_run, leads_inside}
use Rattle.scan.specs.Leads.{Leads, no_controller, no_target}
use Rattle.scan.proofs.MemberLaws.{Parted, early, late, split_at_symbol, fits_runs}
use Rattle.scan.specs.Refusal.{over, refusal_of}
use Rattle.scan.proofs.ReverseLaws.{ended_is_whole}
use Rattle.scan.proofs.RoomyLaws.{reached_roomy}
use Rattle.scan.specs.Run.{run}
use Rattle.scan.proofs.RunLaws.{same_state, first_fits, run_append, run_from}
use Rattle.scan.proofs.WrongLaws.{fits_behind, kind_holds}

-- the symbol at k is the other of ACK and NACK than s, which a whole trace has there among the controller's
pub record SwappedAt (sh : Shape) (p : Bool) (tr : List ℕ) (k : ℕ) : Type 0 where
  pub message : Message
  pub pec : ℕ
  pub valid : Valid sh message
  pub byte : Bytes (in_place p pec)
  pub before : List ℕ
  pub bit : ℕ
  pub after : List ℕ
  pub own : by_controller sh message (in_place p pec) ≡ before ++ bit ∷ after
  pub is : take k tr ≡ by_target sh message (in_place p pec) ++ before
  pub inside : k < length tr
  pub other : ((bit ≡ 258) × (get_or tr k 0 ≡ 259)) ⊎ ((bit ≡ 259) × (get_or tr k 0 ≡ 258))

module _ (sh : Shape) (hs : Sane sh) (p : Bool) where
  -- where the controller's bit is due, it alone fits
  bit_fits : (d : Decoder) (y : ℕ) → d.due ≡ Controller → fits sh d y ≡ eqb y (ack_at d.slot)
  bit_fits d y a = ap (λ (u : Due). fits_due sh u d y) a

  -- an ACK or NACK that fits where no target's is due is the controller's
  bit_due : (d : Decoder) (s : ℕ) → 258 ≤ s → (a : Due) → fits_due sh a d s ≡ true → no_target a ≡ true → a ≡ Controller
  bit_due d s h Nobody f n = absurd (omega (arith, h, no_ack_fits sh hs d d.slot s f))
  bit_due d s h Target f n = false_not_true n
  bit_due d s h Controller f n = refl
  bit_due d s h Halted f n = absurd (omega (arith, h, eqb-true s 257 f))
  bit_due d s h Cut f n = false_not_true f

  module _ (tr : List ℕ) (k : ℕ) where
    -- the whole trace that goes on with the bit that is due
    goes_on : (d : Decoder) → run sh p fresh 0 (take k tr) ≡ Ok d → d.due ≡ Controller → k < length tr
        → ((get_or tr k 0 ≡ 258) × (ack_at d.slot ≡ 259)) ⊎ ((get_or tr k 0 ≡ 259) × (ack_at d.slot ≡ 258)) → SwappedAt sh p tr k
    unfolding run
    goes_on d q a h o = go ends.rest refl
      where
        ends : Ends sh p d
        ends = subst (λ (u : Due). Ends sh p (at d d.slot u d.left)) (sym a) (controller_due_ends sh hs p d (reached_roomy sh hs p (take k tr) d q))

        turned_other : {y : ℕ} → y ≡ ack_at d.slot → ((get_or tr k 0 ≡ 258) × (ack_at d.slot ≡ 259)) ⊎ ((get_or tr k 0 ≡ 259) × (ack_at d.slot ≡ 258))
            → ((y ≡ 258) × (get_or tr k 0 ≡ 259)) ⊎ ((y ≡ 259) × (get_or tr k 0 ≡ 258))
        turned_other e (inl (x, s)) = inr (e ∙ s, x)
        turned_other e (inr (x, s)) = inl (e ∙ s, x)

        at_bit : (t : Message) (c : ℕ) → Valid sh t → Bytes (in_place p c) → (y : ℕ) (ys : List ℕ) → y ≡ ack_at d.slot
            → Parted (by_target sh t (in_place p c)) (by_controller sh t (in_place p c)) (take k tr) y ys → SwappedAt sh p tr k
        at_bit t c v hc y ys e (early post g) =
            let l = leads_inside no_controller sh p (take k tr) y post fresh (turn_state sh p t c) (subst (λ (l : List ℕ). Leads no_controller sh p fresh l (turn_state sh p t c)) g (target_part_leads sh hs p t c v hc)) in
            let m : l.0 ≡ d = same_state (sym (leads_run no_controller sh p (take k tr) fresh l.0 0 l.1) ∙ q) in
            false_not_true (sym (ap no_controller a) ∙ sym (ap (λ (u : Decoder). no_controller u.due) m) ∙ l.3)
        at_bit t c v hc y ys e (late mid g r) =
            record { message = t; pec = c; valid = v; byte = hc; before = mid; bit = y; after = ys; own = r; is = g; inside = h; other = turned_other e o }

        go : (rest : List ℕ) → ends.rest ≡ rest → SwappedAt sh p tr k
        go [] e =
            let z : d ≡ ends.last = same_state (subst (λ (l : List ℕ). run sh p d 0 l ≡ Ok ends.last) e ends.leads) in
            let n : Controller ≡ Nobody = sym a ∙ ap (λ (u : Decoder). u.due) z ∙ ends.due in
            zero_is_one cc
        go (y ∷ ys) e =
            let l = subst (λ (l : List ℕ). run sh p d 0 l ≡ Ok ends.last) e ends.leads in
            let r = ended_is_whole sh hs p (take k tr ++ y ∷ ys) ends.last 0 (run_append sh p (take k tr) (y ∷ ys) fresh d 0 q ∙ run_from sh p (y ∷ ys) d ends.last 0 _ l) ends.slot ends.due in
            at_bit r.message r.pec r.valid r.byte y ys (eqb-true y (ack_at d.slot) (sym (bit_fits d y a) ∙ first_fits sh p d ends.last 0 y ys l)) (split_at_symbol _ _ (take k tr) y ys (sym r.is))

    -- 17 is given there
    pub wrong_ack_is : Because sh p tr WrongAck k → SwappedAt sh p tr k
    wrong_ack_is h =
        let x : ℕ = get_or tr k 0 in
        let r = fits_runs sh hs p (take k tr) h.0.0.before in
        let f = stuck 0 sh hs p tr k h.0.0 r.0 r.1 in
        let m = kind_holds sh hs p tr k r.0 h.0 r.1 f in
        let e = one_kind (λ y. Fits sh p (take k tr ++ y ∷ [])) (AfterStart tr k) (sh.tohost ≡ true) x (kind_of sh r.0 x) Swapped m h.1 in
        let a = swapped_due sh r.0 x e in
        goes_on r.0 r.1 a h.0.0.inside (turn r.0 r.1 a h.1)
      where
        turn : (d : Decoder) → run sh p fresh 0 (take k tr) ≡ Ok d → d.due ≡ Controller → IsSwapped (λ y. Fits sh p (take k tr ++ y ∷ [])) (get_or tr k 0)
            → ((get_or tr k 0 ≡ 258) × (ack_at d.slot ≡ 259)) ⊎ ((get_or tr k 0 ≡ 259) × (ack_at d.slot ≡ 258))
        turn d q a (inl (x, g)) = inl (x, sym (eqb-true 259 (ack_at d.slot) (sym (bit_fits d 259 a) ∙ (fits_behind sh hs p (take k tr) d q 259).0 g)))
        turn d q a (inr (x, g)) = inr (x, sym (eqb-true 258 (ack_at d.slot) (sym (bit_fits d 258 a) ∙ (fits_behind sh hs p (take k tr) d q 258).0 g)))

    -- and nowhere else
    swapped_kind : (d : Decoder) (x : ℕ) → d.due ≡ Controller → or (eqb x 258) (eqb x 259) ≡ true → kind_of sh d x ≡ Swapped
    swapped_kind d x a e = rw (a, e)

    pub is_wrong_ack : SwappedAt sh p tr k → Because sh p tr WrongAck k
    is_wrong_ack t =
        let c : List ℕ = in_place p t.pec in
        let z = turn_state sh p t.message t.pec in
        let l = leads_inside no_target sh p t.before t.bit t.after z (end_state sh p t.message t.pec) (subst (λ (l : List ℕ). Leads no_target sh p z l (end_state sh p t.message t.pec)) t.own (controller_part_leads sh hs p t.message t.pec t.valid t.byte)) in
        let d = l.0 in
        let q : run sh p fresh 0 (take k tr) ≡ Ok d =
        ap (run sh p fresh 0) t.is ∙ run_append sh p (by_target sh t.message c) t.before fresh z 0 (leads_run no_controller sh p _ _ _ 0 (target_part_leads sh hs p t.message t.pec t.valid t.byte)) ∙ leads_run no_target sh p t.before z d _ l.1 in
        let a = bit_due d t.bit (high t.other) d.due l.2 l.3 in
        let b : t.bit ≡ ack_at d.slot = eqb-true t.bit (ack_at d.slot) (sym (bit_fits d t.bit a) ∙ l.2) in
        let f : fits sh d (get_or tr k 0) ≡ false = bit_fits d (get_or tr k 0) a ∙ ne_eqb (get_or tr k 0) (ack_at d.slot) (λ e. differ t.other (e ∙ sym b)) in
        ((answer_exactly 0 sh hs p tr (refused WrongAck k)).0
        (by_stop 0 sh hs p tr k d true false t.inside q f (le-leb (get_or tr k 0) NACK (low t.other)) (ap (λ (u : Due). over u d.slot) a)
        ∙ ap (λ u. refused (refusal_of u) k) (swapped_kind d (get_or tr k 0) a (answers t.other)))).0
      where
        high : {s x : ℕ} → ((s ≡ 258) × (x ≡ 259)) ⊎ ((s ≡ 259) × (x ≡ 258)) → 258 ≤ s
        high (inl (e, g)) = omega (arith, e)
        high (inr (e, g)) = omega (arith, e)

        low : {s x : ℕ} → ((s ≡ 258) × (x ≡ 259)) ⊎ ((s ≡ 259) × (x ≡ 258)) → x ≤ 259
        low (inl (e, g)) = omega (arith, g)
        low (inr (e, g)) = omega (arith, g)

        differ : {s x : ℕ} → ((s ≡ 258) × (x ≡ 259)) ⊎ ((s ≡ 259) × (x ≡ 258)) → x ≡ s → ⊥
        differ (inl (e, g)) q = omega (arith, e, g, q)
        differ (inr (e, g)) q = omega (arith, e, g, q)

        answers : {s x : ℕ} → ((s ≡ 258) × (x ≡ 259)) ⊎ ((s ≡ 259) × (x ≡ 258)) → or (eqb x 258) (eqb x 259) ≡ true
        answers (inl (e, g)) = rw (g)
        answers (inr (e, g)) = rw (g)
