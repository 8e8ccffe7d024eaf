-- Whole traces are read to their end, cut traces are found cut, and both ways round: the members are the traces at whose end the decoder is
-- over, and what fits is what is not refused.
use Rattle.std.specs.Prelude.{◌≡◌, Bool, ℕ, suc, ◌+◌, ◌<◌, ◌%◌, ltb, length, Ok, Err}
use Rattle.std.proofs.Math.Path.{refl, ap, ap₂}
use Rattle.std.proofs.Common.{sym, ◌∙◌, subst, inl, inr, arith, eqb-true, lt-ltb}
use Rattle.std.proofs.Math.Bool.{true, false}
use mathlib.Core.List.{List, [], ◌∷◌, ◌++◌, append-nil}
use Rattle.std.proofs.Math.Dec.{eqb}
use Rattle.lists.specs.AbsurdLaws.{zero_is_one}
use Rattle.lists.specs.Choice.{pick, or}
use Rattle.lists.specs.ChoiceLaws.{false_not_true, not_both}
use Rattle.lists.specs.Each.{Bytes}
use Rattle.wire.specs.Symbols.{START, STOP, ACK, NACK}
use Rattle.trace.specs.declared.shape.Shape.{Shape}
use Rattle.trace.specs.Trace.{Message, first_byte, by_target, by_controller, trace_at, in_place, Valid}
use Rattle.trace.specs.Sane.{Sane}
use Rattle.step.specs.declared.state.Slot.{Slot}
use Rattle.step.specs.declared.state.Slot.TheVariants.{Start, First, Command, Count, Data, Pec, Restart, Second, ReadCount, ReadData, ReadPec, Stop, End}
use Rattle.step.specs.declared.state.Due.{Due}
use Rattle.step.specs.declared.state.Due.TheVariants.{Nobody, Target, Controller, Halted, Cut}
use Rattle.step.specs.declared.state.Decoder.{Decoder}
use Rattle.step.specs.State.{fresh}
use Rattle.step.specs.Fits.{fits_slot, fits_due, fits}
use Rattle.step.specs.Move.{at, move_slot, move_due, move}
use Rattle.misfit.proofs.KindLaws.{no_ack_fits}
use Rattle.scan.specs.Refusal.{ended, over, why}
use Rattle.scan.specs.BytesIn.{bytes_in}
use Rattle.scan.proofs.BytesInLaws.{byte_count_is}
use Rattle.scan.specs.Run.{run, byte_count}
use Rattle.scan.specs.Answers.{CutAt, Member, Fits}
use Rattle.scan.proofs.RunLaws.{refused_not_reading, same_state, run_append, run_before, run_from}
use Rattle.scan.specs.Leads.{Leads, no_controller, no_target}
use Rattle.scan.proofs.LeadLaws.{leads_run, leads_inside}
use Rattle.scan.specs.EndState.{turn_state, end_state}
use Rattle.scan.proofs.ForwardLaws.{target_part_leads, controller_part_leads, first_byte_fits}
use Rattle.scan.proofs.ReverseLaws.{ended_is_whole}
use Rattle.scan.specs.Roomy.{Roomy}
use Rattle.scan.proofs.RoomyLaws.{reached_roomy}
use Rattle.scan.specs.Ends.{Ends}
use Rattle.scan.proofs.CompletionLaws.{acknowledged_ends, controller_due_ends, target_due_ends}

-- a whole trace is read to its end
module _ (sh : Shape) (hs : Sane sh) (p : Bool) where
  pub whole_runs : (t : Message) (y : ℕ) (v : Valid sh t) (hy : Bytes (in_place p y)) → run sh p fresh 0 (trace_at sh t (in_place p y)) ≡ Ok (end_state sh p t y)
  whole_runs t y v hy =
      run_append sh p (by_target sh t (in_place p y)) (by_controller sh t (in_place p y)) fresh _ 0 (leads_run no_controller sh p _ _ _ 0 (target_part_leads sh hs p t y v hy))
      ∙ leads_run no_target sh p _ _ _ _ (controller_part_leads sh hs p t y v hy)

  -- a byte is followed by no ACK but the one that is due
  no_ack : (s : Slot) (d : Decoder) → fits_slot sh s d ACK ≡ true → ⊥
  no_ack s d h = omega (arith, no_ack_fits sh hs d s ACK h)

  ack_due : (d : Decoder) (a : Due) → fits_due sh a d ACK ≡ true → no_controller a ≡ true → a ≡ Target
  ack_due d Nobody h g = absurd (no_ack d.slot d h)
  ack_due d Target h g = refl
  ack_due d Controller h g = false_not_true g
  ack_due d Halted h g = false_not_true h
  ack_due d Cut h g = false_not_true h

  -- NACK and STOP where the target's ACK is due
  halts_at : (d : Decoder) (i : ℕ) → run sh p (at d d.slot Target d.left) i (NACK ∷ STOP ∷ []) ≡ Ok (at d d.slot Cut 0)
  unfolding run
  halts_at d i = refl

  halts : (d : Decoder) (i : ℕ) → d.due ≡ Target → run sh p d i (NACK ∷ STOP ∷ []) ≡ Ok (at d d.slot Cut 0)
  halts d i e = subst (λ (a : Due). run sh p (at d d.slot a d.left) i (NACK ∷ STOP ∷ []) ≡ Ok (at d d.slot Cut 0)) (sym e) (halts_at d i)

  target_ack_runs_at : (d : Decoder) (i : ℕ) (ys : List ℕ) → run sh p (at d d.slot Target d.left) i (ACK ∷ ys) ≡ run sh p (at d d.slot Nobody d.left) (suc i) ys
  unfolding run
  target_ack_runs_at d i ys = refl

  pub target_ack_runs : (d : Decoder) (i : ℕ) (ys : List ℕ) → d.due ≡ Target → run sh p d i (ACK ∷ ys) ≡ run sh p (at d d.slot Nobody d.left) (suc i) ys
  target_ack_runs d i ys e = subst (λ (a : Due). run sh p (at d d.slot a d.left) i (ACK ∷ ys) ≡ run sh p (at d d.slot Nobody d.left) (suc i) ys) (sym e) (target_ack_runs_at d i ys)

  -- a cut trace is read to its end, and the decoder says so
  pub cut_runs : (tr : List ℕ) (b : ℕ) → CutAt sh p tr b → (e : Decoder) × (run sh p fresh 0 tr ≡ Ok e) × (e.due ≡ Cut)
  cut_runs tr b c =
      let l = leads_inside no_controller sh p c.before 258 c.after fresh _ (subst (λ (xs : List ℕ). Leads no_controller sh p fresh xs (turn_state sh p c.message c.pec)) c.ack (target_part_leads sh hs p c.message c.pec c.valid c.byte)) in
      let m = l.0 in
      let q : run sh p fresh 0 c.before ≡ Ok m = leads_run no_controller sh p c.before fresh m 0 l.1 in (
        at m m.slot Cut 0,
        ap (run sh p fresh 0) c.is ∙ run_append sh p c.before (NACK ∷ STOP ∷ []) fresh m 0 q ∙ halts m _ (ack_due m m.due l.2 l.3),
        refl,
      )

pub ended_is_end : (s : Slot) → ended s ≡ true → s ≡ End
ended_is_end End h = refl
ended_is_end Start h = false_not_true h
ended_is_end First h = false_not_true h
ended_is_end Command h = false_not_true h
ended_is_end Count h = false_not_true h
ended_is_end Data h = false_not_true h
ended_is_end Pec h = false_not_true h
ended_is_end Restart h = false_not_true h
ended_is_end Second h = false_not_true h
ended_is_end ReadCount h = false_not_true h
ended_is_end ReadData h = false_not_true h
ended_is_end ReadPec h = false_not_true h
ended_is_end Stop h = false_not_true h

-- two ways to part a list
pub data Parted (us bs cs : List ℕ) (x : ℕ) (ds : List ℕ) : Type 0 where
  early : (post : List ℕ) → us ≡ cs ++ x ∷ post → Parted us bs cs x ds
  late : (mid : List ℕ) → cs ≡ us ++ mid → bs ≡ mid ++ x ∷ ds → Parted us bs cs x ds

pub split_at_symbol : (us bs cs : List ℕ) (x : ℕ) (ds : List ℕ) → us ++ bs ≡ cs ++ x ∷ ds → Parted us bs cs x ds
split_at_symbol [] bs cs x ds e = late cs refl e
split_at_symbol (a ∷ us) bs [] x ds e = early us (cc)
split_at_symbol (a ∷ us) bs (c ∷ cs) x ds e = go (split_at_symbol us bs cs x ds (cc))
  where
    go : Parted us bs cs x ds → Parted (a ∷ us) bs (c ∷ cs) x ds
    go (early post q) = early post (cc)
    go (late mid q r) = late mid (cc) r

-- the bytes before the ACK
count_byte_lem : (a f : ℕ) (cs : List ℕ) → f < 256 → (b : ℕ) × (byte_count (a ∷ f ∷ cs) ≡ suc b)
unfolding byte_count
count_byte_lem a f cs h = (pick (ltb a 256) 1 0 + byte_count cs, rw (lt-ltb f 256 h) (omega arith))

byte_before : (f : ℕ) (xs pre post : List ℕ) → f < 256 → START ∷ f ∷ xs ≡ pre ++ ACK ∷ post → (b : ℕ) × (length (bytes_in pre) ≡ suc b)
byte_before f xs [] post h e = let z : ◌≡◌ {A = ℕ} 256 258 = cc in absurd (omega arith)
byte_before f xs (a ∷ []) post h e = let z : f ≡ 258 = cc in absurd (omega arith)
byte_before f xs (a ∷ c ∷ cs) post h e = let z : c ≡ f = cc in let r = count_byte_lem a c cs (omega arith) in (r.0, sym (byte_count_is (a ∷ c ∷ cs)) ∙ r.1)

pub nack_adds_no_byte : (pre : List ℕ) → byte_count (pre ++ NACK ∷ STOP ∷ []) ≡ byte_count pre
unfolding byte_count
nack_adds_no_byte [] = refl
nack_adds_no_byte (x ∷ pre) = ap (λ (n : ℕ). pick (ltb x 256) 1 0 + n) (nack_adds_no_byte pre)

-- the symbol that cut it
record Inside (sh : Shape) (p : Bool) (d : Decoder) (tr : List ℕ) : Type 0 where
  pre : List ℕ
  state : Decoder
  is : tr ≡ pre ++ NACK ∷ STOP ∷ []
  leads : run sh p d 0 pre ≡ Ok state
  target : state.due ≡ Target

-- no symbol but the target's NACK halts
abbrev halting : Due → Bool
halting Halted = true
halting Cut = true
halting Nobody = false
halting Target = false
halting Controller = false

module _ (sh : Shape) (hs : Sane sh) (p : Bool) where
  slot_goes_on : (s : Slot) (d : Decoder) (x : ℕ) → halting (move_slot sh p s d x).due ≡ false
  slot_goes_on Start d x = refl
  slot_goes_on First d x = refl
  slot_goes_on Command d x = refl
  slot_goes_on Count d x = refl
  slot_goes_on Data d x = refl
  slot_goes_on Pec d x = refl
  slot_goes_on Restart d x = refl
  slot_goes_on Second d x = refl
  slot_goes_on ReadCount d x = refl
  slot_goes_on ReadData d x = refl
  slot_goes_on ReadPec d x = refl
  slot_goes_on Stop d x = refl
  slot_goes_on End d x = refl

  or_else : (a b : Bool) → or a b ≡ true → a ≡ false → b ≡ true
  or_else true b h e = cc
  or_else false b h e = h

  due_halts : (d : Decoder) (x : ℕ) (a : Due) → halting a ≡ false → fits_due sh a d x ≡ true → halting (move_due sh p a d x).due ≡ true
      → (a ≡ Target) × (x ≡ NACK) × (move_due sh p a d x ≡ at d d.slot Halted d.left)
  due_halts d x Nobody n h g = not_both (slot_goes_on d.slot d (x % 256)) g
  due_halts d x Target n h g = go (eqb x ACK) refl g
    where
      go : (b : Bool) → eqb x ACK ≡ b → halting (pick b Nobody Halted) ≡ true
          → (Target ≡ Target) × (x ≡ NACK) × (at d d.slot (pick b Nobody Halted) d.left ≡ at d d.slot Halted d.left)
      go true e g = false_not_true g
      go false e g = (refl, eqb-true x 259 (or_else (eqb x ACK) (eqb x NACK) h e), refl)
  due_halts d x Controller n h g = false_not_true g
  due_halts d x Halted n h g = false_not_true (sym n)
  due_halts d x Cut n h g = false_not_true (sym n)

  -- after the NACK only STOP leads to the end
  after_nack : (d e : Decoder) (i : ℕ) (xs : List ℕ) → run sh p (at d d.slot Halted d.left) i xs ≡ Ok e → e.due ≡ Cut → xs ≡ STOP ∷ []
  unfolding run
  after_nack d e i [] q c =
      let z : at d d.slot Halted d.left ≡ e = same_state q in
      let w : Halted ≡ Cut = ap (λ (u : Decoder). u.due) z ∙ c in
      zero_is_one cc
  after_nack d e i (x ∷ []) q c = go (eqb x STOP) refl q
    where
      go : (b : Bool) → eqb x STOP ≡ b → pick b (Ok (at d d.slot Cut 0)) (Err (why sh (at d d.slot Halted d.left) i x)) ≡ Ok e → x ∷ [] ≡ STOP ∷ []
      go true h q = ap (λ (n : ℕ). n ∷ []) (eqb-true x 257 h)
      go false h q = absurd (refused_not_reading q)
  after_nack d e i (x ∷ y ∷ ys) q c = go (eqb x STOP) q
    where
      go : (b : Bool) → pick b (Err (why sh (at d d.slot Cut 0) (suc i) y)) (Err (why sh (at d d.slot Halted d.left) i x)) ≡ Ok e → x ∷ y ∷ ys ≡ STOP ∷ []
      go true q = absurd (refused_not_reading q)
      go false q = absurd (refused_not_reading q)

  cut_inside : (tr : List ℕ) (d e : Decoder) (i : ℕ) → halting d.due ≡ false → run sh p d i tr ≡ Ok e → e.due ≡ Cut → Inside sh p d tr
  unfolding run
  cut_inside [] d e i n q c =
      let z : d.due ≡ Cut = ap (λ (u : Decoder). u.due) (same_state q) ∙ c in
      not_both n (ap halting z)
  cut_inside (x ∷ xs) d e i n q c = go (fits sh d x) refl q (λ g k. cut_inside xs (move sh p d x) e (suc i) g k c)
    where
      again : fits sh d x ≡ true → run sh p (move sh p d x) (suc i) xs ≡ Ok e → (b : Bool) → halting (move sh p d x).due ≡ b
          → (halting (move sh p d x).due ≡ false → run sh p (move sh p d x) (suc i) xs ≡ Ok e → Inside sh p (move sh p d x) xs)
          → Inside sh p d (x ∷ xs)
      again h q true g ih =
          let w = due_halts d x d.due n h g in
          record {
            pre = [];
            state = d;
            is = ap₂ ◌∷◌ w.1 (after_nack d e (suc i) xs (subst (λ (u : Decoder). run sh p u (suc i) xs ≡ Ok e) w.2 q) c);
            leads = refl;
            target = w.0;
          }
      again h q false g ih =
          let r = ih g q in
          record { pre = x ∷ r.pre; state = r.state; is = ap (◌∷◌ x) r.is; leads = rw h (run_from sh p r.pre (move sh p d x) r.state 0 1 r.leads); target = r.target }

      go : (b : Bool) → fits sh d x ≡ b → pick b (run sh p (move sh p d x) (suc i) xs) (Err (why sh d i x)) ≡ Ok e
          → (halting (move sh p d x).due ≡ false → run sh p (move sh p d x) (suc i) xs ≡ Ok e → Inside sh p (move sh p d x) xs)
          → Inside sh p d (x ∷ xs)
      go true h q ih = again h q (halting (move sh p d x).due) refl ih
      go false h q ih = absurd (refused_not_reading q)

  -- the place of the NACK is in the part that the target acknowledges
  cut_part : (t : Message) (y : ℕ) (v : Valid sh t) (hy : Bytes (in_place p y)) (pre ys : List ℕ) (m : Decoder)
      → run sh p fresh 0 pre ≡ Ok m → m.due ≡ Target → Parted (by_target sh t (in_place p y)) (by_controller sh t (in_place p y)) pre 258 ys
      → (post : List ℕ) × (by_target sh t (in_place p y) ≡ pre ++ ACK ∷ post)
  cut_part t y v hy pre ys m q g (early post e) = (post, e)
  cut_part t y v hy pre ys m q g (late mid e r) =
      let l = leads_inside no_target sh p mid 258 ys _ _ (subst (λ (xs : List ℕ). Leads no_target sh p (turn_state sh p t y) xs (end_state sh p t y)) r (controller_part_leads sh hs p t y v hy)) in
      let z : run sh p fresh 0 pre ≡ Ok l.0 =
      ap (run sh p fresh 0) e ∙ run_append sh p (by_target sh t (in_place p y)) mid fresh _ 0 (leads_run no_controller sh p _ _ _ 0 (target_part_leads sh hs p t y v hy)) ∙ leads_run no_target sh p mid _ _ _ l.1 in
      let w : m ≡ l.0 = same_state (sym q ∙ z) in
      not_both {b = no_target m.due} (ap no_target g) (ap (λ (u : Decoder). no_target u.due) w ∙ l.3)

  -- a trace at whose end the decoder is cut is a cut trace
  pub cut_back : (tr : List ℕ) (e : Decoder) → run sh p fresh 0 tr ≡ Ok e → e.due ≡ Cut → (b : ℕ) × CutAt sh p tr b
  cut_back tr e q c =
      let n = cut_inside tr fresh e 0 refl q c in
      let m = n.state in
      let w = acknowledged_ends sh hs p m (reached_roomy sh hs p n.pre m n.leads) in
      let r : run sh p fresh 0 (n.pre ++ ACK ∷ w.rest) ≡ Ok w.last =
      run_append sh p n.pre (ACK ∷ w.rest) fresh m 0 n.leads ∙ target_ack_runs sh hs p m _ w.rest n.target ∙ run_from sh p w.rest _ w.last 0 _ w.leads in
      let v = ended_is_whole sh hs p (n.pre ++ ACK ∷ w.rest) w.last 0 r w.slot w.due in
      let y : List ℕ = in_place p v.pec in
      let k = cut_part v.message v.pec v.valid v.byte n.pre w.rest m n.leads n.target
      (split_at_symbol (by_target sh v.message y) (by_controller sh v.message y) n.pre 258 w.rest (sym v.is)) in
      let b = byte_before (first_byte sh v.message) _ n.pre k.0 (first_byte_fits sh v.message v.valid).0 k.1 in
      (b.0, record { message = v.message; pec = v.pec; valid = v.valid; byte = v.byte; before = n.pre; after = k.0; ack = k.1; is = n.is; number = b.1 })

  -- what is not refused fits: some symbols make it a member
  module _ (tr : List ℕ) where
    abbrev Completes : Decoder → Type 0
    Completes d = run sh p fresh 0 tr ≡ Ok d → Fits sh p tr

    whole_by : (d : Decoder) → Ends sh p d → Completes d
    whole_by d w q =
        (w.rest, inl (ended_is_whole sh hs p (tr ++ w.rest) w.last 0 (run_append sh p tr w.rest fresh d 0 q ∙ run_from sh p w.rest d w.last 0 _ w.leads) w.slot w.due))

    stop_step : (d : Decoder) (i : ℕ) → run sh p (at d d.slot Halted d.left) i (STOP ∷ []) ≡ Ok (at d d.slot Cut 0)
    unfolding run
    stop_step d i = refl

    by_due : (d : Decoder) (a : Due) → Roomy sh d → Completes (at d d.slot a d.left)
    by_due d Nobody h q = whole_by _ (acknowledged_ends sh hs p d h) q
    by_due d Target h q = whole_by _ (target_due_ends sh hs p d h) q
    by_due d Controller h q = whole_by _ (controller_due_ends sh hs p d h) q
    by_due d Halted h q =
        (STOP ∷ [], inr (cut_back (tr ++ STOP ∷ []) _ (run_append sh p tr (STOP ∷ []) fresh _ 0 q ∙ stop_step d _) refl))
    by_due d Cut h q = ([], subst (Member sh p) (sym (append-nil tr)) (inr (cut_back tr _ q refl)))

    pub fits_back : (d : Decoder) → run sh p fresh 0 tr ≡ Ok d → Fits sh p tr
    fits_back d q = by_due d d.due (reached_roomy sh hs p tr d q) q

    -- what fits is not refused
    pub member_runs : Member sh p tr → (e : Decoder) × (run sh p fresh 0 tr ≡ Ok e) × (over e.due e.slot ≡ true)
    member_runs (inl w) =
        (end_state sh p w.message w.pec, ap (run sh p fresh 0) w.is ∙ whole_runs sh hs p w.message w.pec w.valid w.byte, refl)
    member_runs (inr (b, c)) = let r = cut_runs sh hs p tr b c in (r.0, r.1, ap (λ (a : Due). over a r.0.slot) r.2)

    -- the states of the members
    over_back : (d : Decoder) (a : Due) (s : Slot) → d.due ≡ a → d.slot ≡ s → over a s ≡ true → run sh p fresh 0 tr ≡ Ok d → Member sh p tr
    over_back d Nobody s e g h q = inl (ended_is_whole sh hs p tr d 0 q (g ∙ ended_is_end s h) e)
    over_back d Target s e g h q = false_not_true h
    over_back d Controller s e g h q = false_not_true h
    over_back d Halted s e g h q = false_not_true h
    over_back d Cut s e g h q = inr (cut_back tr d q e)

    pub member_back : (d : Decoder) → run sh p fresh 0 tr ≡ Ok d → over d.due d.slot ≡ true → Member sh p tr
    member_back d q h = over_back d d.due d.slot refl refl h q

  pub fits_runs : (tr : List ℕ) → Fits sh p tr → (d : Decoder) × (run sh p fresh 0 tr ≡ Ok d)
  fits_runs tr f =
      let m = member_runs (tr ++ f.0) f.1 in
      let r = run_before sh p tr f.0 fresh m.0 0 m.1 in
      (r.0, r.1)
