-- Where a count is wrong, worked out: each count of the scope's limits may be any byte, so that a wrong one is a count received that comes to
-- too much together with the count sent. What stands before it is a whole write phase and the address byte for reading.
use Rattle.std.specs.Prelude.{◌≡◌, Bool, ◌⊎◌, ℕ, suc, ◌+◌, ◌-◌, ◌<◌, ◌%◌, leb, eqb, length, take, get_or, Ok, Err}
use Rattle.std.proofs.Math.Path.{refl, sym, ap, subst}
use Rattle.std.proofs.Common.{◌∙◌, ap₂, inl, inr, arith}
use Rattle.std.proofs.Math.Bool.{true, false}
use mathlib.Core.List.{List, [], ◌∷◌, ◌++◌, append-nil}
use borrow.Author.Tests.{le-leb, lt-leb, leb-false, lt-ltb}
use Rattle.lists.specs.AbsurdLaws.{zero_is_one}
use Rattle.lists.specs.Choice.{pick, and}
use Rattle.lists.specs.ChoiceLaws.{false_not_true, not_both}
use Rattle.lists.specs.Each.{Bytes}
use Rattle.wire.specs.Symbols.{NACK}
use Rattle.trace.specs.declared.shape.Part.{Part}
use Rattle.trace.specs.declared.shape.Part.TheVariants.{Nothing, Fixed, Counted}
use Rattle.trace.specs.declared.shape.Shape.{Shape}
use Rattle.trace.specs.Sane.{Sane, Limits}
use Rattle.trace.specs.Shapes.{some, is_counted, least_of, writes, reads}
use Rattle.trace.specs.Trace.{Message, in_place, by_target, by_controller, counted, Valid}
use Rattle.step.specs.declared.state.Slot.{Slot}
use Rattle.step.specs.declared.state.Slot.TheVariants.{Start, First, Command, Count, Data, Pec, Restart, Second, ReadCount, ReadData, ReadPec, Stop, End}
use Rattle.step.specs.declared.state.Due.{Due}
use Rattle.step.specs.declared.state.Due.TheVariants.{Nobody, Target, Controller, Halted, Cut}
use Rattle.step.specs.declared.state.Decoder.{Decoder}
use Rattle.step.specs.State.{to, fresh}
use Rattle.step.specs.Next.{after_read, to_read_data, to_read}
use Rattle.step.specs.Fits.{count_fits, fits_slot, fits_due, fits}
use Rattle.step.specs.Move.{at, move_slot, move_due, move}
use Rattle.misfit.specs.CasesLaws.{one_kind}
use Rattle.misfit.proofs.KindLaws.{count_slot}
use Rattle.misfit.specs.Kinds.{is_count, kind_of}
use Rattle.misfit.specs.declared.kind.Kind.TheVariants.{Miscounted}
use Rattle.scan.specs.declared.answer.Refusal.TheVariants.{WrongCount}
use Rattle.scan.specs.Decoded.{refused}
use Rattle.scan.specs.Answers.{Fits, Because}
use Rattle.scan.specs.Because.{AfterStart}
use Rattle.scan.proofs.CompletionLaws.{acknowledged_ends}
use Rattle.scan.proofs.AnswersLaws.{answer_exactly}
use Rattle.scan.proofs.DecideLaws.{by_stop, stuck}
use Rattle.scan.specs.EndState.{turned, turn_state}
use Rattle.scan.specs.Ends.{Ends}
use Rattle.scan.proofs.ForwardLaws.{target_part_leads}
use Rattle.scan.proofs.LeadLaws.{leads_run, leads_parted}
use Rattle.scan.specs.Leads.{Leads, no_controller}
use Rattle.scan.proofs.MemberLaws.{Parted, early, late, split_at_symbol, fits_runs}
use Rattle.scan.specs.Refusal.{over, refusal_of, why}
use Rattle.scan.proofs.ReverseLaws.{ended_is_whole}
use Rattle.scan.proofs.RoomyLaws.{reached_roomy, least_of_le}
use Rattle.scan.specs.Run.{run}
use Rattle.scan.proofs.RunLaws.{refused_not_reading, same_state, run_append, run_from}
use Rattle.scan.proofs.WrongLaws.{kind_holds}

-- ---- the slot of the count received comes once

-- the slots behind the count received
abbrev beyond : Slot → Bool
beyond ReadData = true
beyond ReadPec = true
beyond Stop = true
beyond End = true
beyond Start = false
beyond First = false
beyond Command = false
beyond Count = false
beyond Data = false
beyond Pec = false
beyond Restart = false
beyond Second = false
beyond ReadCount = false

-- and with its own
abbrev reached : Slot → Bool
reached ReadCount = true
reached ReadData = true
reached ReadPec = true
reached Stop = true
reached End = true
reached Start = false
reached First = false
reached Command = false
reached Count = false
reached Data = false
reached Pec = false
reached Restart = false
reached Second = false

beyond_reached : (s : Slot) → beyond s ≡ true → reached s ≡ true
beyond_reached ReadData h = refl
beyond_reached ReadPec h = refl
beyond_reached Stop h = refl
beyond_reached End h = refl
beyond_reached Start h = h
beyond_reached First h = h
beyond_reached Command h = h
beyond_reached Count h = h
beyond_reached Data h = h
beyond_reached Pec h = h
beyond_reached Restart h = h
beyond_reached Second h = h
beyond_reached ReadCount h = refl

module _ (p : Bool) where
  end_beyond : beyond (after_read p).slot ≡ true
  end_beyond = go p
    where
      go : (b : Bool) → beyond (pick b ReadPec Stop) ≡ true
      go true = refl
      go false = refl

  data_beyond : (k : ℕ) → beyond (to_read_data p k).slot ≡ true
  data_beyond k = go (eqb k 0)
    where
      go : (b : Bool) → beyond (pick b (after_read p) (to ReadData (k - 1))).slot ≡ true
      go true = end_beyond
      go false = refl

  read_reached : (a : Part) → reached (to_read a p).slot ≡ true
  read_reached Nothing = beyond_reached (after_read p).slot end_beyond
  read_reached (Fixed k) = beyond_reached (to_read_data p k).slot (data_beyond k)
  read_reached Counted = refl

module _ (sh : Shape) (p : Bool) where
  slot_beyond : (s : Slot) (d : Decoder) (x : ℕ) → reached s ≡ true → beyond (move_slot sh p s d x).slot ≡ true
  slot_beyond ReadCount d x h = data_beyond p x
  slot_beyond ReadData d x h = data_beyond p d.left
  slot_beyond ReadPec d x h = refl
  slot_beyond Stop d x h = refl
  slot_beyond End d x h = refl
  slot_beyond Start d x h = false_not_true h
  slot_beyond First d x h = false_not_true h
  slot_beyond Command d x h = false_not_true h
  slot_beyond Count d x h = false_not_true h
  slot_beyond Data d x h = false_not_true h
  slot_beyond Pec d x h = false_not_true h
  slot_beyond Restart d x h = false_not_true h
  slot_beyond Second d x h = false_not_true h

  due_beyond : (a : Due) (d : Decoder) (x : ℕ) → beyond d.slot ≡ true → beyond (move_due sh p a d x).slot ≡ true
  due_beyond Nobody d x h = slot_beyond d.slot d (x % 256) (beyond_reached d.slot h)
  due_beyond Target d x h = h
  due_beyond Controller d x h = h
  due_beyond Halted d x h = h
  due_beyond Cut d x h = h

  run_beyond : (tr : List ℕ) (d e : Decoder) (i : ℕ) → beyond d.slot ≡ true → run sh p d i tr ≡ Ok e → beyond e.slot ≡ true
  unfolding run
  run_beyond [] d e i h q = subst (λ (u : Decoder). beyond u.slot ≡ true) (same_state q) h
  run_beyond (x ∷ xs) d e i h q = go (fits sh d x) q (λ k. run_beyond xs (move sh p d x) e (suc i) (due_beyond d.due d x h) k)
    where
      go : (b : Bool) → pick b (run sh p (move sh p d x) (suc i) xs) (Err (why sh d i x)) ≡ Ok e → (run sh p (move sh p d x) (suc i) xs ≡ Ok e → beyond e.slot ≡ true) → beyond e.slot ≡ true
      go true q ih = ih q
      go false q ih = absurd (refused_not_reading q)

  -- with no ACK due there, one symbol more is behind it for good
  count_once : (d e : Decoder) (i x : ℕ) (xs : List ℕ) → d.due ≡ Nobody → reached d.slot ≡ true → run sh p d i (x ∷ xs) ≡ Ok e → beyond e.slot ≡ true
  unfolding run
  count_once d e i x xs a h q = go (fits sh d x) q
    where
      moved : beyond (move sh p d x).slot ≡ true
      moved = subst (λ (u : Due). beyond (move_due sh p u d x).slot ≡ true) (sym a) (slot_beyond d.slot d (x % 256) h)

      go : (b : Bool) → pick b (run sh p (move sh p d x) (suc i) xs) (Err (why sh d i x)) ≡ Ok e → beyond e.slot ≡ true
      go true q = run_beyond xs (move sh p d x) e (suc i) moved q
      go false q = absurd (refused_not_reading q)

  -- the count received is followed by the controller's bit
  no_target_part : (d e : Decoder) (x : ℕ) (xs : List ℕ) → d.due ≡ Nobody → d.slot ≡ ReadCount → e.due ≡ Nobody → Leads no_controller sh p d (x ∷ xs) e → ⊥
  unfolding Leads
  no_target_part d e x xs a s n l = go xs l.2
    where
      own : (move sh p d x).due ≡ Controller
      own = ap (λ (u : Due). (move_due sh p u d x).due) a ∙ ap (λ (u : Slot). (move_slot sh p u d (x % 256)).due) s

      go : (xs : List ℕ) → Leads no_controller sh p (move sh p d x) xs e → ⊥
      go [] q = let z : Controller ≡ Nobody = sym own ∙ ap (λ (u : Decoder). u.due) q ∙ n in zero_is_one cc
      go (y ∷ ys) q = false_not_true (sym (ap no_controller own) ∙ q.1)

-- ---- what stands before a wrong count

-- w is what a message has up to the target's last ACK, and a count x behind it comes to too much with the count sent
pub record TooMuch (sh : Shape) (p : Bool) (w : List ℕ) (x : ℕ) : Type 0 where
  pub message : Message
  pub valid : Valid sh message
  pub pec : ℕ
  pub byte : Bytes (in_place p pec)
  pub before : w ≡ by_target sh message (in_place p pec)
  pub both : (is_counted sh.sent ≡ true) × (is_counted sh.received ≡ true)
  pub sum : 255 < length message.sent + x

-- a slot of a count is one of two
one_of_two : (s : Slot) → is_count s ≡ true → (s ≡ Count) ⊎ (s ≡ ReadCount)
one_of_two Count h = inl refl
one_of_two ReadCount h = inr refl
one_of_two Start h = false_not_true h
one_of_two First h = false_not_true h
one_of_two Command h = false_not_true h
one_of_two Data h = false_not_true h
one_of_two Pec h = false_not_true h
one_of_two Restart h = false_not_true h
one_of_two Second h = false_not_true h
one_of_two ReadData h = false_not_true h
one_of_two ReadPec h = false_not_true h
one_of_two Stop h = false_not_true h
one_of_two End h = false_not_true h

-- the state where the controller's ACKs begin
turn_nobody : (p w r : Bool) (a : Part) (z f c m y : ℕ) → (turned p w r a z f c m y).due ≡ Nobody
turn_nobody p w true a z f c m y = refl
turn_nobody p w false a z f c m y = refl

turn_reached : (p w r : Bool) (a : Part) (z f c m y : ℕ) → reached (turned p w r a z f c m y).slot ≡ true
turn_reached p w true a z f c m y = read_reached p a
turn_reached p w false a z f c m y = refl

turn_count : (p w r : Bool) (a : Part) (z f c m y : ℕ) → (turned p w r a z f c m y).sentcount ≡ m
turn_count p w true a z f c m y = refl
turn_count p w false a z f c m y = refl

turn_counted : (p w : Bool) (a : Part) (z f c m y : ℕ) → (turned p w (some a) a z f c m y).slot ≡ ReadCount → is_counted a ≡ true
turn_counted p w Counted z f c m y e = refl
turn_counted p w Nothing z f c m y e = not_both {b = beyond ReadCount} refl (sym (ap beyond e))
turn_counted p w (Fixed k) z f c m y e = not_both {b = beyond ReadCount} refl (sym (ap beyond e) ∙ data_beyond p k)

turn_slot : (p w : Bool) (a : Part) (z f c m y : ℕ) → is_counted a ≡ true → (turned p w (some a) a z f c m y).slot ≡ ReadCount
turn_slot p w Counted z f c m y h = refl
turn_slot p w Nothing z f c m y h = false_not_true h
turn_slot p w (Fixed k) z f c m y h = false_not_true h

counted_length : (a : Part) (s : List ℕ) → is_counted a ≡ true → counted a s ≡ length s
counted_length Counted s h = refl
counted_length Nothing s h = false_not_true h
counted_length (Fixed k) s h = false_not_true h

and_not : (a b : Bool) → b ≡ false → and a b ≡ false
and_not true b h = h
and_not false b h = refl

sent_counted : (a : Part) (s : List ℕ) (x : ℕ) → x < 256 → 255 - counted a s < x → (is_counted a ≡ true) × (255 < length s + x)
sent_counted Counted s x b h = (refl, omega arith)
sent_counted Nothing s x b h = absurd (omega arith)
sent_counted (Fixed k) s x b h = absurd (omega arith)

module _ (sh : Shape) (hs : Sane sh) (limits : Limits sh) (p : Bool) where
  -- a count that does not fit is above what is left
  count_above : (taken x : ℕ) → count_fits sh taken x ≡ false → 255 - taken < x
  count_above taken x f = go (leb x (sh.most - taken)) refl
    where
      go : (b : Bool) → leb x (sh.most - taken) ≡ b → 255 - taken < x
      go true e = not_both f (ap (λ (c : Bool). and c (leb x (sh.most - taken))) (le-leb sh.least x (omega (arith, limits.0))) ∙ e)
      go false e = omega (arith, limits.1, leb-false x (sh.most - taken) e)

  module _ (w : List ℕ) (d : Decoder) (q : run sh p fresh 0 w ≡ Ok d) (a : d.due ≡ Nobody) (s : d.slot ≡ ReadCount) where
    ends : Ends sh p d
    ends = subst (λ (u : Due). Ends sh p (at d d.slot u d.left)) (sym a) (acknowledged_ends sh hs p d (reached_roomy sh hs p w d q))

    -- the write phase of the whole trace that goes on from here is what was read
    at_turn : (t : Message) (y : ℕ) → Valid sh t → Bytes (in_place p y) → (x : ℕ) (xs : List ℕ) → Parted (by_target sh t (in_place p y)) (by_controller sh t (in_place p y)) w x xs
        → (w ≡ by_target sh t (in_place p y)) × (d ≡ turn_state sh p t y)
    at_turn t y v hy x xs (early post e) =
        let l = leads_parted no_controller sh p w (x ∷ post) fresh (turn_state sh p t y) (subst (λ (l : List ℕ). Leads no_controller sh p fresh l (turn_state sh p t y)) e (target_part_leads sh hs p t y v hy)) in
        let m : l.0 ≡ d = same_state (sym (leads_run no_controller sh p w fresh l.0 0 l.1) ∙ q) in
        absurd (no_target_part sh p d (turn_state sh p t y) x post a s (turn_nobody p (writes sh) (reads sh) sh.received _ _ _ _ y) (subst (λ (u : Decoder). Leads no_controller sh p u (x ∷ post) (turn_state sh p t y)) m l.2))
    at_turn t y v hy x xs (late mid e r) = go mid e
      where
        turn : run sh p fresh 0 (by_target sh t (in_place p y)) ≡ Ok (turn_state sh p t y)
        turn = leads_run no_controller sh p _ _ _ 0 (target_part_leads sh hs p t y v hy)

        go : (mid : List ℕ) → w ≡ by_target sh t (in_place p y) ++ mid → (w ≡ by_target sh t (in_place p y)) × (d ≡ turn_state sh p t y)
        go [] e =
            let same : w ≡ by_target sh t (in_place p y) = e ∙ append-nil (by_target sh t (in_place p y)) in
            (same, same_state (sym q ∙ ap (run sh p fresh 0) same ∙ turn))
        go (z ∷ zs) e =
            let o = count_once sh p (turn_state sh p t y) d _ z zs (turn_nobody p (writes sh) (reads sh) sh.received _ _ _ _ y) (turn_reached p (writes sh) (reads sh) sh.received _ _ _ _ y)
            (sym (run_append sh p (by_target sh t (in_place p y)) (z ∷ zs) fresh (turn_state sh p t y) 0 turn) ∙ sym (ap (run sh p fresh 0) e) ∙ q) in
            not_both {b = beyond ReadCount} refl (sym (ap beyond s) ∙ o)

    too_much_at : (x : ℕ) → x < 256 → count_fits sh d.sentcount x ≡ false → TooMuch sh p w x
    unfolding run
    too_much_at x b f = go ends.rest refl
      where
        go : (rest : List ℕ) → ends.rest ≡ rest → TooMuch sh p w x
        go [] e =
            let z : d ≡ ends.last = same_state (subst (λ (l : List ℕ). run sh p d 0 l ≡ Ok ends.last) e ends.leads) in
            let n : ReadCount ≡ End = sym s ∙ ap (λ (u : Decoder). u.slot) z ∙ ends.slot in
            zero_is_one cc
        go (y ∷ ys) e =
            let r = ended_is_whole sh hs p (w ++ y ∷ ys) ends.last 0 (run_append sh p w (y ∷ ys) fresh d 0 q ∙ run_from sh p (y ∷ ys) d ends.last 0 _ (subst (λ (l : List ℕ). run sh p d 0 l ≡ Ok ends.last) e ends.leads)) ends.slot ends.due in
            let t = at_turn r.message r.pec r.valid r.byte y ys (split_at_symbol _ _ w y ys (sym r.is)) in
            let m : d.sentcount ≡ counted sh.sent r.message.sent = ap (λ (u : Decoder). u.sentcount) t.1 ∙ turn_count p (writes sh) (reads sh) sh.received _ _ _ _ r.pec in
            let c = sent_counted sh.sent r.message.sent x b (subst (λ (n : ℕ). 255 - n < x) m (count_above d.sentcount x f)) in
            record {
              message = r.message;
              valid = r.valid;
              pec = r.pec;
              byte = r.byte;
              before = t.0;
              both = (c.0, turn_counted p (writes sh) sh.received _ _ _ _ r.pec (sym (ap (λ (u : Decoder). u.slot) t.1) ∙ s));
              sum = c.1;
            }

  -- with no ACK due at the count received
  at_count : (d : Decoder) (x : ℕ) → d.due ≡ Nobody → d.slot ≡ ReadCount → fits sh d x ≡ count_fits sh d.sentcount x
  at_count d x a s = ap (λ (u : Due). fits_due sh u d x) a ∙ ap (λ (u : Slot). fits_slot sh u d x) s

  count_is_wrong : (d : Decoder) (x : ℕ) → d.due ≡ Nobody → d.slot ≡ ReadCount → sh.tohost ≡ false → x < 256 → kind_of sh d x ≡ Miscounted
  count_is_wrong d x a s h b = rw (a, s, h, lt-ltb x 256 b)

  module _ (tr : List ℕ) (k : ℕ) where
    -- a wrong count is one received that comes to too much
    pub wrong_count_is : Because sh p tr WrongCount k → TooMuch sh p (take k tr) (get_or tr k 0)
    wrong_count_is h =
        let x : ℕ = get_or tr k 0 in
        let r = fits_runs sh hs p (take k tr) h.0.0.before in
        let f = stuck 0 sh hs p tr k h.0.0 r.0 r.1 in
        let m = kind_holds sh hs p tr k r.0 h.0 r.1 f in
        let e = one_kind (λ y. Fits sh p (take k tr ++ y ∷ [])) (AfterStart tr k) (sh.tohost ≡ true) x (kind_of sh r.0 x) Miscounted m h.1 in
        let c = count_slot sh r.0 x e in
        go r.0 r.1 f c.0 (one_of_two r.0.slot c.1)
      where
        go : (d : Decoder) → run sh p fresh 0 (take k tr) ≡ Ok d → fits sh d (get_or tr k 0) ≡ false → d.due ≡ Nobody → (d.slot ≡ Count) ⊎ (d.slot ≡ ReadCount) → TooMuch sh p (take k tr) (get_or tr k 0)
        go d q f a (inl s) =
            let g : count_fits sh (least_of sh.received sh.least) (get_or tr k 0) ≡ false = sym (ap (λ (u : Due). fits_due sh u d (get_or tr k 0)) a ∙ ap (λ (u : Slot). fits_slot sh u d (get_or tr k 0)) s) ∙ f in
            absurd (omega (arith, count_above (least_of sh.received sh.least) (get_or tr k 0) g, least_of_le sh.received sh.least, limits.0, h.1.0))
        go d q f a (inr s) = too_much_at (take k tr) d q a s (get_or tr k 0) h.1.0 (sym (at_count d (get_or tr k 0) a s) ∙ f)

    -- and the other way
    pub is_wrong_count : sh.tohost ≡ false → k < length tr → get_or tr k 0 < 256 → TooMuch sh p (take k tr) (get_or tr k 0) → Because sh p tr WrongCount k
    is_wrong_count h l b t =
        let x : ℕ = get_or tr k 0 in
        let d : Decoder = turn_state sh p t.message t.pec in
        let q : run sh p fresh 0 (take k tr) ≡ Ok d = ap (run sh p fresh 0) t.before ∙ leads_run no_controller sh p _ _ _ 0 (target_part_leads sh hs p t.message t.pec t.valid t.byte) in
        let a : d.due ≡ Nobody = turn_nobody p (writes sh) (reads sh) sh.received _ _ _ _ t.pec in
        let s : d.slot ≡ ReadCount = turn_slot p (writes sh) sh.received _ _ _ _ t.pec t.both.1 in
        let n = counted_length sh.sent t.message.sent t.both.0 in
        let m : d.sentcount ≡ length t.message.sent = turn_count p (writes sh) (reads sh) sh.received _ _ _ _ t.pec ∙ n in
        let f : fits sh d x ≡ false = at_count d x a s ∙ and_not (leb sh.least x) (leb x (sh.most - d.sentcount)) (lt-leb x (sh.most - d.sentcount) (omega (arith, m, n, t.valid.counts, limits.1, t.sum, b))) in
        ((answer_exactly 0 sh hs p tr (refused WrongCount k)).0
        (by_stop 0 sh hs p tr k d true false l q f (le-leb x NACK (omega (arith, b))) (ap₂ over a s)
        ∙ ap (λ u. refused (refusal_of u) k) (count_is_wrong d x a s h b))).0
