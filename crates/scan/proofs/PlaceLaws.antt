-- A refusal stands at the first symbol that does not fit, and says why; a run that fits reads one symbol more; nothing follows the end.
use Rattle.std.specs.Prelude.{◌≡◌, Bool, length, take, drop, get_or, Result, Ok, Err}
use Rattle.std.proofs.Math.Path.{refl, sym, ap}
use Rattle.std.proofs.Common.{◌∙◌, take-suc, length-take-le}
use Rattle.std.proofs.Math.Bool.{true, false}
use mathlib.Core.List.{List, [], ◌∷◌}
use Prim.Native.Nat.{ℕ, suc, ◌+◌, ◌<◌}
use native.Mathlib.Omega.{arith}
use Rattle.std.proofs.Math.Seq.{split_at}
use Rattle.lists.specs.Choice.{pick}
use Rattle.lists.specs.ChoiceLaws.{false_not_true}
use Rattle.trace.specs.declared.shape.Shape.{Shape}
use Rattle.step.specs.declared.state.Slot.{Slot}
use Rattle.step.specs.declared.state.Slot.TheVariants.{Start, First, Command, Count, Data, Pec, Restart, Second, ReadCount, ReadData, ReadPec, Stop, End}
use Rattle.step.specs.declared.state.Due.{Due}
use Rattle.step.specs.declared.state.Due.TheVariants.{Nobody, Target, Controller, Halted, Cut}
use Rattle.step.specs.declared.state.Decoder.{Decoder}
use Rattle.scan.specs.declared.answer.Refused.{Refused}
use Rattle.step.specs.Fits.{fits_slot, fits_due, fits}
use Rattle.step.specs.Move.{move}
use Rattle.scan.specs.Refusal.{ended, over, why}
use Rattle.scan.specs.Run.{run}
use Rattle.scan.specs.Stopped.{Stopped}
use Rattle.scan.proofs.RunLaws.{refused_not_reading, run_append, run_from, run_fits, run_stops}

same_answer : {e f : Refused} → ◌≡◌ {A = Result Decoder Refused} (Err e) (Err f) → e ≡ f
same_answer q = cc

module _ (sh : Shape) (p : Bool) where
  pub refused_at_place : (tr : List ℕ) (d : Decoder) (i : ℕ) (e : Refused) → run sh p d i tr ≡ Err e → Stopped sh p d i tr e
  unfolding run
  refused_at_place [] d i e q = absurd (refused_not_reading (sym q))
  refused_at_place (x ∷ xs) d i e q = go (fits sh d x) refl q (λ k. refused_at_place xs (move sh p d x) (suc i) e k)
    where
      go : (b : Bool) → fits sh d x ≡ b → pick b (run sh p (move sh p d x) (suc i) xs) (Err (why sh d i x)) ≡ Err e
          → (run sh p (move sh p d x) (suc i) xs ≡ Err e → Stopped sh p (move sh p d x) (suc i) xs e) → Stopped sh p d i (x ∷ xs) e
      go true h q ih =
          let s = ih q in
          let j : suc i + s.place ≡ i + suc s.place = omega arith in
          record {
            place = suc s.place;
            state = s.state;
            inside = omega (arith, s.inside);
            leads = rw h (run_from sh p (take s.place xs) (move sh p d x) s.state 0 1 s.leads);
            stuck = s.stuck;
            is = s.is ∙ ap (λ (n : ℕ). why sh s.state n (get_or xs s.place 0)) j;
          }
      go false h q ih =
          let j : i ≡ i + 0 = omega arith in
          record { place = 0; state = d; inside = omega arith; leads = refl; stuck = h; is = sym (same_answer q) ∙ ap (λ (n : ℕ). why sh d n x) j }

  -- and the other way
  pub stops_at : (tr : List ℕ) (k : ℕ) (d e : Decoder) → k < length tr → run sh p d 0 (take k tr) ≡ Ok e → fits sh e (get_or tr k 0) ≡ false
      → run sh p d 0 tr ≡ Err (why sh e k (get_or tr k 0))
  stops_at tr k d e h q f =
      let l : 0 + length (take k tr) ≡ k = omega (arith, length-take-le k tr (omega arith)) in
      ap (run sh p d 0) (split_at tr k 0 h) ∙ run_append sh p (take k tr) _ d e 0 q
      ∙ ap (λ (n : ℕ). run sh p e n (get_or tr k 0 ∷ drop (suc k) tr)) l ∙ run_stops sh p e k (get_or tr k 0) (drop (suc k) tr) f

  -- one symbol more
  pub reads_one_more : (tr : List ℕ) (k : ℕ) (d e : Decoder) → k < length tr → run sh p d 0 (take k tr) ≡ Ok e → fits sh e (get_or tr k 0) ≡ true
      → run sh p d 0 (take (suc k) tr) ≡ Ok (move sh p e (get_or tr k 0))
  unfolding run
  reads_one_more tr k d e h q f =
      ap (run sh p d 0) (take-suc tr k 0 h) ∙ run_append sh p (take k tr) (get_or tr k 0 ∷ []) d e 0 q ∙ run_fits sh p e _ (get_or tr k 0) [] f

  pub reads_no_more : (tr : List ℕ) (k : ℕ) (d e : Decoder) → k < length tr → run sh p d 0 (take k tr) ≡ Ok e → fits sh e (get_or tr k 0) ≡ false
      → (m : Decoder) → run sh p d 0 (take (suc k) tr) ≡ Ok m → ⊥
  reads_no_more tr k d e h q f m r =
      refused_not_reading (sym (ap (run sh p d 0) (take-suc tr k 0 h) ∙ run_append sh p (take k tr) (get_or tr k 0 ∷ []) d e 0 q ∙ run_stops sh p e _ (get_or tr k 0) [] f) ∙ r)

  -- nothing follows the end
  slot_over : (s : Slot) (d : Decoder) (x : ℕ) → ended s ≡ true → fits_slot sh s d x ≡ false
  slot_over End d x h = refl
  slot_over Start d x h = false_not_true h
  slot_over First d x h = false_not_true h
  slot_over Command d x h = false_not_true h
  slot_over Count d x h = false_not_true h
  slot_over Data d x h = false_not_true h
  slot_over Pec d x h = false_not_true h
  slot_over Restart d x h = false_not_true h
  slot_over Second d x h = false_not_true h
  slot_over ReadCount d x h = false_not_true h
  slot_over ReadData d x h = false_not_true h
  slot_over ReadPec d x h = false_not_true h
  slot_over Stop d x h = false_not_true h

  due_over : (a : Due) (d : Decoder) (x : ℕ) → over a d.slot ≡ true → fits_due sh a d x ≡ false
  due_over Nobody d x h = slot_over d.slot d x h
  due_over Target d x h = false_not_true h
  due_over Controller d x h = false_not_true h
  due_over Halted d x h = false_not_true h
  due_over Cut d x h = refl

  pub nothing_follows : (d : Decoder) (x : ℕ) → over d.due d.slot ≡ true → fits sh d x ≡ false
  nothing_follows d x h = due_over d.due d x h
