-- What stands around a wrong symbol, by the state that it finds: which symbols would have fitted in its place, that some would have, and whether
-- a START stands right before it. So the kind that is worked out from the state is the kind that is meant.
use Rattle.std.specs.Prelude.{◌≡◌, Bool, ◌↔◌, ℕ, suc, ◌-◌, ◌<◌, eqb, length, take, get_or, Ok, Err}
use Rattle.std.proofs.Math.Path.{refl, subst}
use Rattle.std.proofs.Common.{sym, ◌∙◌, ap, arith, take-suc}
use Rattle.std.proofs.Math.Bool.{true, false}
use mathlib.Core.List.{List, [], ◌∷◌, ◌++◌, append-nil, append_assoc}
use borrow.Author.Tests.{eqb-true, eqb-false, eq-eqb}
use Rattle.lists.specs.Choice.{pick}
use Rattle.lists.specs.ChoiceLaws.{false_not_true}
use Rattle.wire.specs.Symbols.{START}
use Rattle.trace.specs.declared.shape.Shape.{Shape}
use Rattle.trace.specs.Sane.{Sane}
use Rattle.step.specs.declared.state.Decoder.{Decoder}
use Rattle.step.specs.State.{fresh}
use Rattle.step.specs.Fits.{fits}
use Rattle.step.specs.Move.{move}
use Rattle.misfit.specs.CasesLaws.{same_kinds}
use Rattle.misfit.proofs.KindLaws.{kind_means}
use Rattle.misfit.specs.Kinds.{kind_of, address_next}
use Rattle.misfit.proofs.StartLaws.{Steady, fresh_steady, address_after_start, stays_steady}
use Rattle.scan.specs.Answers.{Member, Fits, shape_cases}
use Rattle.scan.specs.Because.{AfterStart, Wrong, OfKind}
use Rattle.scan.specs.Refusal.{why}
use Rattle.scan.specs.Run.{run}
use Rattle.scan.proofs.RunLaws.{refused_not_reading, same_state, first_fits, run_append, run_before, run_fits}
use Rattle.scan.proofs.MemberLaws.{fits_back, fits_runs}

module _ (sh : Shape) (hs : Sane sh) (p : Bool) where
  -- one symbol was read
  one_read : (m e : Decoder) (i x : ℕ) → run sh p m i (x ∷ []) ≡ Ok e → (fits sh m x ≡ true) × (move sh p m x ≡ e)
  unfolding run
  one_read m e i x q =
      let h = first_fits sh p m e i x [] q in
      (h, same_state (sym (run_fits sh p m i x [] h) ∙ q))

  -- every state that is reached is steady
  run_steady : (tr : List ℕ) (d e : Decoder) (i : ℕ) → Steady d → run sh p d i tr ≡ Ok e → Steady e
  unfolding run
  run_steady [] d e i h q = subst Steady (same_state q) h
  run_steady (x ∷ xs) d e i h q = go (fits sh d x) q (λ k. run_steady xs (move sh p d x) e (suc i) (stays_steady sh hs p d x h) k)
    where
      go : (b : Bool) → pick b (run sh p (move sh p d x) (suc i) xs) (Err (why sh d i x)) ≡ Ok e → (run sh p (move sh p d x) (suc i) xs ≡ Ok e → Steady e) → Steady e
      go true q ih = ih q
      go false q ih = absurd (refused_not_reading q)

  -- which symbols fit behind a trace
  pub fits_behind : (w : List ℕ) (d : Decoder) → run sh p fresh 0 w ≡ Ok d → (y : ℕ) → Fits sh p (w ++ y ∷ []) ↔ (fits sh d y ≡ true)
  unfolding run
  fits_behind w d q y = (
    λ f. (let r = fits_runs sh hs p (w ++ y ∷ []) f in (one_read d r.0 _ y (sym (run_append sh p w (y ∷ []) fresh d 0 q) ∙ r.1)).0),
    λ e. fits_back sh hs p (w ++ y ∷ []) (move sh p d y) (run_append sh p w (y ∷ []) fresh d 0 q ∙ run_fits sh p d _ y [] e),
  )

  -- where a trace fits and is not over, some symbol does
  pub something_fits : (w : List ℕ) (d : Decoder) → run sh p fresh 0 w ≡ Ok d → Fits sh p w → (Member sh p w → ⊥) → (y : ℕ) × (fits sh d y ≡ true)
  something_fits w d q (rest, m) n = go rest m
    where
      go : (rest : List ℕ) → Member sh p (w ++ rest) → (y : ℕ) × (fits sh d y ≡ true)
      go [] m = absurd (n (subst (Member sh p) (append-nil w) m))
      go (y ∷ ys) m = (y, (fits_behind w d q y).0 (ys, subst (Member sh p) (sym (append_assoc w (y ∷ []) ys)) m))

  module _ (tr : List ℕ) where
    -- an address byte is next exactly after a START
    behind_start : (j : ℕ) (d : Decoder) → j < length tr → run sh p fresh 0 (take (suc j) tr) ≡ Ok d → address_next d.due d.slot ≡ eqb (get_or tr j 0) START
    behind_start j d h q =
        let r = run_before sh p (take j tr) (get_or tr j 0 ∷ []) fresh d 0 (sym (ap (run sh p fresh 0) (take-suc tr j 0 h)) ∙ q) in
        let o = one_read r.0 d _ (get_or tr j 0) r.2 in
        sym (ap (λ (u : Decoder). address_next u.due u.slot) o.1)
        ∙ address_after_start sh hs p r.0 (get_or tr j 0) (run_steady (take j tr) fresh r.0 0 fresh_steady r.1) o.0

    pub after_start : (k : ℕ) (d : Decoder) → k < length tr → run sh p fresh 0 (take k tr) ≡ Ok d → AfterStart tr k ↔ (address_next d.due d.slot ≡ true)
    unfolding run
    after_start k d h q = (there, λ e. back (eqb k 0) refl e)
      where
        there : AfterStart tr k → address_next d.due d.slot ≡ true
        there (j, e, s) = behind_start j d (omega (arith, e, h)) (subst (λ (n : ℕ). run sh p fresh 0 (take n tr) ≡ Ok d) e q) ∙ eq-eqb (get_or tr j 0) 256 s

        back : (b : Bool) → eqb k 0 ≡ b → address_next d.due d.slot ≡ true → AfterStart tr k
        back true z e =
            let f : fresh ≡ d = same_state (subst (λ (n : ℕ). run sh p fresh 0 (take n tr) ≡ Ok d) (eqb-true k 0 z) q) in
            false_not_true (ap (λ (u : Decoder). address_next u.due u.slot) f ∙ e)
        back false z e =
            let n = eqb-false k 0 z in
            let s : k ≡ suc (k - 1) = omega (arith, n) in
            (k - 1, s, eqb-true (get_or tr (k - 1) 0) 256 (sym (behind_start (k - 1) d (omega (arith, h)) (subst (λ (m : ℕ). run sh p fresh 0 (take m tr) ≡ Ok d) s q)) ∙ e))

    -- the kind that is worked out is the kind that is meant
    pub kind_holds : (k : ℕ) (d : Decoder) → Wrong (shape_cases sh p tr) tr k → run sh p fresh 0 (take k tr) ≡ Ok d → fits sh d (get_or tr k 0) ≡ false
        → OfKind (shape_cases sh p tr) tr k (kind_of sh d (get_or tr k 0))
    kind_holds k d w q f =
        let s = something_fits (take k tr) d q w.0.before w.1 in
        (same_kinds (λ y. Fits sh p (take k tr ++ y ∷ [])) (λ y. fits sh d y ≡ true) (AfterStart tr k) (address_next d.due d.slot ≡ true) (sh.tohost ≡ true) (sh.tohost ≡ true)
        (fits_behind (take k tr) d q) (after_start k d w.0.inside q) (λ x. x, λ x. x) (get_or tr k 0) (kind_of sh d (get_or tr k 0))).1
        (kind_means sh hs d (get_or tr k 0) f s.0 s.1)
