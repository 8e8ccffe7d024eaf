-- The fold over one symbol, and over a trace in two parts. A run that goes on went on before, and where nothing is refused the number of
-- symbols read so far does not matter.
use Rattle.std.specs.Prelude.{◌≡◌, Bool, Result, Ok, Err}
use Rattle.std.proofs.Math.Path.{refl, ap}
use Rattle.std.proofs.Common.{◌∙◌, arith}
use Rattle.std.proofs.Math.Bool.{true, false}
use mathlib.Core.List.{List, [], ◌∷◌, ◌++◌}
use Prim.Native.Nat.{ℕ, suc, ◌+◌}
use Rattle.std.proofs.Math.ListN.{length}
use Rattle.lists.specs.AbsurdLaws.{zero_is_one}
use Rattle.lists.specs.Choice.{pick}
use Rattle.trace.specs.declared.shape.Shape.{Shape}
use Rattle.scan.specs.declared.answer.Refused.{Refused}
use Rattle.step.specs.declared.state.Decoder.{Decoder}
use Rattle.step.specs.Fits.{fits}
use Rattle.step.specs.Move.{move}
use Rattle.scan.specs.Refusal.{why}
use Rattle.scan.specs.Run.{run}

pub refused_not_reading : {e : Refused} {d : Decoder} → ◌≡◌ {A = Result Decoder Refused} (Err e) (Ok d) → ⊥
refused_not_reading e = zero_is_one cc

pub same_state : {d e : Decoder} → ◌≡◌ {A = Result Decoder Refused} (Ok d) (Ok e) → d ≡ e
same_state q = cc

module _ (sh : Shape) (p : Bool) where
  -- what a state does with one symbol
  pub run_fits : (d : Decoder) (i x : ℕ) (xs : List ℕ) → fits sh d x ≡ true → run sh p d i (x ∷ xs) ≡ run sh p (move sh p d x) (suc i) xs
  unfolding run
  run_fits d i x xs h = rw h

  pub run_stops : (d : Decoder) (i x : ℕ) (xs : List ℕ) → fits sh d x ≡ false → run sh p d i (x ∷ xs) ≡ Err (why sh d i x)
  unfolding run
  run_stops d i x xs h = rw h

  -- the first symbol of a run that goes on fits
  pub first_fits : (d e : Decoder) (i x : ℕ) (xs : List ℕ) → run sh p d i (x ∷ xs) ≡ Ok e → fits sh d x ≡ true
  unfolding run
  first_fits d e i x xs q = go (fits sh d x) refl q
    where
      go : (b : Bool) → fits sh d x ≡ b → pick b (run sh p (move sh p d x) (suc i) xs) (Err (why sh d i x)) ≡ Ok e → fits sh d x ≡ true
      go true h q = h
      go false h q = absurd (refused_not_reading q)

  pub run_append : (xs ys : List ℕ) (d e : Decoder) (i : ℕ) → run sh p d i xs ≡ Ok e → run sh p d i (xs ++ ys) ≡ run sh p e (i + length xs) ys
  unfolding run
  run_append [] ys d e i q = ap (λ (u : Decoder). run sh p u i ys) (same_state q) ∙ ap (λ (n : ℕ). run sh p e n ys) (omega arith)
  run_append (x ∷ xs) ys d e i q = go (fits sh d x) q (λ k. run_append xs ys (move sh p d x) e (suc i) k)
    where
      go : (b : Bool) → pick b (run sh p (move sh p d x) (suc i) xs) (Err (why sh d i x)) ≡ Ok e
          → (run sh p (move sh p d x) (suc i) xs ≡ Ok e → run sh p (move sh p d x) (suc i) (xs ++ ys) ≡ run sh p e (suc i + length xs) ys)
          → pick b (run sh p (move sh p d x) (suc i) (xs ++ ys)) (Err (why sh d i x)) ≡ run sh p e (i + suc (length xs)) ys
      go true q ih = ih q ∙ ap (λ (n : ℕ). run sh p e n ys) (omega arith)
      go false q ih = absurd (refused_not_reading q)

  -- a run that goes on went on before
  pub run_before : (xs ys : List ℕ) (d e : Decoder) (i : ℕ) → run sh p d i (xs ++ ys) ≡ Ok e
      → (m : Decoder) × (run sh p d i xs ≡ Ok m) × (run sh p m (i + length xs) ys ≡ Ok e)
  unfolding run
  run_before [] ys d e i q = (d, refl, ap (λ (n : ℕ). run sh p d n ys) (omega arith) ∙ q)
  run_before (x ∷ xs) ys d e i q = go (fits sh d x) q (λ k. run_before xs ys (move sh p d x) e (suc i) k)
    where
      go : (b : Bool) → pick b (run sh p (move sh p d x) (suc i) (xs ++ ys)) (Err (why sh d i x)) ≡ Ok e
          → (run sh p (move sh p d x) (suc i) (xs ++ ys) ≡ Ok e → (m : Decoder) × (run sh p (move sh p d x) (suc i) xs ≡ Ok m) × (run sh p m (suc i + length xs) ys ≡ Ok e))
          → (m : Decoder) × (pick b (run sh p (move sh p d x) (suc i) xs) (Err (why sh d i x)) ≡ Ok m) × (run sh p m (i + suc (length xs)) ys ≡ Ok e)
      go true q ih =
          let r = ih q in
          (r.0, r.1, ap (λ (n : ℕ). run sh p r.0 n ys) (omega arith) ∙ r.2)
      go false q ih = absurd (refused_not_reading q)

  -- the number of symbols read does not matter where nothing is refused
  pub run_from : (xs : List ℕ) (d e : Decoder) (i j : ℕ) → run sh p d i xs ≡ Ok e → run sh p d j xs ≡ Ok e
  unfolding run
  run_from [] d e i j q = q
  run_from (x ∷ xs) d e i j q = go (fits sh d x) q (λ k. run_from xs (move sh p d x) e (suc i) (suc j) k)
    where
      go : (b : Bool) → pick b (run sh p (move sh p d x) (suc i) xs) (Err (why sh d i x)) ≡ Ok e
          → (run sh p (move sh p d x) (suc i) xs ≡ Ok e → run sh p (move sh p d x) (suc j) xs ≡ Ok e)
          → pick b (run sh p (move sh p d x) (suc j) xs) (Err (why sh d j x)) ≡ Ok e
      go true q ih = ih q
      go false q ih = absurd (refused_not_reading q)
