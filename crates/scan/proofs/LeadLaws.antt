-- Paths of the decoder put together: none, one symbol more, two in a row. A path is a run of the decoder, and has a state at each of its
-- places.
use Rattle.std.specs.Prelude.{◌≡◌, Bool, true, ℕ, suc, ◌<◌, Ok}
use Rattle.std.proofs.Math.Path.{refl, ap, subst}
use Rattle.std.proofs.Common.{sym}
use mathlib.Core.List.{List, [], ◌∷◌, ◌++◌}
use Rattle.trace.specs.declared.shape.Shape.{Shape}
use Rattle.step.specs.declared.next.Aim.{Aim}
use Rattle.step.specs.declared.state.Due.{Due}
use Rattle.step.specs.declared.state.Due.TheVariants.{Nobody}
use Rattle.step.specs.declared.state.Decoder.{Decoder}
use Rattle.step.specs.State.{state}
use Rattle.step.specs.Fits.{fits_slot, fits}
use Rattle.step.specs.Move.{move_slot, move}
use Rattle.scan.specs.Run.{run}
use Rattle.scan.specs.Leads.{Leads}
use Rattle.std.proofs.Math.Nat.{mod-eq_of_lt}

module _ (by : Due → Bool) (sh : Shape) (p : Bool) where
  pub leads_nil : (d : Decoder) → Leads by sh p d [] d
  unfolding Leads
  leads_nil d = refl

  pub leads_cons : (x : ℕ) (xs : List ℕ) (d e : Decoder) → fits sh d x ≡ true → by d.due ≡ true → Leads by sh p (move sh p d x) xs e → Leads by sh p d (x ∷ xs) e
  unfolding Leads
  leads_cons x xs d e h b l = (h, b, l)

  pub leads_append : (xs ys : List ℕ) (d e f : Decoder) → Leads by sh p d xs e → Leads by sh p e ys f → Leads by sh p d (xs ++ ys) f
  unfolding Leads
  leads_append [] ys d e f q l = subst (λ (u : Decoder). Leads by sh p u ys f) (sym q) l
  leads_append (x ∷ xs) ys d e f q l = (q.0, q.1, leads_append xs ys (move sh p d x) e f q.2 l)

  pub leads_run : (xs : List ℕ) (d e : Decoder) (i : ℕ) → Leads by sh p d xs e → run sh p d i xs ≡ Ok e
  unfolding run Leads
  leads_run [] d e i q = ap Ok q
  leads_run (x ∷ xs) d e i q = rw q.0 (leads_run xs (move sh p d x) e (suc i) q.2)

  -- a path in two parts
  pub leads_parted : (xs ys : List ℕ) (d e : Decoder) → Leads by sh p d (xs ++ ys) e → (m : Decoder) × Leads by sh p d xs m × Leads by sh p m ys e
  unfolding Leads
  leads_parted [] ys d e q = (d, refl, q)
  leads_parted (x ∷ xs) ys d e q = let r = leads_parted xs ys (move sh p d x) e q.2 in (r.0, (q.0, q.1, r.1), r.2)

  -- the state at any place of a path, and what holds of the next symbol there
  pub leads_inside : (xs : List ℕ) (x : ℕ) (ys : List ℕ) (d e : Decoder) → Leads by sh p d (xs ++ x ∷ ys) e
      → (m : Decoder) × (Leads by sh p d xs m) × (fits sh m x ≡ true) × (by m.due ≡ true)
  unfolding Leads
  leads_inside [] x ys d e q = (d, refl, q.0, q.1)
  leads_inside (z ∷ xs) x ys d e q =
      let r = leads_inside xs x ys (move sh p d z) e q.2 in
      (r.0, (q.0, q.1, r.1), r.2, r.3)

  -- a byte at its slot
  pub leads_byte : (g : Aim) (z f c m n : ℕ) (ok : Bool) (x : ℕ) (xs : List ℕ) (e : Decoder) → x < 256 → by Nobody ≡ true
      → fits_slot sh g.slot (state g Nobody z f c m n ok) x ≡ true → Leads by sh p (move_slot sh p g.slot (state g Nobody z f c m n ok) x) xs e
      → Leads by sh p (state g Nobody z f c m n ok) (x ∷ xs) e
  unfolding Leads
  leads_byte g z f c m n ok x xs e h b t l =
      (t, b, subst (λ (k : ℕ). Leads by sh p (move_slot sh p g.slot (state g Nobody z f c m n ok) k) xs e) (sym (mod-eq_of_lt h)) l)
