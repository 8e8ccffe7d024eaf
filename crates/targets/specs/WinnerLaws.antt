-- The winner is the unresolved record with the least identifier, and its reply is what the wire shows.
use Prim.Native.Nat.{ℕ, zero, suc, ◌*◌, ◌≤◌, ◌<◌}
use Rattle.std.specs.Prelude.{◌≡◌, Bool, ◌⊎◌, ◌↔◌, Option, Some, None, List}
use Rattle.std.proofs.Math.Path.{refl, subst}
use Rattle.std.proofs.Common.{sym, ap, ◌∙◌, inl, inr}
use Rattle.std.proofs.Math.Bool.{true, false}
use Rattle.std.proofs.Math.Decide.{ℕ_discrete, dec_lt}
use native.Mathlib.Omega.{arith}
use Rattle.std.proofs.Math.Dec.{eqb}
use borrow.Author.Tests.{ltb-true, ltb-false, eqb-true, eqb-false, ne_eqb}
use Rattle.lists.specs.Choice.{pick}
use Rattle.lists.specs.Each.{Bytes}
use Rattle.udid.specs.Udids.{value, is_below}
use Rattle.udid.proofs.UdidLaws.{fits_at, value_same}
use Rattle.arbitration.specs.Wire.{sending}
use Rattle.arbitration.specs.DropOut.{sharing}
use Rattle.targets.specs.Target.{Target, is_resolved, Sized}
use Rattle.targets.specs.Records.{udid_of, flag_of, target_at, record_count, targets_of}
use Rattle.targets.specs.Cases.{RepeatedAt, NoneOf}
use Rattle.targets.specs.Winner.{is_before, is_better, least_of, winner_of, Unresolved, Wins, WonOf, Won, shown_by}
use Rattle.targets.specs.Reply.{sends, waiting, on_wire}
use Rattle.targets.specs.Members.{Least}
use Rattle.targets.specs.ReplyLaws.{nobody_on_wire, least_on_wire, least_sending}
use Rattle.targets.specs.IndexLaws.{target_has_record, record_has_target, sized_at}

-- ---- the search finds it

module _ (s : List ℕ) where
  abbrev Val : ℕ → ℕ
  Val j = value (udid_of s j)

  -- a number below i + 1 is below i, or i
  below_or_last : (i j : ℕ) → j < suc i → (j ≡ i) ⊎ (j < i)
  below_or_last i j l = at (dec_lt j i)
    where
      at : Dec (j < i) → (j ≡ i) ⊎ (j < i)
      at (yes q) = inr q
      at (no q) = inl (omega arith)

  -- record i is resolved: what held of the others holds
  resolved_skipped : (i : ℕ) (best : Option ℕ) → flag_of s i ≡ 1 → WonOf s i best → WonOf s (suc i) best
  resolved_skipped i None e w = λ j l u. at j u (below_or_last i j l)
    where
      at : (j : ℕ) → Unresolved s j → (j ≡ i) ⊎ (j < i) → ⊥
      at j u (inl q) = u (ap (flag_of s) q ∙ e)
      at j u (inr q) = w j q u
  resolved_skipped i (Some best) e w = record {
    below = omega (arith, w.below);
    unresolved = w.unresolved;
    least = λ j l u. at j u (below_or_last i j l);
    earliest = w.earliest;
  }
    where
      at : (j : ℕ) → Unresolved s j → (j ≡ i) ⊎ (j < i) → Val best ≤ Val j
      at j u (inl q) = absurd (u (ap (flag_of s) q ∙ e))
      at j u (inr q) = w.least j q u

  -- record i is lower than all unresolved ones before it
  first_is_best : (i : ℕ) → Unresolved s i → ((j : ℕ) → j < i → Unresolved s j → Val i < Val j) → Wins s (suc i) i
  first_is_best i e h = record { below = omega arith; unresolved = e; least = λ j l u. at j u (below_or_last i j l); earliest = h }
    where
      at : (j : ℕ) → Unresolved s j → (j ≡ i) ⊎ (j < i) → Val i ≤ Val j
      at j u (inl q) = omega (arith, ap Val q)
      at j u (inr q) = omega (arith, h j q u)

  -- record i is not lower than the best
  best_remains : (i best : ℕ) → Val best ≤ Val i → Wins s i best → Wins s (suc i) best
  best_remains i best h w = record {
    below = omega (arith, w.below);
    unresolved = w.unresolved;
    least = λ j l u. at j u (below_or_last i j l);
    earliest = w.earliest;
  }
    where
      at : (j : ℕ) → Unresolved s j → (j ≡ i) ⊎ (j < i) → Val best ≤ Val j
      at j u (inl q) = omega (arith, ap Val q)
      at j u (inr q) = w.least j q u

  better_best : (i : ℕ) (best : Option ℕ) → WonOf s i best → WonOf s (suc i) (pick (is_better s i best) (Some i) best)
  unfolding is_better
  better_best i best v = go (eqb (flag_of s i) 1) refl best v
    where
      go : (t : Bool) → eqb (flag_of s i) 1 ≡ t → (o : Option ℕ) → WonOf s i o → WonOf s (suc i) (pick (pick t false (is_before s i o)) (Some i) o)
      go true e o w = resolved_skipped i o (eqb-true (flag_of s i) 1 e) w
      go false e None w = first_is_best i (eqb-false (flag_of s i) 1 e) (λ j l u. absurd (w j l u))
      go false e (Some b) w = at (is_below (udid_of s i) (udid_of s b)) refl
        where
          at : (t : Bool) → is_below (udid_of s i) (udid_of s b) ≡ t → WonOf s (suc i) (pick t (Some i) (Some b))
          at true f = first_is_best i (eqb-false (flag_of s i) 1 e) (λ j l u. omega (arith, ltb-true (Val i) (Val b) f, w.least j l u))
          at false f = best_remains i b (ltb-false (Val i) (Val b) f) w

  least_best : (n : ℕ) → WonOf s n (least_of s n)
  unfolding least_of
  least_best zero = λ j l. absurd (omega arith)
  least_best (suc n) = better_best n (least_of s n) (least_best n)

  won_holds : Won s (winner_of s)
  unfolding winner_of
  won_holds = least_best (record_count s)

  won_unique : (r t : Option ℕ) → Won s r → Won s t → r ≡ t
  won_unique None None h g = refl
  won_unique None (Some w) h g = absurd (h w g.below g.unresolved)
  won_unique (Some w) None h g = absurd (g w h.below h.unresolved)
  won_unique (Some w) (Some v) h g = ap Some (go (dec_lt w v) (dec_lt v w))
    where
      go : Dec (w < v) → Dec (v < w) → w ≡ v
      go (yes l) d = absurd (omega (arith, g.earliest w l h.unresolved, h.least v g.below g.unresolved))
      go (no l) (yes k) = absurd (omega (arith, h.earliest v k g.unresolved, g.least w h.below h.unresolved))
      go (no l) (no k) = omega arith

  -- THE WINNER IS THE UNRESOLVED RECORD WITH THE LEAST IDENTIFIER, or all are resolved
  pub winner_exactly : (r : Option ℕ) → (r ≡ winner_of s) ↔ Won s r
  winner_exactly r = (λ e. subst (Won s) (sym e) won_holds, λ h. won_unique r (winner_of s) h won_holds)

-- ---- what stands on the wire

module _ (s : List ℕ) (b : Bytes s) (differ : NoneOf (RepeatedAt s) (record_count s)) where
  pub unresolved_by_flag : (i : ℕ) (t : Target) → target_at s i ≡ t → is_resolved t ≡ false → Unresolved s i
  unfolding target_at
  unresolved_by_flag i t e o = eqb-false (flag_of s i) 1 (ap is_resolved e ∙ o)

  others_differ : (i j : ℕ) → i < record_count s → j < record_count s → (i ≡ j → ⊥) → udid_of s i ≡ udid_of s j → ⊥
  others_differ i j h g n e = go (dec_lt i j)
    where
      go : Dec (i < j) → ⊥
      go (yes l) = differ j g (i, l, e)
      go (no l) = differ i h (j, omega arith, sym e)

  -- the winner is the least of the unresolved targets
  pub winner_least : (w : ℕ) → Wins s (record_count s) w → Least (targets_of s) (target_at s w)
  unfolding target_at
  winner_least w v = record {
    among = record_has_target s (record_count s) 0 w (omega arith) (omega (arith, v.below));
    unresolved = ne_eqb (flag_of s w) 1 v.unresolved;
    sized = sized_at s b w;
    below = λ t m o. let r = target_has_record s (record_count s) 0 t m in at t r.0 (omega (arith, r.2)) r.3 o (ℕ_discrete w r.0);
  }
    where
      lower : (j : ℕ) → j < record_count s → value (udid_of s w) ≤ value (udid_of s j) → (w ≡ j → ⊥) → value (udid_of s w) < value (udid_of s j)
      lower j l h n = strict (value (udid_of s w)) (value (udid_of s j)) h (λ e. others_differ w j v.below l n (value_same (udid_of s w) (udid_of s j) (fits_at s (w * 18) b).low (fits_at s (j * 18) b).low e))
        where
          strict : (x y : ℕ) → x ≤ y → (x ≡ y → ⊥) → x < y
          strict x y p q = omega arith

      at : (t : Target) (j : ℕ) → j < record_count s → target_at s j ≡ t → is_resolved t ≡ false → Dec (w ≡ j) → (target_at s w ≡ t) ⊎ (Sized t × (value (udid_of s w) < value t.udid))
      at t j l e o (yes q) = inl (ap (target_at s) q ∙ e)
      at t j l e o (no q) = inr (
        subst Sized e (sized_at s b j),
        subst (λ (x : Target). value (udid_of s w) < value x.udid) e (lower j l (v.least j l (unresolved_by_flag j t e o)) q),
      )

  -- THE WIRE SHOWS THE WINNER'S REPLY, or silence where all are resolved
  pub winner_on_wire : on_wire (waiting (targets_of s)) ≡ shown_by s (winner_of s)
  winner_on_wire = go (winner_of s) ((winner_exactly s (winner_of s)).0 refl)
    where
      go : (r : Option ℕ) → Won s r → on_wire (waiting (targets_of s)) ≡ shown_by s r
      go None v = nobody_on_wire (targets_of s) (λ t m o. let r = target_has_record s (record_count s) 0 t m in v r.0 (omega (arith, r.2)) (unresolved_by_flag r.0 t r.3 o))
      go (Some w) v = least_on_wire (targets_of s) (target_at s w) (winner_least w v)

  -- after n bits those targets still send that share n bits with the winner
  pub winner_sending : (w : ℕ) → Some w ≡ winner_of s → (n : ℕ) → n ≤ 152 → sending n (waiting (targets_of s)) ≡ sharing n (sends (target_at s w)) (waiting (targets_of s))
  winner_sending w e n h = least_sending (targets_of s) (target_at s w) (winner_least w ((winner_exactly s (Some w)).0 e)) n h
