-- A run by the two halves is the run by whole steps, turn for turn. So demand 3 stands over the halves.
use Rattle.std.specs.Prelude.{ℕ, zero, suc, ◌≡◌, refl, List, [], ◌∷◌}
use Rattle.std.proofs.Common.{ap, ◌∙◌}
use Rattle.arp.proofs.ChoosingLaws.{halves_are_the_step}
use Rattle.arp.specs.declared.state.Stepped.{Stepped}
use Rattle.rule.specs.AnyBus.{Bus, WorldOver, took_over, turn_over, run_over}
use Rattle.rule.specs.Halves.{took_by_halves, run_by_halves}

module _ {A : Type 0} (bus : Bus A) where
  turn_by_halves : (s : Stepped) (ts : A) (tr : List ℕ) → took_by_halves bus s ts tr ≡ took_over bus s ts tr
  turn_by_halves s ts [] = refl
  turn_by_halves s ts (x ∷ xs) = ap (λ (r : Stepped). record { now = r; targets = bus.acts (x ∷ xs) ts }) (halves_are_the_step s.state (x ∷ xs))

  -- ANY NUMBER OF TURNS, over any bus
  pub run_by_halves_lem : (n : ℕ) (w : WorldOver A) → run_by_halves bus n w ≡ run_over bus n w
  run_by_halves_lem zero w = refl
  run_by_halves_lem (suc n) w =
      ap (run_by_halves bus n) (turn_by_halves w.now w.targets (bus.stands w.now.command w.targets)) ∙ run_by_halves_lem n (turn_over bus w)
