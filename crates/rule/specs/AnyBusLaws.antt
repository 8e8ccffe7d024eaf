-- A turn by what stands on the bus: nothing, or a trace. Turns after turns are as many turns in all, and a silent bus stays as it is.
use Rattle.std.specs.Prelude.{ℕ, zero, suc, ◌+◌, ◌≡◌, refl, List, [], ◌∷◌}
use Rattle.std.proofs.Common.{sym, ap, ◌∙◌, subst, suc-add, zero-add}
use Rattle.arp.specs.Controller.{stepped}
use Rattle.arp.specs.declared.state.Stepped.{Stepped}
use Rattle.rule.specs.AnyBus.{Bus, WorldOver, took_over, turn_over, run_over}

module _ {A : Type 0} (bus : Bus A) where
  -- nothing stands there: all stays as it is
  pub took_nothing : (s : Stepped) (x : A) (tr : List ℕ) → tr ≡ [] → took_over bus s x tr ≡ record { now = s; targets = x }
  took_nothing s x tr e = ap (took_over bus s x) e

  -- a trace is taken by the controller's step and by the targets
  pub took_trace : (s : Stepped) (x : A) (tr : List ℕ) (t : ℕ) (rest : List ℕ) → tr ≡ t ∷ rest
      → took_over bus s x tr ≡ record { now = stepped s.state tr; targets = bus.acts tr x }
  took_trace s x tr t rest e =
      subst (λ (l : List ℕ). took_over bus s x l ≡ record { now = stepped s.state l; targets = bus.acts l x }) (sym e) refl

  -- a silent bus stays as it is
  pub silent_run : (n : ℕ) (w : WorldOver A) → bus.stands w.now.command w.targets ≡ [] → run_over bus n w ≡ w
  silent_run zero w e = refl
  silent_run (suc n) w e = ap (run_over bus n) (took_nothing w.now w.targets (bus.stands w.now.command w.targets) e) ∙ silent_run n w e

  pub run_add : (n m : ℕ) (w : WorldOver A) → run_over bus (n + m) w ≡ run_over bus m (run_over bus n w)
  run_add zero m w = ap (λ (k : ℕ). run_over bus k w) (zero-add m)
  run_add (suc n) m w = ap (λ (k : ℕ). run_over bus k w) (suc-add n m) ∙ run_add n m (turn_over bus w)
