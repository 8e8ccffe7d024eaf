-- A pass over a bus is a history of the controller: the start, and each trace that stood on the bus. So what is promised of histories holds of it.
use Prim.Native.Nat.{ℕ, zero, suc}
use Rattle.std.specs.Prelude.{◌≡◌}
use Rattle.std.proofs.Math.Path.{refl, ap}
use Rattle.std.proofs.Common.{◌∙◌}
use mathlib.Core.List.{List, [], ◌∷◌}
use Rattle.pool.specs.declared.Pool.{Pool}
use Rattle.targets.specs.Target.{Target}
use Rattle.arp.specs.Controller.{stepped}
use Rattle.arp.specs.History.{Step, Event, Start, Received, run}
use Rattle.arp.specs.declared.state.Controller.{Controller}
use Rattle.rule.specs.AnyBus.{Bus, WorldOver, took_over, turn_over, run_over, beginning_over}
use Rattle.rule.specs.Bus.{model_bus, pass}
use Rattle.rule.specs.Sent.{traces_over, heard_after, history_on_bus}

module _ {A : Type 0} (bus : Bus A) (occupied : Pool) (last : ℕ) where
  -- over any bus, from any state that a history has
  pub run_is_history : (n : ℕ) (w : WorldOver A) (es : List Event) → w.now.state ≡ run occupied last es
      → (run_over bus n w).now.state ≡ run occupied last (heard_after es (traces_over bus n w))
  unfolding run
  run_is_history zero w es e = e
  run_is_history (suc n) w es e = go (bus.stands w.now.command w.targets) (turn_over bus w) refl (λ fs k. run_is_history n (turn_over bus w) fs k)
    where
      go : (tr : List ℕ) (x : WorldOver A) → x ≡ took_over bus w.now w.targets tr
          → ((fs : List Event) → x.now.state ≡ run occupied last fs → (run_over bus n x).now.state ≡ run occupied last (heard_after fs (traces_over bus n x)))
          → (run_over bus n x).now.state ≡ run occupied last (heard_after es (tr ∷ traces_over bus n x))
      go [] x q ih = ih es (ap (λ (y : WorldOver A). y.now.state) q ∙ e)
      go (t ∷ tr) x q ih = ih (Received Step (t ∷ tr) ∷ es) (ap (λ (y : WorldOver A). y.now.state) q ∙ ap (λ (c : Controller). (stepped c (t ∷ tr)).state) e)

-- THE CONTROLLER AT THE END OF A PASS is that of its history
pub pass_is_history : (occupied : Pool) (last : ℕ) (ts : List Target) → (pass occupied last ts).now.state ≡ run occupied last (history_on_bus occupied last ts)
unfolding pass history_on_bus run
pass_is_history occupied last ts = run_is_history model_bus occupied last 300 (beginning_over occupied last ts) (Start ∷ []) refl
