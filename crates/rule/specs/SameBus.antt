-- Two buses that agree, state by state, as far as a relation between the states of their targets reaches.
use Rattle.std.specs.Prelude.{ℕ, ◌≡◌, List, ◌∷◌}
use Rattle.arp.specs.Controller.{stepped}
use Rattle.arp.specs.declared.state.Stepped.{Stepped}
use Rattle.rule.specs.AnyBus.{Bus, WorldOver}

-- R relates the states of their targets. It may also speak of the controller, and so of the commands that a run hands out. The same trace
-- stands on both, and what that trace does to the targets, and to the controller, keeps R
pub record Agree {A B : Type 0} (a : Bus A) (b : Bus B) (R : Stepped → A → B → Type 0) : Type 0 where
  pub same_trace : (s : Stepped) (x : A) (y : B) → R s x y → a.stands s.command x ≡ b.stands s.command y
  pub kept : (s : Stepped) (x : A) (y : B) → R s x y → (t : ℕ) (tr : List ℕ) → a.stands s.command x ≡ t ∷ tr
      → R (stepped s.state (t ∷ tr)) (a.acts (t ∷ tr) x) (b.acts (t ∷ tr) y)

-- one controller over both, and related targets
pub record SameWorld {A B : Type 0} (R : Stepped → A → B → Type 0) (v : WorldOver A) (w : WorldOver B) : Type 0 where
  pub now : v.now ≡ w.now
  pub targets : R v.now v.targets w.targets
