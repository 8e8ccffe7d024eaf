-- RUNS OVER TWO BUSES THAT AGREE: the same traces stand on both, and they end with one controller and related targets.
use Rattle.std.specs.Prelude.{ℕ, zero, suc, ◌≡◌, refl, List, [], ◌∷◌}
use Rattle.std.proofs.Common.{ap, ap₂, ◌∙◌, subst}
use Rattle.arp.specs.Controller.{started, new_controller}
use Rattle.arp.specs.declared.state.Stepped.{Stepped}
use Rattle.pool.specs.declared.Pool.{Pool}
use Rattle.rule.specs.AnyBus.{Bus, WorldOver, took_over, turn_over, run_over, beginning_over, pass_of}
use Rattle.rule.specs.SameBus.{Agree, SameWorld}
use Rattle.rule.specs.Sent.{traces_over, gets_among, gets_over}

module _ {A B : Type 0} (a : Bus A) (b : Bus B) (R : Stepped → A → B → Type 0) (agree : Agree a b R) where
  -- one trace, taken on both
  same_took : (s : Stepped) (x : A) (y : B) → R s x y → (tr : List ℕ) → a.stands s.command x ≡ tr → SameWorld R (took_over a s x tr) (took_over b s y tr)
  same_took s x y r [] e = record { now = refl; targets = r }
  same_took s x y r (t ∷ tr) e = record { now = refl; targets = agree.kept s x y r t tr e }

  -- the same trace stands on both
  pub same_stands : (v : WorldOver A) (w : WorldOver B) → SameWorld R v w → a.stands v.now.command v.targets ≡ b.stands w.now.command w.targets
  same_stands v w q = agree.same_trace v.now v.targets w.targets q.targets ∙ ap (λ (s : Stepped). b.stands s.command w.targets) q.now

  pub same_turn : (v : WorldOver A) (w : WorldOver B) → SameWorld R v w → SameWorld R (turn_over a v) (turn_over b w)
  same_turn v w q =
      subst (λ (tr : List ℕ). SameWorld R (turn_over a v) (took_over b w.now w.targets tr)) (same_stands v w q)
      (subst (λ (s : Stepped). SameWorld R (turn_over a v) (took_over b s w.targets (a.stands v.now.command v.targets))) q.now
      (same_took v.now v.targets w.targets q.targets (a.stands v.now.command v.targets) refl))

  -- AFTER SO MANY TURNS
  pub same_run : (n : ℕ) (v : WorldOver A) (w : WorldOver B) → SameWorld R v w → SameWorld R (run_over a n v) (run_over b n w)
  same_run zero v w q = q
  same_run (suc n) v w q = same_run n (turn_over a v) (turn_over b w) (same_turn v w q)

  pub same_traces : (n : ℕ) (v : WorldOver A) (w : WorldOver B) → SameWorld R v w → traces_over a n v ≡ traces_over b n w
  same_traces zero v w q = refl
  same_traces (suc n) v w q = ap₂ ◌∷◌ (same_stands v w q) (same_traces n (turn_over a v) (turn_over b w) (same_turn v w q))

  -- A PASS, and the Get UDIDs that stood on the bus in it
  module _ (occupied : Pool) (last : ℕ) (x : A) (y : B) (r : R (started (new_controller occupied last)) x y) where
    first : SameWorld R (beginning_over occupied last x) (beginning_over occupied last y)
    first = record { now = refl; targets = r }

    pub same_pass : SameWorld R (pass_of a occupied last x) (pass_of b occupied last y)
    same_pass = same_run 300 (beginning_over occupied last x) (beginning_over occupied last y) first

    pub same_gets : gets_over a occupied last x ≡ gets_over b occupied last y
    same_gets = ap gets_among (same_traces 300 (beginning_over occupied last x) (beginning_over occupied last y) first)
