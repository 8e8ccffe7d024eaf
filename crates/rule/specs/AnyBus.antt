-- A run of the controller's steps over a bus with any kind of targets: each command is what the steps give for the traces so far, and each
-- trace is what stands on the bus.
use Rattle.std.specs.Prelude.{ℕ, zero, suc, List, [], ◌∷◌}
use Rattle.arp.specs.Controller.{stepped, started, new_controller}
use Rattle.commands.specs.declared.command.Handed.{Handed}
use Rattle.arp.specs.declared.state.Stepped.{Stepped}
use Rattle.pool.specs.declared.Pool.{Pool}

-- A BUS, by its targets, whose state is of type A: what stands on it for a command, and what a trace does to them
pub record Bus (A : Type 0) : Type 0 where
  pub stands : Handed → A → List ℕ
  pub acts : List ℕ → A → A

-- the controller with what it handed out last, and the targets
pub record WorldOver (A : Type 0) : Type 0 where
  pub now : Stepped
  pub targets : A

-- A TURN, by what stands on the bus: nothing leaves all as it is, any other trace is taken by the controller's step and by the targets
abbrev pub took_over : {A : Type 0} → Bus A → Stepped → A → List ℕ → WorldOver A
took_over bus s ts [] = record { now = s; targets = ts }
took_over bus s ts (x ∷ xs) = record { now = stepped s.state (x ∷ xs); targets = bus.acts (x ∷ xs) ts }

abbrev pub turn_over : {A : Type 0} → Bus A → WorldOver A → WorldOver A
turn_over bus w = took_over bus w.now w.targets (bus.stands w.now.command w.targets)

abbrev pub run_over : {A : Type 0} → Bus A → ℕ → WorldOver A → WorldOver A
run_over bus zero w = w
run_over bus (suc n) w = run_over bus n (turn_over bus w)

-- a pass over targets with these addresses occupied and this last pick. A pass sends Prepare once, Get UDID at most 128 times and no more Assigns than
-- that: after 300 commands it has ended
abbrev pub beginning_over : {A : Type 0} → Pool → ℕ → A → WorldOver A
beginning_over occupied last ts = record { now = started (new_controller occupied last); targets = ts }

abbrev pub pass_of : {A : Type 0} → Bus A → Pool → ℕ → A → WorldOver A
pass_of bus occupied last ts = run_over bus 300 (beginning_over occupied last ts)
