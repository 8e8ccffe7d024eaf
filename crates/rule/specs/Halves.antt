-- A run over a bus by the two halves of the step: each trace is taken by the first half, and a choice that waits then is issued.
use Rattle.std.specs.Prelude.{ℕ, zero, suc, List, [], ◌∷◌}
use Rattle.arp.specs.Choosing.{first_half, carried_on}
use Rattle.arp.specs.declared.state.Stepped.{Stepped}
use Rattle.rule.specs.AnyBus.{Bus, WorldOver}

-- A TURN, by what stands on the bus: nothing leaves all as it is
abbrev pub took_by_halves : {A : Type 0} → Bus A → Stepped → A → List ℕ → WorldOver A
took_by_halves bus s ts [] = record { now = s; targets = ts }
took_by_halves bus s ts (x ∷ xs) = record { now = carried_on (first_half s.state (x ∷ xs)); targets = bus.acts (x ∷ xs) ts }

abbrev pub run_by_halves : {A : Type 0} → Bus A → ℕ → WorldOver A → WorldOver A
run_by_halves bus zero w = w
run_by_halves bus (suc n) w = run_by_halves bus n (took_by_halves bus w.now w.targets (bus.stands w.now.command w.targets))
