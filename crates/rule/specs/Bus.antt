-- The model's bus: the controller's steps run against a list of targets, and each trace is what stands on the bus, bit by bit.
use Rattle.std.specs.Prelude.{ℕ, List}
use Rattle.arp.specs.declared.state.Stepped.{Stepped}
use Rattle.pool.specs.declared.Pool.{Pool}
use Rattle.targets.specs.Target.{Target, map_targets}
use Rattle.rule.specs.Acknowledge.{on_bus}
use Rattle.rule.specs.AnyBus.{Bus, WorldOver, took_over, turn_over, run_over, beginning_over, pass_of}
use Rattle.rule.specs.Effect.{effect}

-- THE MODEL'S BUS: the symbols on it act on each target
abbrev pub model_bus : Bus (List Target)
model_bus = record { stands = on_bus; acts = λ tr ts. map_targets (effect tr) ts }

-- A PASS over it
unfoldable pub pass : Pool → ℕ → List Target → WorldOver (List Target)
pass occupied last ts = pass_of model_bus occupied last ts

-- ---- what the laws of a run over it speak of

abbrev pub World : Type 0
World = WorldOver (List Target)

abbrev pub reached : List ℕ → List Target → List Target
reached tr ts = model_bus.acts tr ts

abbrev pub took : Stepped → List Target → List ℕ → World
took s ts tr = took_over model_bus s ts tr

abbrev pub turn : World → World
turn w = turn_over model_bus w

abbrev pub run : ℕ → World → World
run n w = run_over model_bus n w

abbrev pub beginning : Pool → ℕ → List Target → World
beginning occupied last ts = beginning_over occupied last ts
