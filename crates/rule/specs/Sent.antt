-- What stood on the bus in a pass, trace after trace: how many Get UDIDs are among it, counted by the symbols, whatever the controller counts;
-- and the history that the controller has then.
use Rattle.std.specs.Prelude.{ℕ, zero, suc, ◌+◌, List, [], ◌∷◌}
use Rattle.lists.specs.Choice.{pick}
use Rattle.pool.specs.declared.Pool.{Pool}
use Rattle.targets.specs.Target.{Target}
use Rattle.arp.specs.History.{Step, Event, Start, Received}
use Rattle.rule.specs.Acknowledge.{begins}
use Rattle.rule.specs.AnyBus.{Bus, WorldOver, turn_over, beginning_over}
use Rattle.rule.specs.Bus.{World, model_bus}

-- the traces of so many turns, in order: each is that of the command that is out; after the end of a pass, no symbol
abbrev pub traces_over : {A : Type 0} → Bus A → ℕ → WorldOver A → List (List ℕ)
traces_over bus zero w = []
traces_over bus (suc n) w = bus.stands w.now.command w.targets ∷ traces_over bus n (turn_over bus w)

-- one of them is a Get UDID if it begins with S, C2h A, 03h: the default address for writing, acknowledged, and the command
abbrev pub one_in : List ℕ → ℕ
one_in tr = pick (begins (256 ∷ 194 ∷ 258 ∷ 3 ∷ []) tr) 1 0

abbrev pub gets_among : List (List ℕ) → ℕ
gets_among [] = 0
gets_among (tr ∷ trs) = one_in tr + gets_among trs

-- HOW MANY GET UDIDS STOOD ON THE BUS in the turns of a pass
abbrev pub gets_over : {A : Type 0} → Bus A → Pool → ℕ → A → ℕ
gets_over bus occupied last ts = gets_among (traces_over bus 300 (beginning_over occupied last ts))

-- the events that a controller's history has for these traces, after others; no symbol is no event
abbrev pub heard_after : List Event → List (List ℕ) → List Event
heard_after es [] = es
heard_after es ([] ∷ trs) = heard_after es trs
heard_after es ((x ∷ tr) ∷ trs) = heard_after (Received Step (x ∷ tr) ∷ es) trs

-- ---- on the model's bus

abbrev pub stands : World → List ℕ
stands w = model_bus.stands w.now.command w.targets

abbrev pub traces : ℕ → World → List (List ℕ)
traces n w = traces_over model_bus n w

unfoldable pub gets_on_bus : Pool → ℕ → List Target → ℕ
gets_on_bus occupied last ts = gets_over model_bus occupied last ts

-- THE HISTORY OF A PASS: a start, and the traces of its turns
unfoldable pub history_on_bus : Pool → ℕ → List Target → List Event
history_on_bus occupied last ts = heard_after (Start ∷ []) (traces_over model_bus 300 (beginning_over occupied last ts))
