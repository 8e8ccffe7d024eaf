-- A run of the controller's steps over a bus of modules, as rule/specs/AnyBus has it over any bus whose targets act by the trace alone. Here the
-- command on the bus leaves both: the trace, which the controller's step takes, and the modules.
use Rattle.std.specs.Prelude.{ℕ, zero, suc, List, [], ◌∷◌}
use Rattle.pool.specs.declared.Pool.{Pool}
use Rattle.arp.specs.Controller.{stepped}
use Rattle.rule.specs.AnyBus.{WorldOver, beginning_over}
use Rattle.rule.specs.Bus.{World}
use Rattle.rule.specs.Sent.{gets_among}
use Rattle.module.specs.declared.state.Module.{Module}
use Rattle.exchange.specs.Exchange.{records_of, exchange}

-- the controller with what it handed out last, and the modules
abbrev pub Bench : Type 0
Bench = WorldOver (List Module)

-- the same with the modules' records for targets
abbrev pub world_of : Bench → World
world_of b = record { now = b.now; targets = records_of b.targets }

-- A TURN, by what stands on the bus: nothing leaves all as it is, any other trace is taken by the controller's step, and the modules are those
-- after it
abbrev pub took_on : Bench → List ℕ → List Module → Bench
took_on b [] ms = b
took_on b (x ∷ xs) ms = record { now = stepped b.now.state (x ∷ xs); targets = ms }

abbrev pub stands_on : Bench → List ℕ
stands_on b = (exchange b.now.command b.targets).trace

abbrev pub turn_on : Bench → Bench
turn_on b = took_on b (stands_on b) (exchange b.now.command b.targets).modules

abbrev pub run_on : ℕ → Bench → Bench
run_on zero b = b
run_on (suc n) b = run_on n (turn_on b)

-- the traces of so many turns, in order
abbrev pub traces_on : ℕ → Bench → List (List ℕ)
traces_on zero b = []
traces_on (suc n) b = stands_on b ∷ traces_on n (turn_on b)

-- A PASS over modules with these addresses occupied and this last pick, and how many Get UDIDs stood on the bus in it
abbrev pub pass_on : Pool → ℕ → List Module → Bench
pass_on occupied last ms = run_on 300 (beginning_over occupied last ms)

abbrev pub gets_on : Pool → ℕ → List Module → ℕ
gets_on occupied last ms = gets_among (traces_on 300 (beginning_over occupied last ms))
