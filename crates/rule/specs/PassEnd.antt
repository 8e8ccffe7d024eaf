-- How a pass ends that serves as the plain rule says: the controller's state and last command, and the targets.
use Rattle.std.specs.Prelude.{ℕ, suc, ◌+◌, List, [], ◌∷◌, length}
use Rattle.pool.specs.Pools.{with_address}
use Rattle.pool.specs.Start.{starting_pool}
use Rattle.pool.specs.declared.Pool.{Pool}
use Rattle.slots.specs.Slots.{with_binding, no_bindings}
use Rattle.arp.specs.State.{state_of}
use Rattle.commands.specs.declared.command.End.TheVariants.{Ended, NoneFree}
use Rattle.commands.specs.declared.command.Handed.{Handed}
use Rattle.commands.specs.declared.command.Handed.TheVariants.{Wait}
use Rattle.slots.specs.declared.Binding.TheVariants.{Bound}
use Rattle.slots.specs.declared.Slots.{Slots}
use Rattle.arp.specs.declared.state.Stepped.{Stepped}
use Rattle.targets.specs.Target.{Target, cleared, resolve}
use Rattle.rule.specs.Bus.{World}
use Rattle.rule.specs.PlainRule.{Ending, served, none_free, Given, Ruled, ruled}

-- the controller's last command
abbrev pub last_command : Ending → Handed
last_command served = Wait Ended
last_command (none_free u) = Wait (NoneFree u)

-- the controller's state with a command out: l is the last pick, and b are the occupied addresses
abbrev pub out : ℕ → Pool → Pool → Slots → ℕ → Handed → Stepped
out l b p s n k = record { state = state_of l b p s n k; command = k }

pub record Outcome : Type 0 where
  pub pool : Pool
  pub slots : Slots
  pub bound : ℕ
  pub targets : List Target
  pub ending : Ending
  pub picked : ℕ

-- one Get UDID for each that was served, and one more
abbrev pub ended : Pool → Outcome → World
ended b o = record { now = out o.picked b o.pool o.slots (suc o.bound) (last_command o.ending); targets = o.targets }

-- what a list of bindings makes of the pool, the slots and the targets
abbrev pub add_all : List Given → Pool → Pool
add_all [] p = p
add_all (g ∷ gs) p = add_all gs (with_address p g.address)

abbrev pub put_all : List Given → Slots → Slots
put_all [] s = s
put_all (g ∷ gs) s = put_all gs (with_binding s g.address (Bound g.who.udid))

abbrev pub resolve_all : List Given → List Target → List Target
resolve_all [] ts = ts
resolve_all (g ∷ gs) ts = resolve_all gs (resolve g.who.udid g.address ts)

abbrev pub outcome : Ruled → Pool → Slots → ℕ → List Target → Outcome
outcome r p s k ts = record {
  pool = add_all r.given p;
  slots = put_all r.given s;
  bound = length r.given + k;
  targets = resolve_all r.given ts;
  ending = r.ending;
  picked = r.picked;
}

-- with no target: nobody acknowledges Prepare, and no Get UDID is sent
abbrev pub nobody_there : Pool → ℕ → World
nobody_there occupied last = record { now = out last occupied (starting_pool occupied) no_bindings 0 (Wait Ended); targets = [] }

-- how a pass over these targets ends, where these addresses are occupied
abbrev pub pass_end : Pool → ℕ → List Target → World
pass_end occupied last [] = nobody_there occupied last
pass_end occupied last (t ∷ ts) = ended occupied (outcome (ruled (starting_pool occupied) last (t ∷ ts)) (starting_pool occupied) no_bindings 0 (cleared (t ∷ ts)))
