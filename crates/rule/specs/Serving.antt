-- A pass from a Get UDID on: the plain rule with all that it changes carried along, and what holds whenever Get UDID is out.
use Rattle.std.specs.Prelude.{ℕ, suc, ◌+◌, ◌<◌, ◌≡◌, true, false, List, [], ◌∷◌, length, Option, Some, None}
use Rattle.pool.specs.Pools.{member, with_address}
use Rattle.pool.specs.declared.Pool.{Pool}
use Rattle.udid.specs.Udids.{Fits}
use Rattle.udid.specs.declared.Udid.{Udid}
use Rattle.arbitration.specs.Among.{Among}
use Rattle.targets.specs.Members.{Waits}
use Rattle.targets.specs.Target.{Target, resolve}
use Rattle.picking.specs.Claims.{makes_claim}
use Rattle.slots.specs.Finding.{bound_to}
use Rattle.slots.specs.Slots.{Sized128, held_at, with_binding}
use Rattle.commands.specs.declared.command.Command.TheVariants.{GetUdid}
use Rattle.slots.specs.declared.Binding.TheVariants.{Bound}
use Rattle.slots.specs.declared.Slots.{Slots}
use Rattle.commands.specs.declared.command.Handed.TheVariants.{Send}
use Rattle.rule.specs.Bus.{World}
use Rattle.rule.specs.PassEnd.{Outcome, out}
use Rattle.rule.specs.PlainRule.{served, none_free, plain_choice, pick_after}
use Rattle.rule.specs.Ready.{Ready}
use Rattle.wire.specs.declared.address.Address.{Address}

-- ---- the plain rule with all that it changes carried along

-- one target served, and then the others; or the end
abbrev pub serve : (Pool → ℕ → Slots → ℕ → List Target → Outcome) → Target → Pool → ℕ → Slots → ℕ → List Target → Option Address → Outcome
serve next t p last s k ts None = record { pool = p; slots = s; bound = k; targets = ts; ending = none_free t.udid; picked = last }
serve next t p last s k ts (Some a) = next (with_address p a.0) (pick_after p last t a.0) (with_binding s a.0 (Bound t.udid)) (suc k) (resolve t.udid a.0 ts)

-- the targets to serve, in ascending order; the pool, the last pick, the bindings, how many are bound, and all targets
abbrev pub plain : List Target → Pool → ℕ → Slots → ℕ → List Target → Outcome
plain [] p last s k ts = record { pool = p; slots = s; bound = k; targets = ts; ending = served; picked = last }
plain (t ∷ rest) p last s k ts = serve (λ p' l' s' k' ts'. plain rest p' l' s' k' ts') t p last s k ts (plain_choice p last t)

-- ---- what holds whenever Get UDID is out: `rest` are the unresolved targets in ascending order, and somebody is on the bus

-- nobody is bound under this identifier
abbrev pub Unbound : Udid → Slots → Type 0
Unbound u s = (i : ℕ) → bound_to u (held_at s i) ≡ false

pub record Inv (occupied p shut : Pool) (s : Slots) (k : ℕ) (ts rest : List Target) : Type 0 where
  pub ready : Ready p shut rest
  -- where an Assign would make a claim is shut
  pub taken_shut : (a : ℕ) → makes_claim occupied (held_at s a) a ≡ true → member shut a ≡ true
  pub waits : Waits ts rest
  pub unbound : (t : Target) → Among t rest → Unbound t.udid s
  pub room : Sized128 s
  pub below_128 : k + length rest < 128
  pub present : 0 < length ts
  pub fits : (t : Target) → Among t ts → Fits t.udid

-- ---- the run

-- commands that a pass sends from a Get UDID on: one to learn that nobody is left, and two for each target
abbrev pub turns : List Target → ℕ
turns [] = 1
turns (t ∷ ts) = suc (suc (turns ts))

abbrev pub asking : ℕ → Pool → Pool → Slots → ℕ → List Target → World
asking l b p s n ts = record { now = out l b p s n (Send GetUdid); targets = ts }
