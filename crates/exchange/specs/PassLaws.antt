-- EQUAL STATES: over modules the controller goes through the states that it goes through over the model's targets, the same traces stand on both
-- buses, and the modules' records are those targets, after any number of commands.
use Rattle.std.specs.Prelude.{ℕ, zero, suc, ◌≡◌, refl, List, [], ◌∷◌}
use Rattle.std.proofs.Common.{sym, ap₂, subst, ◌∙◌, inl, inr}
use Rattle.std.proofs.Math.Path.{ap}
use Rattle.lists.specs.Each.{Each}
use Rattle.pool.specs.Start.{barred_pool}
use Rattle.pool.specs.declared.Pool.{Pool}
use Rattle.udid.specs.Udids.{Fits}
use Rattle.arbitration.specs.Among.{Among}
use Rattle.targets.specs.Admission.{AdmittedTargets}
use Rattle.targets.specs.Target.{Target, map_targets, Sized}
use Rattle.arp.specs.Controller.{last_pick, stepped}
use Rattle.rule.specs.Acknowledge.{on_bus}
use Rattle.rule.specs.Acted.{Names}
use Rattle.rule.specs.AnyBus.{took_over, turn_over, run_over, beginning_over}
use Rattle.rule.specs.Bus.{World, model_bus, pass}
use Rattle.rule.specs.BusLaws.{effect_keeps_udid}
use Rattle.rule.specs.Effect.{effect}
use Rattle.rule.specs.PassEnd.{pass_end}
use Rattle.rule.specs.PassEndLaws.{demand_3}
use Rattle.rule.specs.Sent.{gets_among, traces_over, gets_on_bus}
use Rattle.module.specs.declared.state.Module.{Module}
use Rattle.exchange.specs.EachLaws.{each_made, each_from}
use Rattle.exchange.specs.Exchange.{Fitting, record_of, records_of, exchange}
use Rattle.exchange.specs.ExchangeLaws.{exchange_same}
use Rattle.exchange.specs.NamesLaws.{step_names}
use Rattle.exchange.specs.Pass.{Bench, world_of, took_on, stands_on, turn_on, run_on, traces_on, pass_on, gets_on}

-- what holds throughout a run: identifiers are numbers of 128 bits
pub record Sound (b : Bench) : Type 0 where
  pub names : Names b.now.command
  pub fitting : Each Fitting b.targets

-- ---- one turn

abbrev FitsIn : Target → Type 0
FitsIn t = Fits t.udid

effect_fits : (tr : List ℕ) (ts : List Target) → Each FitsIn ts → Each FitsIn (map_targets (effect tr) ts)
effect_fits tr [] h = tt
effect_fits tr (t ∷ ts) h = (subst Fits (sym (effect_keeps_udid tr t)) h.0, effect_fits tr ts h.1)

module _ (b : Bench) (h : Sound b) where
  abbrev ms : List Module
  ms = (exchange b.now.command b.targets).modules

  same : (stands_on b ≡ on_bus b.now.command (records_of b.targets)) × (records_of ms ≡ map_targets (effect (stands_on b)) (records_of b.targets))
  same = exchange_same b.now.command b.targets h.names h.fitting

  after_fits : Each Fitting ms
  after_fits =
      each_from FitsIn record_of (λ m f. f) ms
      (subst (Each FitsIn) (sym same.1) (effect_fits (stands_on b) (records_of b.targets) (each_made FitsIn record_of (λ m f. f) b.targets h.fitting)))

  turn_world : world_of (turn_on b) ≡ turn_over model_bus (world_of b)
  turn_world = go (stands_on b) same.1 ∙ ap (took_over model_bus b.now (records_of b.targets)) same.0
    where
      go : (tr : List ℕ) → records_of ms ≡ map_targets (effect tr) (records_of b.targets) → world_of (took_on b tr ms) ≡ took_over model_bus b.now (records_of b.targets) tr
      go [] e = refl
      go (x ∷ xs) e = ap (λ (ts : List Target). record { now = stepped b.now.state (x ∷ xs); targets = ts }) e

  turn_sound : Sound (turn_on b)
  turn_sound = go (stands_on b)
    where
      go : (tr : List ℕ) → Sound (took_on b tr ms)
      go [] = h
      go (x ∷ xs) = record { names = step_names b.now.state (x ∷ xs); fitting = after_fits }

-- ---- any number

pub run_same : (n : ℕ) (b : Bench) → Sound b → world_of (run_on n b) ≡ run_over model_bus n (world_of b)
run_same zero b h = refl
run_same (suc n) b h = run_same n (turn_on b) (turn_sound b h) ∙ ap (run_over model_bus n) (turn_world b h)

pub traces_same : (n : ℕ) (b : Bench) → Sound b → traces_on n b ≡ traces_over model_bus n (world_of b)
traces_same zero b h = refl
traces_same (suc n) b h =
    ap₂ (λ (tr : List ℕ) (trs : List (List ℕ)). tr ∷ trs) (same b h).0 (traces_same n (turn_on b) (turn_sound b h) ∙ ap (traces_over model_bus n) (turn_world b h))

-- FROM THE START: any modules in any states, any occupied addresses, any last pick
module _ (occupied : Pool) (last : ℕ) (ms : List Module) (h : Each Fitting ms) where
  begins_sound : Sound (beginning_over occupied last ms)
  begins_sound = record { names = tt; fitting = h }

  -- after n commands the controller's state and what it handed out are the same, and the modules' records are the targets
  pub equal_states : (n : ℕ)
      → ((run_on n (beginning_over occupied last ms)).now ≡ (run_over model_bus n (beginning_over occupied last (records_of ms))).now)
      × (records_of (run_on n (beginning_over occupied last ms)).targets ≡ (run_over model_bus n (beginning_over occupied last (records_of ms))).targets)
  equal_states n =
      let e = run_same n (beginning_over occupied last ms) begins_sound in
      (ap (λ (w : World). w.now) e, ap (λ (w : World). w.targets) e)

  -- the same traces stood on both buses
  pub equal_traces : (n : ℕ) → traces_on n (beginning_over occupied last ms) ≡ traces_over model_bus n (beginning_over occupied last (records_of ms))
  equal_traces n = traces_same n (beginning_over occupied last ms) begins_sound

  -- and so as many Get UDIDs
  pub equal_gets : gets_on occupied last ms ≡ gets_on_bus occupied last (records_of ms)
  unfolding gets_on_bus
  equal_gets = ap gets_among (equal_traces 300)

  pub pass_same : world_of (pass_on occupied last ms) ≡ pass occupied last (records_of ms)
  unfolding pass
  pass_same = run_same 300 (beginning_over occupied last ms) begins_sound

-- ---- A PASS WITH MODULES ENDS AS THE PLAIN RULE SAYS, where their records are admitted

sized_fits : (ms : List Module) → ((t : Target) → Among t (records_of ms) → Sized t) → Each Fitting ms
sized_fits [] h = tt
sized_fits (m ∷ ms) h = ((h (record_of m) (inl refl)).udid, sized_fits ms (λ t i. h t (inr i)))

pub pass_rule : (occupied : Pool) (last : ℕ) (ms : List Module) → AdmittedTargets (barred_pool occupied) (records_of ms)
    → world_of (pass_on occupied last ms) ≡ pass_end occupied (last_pick last) (records_of ms)
pass_rule occupied last ms v = pass_same occupied last ms (sized_fits ms v.sized) ∙ demand_3 occupied last (records_of ms) v
