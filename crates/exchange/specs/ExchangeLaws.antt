-- ONE COMMAND: on the bus of modules stands what stands on the model's bus over their records, and what is left of the modules has the records that
-- this trace leaves there.
use Rattle.std.specs.Prelude.{[], ◌≡◌, refl, List, ◌∷◌, ℕ}
use Rattle.std.proofs.Common.{sym, ap, ◌∙◌, subst, inl, inr}
use Rattle.lists.specs.Each.{Each}
use Rattle.udid.specs.Udids.{Fits}
use Rattle.arbitration.specs.Among.{Among}
use Rattle.targets.specs.Target.{Target, map_targets}
use Rattle.commands.specs.declared.command.Command.TheVariants.{Prepare, GetUdid, Assign}
use Rattle.commands.specs.declared.command.Handed.{Handed}
use Rattle.commands.specs.declared.command.Handed.TheVariants.{Send, Wait}
use Rattle.rule.specs.Acknowledge.{standing, on_bus}
use Rattle.rule.specs.Acted.{acted, Names}
use Rattle.rule.specs.Effect.{effect}
use Rattle.rule.specs.EffectLaws.{effect_as_meant}
use Rattle.module.specs.declared.state.Module.{Module}
use Rattle.exchange.specs.AssignLaws.{assign_same}
use Rattle.exchange.specs.Exchange.{Fitting, records_of, walk, exchange}
use Rattle.exchange.specs.GetLaws.{get_same}
use Rattle.exchange.specs.PrepareLaws.{prepare_same}
use Rattle.exchange.specs.WalkLaws.{Same}

-- by what the command means for the records
meant_same : (k : Handed) (ms : List Module) → Names k → Each Fitting ms → Same (exchange k ms) (on_bus k (records_of ms)) (acted k (records_of ms))
unfolding exchange walk on_bus standing
meant_same (Send Prepare) ms n h = prepare_same ms
meant_same (Send GetUdid) ms n h = get_same ms
meant_same (Send (Assign u a)) ms n h = assign_same u a n ms h
meant_same (Wait e) ms n h = record { trace = refl; records = refl }

records_fit : (ms : List Module) → Each Fitting ms → (t : Target) → Among t (records_of ms) → Fits t.udid
records_fit [] h t x'' = elim x'' [ ]
records_fit (m ∷ ms) h t (inl e) = subst (λ (x : Target). Fits x.udid) e h.0
records_fit (m ∷ ms) h t (inr i) = records_fit ms h.1 t i

-- THE SAME: for any modules in any states, and for anything that is handed out, as long as identifiers are numbers of 128 bits
module _ (k : Handed) (ms : List Module) (n : Names k) (h : Each Fitting ms) where
  pub exchange_same : ((exchange k ms).trace ≡ on_bus k (records_of ms)) × (records_of (exchange k ms).modules ≡ map_targets (effect (exchange k ms).trace) (records_of ms))
  exchange_same =
      let e = meant_same k ms n h in
      (e.trace, e.records ∙ sym (effect_as_meant k (records_of ms) n (records_fit ms h)) ∙ ap (λ (tr : List ℕ). map_targets (effect tr) (records_of ms)) (sym e.trace))

  -- so the records are as the command means it
  pub exchange_as_meant : records_of (exchange k ms).modules ≡ acted k (records_of ms)
  exchange_as_meant = (meant_same k ms n h).records
