-- A pass over the records' bytes is the pass over their targets.
use Rattle.std.specs.Prelude.{ℕ, ◌/◌, ◌≡◌, refl, List, ◌∷◌}
use Rattle.std.proofs.Common.{sym, ap, ◌∙◌, arith}
use Rattle.pool.specs.declared.Pool.{Pool}
use Rattle.targets.specs.Records.{record_count, targets_from, targets_of, records_with}
use Rattle.targets.specs.RecordLaws.{changed_targets, put_again, put_all_self, length_put_from, length_map}
use Rattle.targets.specs.Target.{Target}
use Rattle.arp.specs.Controller.{started, new_controller}
use Rattle.arp.specs.declared.state.Stepped.{Stepped}
use Rattle.rule.specs.Acknowledge.{on_bus}
use Rattle.rule.specs.AnyBus.{pass_of}
use Rattle.rule.specs.Bus.{model_bus, reached, pass}
use Rattle.rule.specs.BusLaws.{effect_keeps_udid}
use Rattle.rule.specs.Effect.{effect}
use Rattle.rule.specs.SameBus.{Agree, SameWorld}
use Rattle.rule.specs.SameBusLaws.{same_pass, same_gets}
use Rattle.rule.specs.Sent.{gets_over, gets_on_bus}
use Rattle.bus.specs.RecordsBus.{records_bus, Holds}

-- what a trace did to the targets is read back
pub reached_stored : (tr s : List ℕ) → targets_of (records_with (reached tr (targets_of s)) s) ≡ reached tr (targets_of s)
reached_stored tr s =
    ap (λ (n : ℕ). targets_from (records_with (reached tr (targets_of s)) s) (n / 18) 0) (length_put_from (reached tr (targets_of s)) 0 s)
    ∙ changed_targets (effect tr) (effect_keeps_udid tr) (record_count s) 0 s (omega arith)

module _ (first : List ℕ) where
  holds_first : (st : Stepped) → Holds first st first (targets_of first)
  holds_first st = record { targets = refl; stored = sym (put_all_self (record_count first) 0 first); same_size = refl }

  holds_next : (st r : Stepped) (s : List ℕ) (ts : List Target) (tr : List ℕ) → Holds first st s ts → Holds first r (records_with (reached tr (targets_of s)) s) (reached tr ts)
  holds_next st r s ts tr h = record {
    targets = reached_stored tr s ∙ ap (reached tr) h.targets;
    stored = ap (λ (us : List Target). records_with (reached tr us) s) h.targets ∙ ap (records_with (reached tr ts)) h.stored ∙ put_again (reached tr ts) ts 0 first (sym (length_map (effect tr) ts));
    same_size = length_put_from (reached tr (targets_of s)) 0 s ∙ h.same_size;
  }

  records_agree : Agree records_bus model_bus (Holds first)
  records_agree = record {
    same_trace = λ st s ts h. ap (on_bus st.command) h.targets;
    kept = λ st s ts h t tr e. holds_next st _ s ts (t ∷ tr) h;
  }

  -- ONE CONTROLLER AT THE END, and the records of the targets at the end
  pub records_pass : (occupied : Pool) (last : ℕ) → SameWorld (Holds first) (pass_of records_bus occupied last first) (pass occupied last (targets_of first))
  unfolding pass
  records_pass occupied last = same_pass records_bus model_bus (Holds first) records_agree occupied last first (targets_of first) (holds_first (started (new_controller occupied last)))

  -- and as many Get UDIDs on the one bus as on the other
  pub records_gets : (occupied : Pool) (last : ℕ) → gets_over records_bus occupied last first ≡ gets_on_bus occupied last (targets_of first)
  unfolding gets_on_bus
  records_gets occupied last = same_gets records_bus model_bus (Holds first) records_agree occupied last first (targets_of first) (holds_first (started (new_controller occupied last)))
