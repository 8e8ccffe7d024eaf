-- What the model run answers, in terms of the plain rule alone: the number, who asked, how many are bound, how many Get UDIDs there were,
-- and when all are bound.
use Rattle.std.specs.Prelude.{ℕ, zero, suc, ◌*◌, ◌/◌, ◌≤◌, ◌<◌, ◌≡◌, refl, ◌↔◌, List, [], ◌∷◌, length, Ok}
use Rattle.std.proofs.Common.{sym, ap, ◌∙◌, subst, arith}
use Rattle.lists.specs.Each.{Bytes}
use Rattle.pool.specs.CountLaws.{count_cong}
use Rattle.pool.specs.Start.{starting_pool, barred_pool}
use Rattle.pool.specs.declared.Pool.{Pool}
use Rattle.udid.specs.declared.Udid.{Udid}
use Rattle.slots.specs.Finding.{bound_in}
use Rattle.arp.specs.Numbers.{command_number}
use Rattle.slots.specs.Slots.{held_at}
use Rattle.slots.specs.declared.Binding.{Binding}
use Rattle.slots.specs.declared.Slots.{Slots}
use Rattle.targets.specs.Admission.{AdmittedTargets}
use Rattle.targets.specs.AdmissionLaws.{admitted_length, admitted_targets}
use Rattle.targets.specs.IndexLaws.{length_targets}
use Rattle.targets.specs.Records.{record_count, targets_of}
use Rattle.targets.specs.Refusals.{checked_list}
use Rattle.targets.specs.Target.{Target}
use Rattle.bindings.proofs.BoundLaws.{bound_set_count}
use Rattle.bindings.specs.Entries as entries
use Rattle.rule.specs.AllBoundLaws.{all_served, all_given}
use Rattle.rule.specs.AllBound.{movable, left_free}
use Rattle.rule.specs.Bus.{World, pass}
use Rattle.arp.proofs.LastPickLaws.{last_pick_is}
use Rattle.rule.specs.PassEndLaws.{demand_3}
use Rattle.rule.specs.EndAnswer.{number_of, asker_of, gets_for}
use Rattle.rule.specs.PassEnd.{last_command, pass_end}
use Rattle.rule.specs.PlainRule.{Ending, served, none_free, ruled}
use Rattle.rule.specs.ReadingLaws.{bound_as_many_as_given}
use Rattle.rule.specs.Reading.{some_of, is_bound, bound_at}
use Rattle.rule.specs.RecordsLaws.{end_targets_stored}
use Rattle.rule.specs.Sent.{gets_on_bus}
use Rattle.rule.specs.SentLaws.{counted_on_bus}
use Rattle.bus.specs.PassLaws.{leaves_pass, gets_of_pass}
use Rattle.bus.specs.Run.{Leaves, ended_end, model_end}
use Rattle.report.specs.Report.{number_in, udid_in, entry_for, entry_of, entry_at}
use Rattle.bindings.specs.declared.answer.ModelAnswer.{ModelAnswer}

-- ---- the last command of the rule's end, in the scope's numbers

last_number : (e : Ending) → number_in (command_number (last_command e)) ≡ number_of e
last_number served = refl
last_number (none_free u) = refl

last_asker : (e : Ending) → udid_in (command_number (last_command e)) ≡ asker_of e
last_asker served = refl
last_asker (none_free u) = refl

end_number_lem : (occupied : Pool) (last : ℕ) (ts : List Target) → number_in (command_number (pass_end occupied last ts).now.command) ≡ number_of (ruled (starting_pool occupied) last ts).ending
end_number_lem occupied last [] = refl
end_number_lem occupied last (t ∷ ts) = last_number (ruled (starting_pool occupied) last (t ∷ ts)).ending

end_asker : (occupied : Pool) (last : ℕ) (ts : List Target) → udid_in (command_number (pass_end occupied last ts).now.command) ≡ asker_of (ruled (starting_pool occupied) last ts).ending
end_asker occupied last [] = refl
end_asker occupied last (t ∷ ts) = last_asker (ruled (starting_pool occupied) last (t ∷ ts)).ending

end_gets : (occupied : Pool) (last : ℕ) (ts : List Target) → (pass_end occupied last ts).now.state.gets ≡ gets_for (length ts) (length (ruled (starting_pool occupied) last ts).given)
end_gets occupied last [] = refl
end_gets occupied last (t ∷ ts) = omega arith

end_picked : (occupied : Pool) (last : ℕ) (ts : List Target) → (pass_end occupied last ts).now.state.picked ≡ (ruled (starting_pool occupied) last ts).picked
end_picked occupied last [] = refl
end_picked occupied last (t ∷ ts) = refl

-- a list of whole records is empty if and only if it has none
gets_by_length : (n l k : ℕ) → n ≡ l / 18 → l ≡ l / 18 * 18 → gets_for n k ≡ gets_for l k
gets_by_length zero zero k e h = refl
gets_by_length zero (suc l) k e h = absurd (omega arith)
gets_by_length (suc n) zero k e h = absurd (omega arith)
gets_by_length (suc n) (suc l) k e h = refl

-- an entry is bound where a slot is
pub entry_bound : (h : Binding) → entries.is_bound (entry_of h) ≡ is_bound h
entry_bound h = go (bound_in h)
  where
    go : (us : List Udid) → entries.is_bound (entry_for us) ≡ some_of us
    go [] = refl
    go (u ∷ us) = refl

last_command_lem : (occupied : Pool) (last : ℕ) (ts : List Target) → command_number (pass_end occupied last ts).now.command ≡ command_number (last_command (ruled (starting_pool occupied) last ts).ending)
last_command_lem occupied last [] = refl
last_command_lem occupied last (t ∷ ts) = refl

-- a list that is not refused, a buffer that is long enough, and what run_model's contract says of an answer and of the lists left
module _ (occupied : Pool) (last : ℕ) (small : last < 128) (s b : List ℕ) (bytes : Bytes s) (long : 2048 ≤ length b) (e : checked_list (barred_pool occupied) s ≡ Ok tt) (r : ModelAnswer) (s' b' : List ℕ)
    (l : Leaves (model_end occupied last s b) r s' b') where
  admitted : AdmittedTargets (barred_pool occupied) (targets_of s)
  admitted = admitted_targets (barred_pool occupied) s bytes e

  as_rule : pass occupied last (targets_of s) ≡ pass_end occupied last (targets_of s)
  as_rule = demand_3 occupied last (targets_of s) admitted ∙ ap (λ (n : ℕ). pass_end occupied n (targets_of s)) (last_pick_is last small)

  -- THE RUN ENDS as the plain rule does
  pub leaves_rule : Leaves (ended_end (pass_end occupied last (targets_of s)) s b) r s' b'
  leaves_rule = subst (λ (w : World). Leaves (ended_end w s b) r s' b') (as_rule) (leaves_pass occupied last small s b long e r s' b' l)

  -- the answer: 0 or 13, the identifier that asked, no record
  pub answer_of_rule : r.answer ≡ number_of (ruled (starting_pool occupied) last (targets_of s)).ending
  answer_of_rule = ap (λ (x : ModelAnswer). x.answer) leaves_rule.answered ∙ end_number_lem occupied last (targets_of s)

  pub asker_of_rule : r.udid ≡ asker_of (ruled (starting_pool occupied) last (targets_of s)).ending
  asker_of_rule = ap (λ (x : ModelAnswer). x.udid) leaves_rule.answered ∙ end_asker occupied last (targets_of s)

  -- the last command of the pass over the bus has that number too
  pub command_of_rule : command_number (pass occupied last (targets_of s)).now.command ≡ command_number (last_command (ruled (starting_pool occupied) last (targets_of s)).ending)
  command_of_rule = ap (λ (w : World). command_number w.now.command) (as_rule) ∙ last_command_lem occupied last (targets_of s)

  -- and the targets of the records that are left are those of the pass
  pub targets_of_pass : targets_of s' ≡ (pass occupied last (targets_of s)).targets
  targets_of_pass =
      ap targets_of leaves_rule.records_hold ∙ end_targets_stored occupied last s
      ∙ sym (ap (λ (w : World). w.targets) (as_rule))

  -- the last pick is the rule's, which is the controller's at the end of the pass
  pub picked_of_rule : r.picked ≡ (ruled (starting_pool occupied) last (targets_of s)).picked
  picked_of_rule = ap (λ (x : ModelAnswer). x.picked) leaves_rule.answered ∙ end_picked occupied last (targets_of s)

  pub place_zero : r.place ≡ 0
  place_zero = ap (λ (x : ModelAnswer). x.place) leaves_rule.answered

  abbrev slots : Slots
  slots = (pass_end occupied last (targets_of s)).now.state.slots

  -- how many are bound
  pub count_of_rule : r.count ≡ length (ruled (starting_pool occupied) last (targets_of s)).given
  count_of_rule =
      ap (λ (x : ModelAnswer). x.count) leaves_rule.answered
      ∙ bound_set_count (entry_at slots)
      ∙ count_cong (λ (a : ℕ). entries.is_bound (entry_at slots a)) (bound_at slots) 128 (λ a h. entry_bound (held_at slots a))
      ∙ bound_as_many_as_given occupied last (targets_of s) admitted

  -- the Get UDIDs: as many as stood on the bus, counted by their symbols; one more than targets are bound, or none on an empty bus
  pub gets_on_bus_lem : r.gets ≡ gets_on_bus occupied last (targets_of s)
  gets_on_bus_lem = gets_of_pass occupied last small s b long e r s' b' l ∙ counted_on_bus occupied last (targets_of s) admitted

  pub gets_of_rule : r.gets ≡ gets_for (length s) (length (ruled (starting_pool occupied) last (targets_of s)).given)
  gets_of_rule =
      ap (λ (x : ModelAnswer). x.gets) leaves_rule.answered
      ∙ end_gets occupied last (targets_of s)
      ∙ gets_by_length (length (targets_of s)) (length s) (length (ruled (starting_pool occupied) last (targets_of s)).given)
      (length_targets s (record_count s) 0) (admitted_length (barred_pool occupied) s bytes e).1

  -- all are bound if and only if the movable ones do not outnumber the addresses that the fixed ones leave free
  pub all_bound : (r.answer ≡ 0) ↔ (movable (targets_of s) ≤ left_free (starting_pool occupied) (targets_of s))
  all_bound = (
    λ q. (all_served occupied last (targets_of s) admitted).0 (zero_served (ruled (starting_pool occupied) last (targets_of s)).ending (sym answer_of_rule ∙ q)),
    λ h. answer_of_rule ∙ ap number_of ((all_served occupied last (targets_of s) admitted).1 h),
  )
    where
      zero_served : (x : Ending) → number_of x ≡ 0 → x ≡ served
      zero_served served q = refl
      zero_served (none_free u) q = absurd (omega arith)

  pub all_counted : (r.count ≡ length (targets_of s)) ↔ (movable (targets_of s) ≤ left_free (starting_pool occupied) (targets_of s))
  all_counted =
      let g = all_given occupied last (targets_of s) admitted in
      (λ q. g.0 (sym count_of_rule ∙ q), λ h. count_of_rule ∙ g.1 h)

  -- with at least one target, Get UDID is sent once more than targets are bound; with none, not at all
  pub gets_are : (0 < length s → r.gets ≡ suc r.count) × (length s ≡ 0 → (r.gets ≡ 0) × (r.answer ≡ 0) × (r.count ≡ 0))
  gets_are = (some (length s) gets_of_rule count_of_rule, none (targets_of s) refl)
    where
      some : (k : ℕ) {n : ℕ} → r.gets ≡ gets_for k n → r.count ≡ n → 0 < k → r.gets ≡ suc r.count
      some zero g c h = absurd (omega arith)
      some (suc k) g c h = g ∙ ap suc (sym c)

      none : (ts : List Target) → targets_of s ≡ ts → length s ≡ 0 → (r.gets ≡ 0) × (r.answer ≡ 0) × (r.count ≡ 0)
      none [] q h = (
        gets_of_rule ∙ ap (λ (k : ℕ). gets_for k (length (ruled (starting_pool occupied) last (targets_of s)).given)) h,
        answer_of_rule ∙ ap (λ (x : List Target). number_of (ruled (starting_pool occupied) last x).ending) q,
        count_of_rule ∙ ap (λ (x : List Target). length (ruled (starting_pool occupied) last x).given) q,
      )
      none (t ∷ ts) q h = absurd (omega (arith, ap length q, length_targets s (record_count s) 0, h))
