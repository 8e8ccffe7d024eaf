-- The delivered run is the pass over the bus bit by bit: its answer, the records that it leaves and the binding buffer are those of the
-- pass, whose commands are the controller's steps and whose traces are what stands on the wire.
use Rattle.std.specs.Prelude.{ℕ, ◌*◌, ◌≤◌, ◌<◌, ◌≡◌, List, length, take, drop, Ok}
use Rattle.std.proofs.Common.{ap, ◌∙◌, subst}
use Rattle.pool.specs.Start.{barred_pool}
use Rattle.pool.specs.declared.Pool.{Pool}
use Rattle.udid.specs.Bytes.{udid_bytes}
use Rattle.udid.specs.declared.Udid.{Udid}
use Rattle.slots.specs.Slots.{held_at}
use Rattle.arp.specs.Numbers.{command_number}
use Rattle.slots.specs.declared.Binding.{Binding}
use Rattle.slots.specs.declared.Binding.TheVariants.{Bound}
use Rattle.targets.specs.Records.{targets_of, records_with}
use Rattle.targets.specs.Refusals.{checked_list}
use Rattle.bindings.proofs.BufferLaws.{bytes_there}
use Rattle.bindings.specs.Entries.{entry_bytes}
use Rattle.rule.specs.Bus.{pass}
use Rattle.bus.specs.Run.{ModelEnd, Leaves, ended_end, model_end}
use Rattle.report.specs.Report.{number_in, udid_in, entry_of, entry_at}
use Rattle.bus.specs.RunLaws.{end_checked_lem, end_going}
use Rattle.bindings.specs.declared.answer.ModelAnswer.{ModelAnswer}

-- a list that is not refused, a buffer that is long enough, and what run_model's contract says of an answer and of the lists left
module _ (occupied : Pool) (last : ℕ) (small : last < 128) (s b : List ℕ) (long : 2048 ≤ length b) (e : checked_list (barred_pool occupied) s ≡ Ok tt) (r : ModelAnswer) (s' b' : List ℕ)
    (l : Leaves (model_end occupied last s b) r s' b') where
  pub leaves_pass : Leaves (ended_end (pass occupied last (targets_of s)) s b) r s' b'
  leaves_pass = subst (λ (x : ModelEnd). Leaves x r s' b') (end_going occupied last s b small ∙ end_checked_lem occupied last s b (Ok tt) long e) l

  -- the number of the last command, the identifier in it, and the Get UDIDs that the controller counted
  pub answer_of_pass : r.answer ≡ number_in (command_number (pass occupied last (targets_of s)).now.command)
  answer_of_pass = ap (λ (x : ModelAnswer). x.answer) leaves_pass.answered

  pub asker_of_pass : r.udid ≡ udid_in (command_number (pass occupied last (targets_of s)).now.command)
  asker_of_pass = ap (λ (x : ModelAnswer). x.udid) leaves_pass.answered

  pub gets_of_pass : r.gets ≡ (pass occupied last (targets_of s)).now.state.gets
  gets_of_pass = ap (λ (x : ModelAnswer). x.gets) leaves_pass.answered

  -- the controller's last pick
  pub picked_of_pass : r.picked ≡ (pass occupied last (targets_of s)).now.state.picked
  picked_of_pass = ap (λ (x : ModelAnswer). x.picked) leaves_pass.answered

  -- the records take the targets' address bytes and flags
  pub records_of_pass : s' ≡ records_with (pass occupied last (targets_of s)).targets s
  records_of_pass = leaves_pass.records_hold

  -- whom the controller has bound to an address stands there in the binding buffer
  pub bindings_of_pass : (a : ℕ) (u : Udid) → a < 128 → held_at (pass occupied last (targets_of s)).now.state.slots a ≡ Bound u → take 16 (drop (16 * a) b') ≡ udid_bytes u
  bindings_of_pass a u h q =
      ap (λ (x : List ℕ). take 16 (drop (16 * a) x)) leaves_pass.bindings_hold
      ∙ bytes_there (entry_at (pass occupied last (targets_of s)).now.state.slots) (drop 2048 b) a h
      ∙ ap (λ (x : Binding). entry_bytes (entry_of x)) q
