-- THE PROOFS of the page on the module's end of the bus: one inhabitant of each of its records.
use Rattle.std.specs.Prelude.{◌≡◌, refl, false, List, ℕ, ◌/◌, ◌^◌, ◌≤◌, ◌<◌, length, is_some}
use Rattle.std.proofs.Common.{sym, ap, subst, ◌∙◌}
use Rattle.lists.specs.Each.{Each, Bytes}
use Rattle.wire.specs.declared.address.Address.{Address}
use Rattle.udid.specs.Udids.{Fits}
use Rattle.udid.specs.declared.Udid.{Udid}
use Rattle.commands.specs.declared.command.Command.TheVariants.{Prepare, GetUdid, Assign}
use Rattle.commands.specs.declared.command.Handed.{Handed}
use Rattle.commands.specs.declared.command.Handed.TheVariants.{Send, Wait}
use Rattle.pool.specs.Start.{barred_pool}
use Rattle.pool.specs.declared.Pool.{Pool}
use Rattle.targets.specs.ByteCases.{EvenOrFlag, SameAsEarlier, FixedOnTaken}
use Rattle.targets.specs.Cases.{LengthIsBad, NoneOf}
use Rattle.targets.specs.Records.{targets_of}
use Rattle.rule.specs.Acted.{Names}
use Rattle.rule.specs.Bus.{World, pass}
use Rattle.bindings.specs.declared.answer.ModelAnswer.{ModelAnswer}
use Rattle.bus.specs.Run.{Leaves, model_end}
use Rattle.module.specs.declared.state.Heard.{Heard}
use Rattle.module.specs.declared.state.Module.{Module}
use Rattle.module.specs.Obeys.{heard_all}
use Rattle.module.specs.Packets.{Resets}
use Rattle.module.proofs.PacketsLaws.{acked_exactly, obeys_prepare, obeys_reset, obeys_directed, obeys_assign, obeys_no_other}
use Rattle.module.proofs.PecDueLaws.{due_acked, differing_pec}
use Rattle.module.proofs.MiddleLaws.{nothing_moved, replying, start_twice}
use Rattle.module.proofs.NackLaws.{nack_refuses}
use Rattle.module.specs.Receive.{starts}
use Rattle.module.specs.Reset.{reset}
use Rattle.module.proofs.ResetLaws.{resets, powers_on, powered_silent}
use Rattle.module.specs.ResumeLaws.{resume_0, resume_10, resume_12, as_recorded}
use Rattle.module.proofs.StartLaws.{new_packet, read_any, read_over, mute_else, sending, says_general, says_directed, replied_general, replied_directed}
use Rattle.module.specs.State.{silent_in}
use Rattle.module.specs.Supply.{supplies}
use Rattle.module.proofs.SupplyLaws.{silent_nack, supplied_own}
use Rattle.exchange.specs.Exchange.{records_of, Fitting}
use Rattle.exchange.specs.ExchangeLaws.{exchange_same}
use Rattle.exchange.specs.Pass.{pass_on}
use Rattle.exchange.specs.PassLaws.{equal_states, equal_gets, pass_same}
use Rattle.exchange.specs.WinLaws.{never_two}
use Rattle.promises.specs.Demands.{Listens, Modules, ModuleBus}
use Rattle.promises.specs.DemandsLaws.{demand_3}

-- ---- one module

silent_mute : (m : Module) → is_some (supplies (silent_in m.own)).byte ≡ false
unfolding supplies
silent_mute m = refl

listens : (m : Module) (fits : Fits m.own.udid) (four : m.own.fresh < 2 ^ 32) → Listens m fits four
listens m fits four = record {
  prepare = obeys_prepare m;
  reset = λ rest. reset_as (heard_all (starts m) _) (obeys_reset m rest);
  directed_reset_lem = λ rest h. reset_as (heard_all (starts m) _) (obeys_directed m rest h);
  assign = obeys_assign m;
  no_other = obeys_no_other m;
  supplying = supplied_own m;
  acks = acked_exactly m.own;
  nack = λ b e. ap (λ (h : Heard). h.after) (nack_refuses m b e);
  wrong_pec = λ xs b d n. (due_acked m xs d, (differing_pec m xs b d n).0, (differing_pec m xs b d n).1);
  anew = new_packet m;
  read = read_any m;
  after_read_lem = λ b. ap (λ (h : Heard). h.ack) (read_over m b);
  general = λ e n. (says_general m n e, replied_general m n e);
  directed = λ h n. (says_directed m n h, replied_directed m n h);
  nothing_else = mute_else m;
  released = nothing_moved m;
  replying = replying m;
  twice = start_twice m;
  told = (refl, refl);
  silent = λ b. (ap (λ (h : Heard). h.ack) (silent_nack m.own b), ap (λ (h : Heard). h.after) (silent_nack m.own b), silent_mute m);
}
  where
    reset_as : (x : Module) → x.own ≡ reset m.own → Resets m.own x.own
    reset_as x e = subst (Resets m.own) (sym e) (resets m.own fits four)

pub modules : Modules
modules = record {
  listens = listens;
  power_on = λ u a f w g. (powered_silent u a f, powers_on u a f w g);
  refresh = λ m f. (refl, refl, refl, refl, refl);
  resume_0 = λ u b g f w. resume_0 u b g f w;
  resume_10 = λ u b g f w. resume_10 u b g f w;
  resume_12 = λ u b g f w. resume_12 u b g f w;
  recorded = as_recorded;
}

-- ---- the bus of modules

names : (k : Handed) → ((u : Udid) (a : Address) → k ≡ Send (Assign u a) → Fits u) → Names k
names (Send (Assign u a)) h = h u a refl
names (Send Prepare) h = tt
names (Send GetUdid) h = tt
names (Wait e) h = tt

as_model_run : (occupied : Pool) (last : ℕ) (s b : List ℕ) (bytes : Bytes s) (r : ModelAnswer) (s' b' : List ℕ) → Leaves (model_end occupied last s b) r s' b' → last < 128 → 2048 ≤ length b
    → (LengthIsBad s → ⊥) → NoneOf (EvenOrFlag s) (length s / 18) → NoneOf (SameAsEarlier s) (length s / 18) → NoneOf (FixedOnTaken (barred_pool occupied) s) (length s / 18)
    → (ms : List Module) → Each Fitting ms → records_of ms ≡ targets_of s
    → ((pass_on occupied last ms).now ≡ (pass occupied last (targets_of s)).now) × (records_of (pass_on occupied last ms).targets ≡ targets_of s')
as_model_run occupied last s b bytes r s' b' l small long n m k f ms h e =
    let p = pass_same occupied last ms h ∙ ap (pass occupied last) e in
    let q = ((demand_3 occupied last s b bytes r s' b' l).meets small long n m k f).of_pass.0 in
    (ap (λ (w : World). w.now) p, ap (λ (w : World). w.targets) p ∙ sym q)

pub module_bus : ModuleBus
module_bus = record {
  trace = λ k ms n h. (exchange_same k ms (names k n) h).0;
  effects = λ k ms n h. (exchange_same k ms (names k n) h).1;
  states = equal_states;
  gets = equal_gets;
  rule = as_model_run;
  never_two = λ ms h m n i j p q. never_two ms h m n i j (sending m p) (sending n q);
}
