-- Prepare To ARP on the bus of modules.
use Rattle.std.specs.Prelude.{ℕ, ◌≡◌, refl, true, List, [], ◌∷◌}
use Rattle.std.proofs.Common.{ap, ◌∙◌, arith, eq-eqb}
use Rattle.pec.specs.Pec.{bit_step, pec_step, pec_from}
use Rattle.targets.specs.Target.{Target, prepared}
use Rattle.commands.specs.SameTrace.{same}
use Rattle.commands.specs.declared.command.Command.TheVariants.{Prepare}
use Rattle.commands.specs.declared.command.Handed.TheVariants.{Send}
use Rattle.rule.specs.Acknowledge.{begins, acknowledges, standing, on_bus}
use Rattle.rule.specs.Acted.{acted}
use Rattle.module.specs.declared.state.Lasting.{Lasting}
use Rattle.module.specs.declared.state.Module.{Module}
use Rattle.module.specs.declared.state.Phase.TheVariants.{Silent, Command, PreparePec}
use Rattle.module.specs.Receive.{starts, receives}
use Rattle.module.specs.Reset as own
use Rattle.module.specs.State.{at, silent_in, taken}
use Rattle.module.specs.Supply.{address_byte}
use Rattle.exchange.specs.EachLaws.{each_any}
use Rattle.exchange.specs.Exchange.{record_of, records_of, exchange}
use Rattle.exchange.specs.FrontLaws.{first, front_follows}
use Rattle.exchange.specs.WalkLaws.{Follows, abreast, Same, sent_same, follows_ack}

-- 192 is PEC of C2h and 01h
pec_is_lem : pec_step first 0x01 ≡ 192
unfolding pec_step bit_step
pec_is_lem = refl

-- every record acknowledges the two bytes after C2h
second_ack : (t : Target) → acknowledges (256 ∷ 194 ∷ 1 ∷ []) t ≡ true
unfolding acknowledges begins
second_ack t = refl

third_ack : (t : Target) → acknowledges (256 ∷ 194 ∷ 1 ∷ 192 ∷ []) t ≡ true
unfolding acknowledges begins
third_ack t = refl

-- and so does every module
command_step : (o : Lasting) (c : ℕ) → receives (at o Command 0 c 0) 0x01 ≡ taken o PreparePec 0 (pec_step c 0x01) 0
unfolding receives
command_step o c = refl

pec_step_lem : (o : Lasting) (c : ℕ) → receives (at o PreparePec 0 c 0) c ≡ taken (own.prepared o) Silent 0 0 0
unfolding receives
pec_step_lem o c = rw (eq-eqb c c refl)

prepared_record : (o : Lasting) → record_of (silent_in (own.prepared o)) ≡ prepared (record_of (silent_in o))
unfolding address_byte
prepared_record o = refl

follows : (m : Module) → Follows (256 ∷ []) (record_of m) (prepared (record_of m)) (194 ∷ 1 ∷ 192 ∷ []) (starts m)
follows m =
    let o = m.own in
    let t = record_of m in
    front_follows m (prepared t) (1 ∷ 192 ∷ [])
    (follows_ack (256 ∷ 194 ∷ []) t (prepared t) 1 (192 ∷ []) (at o Command 0 first 0) (at o PreparePec 0 192 0)
    (command_step o first ∙ ap (λ (c : ℕ). taken o PreparePec 0 c 0) pec_is_lem) (second_ack t)
    (follows_ack (256 ∷ 194 ∷ 1 ∷ []) t (prepared t) 192 [] (at o PreparePec 0 192 0) (silent_in (own.prepared o)) (pec_step_lem o 192) (third_ack t) (prepared_record o)))

-- PREPARE TO ARP: any modules, in any states
pub prepare_same : (ms : List Module) → Same (exchange (Send Prepare) ms) (on_bus (Send Prepare) (records_of ms)) (acted (Send Prepare) (records_of ms))
unfolding exchange on_bus standing same pec_from pec_step bit_step
prepare_same ms =
    sent_same (194 ∷ 1 ∷ 192 ∷ []) ms (records_of ms) (acted (Send Prepare) (records_of ms)) (omega arith, (omega arith, (omega arith, tt)))
    (abreast (256 ∷ []) (194 ∷ 1 ∷ 192 ∷ []) starts prepared ms (each_any follows ms))
