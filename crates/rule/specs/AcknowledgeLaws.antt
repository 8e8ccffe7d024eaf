-- The symbols that the controller sends for each command, written out: 256 S, 258 A, and 194 and 195 the address bytes of 61h.
use Rattle.std.specs.Prelude.{ℕ, suc, ◌*◌, ◌%◌, ◌≡◌, refl, List, [], ◌∷◌, ◌++◌, length, take, drop}
use Rattle.std.proofs.Common.{sym, ap, ◌∙◌, subst, append_assoc, arith, length-append, take_at}
use Rattle.pec.specs.Pec.{bit_step, pec_step, pec_from, pec_of}
use Rattle.wire.specs.Symbols.{STOP}
use Rattle.wire.specs.declared.address.Address.{Address}
use Rattle.trace.specs.Shapes.{shape_of}
use Rattle.trace.specs.Trace.{acked, by_target}
use Rattle.trace.specs.Trace as trace
use Rattle.udid.specs.Bytes.{udid_bytes}
use Rattle.udid.specs.declared.Udid.{Udid}
use Rattle.targets.specs.Target.{Target}
use Rattle.commands.specs.Codes.{block_write}
use Rattle.commands.specs.Requests.{message_of, trace_of}
use Rattle.commands.specs.RequestLaws.{assign_symbols}
use Rattle.commands.specs.RequestLaws.{assign_has_44_symbols}
use Rattle.commands.specs.declared.command.Command.TheVariants.{Prepare, GetUdid, Assign}
use Rattle.commands.specs.declared.command.Handed.{Handed}
use Rattle.commands.specs.declared.command.Handed.TheVariants.{Send}
use Rattle.rule.specs.Acknowledge.{answered, standing, sent_part, on_bus}

-- Prepare To ARP: S C2 A 01 A PEC A
pub prepare_sends : sent_part (Send Prepare) ≡ 256 ∷ 194 ∷ 258 ∷ 1 ∷ 258 ∷ 192 ∷ 258 ∷ []
unfolding pec_from pec_step bit_step
prepare_sends = refl

-- Get UDID: S C2 A 03 A S C3 A
pub get_sends : sent_part (Send GetUdid) ≡ 256 ∷ 194 ∷ 258 ∷ 3 ∷ 258 ∷ 256 ∷ 195 ∷ 258 ∷ []
get_sends = refl

-- all of an Assign's trace is sent but the STOP
but_stop : (tr front : List ℕ) (n : ℕ) → tr ≡ front ++ STOP ∷ [] → length tr ≡ suc n → take n tr ≡ front
but_stop tr front n e h = ap (take n) e ∙ take_at front (STOP ∷ []) n (omega (arith, ap length e, length-append front (STOP ∷ []), h))

-- Assign Address: S C2 A 04 A 11 A, each byte of the identifier with A, twice the address A, PEC A
pub assign_sends : (u : Udid) (a : Address) → sent_part (Send (Assign u a))
    ≡ 256 ∷ 194 ∷ 258 ∷ 4 ∷ 258 ∷ 17 ∷ 258 ∷ (acked (udid_bytes u) ++ 2 * (a.0 % 128) ∷ 258 ∷ pec_of (194 ∷ 4 ∷ 17 ∷ (udid_bytes u ++ 2 * (a.0 % 128) ∷ [])) ∷ 258 ∷ [])
assign_sends u a =
    but_stop (trace_of (Send (Assign u a)) []) _ 43
    (assign_symbols u a
    ∙ ap (λ (l : List ℕ). 256 ∷ 194 ∷ 258 ∷ 4 ∷ 258 ∷ 17 ∷ 258 ∷ l)
    (sym (append_assoc (acked (udid_bytes u)) (2 * (a.0 % 128) ∷ 258 ∷ pec_of (194 ∷ 4 ∷ 17 ∷ (udid_bytes u ++ 2 * (a.0 % 128) ∷ [])) ∷ 258 ∷ []) (STOP ∷ []))))
    (assign_has_44_symbols u a)

-- in the encoder's terms: the part of the trace whose ACKs are the target's, with the PEC
pub assign_by_target : (u : Udid) (a : Address) → sent_part (Send (Assign u a)) ≡ by_target (shape_of block_write) (message_of (Send (Assign u a)) []) (trace.pec_of (shape_of block_write) (message_of (Send (Assign u a)) []) ∷ [])
assign_by_target u a = but_stop (trace_of (Send (Assign u a)) []) _ 43 refl (assign_has_44_symbols u a)

pub assign_stop : (u : Udid) (a : Address) → sent_part (Send (Assign u a)) ++ STOP ∷ [] ≡ trace_of (Send (Assign u a)) []
assign_stop u a = ap (λ (l : List ℕ). l ++ STOP ∷ []) (assign_by_target u a)

-- ---- what stands on the bus: nothing where nothing is sent, and a START first where something is

pub nothing_on_bus : (k : Handed) (ts : List Target) → sent_part k ≡ [] → on_bus k ts ≡ []
unfolding on_bus standing
nothing_on_bus k ts e = ap (λ (l : List ℕ). standing l ts) e

pub start_on_bus : (k : Handed) (ts : List Target) → sent_part k ≡ 256 ∷ drop 1 (sent_part k) → on_bus k ts ≡ 256 ∷ drop 1 (on_bus k ts)
unfolding on_bus standing answered
start_on_bus k ts e = subst (λ (l : List ℕ). standing l ts ≡ 256 ∷ drop 1 (standing l ts)) (sym e) refl
