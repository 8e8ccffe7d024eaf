-- When hb_put_command answers 1, in literals, and that it then writes nothing.
use Rattle.std.specs.Prelude.{ℕ, ◌/◌, ◌<◌, ◌≡◌, refl, Bool, false, List, ◌↔◌, eqb, length}
use Rattle.std.proofs.Common.{sym, ◌∙◌, arith, eqb-true}
use Rattle.std.proofs.Math.Path.{ap}
use Rattle.std.proofs.Math.Bool.{true}
use Rattle.std.proofs.lemmas.Bool.{eqb-false}
use Rattle.lists.specs.Choice.{pick}
use Rattle.lists.specs.Onto.{onto}
use Rattle.trace.specs.Shapes.{shape_of}
use Rattle.trace.specs.Trace.{trace}
use Rattle.wire.specs.declared.address.Address.{Address}
use Rattle.encode.specs.Encode.{encoded, symbols_of}
use Rattle.encode.specs.EncodeLaws.{forbidden_exactly}
use Rattle.encode.specs.Encode.{Encoded}
use Rattle.std.specs.Prelude.{Err}
use Rattle.encode.specs.declared.EncodeError.TheVariants.{Forbidden}
use Rattle.udid.specs.declared.Udid.{Udid}
use Rattle.commands.specs.SendingLaws.{listed_exactly}
use Rattle.commands.specs.Sending.{Unsendable}
use Rattle.commands.specs.Requests.{protocol_for, message_of}
use Rattle.commands.specs.declared.command.Command.TheVariants.{Prepare, GetUdid, Assign}
use Rattle.commands.specs.declared.command.End.TheVariants.{Nothing}
use Rattle.commands.specs.declared.command.Handed.TheVariants.{Send, Wait}
use Rattle.c_codec.specs.Codec.{told, WrotePairs}
use Rattle.c_codec.specs.WrittenLaws.{is_forbidden}
use Rattle.c_arp.specs.Commands.{command_of}
use Rattle.pairs.specs.Pairs.{pairs_of}
use Rattle.c_codec.specs.declared.codec.HbWritten.{HbWritten}
use Rattle.c_arp.specs.PutCommand.{Unsent, no_command_lem, long_reply, no_address}

unsent_exactly : (kind : ℕ) (u : Udid) (a : Address) (reply : List ℕ) → Unsendable (command_of kind u a) reply ↔ Unsent kind a.0 reply
unsent_exactly kind u a reply = go (eqb kind 0) refl (eqb kind 1) refl (eqb kind 2) refl
  where
    go : (b : Bool) → eqb kind 0 ≡ b → (c : Bool) → eqb kind 1 ≡ c → (d : Bool) → eqb kind 2 ≡ d
        → Unsendable (pick b (Send Prepare) (pick c (Send GetUdid) (pick d (Send (Assign u a)) (Wait Nothing)))) reply ↔ Unsent kind a.0 reply
    go true e c f d g = (λ h. absurd h, never)
      where
        never : Unsent kind a.0 reply → ⊥
        never (no_command_lem h) = omega (arith, eqb-true kind 0 e)
        never (long_reply q h) = omega (arith, eqb-true kind 0 e)
        never (no_address q h) = omega (arith, eqb-true kind 0 e)
    go false e true f d g = (λ h. long_reply (eqb-true kind 1 f) h, only)
      where
        only : Unsent kind a.0 reply → 255 < length reply
        only (no_command_lem h) = absurd (omega (arith, eqb-true kind 1 f))
        only (long_reply q h) = h
        only (no_address q h) = absurd (omega (arith, eqb-true kind 1 f))
    go false e false f true g = (λ h. no_address (eqb-true kind 2 g) h, only)
      where
        only : Unsent kind a.0 reply → 127 < a.0
        only (no_command_lem h) = absurd (omega (arith, eqb-true kind 2 g))
        only (long_reply q h) = absurd (omega (arith, eqb-true kind 2 g))
        only (no_address q h) = h
    go false e false f false g = (λ h. no_command_lem (above (eqb-false kind 0 e) (eqb-false kind 1 f) (eqb-false kind 2 g)), λ h. tt)
      where
        above : (kind ≡ 0 → ⊥) → (kind ≡ 1 → ⊥) → (kind ≡ 2 → ⊥) → 2 < kind
        above p q r = omega arith

module _ (kind : ℕ) (u : Udid) (a : Address) (reply before : List ℕ) (h : HbWritten) (after : List ℕ)
    (w : WrotePairs (protocol_for (command_of kind u a)) true (message_of (command_of kind u a) reply) before h after) where
  abbrev answered : Encoded
  answered = encoded (protocol_for (command_of kind u a)) true (message_of (command_of kind u a) reply) (length before / 2)

  forbidden : h.answer ≡ 1 → answered ≡ Err Forbidden
  forbidden e = is_forbidden answered (ap (λ (x : HbWritten). x.answer) (sym w.answer) ∙ e)

  -- HB_PUT_COMMAND ANSWERS 1 EXACTLY for a kind above 2, a reply of more than 255 bytes and an Assign of a number above 127
  pub one_exactly : (h.answer ≡ 1) ↔ Unsent kind a.0 reply
  one_exactly =
      let f = forbidden_exactly (protocol_for (command_of kind u a)) true (message_of (command_of kind u a) reply) (length before / 2) in
      let l = listed_exactly (command_of kind u a) reply in
      let k = unsent_exactly kind u a reply in (
        λ e. k.0 (l.0 (f.0 (forbidden e))),
        λ n. ap (λ (x : HbWritten). x.answer) w.answer ∙ ap (λ (r : Encoded). (told r).answer) (f.1 (l.1 (k.1 n))),
      )

  -- the other part of the answer is then 0, and the output is as it was
  pub one_untouched : h.answer ≡ 1 → (h.symbols ≡ 0) × (after ≡ before)
  unfolding pairs_of
  one_untouched e = (
    ap (λ (x : HbWritten). x.symbols) w.answer ∙ ap (λ (r : Encoded). (told r).symbols) (forbidden e),
    w.output ∙ ap (λ (r : Encoded). onto (pairs_of (symbols_of r (trace (shape_of (protocol_for (command_of kind u a))) true (message_of (command_of kind u a) reply)))) before) (forbidden e),
  )
