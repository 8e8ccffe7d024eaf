-- The traces of commands as byte pairs: CodecLaws for the message of a command.
use mathlib.Core.Path.{◌≡◌, subst}
use mathlib.Core.Bool.{Bool, true, false}
use mathlib.Core.List.{List, [], ◌∷◌}
use Prim.Native.Nat.{ℕ, ◌≤◌, ◌<◌}
use native.Mathlib.Omega.{arith}
use lib.ListN.{length, take}
use Rattle.lists.specs.Each.{Bytes}
use Rattle.encode.specs.declared.EncodeError.{EncodeError}
use Rattle.encode.specs.Encode.{Encoded}
use Rattle.std.specs.Prelude.{Ok, Err}
use Rattle.encode.specs.Encode.{Wrote}
use Rattle.commands.specs.RequestLaws.{valid_assign}
use Rattle.commands.specs.Requests.{protocol_for, message_of}
use Rattle.commands.specs.declared.command.Command.TheVariants.{Prepare, GetUdid, Assign}
use Rattle.commands.specs.declared.command.Handed.{Handed}
use Rattle.commands.specs.declared.command.Handed.TheVariants.{Send, Wait}
use Rattle.c_codec.specs.declared.codec.HbWritten.{HbWritten}
use Rattle.pairs.specs.Pairs.{Put}
use Rattle.c_codec.specs.Codec.{answer_of, WrotePairs}
use Rattle.c_codec.proofs.CodecLaws.{refused_pairs, small, short_pairs, done_pairs}

command_byte : (k : Handed) (reply : List ℕ) → (message_of k reply).command < 256
command_byte (Send Prepare) reply = omega arith
command_byte (Send GetUdid) reply = omega arith
command_byte (Send (Assign u a)) reply = omega arith
command_byte (Wait e) reply = omega arith

sent_bytes : (k : Handed) (reply : List ℕ) → Bytes (message_of k reply).sent
sent_bytes (Send Prepare) reply = (omega arith, tt)
sent_bytes (Send GetUdid) reply = tt
sent_bytes (Send (Assign u a)) reply = (valid_assign u a).sent_bytes
sent_bytes (Wait e) reply = tt

received_bytes : (k : Handed) (reply : List ℕ) → Bytes reply → Bytes (message_of k reply).received
received_bytes (Send Prepare) reply b = tt
received_bytes (Send GetUdid) reply b = b
received_bytes (Send (Assign u a)) reply b = tt
received_bytes (Wait e) reply b = tt

abbrev pub WroteCommand : Handed → List ℕ → List ℕ → HbWritten → List ℕ → Type 0
WroteCommand k reply before h after = WrotePairs (protocol_for k) true (message_of k reply) before h after

module _ (k j : Handed) (same : k ≡ j) (reply : List ℕ) (bytes : Bytes reply) (buffer : List ℕ) (long : length buffer ≡ 525) (r : Encoded) (after : List ℕ)
    (w : Wrote (protocol_for k) true (message_of k reply) buffer r after) where
  of_same : (out : List ℕ) (h : HbWritten) (last : List ℕ) → WroteCommand k reply out h last → WroteCommand j reply out h last
  of_same out h last v = subst (λ (x : Handed). WroteCommand x reply out h last) same v

  pub command_refused : (out : List ℕ) (why : EncodeError) → r ≡ Err why → (h : HbWritten) → h ≡ answer_of 1 0 → WroteCommand j reply out h out
  command_refused out why t h e =
      of_same out h out
      (refused_pairs (protocol_for k) true (message_of k reply) (command_byte k reply) (sent_bytes k reply) (received_bytes k reply bytes) buffer long r after w out why t h e)

  pub command_small : (n : ℕ) → r ≡ Ok n → n ≤ 525
  command_small n e =
      small (protocol_for k) true (message_of k reply) (command_byte k reply) (sent_bytes k reply) (received_bytes k reply bytes) buffer long r after w n e

  pub command_short : (out : List ℕ) (n : ℕ) → r ≡ Ok n → (b : Bool) (last : List ℕ) → Put (take n after) out b last → b ≡ false
      → (h : HbWritten) → h ≡ answer_of 2 0 → WroteCommand j reply out h last
  command_short out n e b last p f h g =
      of_same out h last
      (short_pairs (protocol_for k) true (message_of k reply) (command_byte k reply) (sent_bytes k reply) (received_bytes k reply bytes) buffer long r after w out n e b last p f h g)

  pub command_done : (out : List ℕ) (n : ℕ) → r ≡ Ok n → (b : Bool) (last : List ℕ) → Put (take n after) out b last → b ≡ true
      → (h : HbWritten) → h ≡ answer_of 0 n → WroteCommand j reply out h last
  command_done out n e b last p f h g =
      of_same out h last
      (done_pairs (protocol_for k) true (message_of k reply) (command_byte k reply) (sent_bytes k reply) (received_bytes k reply bytes) buffer long r after w out n e b last p f h g)
