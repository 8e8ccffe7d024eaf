-- What the writers of commands cite.
use Prim.Native.Nat.{ℕ, ◌+◌, ◌≤◌, ◌<◌}
use mathlib.Core.Path.{◌≡◌, refl, sym, ap, ◌∙◌, subst}
use mathlib.Core.Bool.{Bool, true}
use mathlib.Core.List.{List, [], ◌∷◌, ◌++◌}
use native.Mathlib.Omega.{arith}
use lib.ListN.{length, drop, set, replicate}
use lib.Seq.{set_at}
use borrow.Author.Tests.{lt-ltb, le-ltb}
use Rattle.lists.specs.Choice.{pick}
use Rattle.encode.specs.Encode.{message, refused_by, encoded_by, Wrote}
use Rattle.encode.specs.Encode.{Encoded}
use Rattle.std.specs.Prelude.{Err}
use Rattle.encode.specs.declared.EncodeError.TheVariants.{Forbidden}
use Rattle.udid.specs.Bytes.{udid_bytes, put_at}
use Rattle.udid.proofs.UdidLaws.{length_udid}
use Rattle.udid.proofs.WindowLaws.{put_fits}
use Rattle.udid.specs.declared.Udid.{Udid}
use Rattle.wire.specs.Addresses.{default_address}
use Rattle.wire.specs.declared.address.Address.{Address}
use Rattle.commands.specs.Codes.{block_write}
use Rattle.commands.specs.Requests.{assign_data, protocol_for, message_of}
use Rattle.commands.specs.declared.command.Command.TheVariants.{Assign}
use Rattle.commands.specs.declared.command.End.{End}
use Rattle.commands.specs.declared.command.Handed.{Handed}
use Rattle.commands.specs.declared.command.Handed.TheVariants.{Send, Wait}

-- the identifier's bytes at the front of 17, and a byte behind them
pub udid_and_byte_written : (u : Udid) (l : List ℕ) (w : ℕ) → l ≡ put_at (replicate 17 0) 0 (udid_bytes u) → set l 16 w ≡ udid_bytes u ++ (w ∷ [])
udid_and_byte_written u l w e =
    let k : length (udid_bytes u) ≡ 16 = length_udid u in
    let f : put_at (replicate 17 0) 0 (udid_bytes u) ≡ udid_bytes u ++ (0 ∷ [])
    = put_fits (replicate 17 0) (udid_bytes u) 0 (omega arith) ∙ ap (λ (n : ℕ). udid_bytes u ++ drop (0 + n) (replicate 17 0)) k in
    ap (λ (x : List ℕ). set x 16 w) (e ∙ f) ∙ set_at (udid_bytes u) 0 [] w 16 k

-- an Assign of a 7-bit address, with its 17 bytes as data, is a Block Write
pub assign_data_written : (u : Udid) (a : Address) (x before : List ℕ) (r : Encoded) (after : List ℕ) → a.0 ≤ 127 → x ≡ assign_data u a.0
    → Wrote 8 true (message default_address 0 4 x []) before r after → Wrote (protocol_for (Send (Assign u a))) true (message_of (Send (Assign u a)) []) before r after
assign_data_written u a x before r after h e w =
    subst (λ (b : Bool). Wrote (pick b 255 block_write) true (message_of (Send (Assign u a)) []) before r after) (sym (le-ltb 127 a.0 h))
    (subst (λ (z : List ℕ). Wrote 8 true (message default_address 0 4 z []) before r after) e w)

-- what was written for a command is written for the same command
pub wrote_same_command : (k j : Handed) (reply before : List ℕ) (r : Encoded) (after : List ℕ) → k ≡ j
    → Wrote (protocol_for j) true (message_of j reply) before r after → Wrote (protocol_for k) true (message_of k reply) before r after
wrote_same_command k j reply before r after e = subst (λ (x : Handed). Wrote (protocol_for x) true (message_of x reply) before r after) (sym e)

-- 255 is refused, and nothing is written
nothing_written : (k : Handed) (reply before : List ℕ) → protocol_for k ≡ 255 → Wrote (protocol_for k) true (message_of k reply) before (Err Forbidden) before
unfolding encoded_by refused_by
nothing_written k reply before e = record { answer = rw e; output = refl }

-- an Assign of a number above 127 is refused
pub no_address_refused : (u : Udid) (a : Address) (before : List ℕ) → 127 < a.0 → Wrote (protocol_for (Send (Assign u a))) true (message_of (Send (Assign u a)) []) before (Err Forbidden) before
no_address_refused u a before h = nothing_written (Send (Assign u a)) [] before (ap (λ (b : Bool). pick b 255 block_write) (lt-ltb 127 a.0 h))

-- an end is refused
pub end_refused : (k : Handed) (e : End) (reply before : List ℕ) → k ≡ Wait e → Wrote (protocol_for k) true (message_of k reply) before (Err Forbidden) before
end_refused k e reply before q = nothing_written k reply before (ap protocol_for q)
