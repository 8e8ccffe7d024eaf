-- What a received trace says: the decoder's answer for the command's protocol, with PEC, and whether it is the command that was sent.
use Rattle.std.specs.Prelude.{ℕ, ◌*◌, ◌%◌, Bool, true, false, List, ltb, eqb, get_or, Ok, Err}
use Rattle.lists.specs.Choice.{and}
use Rattle.wire.specs.Addresses.{default_address}
use Rattle.trace.specs.Shapes.{shape_of}
use Rattle.trace.specs.declared.transaction.Transaction.{Transaction}
use Rattle.scan.specs.Handed.{sent_data, received_data}
use Rattle.scan.specs.Numbers.{is_nack}
use Rattle.scan.specs.Run.{decoded_by}
use Rattle.scan.specs.Decoded.{Decoded}
use Rattle.udid.specs.Bytes.{udid_at}
use Rattle.udid.specs.Udids.{same_udid}
use Rattle.udid.specs.declared.Udid.{Udid}
use Rattle.commands.specs.Codes.{prepare_code, get_code, assign_code}

-- the decoder's answer, and the data that it hands over
abbrev pub answer : ℕ → List ℕ → Decoded
answer protocol tr = decoded_by protocol (shape_of protocol) true tr

abbrev pub sent_in : ℕ → List ℕ → List ℕ
sent_in protocol tr = sent_data (shape_of protocol) tr (answer protocol tr)

abbrev pub received_in : ℕ → List ℕ → List ℕ
received_in protocol tr = received_data true tr (answer protocol tr)

-- a command with this code, to the default address
abbrev pub is_command : ℕ → Transaction → Bool
is_command code t = and (eqb t.address.0 default_address) (eqb t.command code)

-- Prepare To ARP: the byte 01h to the default address
abbrev pub is_prepare : Transaction → List ℕ → Bool
is_prepare t sent = and (eqb t.address.0 default_address) (eqb (get_or sent 0 0) prepare_code)

-- Get UDID: command 03h
abbrev pub is_get : Transaction → Bool
is_get t = is_command get_code t

-- the identifier, and the address byte with bit 0 zero
abbrev pub names : Udid → ℕ → List ℕ → Bool
names u a sent = and (same_udid (udid_at sent 0) u) (eqb (get_or sent 16 0) (2 * (a % 128)))

-- Assign Address of a to u: command 04h with 17 bytes
abbrev pub is_assign : Udid → ℕ → Transaction → List ℕ → Bool
is_assign u a t sent = and (is_command assign_code t) (and (eqb t.sent 17) (names u a sent))

-- an Assign of a to u is complete: answer 0, and the trace is that Assign
abbrev pub completes : Udid → ℕ → Decoded → List ℕ → Bool
completes u a (Ok t) sent = is_assign u a t sent
completes u a (Err e) sent = false

-- answer 6 at byte 0, 1 or 2
abbrev pub nobody : Decoded → Bool
nobody (Ok t) = false
nobody (Err e) = and (is_nack e.why) (ltb e.place 3)
