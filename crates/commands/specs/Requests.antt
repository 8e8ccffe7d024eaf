-- What each command is on the wire: a transaction with PEC to the default address, and its trace.
use Rattle.std.specs.Prelude.{ℕ, ◌*◌, ◌%◌, true, List, [], ◌∷◌, ◌++◌, ltb}
use Rattle.lists.specs.Choice.{pick}
use Rattle.wire.specs.Addresses.{default_address}
use Rattle.trace.specs.Shapes.{shape_of}
use Rattle.trace.specs.Trace.{Message, trace}
use Rattle.encode.specs.Encode.{message}
use Rattle.udid.specs.Bytes.{udid_bytes}
use Rattle.udid.specs.declared.Udid.{Udid}
use Rattle.commands.specs.Codes.{prepare_code, get_code, assign_code, send_byte, block_read, block_write}
use Rattle.commands.specs.declared.command.Command.TheVariants.{Prepare, GetUdid, Assign}
use Rattle.commands.specs.declared.command.Handed.{Handed}
use Rattle.commands.specs.declared.command.Handed.TheVariants.{Send, Wait}

-- the 17 bytes of Assign Address: the UDID and the address byte, bit 0 zero
abbrev pub assign_data : Udid → ℕ → List ℕ
assign_data u a = udid_bytes u ++ (2 * (a % 128) ∷ [])

-- 255 is no protocol: the encoder refuses it
abbrev pub protocol_of : Handed → ℕ
protocol_of (Send Prepare) = send_byte
protocol_of (Send GetUdid) = block_read
protocol_of (Send (Assign u a)) = block_write
protocol_of (Wait e) = 255

-- the protocol that put_command writes with: for an Assign of a number above 127, which is no address, none either
abbrev pub protocol_for : Handed → ℕ
protocol_for (Send Prepare) = send_byte
protocol_for (Send GetUdid) = block_read
protocol_for (Send (Assign u a)) = pick (ltb 127 a.0) 255 block_write
protocol_for (Wait e) = 255

-- 01h Prepare To ARP; 03h Get UDID, whose reply is what the target sends; 04h Assign Address
abbrev pub message_of : Handed → List ℕ → Message
message_of (Send Prepare) reply = message default_address 0 0 (prepare_code ∷ []) []
message_of (Send GetUdid) reply = message default_address 0 get_code [] reply
message_of (Send (Assign u a)) reply = message default_address 0 assign_code (assign_data u a.0) []
message_of (Wait e) reply = message 0 0 0 [] []

-- the trace of a command that is acknowledged whole
abbrev pub trace_of : Handed → List ℕ → List ℕ
trace_of k reply = trace (shape_of (protocol_of k)) true (message_of k reply)
