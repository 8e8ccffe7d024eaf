-- What a received trace tells of the command that is outstanding. No state of the controller is cited here.
use Rattle.std.specs.Prelude.{ℕ, Bool, true, false, List, eqb, get_or, Ok, Err}
use Rattle.lists.specs.Choice.{pick}
use Rattle.wire.specs.declared.address.Address.{Address}
use Rattle.trace.specs.declared.transaction.Transaction.{Transaction}
use Rattle.scan.specs.Numbers.{is_nack}
use Rattle.scan.specs.Decoded.{Decoded}
use Rattle.udid.specs.Bytes.{udid_at}
use Rattle.udid.specs.declared.Udid.{Udid}
use Rattle.hearing.specs.Heard.{answer, sent_in, received_in, is_prepare, is_get, is_assign, nobody}
use Rattle.commands.specs.Codes.{send_byte, block_read, block_write}
use Rattle.commands.specs.declared.command.Command.{Command}
use Rattle.commands.specs.declared.command.Command.TheVariants.{Prepare, GetUdid, Assign}
use Rattle.commands.specs.declared.command.Handed.{Handed}
use Rattle.commands.specs.declared.command.Handed.TheVariants.{Send, Wait}
use Rattle.hearing.specs.declared.told.Told.{Told}
use Rattle.hearing.specs.declared.told.Told.TheVariants.{Again, Over, GivenUp, Reply, Took, Unasked}

-- Prepare accepted: send Get UDID. Answer 6: the pass ends, nobody there. Any other: 14
abbrev pub told_prepare : Decoded → List ℕ → Told
told_prepare (Ok t) sent = pick (is_prepare t sent) Again GivenUp
told_prepare (Err e) sent = pick (is_nack e.why) Over GivenUp

-- a complete trace where the reply is due: another address or command: Get UDID again. A count that is not 17: the pass ends
abbrev pub told_reply : Transaction → List ℕ → Told
told_reply t received = pick (is_get t) (pick (eqb t.received 17) (Reply (udid_at received 0) (get_or received 16 0)) Over) Again

-- Get UDID: answer 6 at byte 0, 1 or 2: the pass ends. A complete reply: told_reply. Any other refusal: Get UDID again
abbrev pub told_get : Decoded → List ℕ → Told
told_get (Ok t) received = told_reply t received
told_get (Err e) received = pick (nobody (Err e)) Over Again

-- Assign complete: the target took the address. Any other answer: Get UDID again
abbrev pub told_assign : Udid → Address → Decoded → List ℕ → Told
told_assign u a (Ok t) sent = pick (is_assign u a.0 t sent) (Took u a) Again
told_assign u a (Err e) sent = Again

-- the protocol of a command
abbrev pub protocol_of : Command → ℕ
protocol_of Prepare = send_byte
protocol_of GetUdid = block_read
protocol_of (Assign u a) = block_write

-- by the command, the answer, and the data that came with it
abbrev pub told_by : Command → Decoded → List ℕ → List ℕ → Told
told_by Prepare d sent received = told_prepare d sent
told_by GetUdid d sent received = told_get d received
told_by (Assign u a) d sent received = told_assign u a d sent

-- by what was handed out last; where that is an end, no command is outstanding
abbrev pub tells : Handed → List ℕ → Told
tells (Send Prepare) tr = told_prepare (answer send_byte tr) (sent_in send_byte tr)
tells (Send GetUdid) tr = told_get (answer block_read tr) (received_in block_read tr)
tells (Send (Assign u a)) tr = told_assign u a (answer block_write tr) (sent_in block_write tr)
tells (Wait e) tr = Unasked

-- no command of a pass
abbrev pub no_command : Handed → Bool
no_command (Send k) = false
no_command (Wait e) = true
