-- Which bytes the targets acknowledge, by the symbols sent so far alone, and the trace that stands on the bus then. An ACK is a zero: one
-- target gives it.
use Rattle.std.specs.Prelude.{ℕ, Bool, true, false, List, [], ◌∷◌, ◌++◌, eqb, get_or, take}
use Rattle.lists.specs.Choice.{pick, or, and}
use Rattle.pec.specs.Pec.{pec_of}
use Rattle.wire.specs.Symbols.{STOP, ACK, NACK}
use Rattle.trace.specs.Trace.{nacked}
use Rattle.udid.specs.Bytes.{udid_bytes}
use Rattle.targets.specs.Target.{Target, is_resolved}
use Rattle.targets.specs.Reply.{waiting, OnWire, silence, shown, on_wire}
use Rattle.commands.specs.SameTrace.{same}
use Rattle.commands.specs.Requests.{trace_of}
use Rattle.commands.specs.declared.command.Command.TheVariants.{Prepare, GetUdid, Assign}
use Rattle.commands.specs.declared.command.Handed.{Handed}
use Rattle.commands.specs.declared.command.Handed.TheVariants.{Send, Wait}

-- the first list is a beginning of the second
unfoldable pub begins : List ℕ → List ℕ → Bool
begins [] ys = true
begins (x ∷ xs) [] = false
begins (x ∷ xs) (y ∷ ys) = and (eqb x y) (begins xs ys)

-- A TARGET ACKNOWLEDGES A BYTE by what was sent so far, that byte included: START (256) and bytes, without the ACKs between them; 194 and
-- 195 are C2h and C3h. Prepare To ARP: every byte. Get UDID: the address and the command, and the read address where it is not resolved.
-- Assign Address: the address, the command and the count, and then as long as the bytes of the identifier are its own, whatever address
-- byte, and a PEC that is right; whoever missed one acknowledges none after it
abbrev pub preparing_bytes : List ℕ
preparing_bytes = 256 ∷ 194 ∷ 1 ∷ 192 ∷ []

abbrev pub getting_bytes : Bool → List ℕ
getting_bytes resolved = 256 ∷ 194 ∷ 3 ∷ pick resolved [] (256 ∷ 195 ∷ [])

abbrev pub assigning_bytes : List ℕ → ℕ → List ℕ
assigning_bytes id b = 256 ∷ 194 ∷ 4 ∷ 17 ∷ (id ++ b ∷ pec_of (194 ∷ 4 ∷ 17 ∷ (id ++ b ∷ [])) ∷ [])

unfoldable pub acknowledges : List ℕ → Target → Bool
acknowledges sent t =
    or (begins sent preparing_bytes)
    (or (begins sent (getting_bytes (is_resolved t))) (begins sent (assigning_bytes (udid_bytes t.udid) (get_or sent 20 0))))

unfoldable pub somebody : (Target → Bool) → List Target → Bool
somebody f [] = false
somebody f (t ∷ ts) = or (f t) (somebody f ts)

-- the part of a trace whose ACKs the targets give, after what was sent before it: at the first byte that nobody acknowledges NACK and
-- STOP stand; where none is, the rest follows
unfoldable pub answered : (List ℕ → Bool) → List ℕ → List ℕ → List ℕ → List ℕ
answered ack sent [] rest = rest
answered ack sent (x ∷ xs) rest =
    pick (eqb x ACK) (pick (ack sent) (ACK ∷ answered ack sent xs rest) (NACK ∷ STOP ∷ [])) (x ∷ answered ack (sent ++ x ∷ []) xs rest)

-- the bytes that the targets send, each with the controller's ACK, the last with NACK
abbrev pub received : OnWire → List ℕ
received silence = []
received (shown bytes) = nacked bytes

-- Get UDID up to the read address: S C2 A 03 A S C3 A
abbrev pub asking : List ℕ
asking = 256 ∷ 194 ∷ 258 ∷ 3 ∷ 258 ∷ 256 ∷ 195 ∷ 258 ∷ []

-- what follows symbols that the targets acknowledged: after Get UDID what stands on the wire when the unresolved answer together
abbrev pub afterwards : List ℕ → List Target → List ℕ
afterwards sent ts = pick (same sent asking) (received (on_wire (waiting ts))) [] ++ STOP ∷ []

-- what stands on the bus when these symbols are sent to these targets; where nothing is sent, nothing
unfoldable pub standing : List ℕ → List Target → List ℕ
standing [] ts = []
standing (x ∷ xs) ts = answered (λ (sent : List ℕ). somebody (acknowledges sent) ts) [] (x ∷ xs) (afterwards (x ∷ xs) ts)

-- the symbols that the controller sends, with an ACK behind each byte: the beginning of the trace that put_command writes, up to the
-- STOP, or of Get UDID up to the reply. An end is no command: nothing is sent
abbrev pub sent_part : Handed → List ℕ
sent_part (Send Prepare) = take 7 (trace_of (Send Prepare) [])
sent_part (Send GetUdid) = take 8 (trace_of (Send GetUdid) [])
sent_part (Send (Assign u a)) = take 43 (trace_of (Send (Assign u a)) [])
sent_part (Wait e) = []

-- THE TRACE ON THE BUS of a command: what the targets make of its symbols
unfoldable pub on_bus : Handed → List Target → List ℕ
on_bus k ts = standing (sent_part k) ts
