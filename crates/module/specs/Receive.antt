-- START, STOP and lost; a byte received, phase by phase: 6.6.3.12, steps 7 to 29.
use Rattle.std.specs.Prelude.{ℕ, ◌+◌, ◌/◌, ◌%◌, Bool, false, ltb, leb, eqb, get_or}
use Rattle.lists.specs.Choice.{pick, and}
use Rattle.pec.specs.Pec.{pec_step}
use Rattle.udid.specs.Bytes.{udid_bytes}
use Rattle.module.specs.declared.state.Phase.{Phase}
use Rattle.module.specs.declared.state.Phase.TheVariants.{Silent, First, Command, Asked, Called, AskedAgain, CalledAgain, Count, Identifier, Given, PreparePec, ResetPec, AssignPec, Reply}
use Rattle.module.specs.declared.state.Lasting.{Lasting}
use Rattle.module.specs.declared.state.Module.{Module}
use Rattle.module.specs.declared.state.Heard.{Heard}
use Rattle.module.specs.State.{at, silent_in, taken, refused}
use Rattle.module.specs.Reset.{prepared, assigned, reset}

-- 61h for writing, and for reading
abbrev pub for_write : ℕ
for_write = 0xC2

abbrev pub for_read : ℕ
for_read = 0xC3

-- a START begins a packet; only right after a Get UDID it goes on with one, and PEC with it
abbrev pub started_in : Phase → Lasting → ℕ → Module
started_in Asked o c = at o AskedAgain 0 c 0
started_in Called o c = at o CalledAgain 0 c 0
started_in Silent o c = at o First 0 0 0
started_in First o c = at o First 0 0 0
started_in Command o c = at o First 0 0 0
started_in AskedAgain o c = at o First 0 0 0
started_in CalledAgain o c = at o First 0 0 0
started_in Count o c = at o First 0 0 0
started_in Identifier o c = at o First 0 0 0
started_in Given o c = at o First 0 0 0
started_in PreparePec o c = at o First 0 0 0
started_in ResetPec o c = at o First 0 0 0
started_in AssignPec o c = at o First 0 0 0
started_in Reply o c = at o First 0 0 0

unfoldable pub starts : Module → Module
starts m = started_in m.phase m.own m.pec

-- told that it lost, and STOP: silent
abbrev pub loses : Module → Module
loses m = silent_in m.own

abbrev pub stops : Module → Module
stops m = silent_in m.own

-- ---- a byte b received; c is PEC of the packet with it

-- step 8: the default address
abbrev pub at_first : Lasting → ℕ → Heard
at_first o b = pick (eqb b for_write) (taken o Command 0 (pec_step 0 for_write) 0) (refused o)

-- steps 20, 26 to 29 and Table 10: a directed command to this module's address, which needs AV; FEh and FFh are reserved
unfoldable pub is_own : Lasting → ℕ → Bool
is_own o b = and o.valid (and (leb 0x20 b) (and (leb b 0xFD) (eqb (b / 2) o.address)))

-- an odd one is Get UDID, an even one Reset Device
abbrev pub at_directed : Lasting → ℕ → ℕ → Heard
at_directed o c b = pick (is_own o b) (pick (eqb (b % 2) 1) (taken o Called 0 c 0) (taken o ResetPec 0 c 0)) (refused o)

-- steps 12, 14, 16, 19, 20
abbrev pub at_command : Lasting → ℕ → ℕ → Heard
at_command o c b =
    pick (eqb b 0x01) (taken o PreparePec 0 c 0)
    (pick (eqb b 0x02) (taken o ResetPec 0 c 0)
    (pick (eqb b 0x03) (taken o Asked 0 c 0)
    (pick (eqb b 0x04) (taken o Count 0 c 0) (at_directed o c b))))

-- steps 21 and 29: the read address is acknowledged by a module that has not been resolved; after a directed Get UDID by a resolved one too
abbrev pub at_again : Bool → Lasting → ℕ → ℕ → Heard
at_again quiet o c b = pick (eqb b for_read) (pick quiet (refused o) (taken o Reply 0 c 0)) (at_first o b)

abbrev pub at_count : Lasting → ℕ → ℕ → Heard
at_count o c b = pick (eqb b 17) (taken o Identifier 0 c 0) (refused o)

-- step 17: the very byte that differs gets NACK
abbrev pub at_identifier : Lasting → ℕ → ℕ → ℕ → Heard
at_identifier o k c b =
    pick (eqb b (get_or (udid_bytes o.udid) (k % 16) 0)) (pick (ltb k 15) (taken o Identifier (k + 1) c 0) (taken o Given 0 c 0)) (refused o)

-- a PEC is acknowledged if it is that of the bytes before it, and then the command takes effect
abbrev pub at_pec : Lasting → Lasting → ℕ → ℕ → Heard
at_pec after o pec b = pick (eqb b pec) (taken after Silent 0 0 0) (refused o)

-- bit 0 of the assigned address is ignored
abbrev pub received_in : Phase → Module → ℕ → Heard
received_in Silent m b = refused m.own
received_in First m b = at_first m.own b
received_in Command m b = at_command m.own (pec_step m.pec b) b
received_in Asked m b = refused m.own
received_in Called m b = refused m.own
received_in AskedAgain m b = at_again m.own.resolved m.own (pec_step m.pec b) b
received_in CalledAgain m b = at_again false m.own (pec_step m.pec b) b
received_in Count m b = at_count m.own (pec_step m.pec b) b
received_in Identifier m b = at_identifier m.own m.place (pec_step m.pec b) b
received_in Given m b = taken m.own AssignPec 0 (pec_step m.pec b) (b / 2)
received_in PreparePec m b = at_pec (prepared m.own) m.own m.pec b
received_in ResetPec m b = at_pec (reset m.own) m.own m.pec b
received_in AssignPec m b = at_pec (assigned m.own m.given) m.own m.pec b
received_in Reply m b = refused m.own

unfoldable pub receives : Module → ℕ → Heard
receives m b = received_in m.phase m b
