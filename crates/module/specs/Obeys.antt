-- What a module obeys, said of the bytes that follow a START: it changes if and only if they begin with a whole Prepare To ARP, Reset Device,
-- general or directed to it, or Assign Address with its identifier, the last byte being the right PEC.
use Rattle.std.specs.Prelude.{ℕ, ◌*◌, ◌/◌, Bool, true, false, List, [], ◌∷◌, ◌++◌, leb, eqb, get_or}
use Rattle.lists.specs.Choice.{pick, and}
use Rattle.pec.specs.Pec.{pec_of}
use Rattle.udid.specs.Bytes.{udid_bytes}
use Rattle.udid.specs.declared.Udid.{Udid}
use Rattle.module.specs.declared.state.Lasting.{Lasting}
use Rattle.module.specs.declared.state.Module.{Module}
use Rattle.module.specs.Reset.{prepared, assigned, reset}
use Rattle.module.specs.Receive.{for_write, receives}

-- the module after bytes received
unfoldable pub heard_all : Module → List ℕ → Module
heard_all m [] = m
heard_all m (b ∷ bs) = heard_all (receives m b).after bs

-- its ACKs to them
unfoldable pub acks : Module → List ℕ → List Bool
acks m [] = []
acks m (b ∷ bs) = (receives m b).ack ∷ acks (receives m b).after bs

-- a list begins with another
unfoldable pub begins : List ℕ → List ℕ → Bool
begins [] bs = true
begins (x ∷ xs) [] = false
begins (x ∷ xs) (b ∷ bs) = and (eqb b x) (begins xs bs)

-- bytes with their PEC
abbrev pub packet : List ℕ → List ℕ
packet xs = xs ++ (pec_of xs ∷ [])

-- the four commands, whole
abbrev pub prepare_order : List ℕ
prepare_order = packet (for_write ∷ 0x01 ∷ [])

abbrev pub reset_order : List ℕ
reset_order = packet (for_write ∷ 0x02 ∷ [])

abbrev pub directed_reset : ℕ → List ℕ
directed_reset a = packet (for_write ∷ 2 * a ∷ [])

abbrev pub assign_order : Udid → ℕ → List ℕ
assign_order u x = packet (for_write ∷ 0x04 ∷ 17 ∷ (udid_bytes u ++ (x ∷ [])))

-- a directed command can reach it: AV is set, and the address is one of 10h to 7Eh
abbrev pub is_reachable : Lasting → Bool
is_reachable o = and o.valid (and (leb 0x10 o.address) (leb o.address 0x7E))

-- byte 19 of Assign Address is the address byte, whose bit 0 is ignored
unfoldable pub obeys : Lasting → List ℕ → Lasting
obeys o bs =
    pick (begins prepare_order bs) (prepared o)
    (pick (begins reset_order bs) (reset o)
    (pick (and (is_reachable o) (begins (directed_reset o.address) bs)) (reset o)
    (pick (begins (assign_order o.udid (get_or bs 19 0)) bs) (assigned o (get_or bs 19 0 / 2)) o)))
