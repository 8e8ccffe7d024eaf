-- The reply of a target to Get UDID, as bytes and as bits, and what stands on the wire when the unresolved targets answer together.
use Rattle.std.specs.Prelude.{ℕ, Bool, List, [], ◌∷◌, ◌++◌}
use Rattle.lists.specs.Choice.{pick}
use Rattle.pec.specs.Pec.{pec_of}
use Rattle.trace.specs.Trace.{Message}
use Rattle.udid.specs.Bytes.{udid_bytes}
use Rattle.arbitration.specs.Bits.{byte_bits, bytes_read}
use Rattle.arbitration.specs.Wire.{heard}
use Rattle.targets.specs.Target.{Target, is_resolved}

-- the 17 bytes of data: the identifier and the device address byte
unfoldable pub reply_data : Target → List ℕ
reply_data t = udid_bytes t.udid ++ t.address_byte ∷ []

-- every byte of the transaction before PEC: 61h for writing, the command, 61h for reading, the count, the data
unfoldable pub covered_bytes : Target → List ℕ
covered_bytes t = 0xC2 ∷ 0x03 ∷ 0xC3 ∷ 17 ∷ reply_data t

unfoldable pub reply_pec : Target → ℕ
reply_pec t = pec_of (covered_bytes t)

-- the 19 bytes that the target sends: the count, the data, PEC
unfoldable pub reply_bytes : Target → List ℕ
reply_bytes t = 17 ∷ (reply_data t ++ reply_pec t ∷ [])

-- their 152 bits
unfoldable pub sends : Target → List Bool
sends t = byte_bits (reply_bytes t)

-- what the unresolved ones send
abbrev pub waiting : List Target → List (List Bool)
waiting [] = []
waiting (t ∷ ts) = pick (is_resolved t) (waiting ts) (sends t ∷ waiting ts)

-- nobody answers, so that the read address gets NACK; or these bytes stand on the wire
pub data OnWire : Type 0 where
  silence : OnWire
  shown : List ℕ → OnWire

abbrev pub on_wire : List (List Bool) → OnWire
on_wire [] = silence
on_wire (s ∷ ss) = shown (bytes_read 19 (heard 152 (s ∷ ss)))

-- Get UDID with these 17 bytes of data received
abbrev pub got_udid : List ℕ → Message
got_udid received = record { address = 0x61; direction = 0; command = 0x03; sent = []; received = received }
