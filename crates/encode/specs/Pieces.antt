-- What each writer of the encoder writes. A count and an address are cut to a byte, so that this is defined for any numbers;
-- for a valid message nothing is cut, and the pieces together are its trace (proofs/WholeLaws.antt).
use Rattle.std.specs.Prelude.{Bool, List, [], ◌∷◌, ◌++◌, ℕ, ◌%◌, ◌≤◌, eqb, length}
use Rattle.lists.specs.Choice.{pick, and}
use Rattle.wire.specs.Symbols.{START, STOP, ACK}
use Rattle.pec.specs.Pec.{pec_from, pec_of}
use Rattle.trace.specs.declared.shape.Part.{Part}
use Rattle.trace.specs.declared.shape.Shape.{Shape}
use Rattle.trace.specs.Shapes.{is_counted, writes, reads}
use Rattle.trace.specs.Sane.{Sane}
use Rattle.trace.specs.Allowed.{address_fits, direction_fits, command_fits}
use Rattle.trace.specs.Trace.{Message, W, R, acked, nacked, in_place, trace, Valid}

-- the tests of refusal 1 but those on the protocol and the lengths, which the code makes first
abbrev pub fields_fit : Shape → ℕ → ℕ → ℕ → Bool
fields_fit sh address direction command = and (address_fits sh address) (and (direction_fits sh direction) (command_fits sh command))

abbrev pub count_byte : List ℕ → ℕ
count_byte s = length s % 256

-- a part's count, where it is counted, and its data
abbrev pub part_bytes : Part → List ℕ → List ℕ
part_bytes a s = in_place (is_counted a) (count_byte s) ++ s

-- the first address byte
abbrev pub first_of : Shape → ℕ → ℕ → ℕ
first_of sh a d = pick (writes sh) (W (a % 128)) (pick (reads sh) (R (a % 128)) (pick (eqb d 0) (W (a % 128)) (R (a % 128))))

-- the bytes of the write phase, f the first address byte and c the command, and the symbols that they are
abbrev pub write_bytes : Shape → ℕ → ℕ → List ℕ → List ℕ
write_bytes sh f c s = f ∷ (in_place sh.command c ++ part_bytes sh.sent s)

abbrev pub write_phase : Shape → ℕ → ℕ → List ℕ → List ℕ
write_phase sh f c s = START ∷ acked (write_bytes sh f c s)

-- the repeated START after a write phase, g the address byte for a read
abbrev pub repeated_start : Bool → ℕ → List ℕ
repeated_start w g = pick w (START ∷ g ∷ ACK ∷ []) []

-- the bytes read, y the byte in PEC's place, and the symbols to the end of the trace
abbrev pub read_bytes : Part → List ℕ → Bool → ℕ → List ℕ
read_bytes a r p y = part_bytes a r ++ in_place p y

abbrev pub read_phase : List ℕ → List ℕ
read_phase zs = nacked zs ++ STOP ∷ []

-- the end of a trace without a read phase
abbrev pub ending : Bool → ℕ → List ℕ
ending p y = acked (in_place p y) ++ STOP ∷ []

-- all that follows the write phase
abbrev pub rest : Shape → ℕ → List ℕ → Bool → ℕ → List ℕ
rest sh g r p y = pick (reads sh) (repeated_start (writes sh) g ++ read_phase (read_bytes sh.received r p y)) (ending p y)

-- the bytes after the write phase that the PEC goes over, and the PEC of the whole
abbrev pub bytes_after : Shape → ℕ → List ℕ → List ℕ
bytes_after sh g r = pick (reads sh) (in_place (writes sh) g ++ part_bytes sh.received r) []

abbrev pub pec_of_phases : Shape → ℕ → ℕ → ℕ → List ℕ → List ℕ → ℕ
pec_of_phases sh f g c s r = pec_from (pec_of (write_bytes sh f c s)) (bytes_after sh g r)

-- what the writer of a whole trace asks for: a shape with limits that a byte holds, a valid message, and room
pub record Ready (sh : Shape) (p : Bool) (t : Message) (room : ℕ) : Type 0 where
  pub sane : Sane sh
  pub valid : Valid sh t
  pub fits : length (trace sh p t) ≤ room
