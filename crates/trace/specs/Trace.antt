-- What a trace is: a message of a shape, and the symbols that it is on the wire. specs/Rows.antt has each row as the scope writes it.
use Rattle.std.specs.Prelude.{◌≡◌, Bool, List, [], ◌∷◌, ◌++◌, ℕ, ◌+◌, ◌*◌, ◌%◌, ◌≤◌, ◌<◌, length}
use Rattle.lists.specs.Choice.{pick, or}
use Rattle.lists.specs.Each.{Bytes}
use Rattle.wire.specs.Addresses.{host_address}
use Rattle.wire.specs.Symbols.{START, STOP, ACK, NACK}
use Rattle.pec.specs.Pec as Pec
use Rattle.trace.specs.declared.shape.Part.{Part}
use Rattle.trace.specs.declared.shape.Part.TheVariants.{Nothing, Fixed, Counted}
use Rattle.trace.specs.declared.shape.Shape.{Shape}
use Rattle.trace.specs.Shapes.{count_in, writes, reads}

-- a transaction with its data: what a caller gives to the encoder, and gets from the decoder
pub record Message : Type 0 where
  pub address : ℕ
  pub direction : ℕ
  pub command : ℕ
  pub sent : List ℕ
  pub received : List ℕ

-- the address byte for writing and for reading
abbrev pub W : ℕ → ℕ
W a = 2 * a

abbrev pub R : ℕ → ℕ
R a = 2 * a + 1

-- a part's bytes on the wire: its count where it is counted, then the data
abbrev pub laid : Part → List ℕ → List ℕ
laid Nothing ds = ds
laid (Fixed k) ds = ds
laid Counted ds = length ds ∷ ds

-- bytes, each with the target's ACK
abbrev pub acked : List ℕ → List ℕ
acked [] = []
acked (b ∷ bs) = b ∷ ACK ∷ acked bs

-- bytes received, each with the controller's ACK, the last with NACK
abbrev pub ack_of : List ℕ → ℕ
ack_of [] = NACK
ack_of (b ∷ bs) = ACK

abbrev pub nacked : List ℕ → List ℕ
nacked [] = []
nacked (b ∷ bs) = b ∷ ack_of bs ∷ nacked bs

-- the first address byte: for writing where a write phase follows, else for reading where a read phase does, else as a Quick's direction says
abbrev pub first_byte : Shape → Message → ℕ
first_byte sh t = pick (writes sh) (W t.address) (pick (reads sh) (R t.address) (2 * t.address + t.direction))

-- the bytes from the first address byte to the last data byte sent
abbrev pub front : Shape → Message → List ℕ
front sh t = first_byte sh t ∷ pick sh.command (t.command ∷ []) [] ++ laid sh.sent t.sent

-- the trace, with q in PEC's place (one byte or none): first the part whose ACKs are the target's,
-- then the part whose ACKs are the controller's, with the STOP
abbrev pub by_target : Shape → Message → List ℕ → List ℕ
by_target sh t q = START ∷ acked (front sh t) ++ pick (reads sh) (pick (writes sh) (START ∷ (first_byte sh t + 1) ∷ ACK ∷ []) []) (acked q)

abbrev pub by_controller : Shape → Message → List ℕ → List ℕ
by_controller sh t q = pick (reads sh) (nacked (laid sh.received t.received ++ q)) [] ++ STOP ∷ []

abbrev pub trace_at : Shape → Message → List ℕ → List ℕ
trace_at sh t q = by_target sh t q ++ by_controller sh t q

-- every byte of the transaction but PEC, in order
abbrev pub bytes : Shape → Message → List ℕ
bytes sh t = front sh t ++ pick (reads sh) (pick (writes sh) ((first_byte sh t + 1) ∷ []) [] ++ laid sh.received t.received) []

abbrev pub pec_of : Shape → Message → ℕ
pec_of sh t = Pec.pec_of (bytes sh t)

-- the byte in PEC's place: y where PEC is used
abbrev pub in_place : Bool → ℕ → List ℕ
in_place p y = pick p (y ∷ []) []

abbrev pub trace : Shape → Bool → Message → List ℕ
trace sh p t = trace_at sh t (in_place p (pec_of sh t))

-- the length of a part's data belongs to it
abbrev pub LengthOf : ℕ → Part → List ℕ → Type 0
LengthOf least Nothing ds = length ds ≡ 0
LengthOf least (Fixed k) ds = length ds ≡ k
LengthOf least Counted ds = least ≤ length ds

abbrev pub counted : Part → List ℕ → ℕ
counted a ds = count_in a (length ds)

-- what a message of a shape has to be: a field that the protocol lacks is zero
pub record Valid (sh : Shape) (t : Message) : Type 0 where
  pub address : pick sh.tohost (t.address ≡ host_address) (t.address < 128)
  pub direction : pick (or (writes sh) (reads sh)) (t.direction ≡ 0) (t.direction ≤ 1)
  pub command : pick sh.command ((t.command < 256) × pick sh.tohost (t.command % 2 ≡ 0) Unit) (t.command ≡ 0)
  pub sent_length_lem : LengthOf sh.least sh.sent t.sent
  pub sent_bytes : Bytes t.sent
  pub received_length_lem : LengthOf sh.least sh.received t.received
  pub received_bytes : Bytes t.received
  pub counts : counted sh.sent t.sent + counted sh.received t.received ≤ sh.most
