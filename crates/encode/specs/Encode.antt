-- The encoder's promise, by equations: the answer by refusal 1, refusal 2 and the length of the trace, and what the output holds then. WroteBy
-- states it over a shape, and Wrote is that at the table of the protocols. Means says the same without a word on how it is computed.
use Rattle.std.specs.Prelude.{◌≡◌, Bool, List, [], Result, Ok, Err, ℕ, ◌≤◌, ◌<◌, ltb, length, take, drop}
use Rattle.lists.specs.Choice.{pick, or, not}
use Rattle.lists.specs.Onto.{onto}
use Rattle.trace.specs.declared.shape.Shape.{Shape}
use Rattle.trace.specs.Shapes.{shape_of, forbidden}
use Rattle.trace.specs.Trace.{Message, trace}
use Rattle.trace.specs.Allowed.{allowed}
use Rattle.encode.specs.declared.EncodeError.{EncodeError}
use Rattle.encode.specs.declared.EncodeError.TheVariants.{Forbidden, OutputTooShort}
use Rattle.encode.specs.Listed.{Listed}

-- what the encoder answers: the length of the trace that it wrote, or why it refuses
abbrev pub Encoded : Type 0
Encoded = Result ℕ EncodeError

-- the scope's number of an answer, and what comes with it
abbrev pub encode_number : Encoded → ℕ × ℕ
encode_number (Ok n) = (0, n)
encode_number (Err Forbidden) = (1, 0)
encode_number (Err OutputTooShort) = (2, 0)

-- what a caller gives
abbrev pub message : ℕ → ℕ → ℕ → List ℕ → List ℕ → Message
message address direction command sent received =
    record { address = address; direction = direction; command = command; sent = sent; received = received }

-- all tests of refusal 1, for a message of a shape; `barred` says that the protocol or its PEC is forbidden
unfoldable pub refused_by : Shape → Bool → Message → Bool
refused_by sh barred t = or barred (not (allowed sh t.address t.direction t.command (length t.sent) (length t.received)))

-- the answer: 1, then 2, then done with the length of the trace
unfoldable pub encoded_by : Shape → Bool → Bool → Message → ℕ → Encoded
encoded_by sh barred pec t room =
    pick (refused_by sh barred t) (Err Forbidden) (pick (ltb room (length (trace sh pec t))) (Err OutputTooShort) (Ok (length (trace sh pec t))))

-- what is written: the trace, or nothing
abbrev pub symbols_of : Encoded → List ℕ → List ℕ
symbols_of (Ok n) tr = tr
symbols_of (Err Forbidden) tr = []
symbols_of (Err OutputTooShort) tr = []

-- the promise over a shape: for a message and an output as it was, the answer and the output as it is then
pub record WroteBy (sh : Shape) (barred pec : Bool) (t : Message) (before : List ℕ) (r : Encoded) (after : List ℕ) : Type 0 where
  pub answer : r ≡ encoded_by sh barred pec t (length before)
  pub output : after ≡ onto (symbols_of r (trace sh pec t)) before

-- ---- for the protocols of the table

abbrev pub refused : ℕ → Bool → Message → Bool
refused protocol pec t = refused_by (shape_of protocol) (forbidden protocol pec) t

abbrev pub encoded : ℕ → Bool → Message → ℕ → Encoded
encoded protocol pec t room = encoded_by (shape_of protocol) (forbidden protocol pec) pec t room

abbrev pub Wrote : ℕ → Bool → Message → List ℕ → Encoded → List ℕ → Type 0
Wrote protocol pec t before r after = WroteBy (shape_of protocol) (forbidden protocol pec) pec t before r after

-- the same promise with nothing of how it is computed: what each answer means, and what it leaves in the output
abbrev pub Means : ℕ → Bool → Message → List ℕ → Encoded → List ℕ → Type 0
Means protocol pec t before (Ok n) after =
    (Listed protocol pec t → ⊥)
    × (n ≡ length (trace (shape_of protocol) pec t))
    × (n ≤ length before)
    × (take n after ≡ trace (shape_of protocol) pec t)
    × (drop n after ≡ drop n before)
Means protocol pec t before (Err Forbidden) after = Listed protocol pec t × (after ≡ before)
Means protocol pec t before (Err OutputTooShort) after =
    (Listed protocol pec t → ⊥) × (length before < length (trace (shape_of protocol) pec t)) × (after ≡ before)
