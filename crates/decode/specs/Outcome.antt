-- What a call of the decoder promises, by equations: OutcomeBy over a shape, and Outcome, which is that at the table of the protocols. Means
-- says the same without a word on how it is computed.
use Rattle.std.specs.Prelude.{◌≡◌, Bool, false, List, ℕ, ◌≤◌, length, ltb}
use Rattle.lists.specs.Choice.{pick, or}
use Rattle.lists.specs.Onto.{onto}
use Rattle.trace.specs.Table.{last_protocol}
use Rattle.trace.specs.declared.shape.Shape.{Shape}
use Rattle.trace.specs.Shapes.{shape_of, forbidden}
use Rattle.scan.specs.Decoded.{Decoded, refused}
use Rattle.scan.specs.declared.answer.Refusal.TheVariants.{Forbidden, BufferTooShort}
use Rattle.scan.specs.Run.{decoded_by}
use Rattle.scan.specs.Handed.{sent_data, received_data}
use Rattle.scan.specs.Answers.{Answers}

-- 2: a buffer of under 255 bytes
abbrev pub short : ℕ → ℕ → Bool
short sentRoom receivedRoom = or (ltb sentRoom 255) (ltb receivedRoom 255)

-- ---- over a shape: `number` is the protocol's, and `barred` says that it, or a PEC of it, is forbidden

-- neither 1 nor 2, so that the trace is read
abbrev pub EnteredBy : Bool → List ℕ → List ℕ → Type 0
EnteredBy barred sent₀ received₀ = (barred ≡ false) × (255 ≤ length sent₀) × (255 ≤ length received₀)

-- the answer, with the lengths of the two buffers: 1, then 2, then what the trace says
unfoldable pub answered_by : ℕ → Shape → Bool → Bool → List ℕ → ℕ → ℕ → Decoded
answered_by number sh barred pec tr sentRoom receivedRoom =
    pick barred (refused Forbidden 0) (pick (short sentRoom receivedRoom) (refused BufferTooShort 0) (decoded_by number sh pec tr))

-- the answer a of a call, and what the buffers hold after it, which held sent₀ and received₀ before
pub record OutcomeBy (number : ℕ) (sh : Shape) (barred pec : Bool) (tr sent₀ received₀ : List ℕ) (a : Decoded) (sent received : List ℕ) : Type 0 where
  pub answer : a ≡ answered_by number sh barred pec tr (length sent₀) (length received₀)
  pub data_sent : sent ≡ onto (sent_data sh tr a) sent₀
  pub data_received : received ≡ onto (received_data pec tr a) received₀

-- a refusal before the trace is read, with both buffers as they were
pub record Unread (refusal : Decoded) (sent₀ received₀ : List ℕ) (a : Decoded) (sent received : List ℕ) : Type 0 where
  pub answer : a ≡ refusal
  pub same_sent : sent ≡ sent₀
  pub same_received : received ≡ received₀

-- what the trace says, with its data at the fronts of the buffers; a refusal has none
pub record Read (number : ℕ) (sh : Shape) (pec : Bool) (tr sent₀ received₀ : List ℕ) (a : Decoded) (sent received : List ℕ) : Type 0 where
  pub s : List ℕ
  pub r : List ℕ
  pub means : Answers number sh pec tr a s r
  pub front_sent : sent ≡ onto s sent₀
  pub front_received : received ≡ onto r received₀

abbrev pub MeansBy : ℕ → Shape → Bool → Bool → List ℕ → List ℕ → List ℕ → Decoded → List ℕ → List ℕ → Type 0
MeansBy number sh barred pec tr sent₀ received₀ a sent received =
    pick barred (Unread (refused Forbidden 0) sent₀ received₀ a sent received)
    (pick (short (length sent₀) (length received₀)) (Unread (refused BufferTooShort 0) sent₀ received₀ a sent received)
    (Read number sh pec tr sent₀ received₀ a sent received))

-- ---- for the protocols of the table

-- neither 1 nor 2, so that the trace is read: a protocol of the table, Quick without PEC, and two buffers of 255 bytes or more
abbrev pub Entered : ℕ → Bool → List ℕ → List ℕ → Type 0
Entered protocol pec sent₀ received₀ = (protocol ≤ last_protocol) × (protocol ≡ 0 → pec ≡ false) × (255 ≤ length sent₀) × (255 ≤ length received₀)

abbrev pub answered : ℕ → Bool → List ℕ → ℕ → ℕ → Decoded
answered protocol pec tr sentRoom receivedRoom = answered_by protocol (shape_of protocol) (forbidden protocol pec) pec tr sentRoom receivedRoom

abbrev pub Outcome : ℕ → Bool → List ℕ → List ℕ → List ℕ → Decoded → List ℕ → List ℕ → Type 0
Outcome protocol pec tr sent₀ received₀ a sent received = OutcomeBy protocol (shape_of protocol) (forbidden protocol pec) pec tr sent₀ received₀ a sent received

abbrev pub Means : ℕ → Bool → List ℕ → List ℕ → List ℕ → Decoded → List ℕ → List ℕ → Type 0
Means protocol pec tr sent₀ received₀ a sent received = MeansBy protocol (shape_of protocol) (forbidden protocol pec) pec tr sent₀ received₀ a sent received
