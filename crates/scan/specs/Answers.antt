-- What each answer of the decoder means, held against the scope. Nothing here says how it is computed. 256 is START, 257 STOP, 258 ACK
-- and 259 NACK, and a number above it no symbol.
use Rattle.std.specs.Prelude.{◌≡◌, Bool, true, List, [], ◌∷◌, ◌++◌, ◌⊎◌, ℕ, suc, ◌+◌, ◌<◌, length, take, Ok, Err}
use Rattle.lists.specs.Each.{Bytes}
use Rattle.trace.specs.declared.shape.Shape.{Shape}
use Rattle.trace.specs.declared.transaction.Transaction.{Transaction}
use Rattle.trace.specs.Trace.{Message, Valid, in_place, pec_of, by_target, trace_at, trace}
use Rattle.scan.specs.Decoded.{Decoded}
use Rattle.scan.specs.declared.answer.Refusal.{Refusal}
use Rattle.scan.specs.Because as because
use Rattle.scan.specs.Because.{Cases}
use Rattle.scan.specs.BytesIn.{bytes_in}

-- a whole trace, with any byte in PEC's place
pub record Whole (sh : Shape) (p : Bool) (tr : List ℕ) : Type 0 where
  pub message : Message
  pub pec : ℕ
  pub valid : Valid sh message
  pub byte : Bytes (in_place p pec)
  pub is : tr ≡ trace_at sh message (in_place p pec)

-- a trace cut at a byte whose ACK is due from the target: NACK stands there, then STOP. The byte is the last before the NACK, and its
-- number, from 0 and only bytes counted, is b: so many less one numbers below 256 stand before the NACK
pub record CutAt (sh : Shape) (p : Bool) (tr : List ℕ) (b : ℕ) : Type 0 where
  pub message : Message
  pub pec : ℕ
  pub valid : Valid sh message
  pub byte : Bytes (in_place p pec)
  pub before : List ℕ
  pub after : List ℕ
  pub ack : by_target sh message (in_place p pec) ≡ before ++ 258 ∷ after
  pub is : tr ≡ before ++ 259 ∷ 257 ∷ []
  pub number : length (bytes_in before) ≡ suc b

abbrev pub Member : Shape → Bool → List ℕ → Type 0
Member sh p tr = Whole sh p tr ⊎ ((b : ℕ) × CutAt sh p tr b)

-- a trace fits if it is the beginning of a member
abbrev pub Fits : Shape → Bool → List ℕ → Type 0
Fits sh p tr = (rest : List ℕ) × Member sh p (tr ++ rest)

-- what is handed over with 0: the protocol, the fields of a message, and the lengths of its data
abbrev pub summary : ℕ → Message → Transaction
summary protocol t =
    record { protocol = protocol; address = record { 0 = t.address }; direction = t.direction; command = t.command; sent = length t.sent; received = length t.received }

-- the place k is the first whose beginning does not fit
pub record Breaks (sh : Shape) (p : Bool) (tr : List ℕ) (k : ℕ) : Type 0 where
  pub inside : k < length tr
  pub before : Fits sh p (take k tr)
  pub here : Fits sh p (take (suc k) tr) → ⊥

-- 7: a whole trace but for its PEC, whose place is k
pub record OtherPec (sh : Shape) (p : Bool) (tr : List ℕ) (k : ℕ) : Type 0 where
  pub used : p ≡ true
  pub message : Message
  pub pec : ℕ
  pub valid : Valid sh message
  pub byte : pec < 256
  pub is : tr ≡ trace_at sh message (pec ∷ [])
  pub differs : pec ≡ pec_of sh message → ⊥
  pub place : k + 3 ≡ length tr

-- 0: the encoder's trace of a message, with its fields, its data sent and its data received
pub record Carries (protocol : ℕ) (sh : Shape) (p : Bool) (tr : List ℕ) (t : Transaction) (sent received : List ℕ) : Type 0 where
  pub message : Message
  pub valid : Valid sh message
  pub is : tr ≡ trace sh p message
  pub fields : t ≡ summary protocol message
  pub data_sent : sent ≡ message.sent
  pub data_received : received ≡ message.received

-- why the trace tr is refused, with the place k
abbrev pub shape_cases : Shape → Bool → List ℕ → Cases
shape_cases sh p tr = record { fits = Fits sh p tr; member = Member sh p tr; member_to = λ k. Member sh p (take k tr); breaks = Breaks sh p tr; cut = CutAt sh p tr; other_pec = OtherPec sh p tr; next = λ k y. Fits sh p (take k tr ++ y ∷ []); to_host = sh.tohost ≡ true }

abbrev pub Because : Shape → Bool → List ℕ → Refusal → ℕ → Type 0
Because sh p tr w k = because.Because (shape_cases sh p tr) tr w k

-- a is the answer for the trace tr, with the data s sent and r received; a refusal has none
abbrev pub Answers : ℕ → Shape → Bool → List ℕ → Decoded → List ℕ → List ℕ → Type 0
Answers protocol sh p tr (Ok t) s r = Carries protocol sh p tr t s r
Answers protocol sh p tr (Err e) s r = Because sh p tr e.why e.place × (s ≡ []) × (r ≡ [])
