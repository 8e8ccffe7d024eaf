-- WHAT FITS, over the table (trace/specs/Table). Let L be the whole traces with any byte in PEC's place, and those that are cut at a byte
-- whose ACK is due from the target, with NACK there and then STOP. A trace fits if it is the beginning of a member of L.
use Rattle.std.specs.Prelude.{◌≡◌, Bool, true, List, [], ◌∷◌, ◌++◌, ◌⊎◌, ℕ, suc, ◌+◌, ◌*◌, ◌≤◌, ◌<◌, length, take, get_or}
use Rattle.lists.specs.Each.{Bytes}
use Rattle.pec.specs.Pec.{pec_of}
use Rattle.trace.specs.Table.{Line, Row, InTable, symbols}
use Rattle.trace.specs.Trace.{acked}
use Rattle.scan.specs.Because.{Cases}
use Rattle.scan.specs.BytesIn.{bytes_in}

abbrev pub Whole : ℕ → Bool → List ℕ → Type 0
Whole protocol pec tr = (y : ℕ) × (x : Line) × InTable protocol pec y x × (tr ≡ symbols x)

-- the byte at which it is cut is the last before the NACK; its number, from 0 and only bytes counted, is b
pub record CutAt (protocol : ℕ) (pec : Bool) (tr : List ℕ) (b : ℕ) : Type 0 where
  pub y : ℕ
  pub row : Line
  pub listed : InTable protocol pec y row
  pub before : List ℕ
  pub after : List ℕ
  pub ack : row.by_target ≡ before ++ 258 ∷ after
  pub is : tr ≡ before ++ 259 ∷ 257 ∷ []
  pub number : length (bytes_in before) ≡ suc b

abbrev pub Member : ℕ → Bool → List ℕ → Type 0
Member protocol pec tr = Whole protocol pec tr ⊎ ((b : ℕ) × CutAt protocol pec tr b)

abbrev pub Fits : ℕ → Bool → List ℕ → Type 0
Fits protocol pec tr = (rest : List ℕ) × Member protocol pec (tr ++ rest)

-- the place k is the first whose beginning does not fit
pub record Breaks (protocol : ℕ) (pec : Bool) (tr : List ℕ) (k : ℕ) : Type 0 where
  pub inside : k < length tr
  pub before : Fits protocol pec (take k tr)
  pub here : Fits protocol pec (take (suc k) tr) → ⊥

-- a whole trace but for its PEC, which is another than that of the bytes covered; the PEC's place is k
abbrev pub OtherPec : ℕ → Bool → List ℕ → ℕ → Type 0
OtherPec protocol pec tr k =
    (pec ≡ true) × ((y : ℕ) × (x : Line) × InTable protocol pec y x × (tr ≡ symbols x) × (y ≡ pec_of x.covered → ⊥)) × (k + 3 ≡ length tr)

-- the first k symbols fit with y behind them
abbrev pub FitsNext : ℕ → Bool → List ℕ → ℕ → ℕ → Type 0
FitsNext protocol pec tr k y = Fits protocol pec (take k tr ++ y ∷ [])

-- a protocol that goes to the host alone: each of its lines has the address 08h. None of the eleven does
abbrev pub ToHost : ℕ → Type 0
ToHost protocol = (q : List ℕ) (x : Line) → Row q x → x.protocol ≡ protocol → x.message.address ≡ 0x08

-- why a trace is refused is said over these (Because)
abbrev pub table_cases : ℕ → Bool → List ℕ → Cases
table_cases protocol pec tr =
    record {
      fits = Fits protocol pec tr;
      member = Member protocol pec tr;
      member_to = λ k. Member protocol pec (take k tr);
      breaks = Breaks protocol pec tr;
      cut = CutAt protocol pec tr;
      other_pec = OtherPec protocol pec tr;
      next = FitsNext protocol pec tr;
      to_host = ToHost protocol;
    }

-- a wrong symbol stands at k: its place is the first whose beginning does not fit, no member ends before it, and it is a symbol
abbrev pub Wrong : ℕ → Bool → List ℕ → ℕ → Type 0
Wrong protocol pec tr k = Breaks protocol pec tr k × (Member protocol pec (take k tr) → ⊥) × (get_or tr k 0 ≤ 259)

-- a swapped bit, worked out: where a whole trace has the controller's ACK or NACK, the other of the two stands
abbrev pub BitSwapped : ℕ → Bool → List ℕ → ℕ → Type 0
BitSwapped protocol pec tr k =
    (k < length tr) × ((y : ℕ) × (x : Line) × (u : List ℕ) × (s : ℕ) × (v : List ℕ) × InTable protocol pec y x × (x.by_controller ≡ u ++ s ∷ v) × (take k tr ≡ x.by_target ++ u)
    × (((s ≡ 258) × (get_or tr k 0 ≡ 259)) ⊎ ((s ≡ 259) × (get_or tr k 0 ≡ 258))))

-- a wrong count, worked out: of a Block Process Call, at the place of the count received, which comes to more than 255 with the count sent
abbrev pub CountTooHigh : ℕ → List ℕ → ℕ → Type 0
CountTooHigh protocol tr k =
    (protocol ≡ 10) × (k < length tr) × (get_or tr k 0 < 256) × ((a : ℕ) × (c : ℕ) × (d : List ℕ) × (a < 128) × (c < 256) × Bytes d × (length d < 256) × (255 < length d + get_or tr k 0)
    × (take k tr ≡ 256 ∷ 2 * a ∷ 258 ∷ c ∷ 258 ∷ length d ∷ 258 ∷ (acked d ++ 256 ∷ (2 * a + 1) ∷ 258 ∷ [])))
