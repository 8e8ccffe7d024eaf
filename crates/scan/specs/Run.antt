-- The fold over a whole trace, and the answer at its end.
use Rattle.std.specs.Prelude.{Bool, true, false, List, [], ◌∷◌, ℕ, suc, ◌+◌, ◌-◌, ◌%◌, ◌/◌, length, ltb, Result, Ok, Err}
use Rattle.lists.specs.Choice.{pick}
use Rattle.trace.specs.declared.shape.Part.{Part}
use Rattle.trace.specs.declared.shape.Part.TheVariants.{Nothing, Fixed, Counted}
use Rattle.trace.specs.declared.shape.Shape.{Shape}
use Rattle.trace.specs.declared.transaction.Transaction.{Transaction}
use Rattle.trace.specs.Shapes.{writes, reads}
use Rattle.scan.specs.Decoded.{Decoded, refused}
use Rattle.scan.specs.declared.answer.Refused.{Refused}
use Rattle.scan.specs.declared.answer.Refusal.TheVariants.{EndsEarly, NotAcknowledged, PecDiffers}
use Rattle.step.specs.declared.state.Due.{Due}
use Rattle.step.specs.declared.state.Due.TheVariants.{Nobody, Target, Controller, Halted, Cut}
use Rattle.step.specs.declared.state.Decoder.{Decoder}
use Rattle.step.specs.State.{fresh}
use Rattle.step.specs.Fits.{fits}
use Rattle.step.specs.Move.{move}
use Rattle.scan.specs.Refusal.{over, why}

-- from the state d, with i symbols read, over the rest of the trace
unfoldable pub run : Shape → Bool → Decoder → ℕ → List ℕ → Result Decoder Refused
run sh p d i [] = Ok d
run sh p d i (x ∷ xs) = pick (fits sh d x) (run sh p (move sh p d x) (suc i) xs) (Err (why sh d i x))

-- the bytes of a trace are its numbers below 256
unfoldable pub byte_count : List ℕ → ℕ
byte_count [] = 0
byte_count (x ∷ xs) = pick (ltb x 256) 1 0 + byte_count xs

-- the length of a part's data, whose count was m
abbrev pub data_length : Part → ℕ → ℕ
data_length Nothing m = 0
data_length (Fixed k) m = k
data_length Counted m = m

-- the direction is Quick's alone, and is the first byte's lowest bit
abbrev pub direction_of : Shape → ℕ → ℕ
direction_of sh f = pick (writes sh) 0 (pick (reads sh) 0 (f % 2))

abbrev pub transaction : ℕ → Shape → Decoder → Transaction
transaction protocol sh d =
    record {
      protocol = protocol;
      address = record { 0 = d.first / 2 };
      direction = direction_of sh d.first;
      command = d.command;
      sent = data_length sh.sent d.sentcount;
      received = data_length sh.received d.readcount;
    }

abbrev pub is_cut : Due → Bool
is_cut Cut = true
is_cut Nobody = false
is_cut Target = false
is_cut Controller = false
is_cut Halted = false

-- the answer when the whole trace is read: 6, else 4, else 0 or 7
unfoldable pub finish : ℕ → Shape → Decoder → List ℕ → Decoded
finish protocol sh d tr =
    pick (is_cut d.due) (refused NotAcknowledged (byte_count tr - 1))
    (pick (over d.due d.slot) (pick d.good (Ok (transaction protocol sh d)) (refused PecDiffers (length tr - 3))) (refused EndsEarly (length tr)))

abbrev pub concluded : ℕ → Shape → List ℕ → Result Decoder Refused → Decoded
concluded protocol sh tr (Ok d) = finish protocol sh d tr
concluded protocol sh tr (Err e) = Err e

-- the answer for a trace of a shape, which is that of the protocol
unfoldable pub decoded_by : ℕ → Shape → Bool → List ℕ → Decoded
decoded_by protocol sh p tr = concluded protocol sh tr (run sh p fresh 0 tr)
