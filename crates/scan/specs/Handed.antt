-- The data that an answer hands over: how many bytes, and where in the trace they stand. Only 0 has any.
use Rattle.std.specs.Prelude.{Bool, List, [], ◌∷◌, ℕ, zero, suc, ◌+◌, ◌-◌, ◌*◌, ◌%◌, length, get_or, drop, Ok, Err}
use Rattle.lists.specs.Choice.{pick}
use Rattle.trace.specs.declared.shape.Part.{Part}
use Rattle.trace.specs.declared.shape.Part.TheVariants.{Nothing, Fixed, Counted}
use Rattle.trace.specs.declared.shape.Shape.{Shape}
use Rattle.scan.specs.Decoded.{Decoded}

abbrev pub sent_length : Decoded → ℕ
sent_length (Ok t) = t.sent
sent_length (Err e) = 0

abbrev pub received_length : Decoded → ℕ
received_length (Ok t) = t.received
received_length (Err e) = 0

-- where they begin: sent, behind the first address byte, the command and the count; received, before PEC and STOP
abbrev pub count_places : Part → ℕ
count_places Counted = 2
count_places Nothing = 0
count_places (Fixed k) = 0

abbrev pub sent_place : Shape → ℕ
sent_place sh = 3 + pick sh.command 2 0 + count_places sh.sent

abbrev pub received_place : Bool → ℕ → ℕ → ℕ
received_place p n len = len - (2 * (n + pick p 1 0) + 1)

-- every second number of a list, n of them, as bytes
abbrev pub lows : ℕ → List ℕ → List ℕ
lows zero l = []
lows (suc n) l = get_or l 0 0 % 256 ∷ lows n (drop 2 l)

abbrev pub sent_data : Shape → List ℕ → Decoded → List ℕ
sent_data sh tr a = lows (sent_length a) (drop (sent_place sh) tr)

abbrev pub received_data : Bool → List ℕ → Decoded → List ℕ
received_data p tr a = lows (received_length a) (drop (received_place p (received_length a) (length tr)) tr)
