-- How many symbols a trace has.
use Rattle.std.specs.Prelude.{Bool, true, Option, Some, None, ℕ, ◌+◌, ◌*◌}
use Rattle.std.specs.Option.{unwrap_or}
use Rattle.lists.specs.Choice.{pick, or}
use Rattle.trace.specs.declared.shape.Part.{Part}
use Rattle.trace.specs.declared.shape.Part.TheVariants.{Nothing, Fixed, Counted}
use Rattle.trace.specs.declared.shape.Shape.{Shape}
use Rattle.trace.specs.Shapes.{is_counted, writes, reads, shape_of, forbidden}
use Rattle.trace.specs.Allowed.{lengths_fit}

-- START, the first address byte, its ACK and STOP; two for each byte sent; the turn, and two for each byte received; two for PEC
unfoldable pub trace_length : Shape → Bool → ℕ → ℕ → ℕ
trace_length sh p m n =
    4 + 2 * (pick sh.command 1 0 + pick (is_counted sh.sent) 1 0 + m)
    + pick (reads sh) (pick (writes sh) 3 0 + 2 * (pick (is_counted sh.received) 1 0 + n)) 0
    + 2 * pick p 1 0

-- the bytes of a part of fixed length
abbrev pub fixed_length : Part → ℕ
fixed_length Nothing = 0
fixed_length (Fixed k) = k
fixed_length Counted = 0

-- the most symbols of a shape's traces: with PEC, with all fixed bytes, and with as many bytes as the counts may say together
unfoldable pub longest_of : Shape → ℕ
longest_of sh =
    trace_length sh true (fixed_length sh.sent) (fixed_length sh.received)
    + pick (or (is_counted sh.sent) (is_counted sh.received)) (2 * sh.most) 0

-- the room that the encoder needs for m bytes sent and n received; none where the message is forbidden (barred), or a length is refused
unfoldable pub room_by : Shape → Bool → Bool → ℕ → ℕ → Option ℕ
room_by sh barred pec m n = pick barred None (pick (lengths_fit sh m n) (Some (trace_length sh pec m n)) None)

-- for the protocols of the table, as a number: 0 for none
abbrev pub room_for : ℕ → Bool → ℕ → ℕ → ℕ
room_for protocol pec m n = unwrap_or (room_by (shape_of protocol) (forbidden protocol pec) pec m n) 0
