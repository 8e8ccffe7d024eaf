-- Which lengths of data a protocol allows: those of the lines that the table has of it.
use Rattle.std.specs.Prelude.{◌≡◌, [], ℕ, length}
use Rattle.trace.specs.Table.{Line, Row}

-- m bytes sent, n received
abbrev pub DataFits : ℕ → ℕ → ℕ → Type 0
DataFits protocol m n = (x : Line) × Row [] x × (x.protocol ≡ protocol) × (length x.message.sent ≡ m) × (length x.message.received ≡ n)
