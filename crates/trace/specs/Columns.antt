-- The last two columns of the scope's table: the symbols of each protocol's traces, two more with PEC. Once as the lengths of the traces,
-- once as the room that the encoder needs.
use Rattle.std.specs.Prelude.{◌≡◌, Bool, false, ℕ, ◌+◌, ◌*◌, ◌≤◌, length}
use Rattle.lists.specs.Choice.{pick}
use Rattle.trace.specs.declared.shape.Shape.{Shape}
use Rattle.trace.specs.Protocols.{longest_trace}
use Rattle.trace.specs.Shapes.{shape_of}
use Rattle.trace.specs.Trace.{Message, Valid, trace}
use Rattle.trace.specs.Lengths.{room_for}

-- the traces of a protocol have so many symbols, by the lengths m and n of the data sent and received
abbrev pub Has : ℕ → (ℕ → ℕ → ℕ) → Type 0
Has protocol symbols = (p : Bool) (t : Message) → Valid (shape_of protocol) t
    → length (trace (shape_of protocol) p t) ≡ symbols (length t.sent) (length t.received) + pick p 2 0

pub record Columns : Type 0 where
  pub quick : Has 0 (λ m n. 4)
  pub send_byte : Has 1 (λ m n. 6)
  pub receive_byte : Has 2 (λ m n. 6)
  pub write_byte : Has 3 (λ m n. 8)
  pub write_word : Has 4 (λ m n. 10)
  pub read_byte : Has 5 (λ m n. 11)
  pub read_word : Has 6 (λ m n. 13)
  pub process_call : Has 7 (λ m n. 17)
  pub block_write : Has 8 (λ m n. 8 + 2 * m)
  pub block_read : Has 9 (λ m n. 11 + 2 * n)
  pub block_process_call : Has 10 (λ m n. 13 + 2 * (m + n))

-- no trace of a shape is longer than the longest
abbrev pub AtMost : Shape → Type 0
AtMost sh = (p : Bool) (t : Message) → Valid sh t → length (trace sh p t) ≤ longest_trace

-- the room: m bytes sent, n received, two symbols more with PEC
pub record Room : Type 0 where
  pub quick_room : room_for 0 false 0 0 ≡ 4
  pub send_byte_room : (p : Bool) → room_for 1 p 1 0 ≡ 6 + pick p 2 0
  pub receive_byte_room : (p : Bool) → room_for 2 p 0 1 ≡ 6 + pick p 2 0
  pub write_byte_room : (p : Bool) → room_for 3 p 1 0 ≡ 8 + pick p 2 0
  pub write_word_room : (p : Bool) → room_for 4 p 2 0 ≡ 10 + pick p 2 0
  pub read_byte_room : (p : Bool) → room_for 5 p 0 1 ≡ 11 + pick p 2 0
  pub read_word_room : (p : Bool) → room_for 6 p 0 2 ≡ 13 + pick p 2 0
  pub process_call_room : (p : Bool) → room_for 7 p 2 2 ≡ 17 + pick p 2 0
  pub block_write_room : (p : Bool) (m : ℕ) → m ≤ 255 → room_for 8 p m 0 ≡ 8 + 2 * m + pick p 2 0
  pub block_read_room : (p : Bool) (n : ℕ) → n ≤ 255 → room_for 9 p 0 n ≡ 11 + 2 * n + pick p 2 0
  pub block_process_call_room : (p : Bool) (m n : ℕ) → m + n ≤ 255 → room_for 10 p m n ≡ 13 + 2 * (m + n) + pick p 2 0
