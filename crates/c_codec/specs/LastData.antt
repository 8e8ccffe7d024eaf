-- The last data phase for C: its bytes at the front of a buffer.
use Rattle.std.specs.Prelude.{ℕ, ◌≡◌, List, ltb, length}
use Rattle.lists.specs.Choice.{pick}
use Rattle.lists.specs.Onto.{onto}
use Rattle.last.specs.Last.{last_data}
use Rattle.c_codec.specs.declared.last_data.HbPart.{HbPart}

abbrev pub part_of : ℕ → ℕ → HbPart
part_of a n = record { answer = a; length = n }

-- a transaction of which only the protocol and the two lengths matter
abbrev pub phase_of : ℕ → ℕ → ℕ → List ℕ → List ℕ → List ℕ
phase_of protocol m n sent received =
    last_data (record { protocol = protocol; address = record { 0 = 0 }; direction = 0; command = 0; sent = m; received = n }) sent received

-- 2 where the buffer is shorter than the bytes, and it stays as it is
pub record Copied (bytes before : List ℕ) (r : HbPart) (after : List ℕ) : Type 0 where
  pub answer : r ≡ pick (ltb (length before) (length bytes)) (part_of 2 0) (part_of 0 (length bytes))
  pub output : after ≡ pick (ltb (length before) (length bytes)) before (onto bytes before)
