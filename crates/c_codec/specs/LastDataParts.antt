-- The last data phase for C in the parts of its struct: which bytes, and what the buffer holds then.
use Rattle.std.specs.Prelude.{◌≡◌, List, ◌⊎◌, ◌↔◌, ℕ, ◌≤◌, ◌<◌, length, take, drop}
use Rattle.trace.specs.declared.transaction.Transaction.{Transaction}
use Rattle.c_codec.specs.declared.last_data.HbPart.{HbPart}

-- a transaction of this protocol that has sent m and received n bytes
abbrev pub having : ℕ → ℕ → ℕ → Transaction
having protocol m n = record { protocol = protocol; address = record { 0 = 0 }; direction = 0; command = 0; sent = m; received = n }

-- which bytes: what was received for 2, 5, 6, 7, 9 and 10, what was sent for 1, 3, 4 and 8 and for Quick, which sends nothing; none where
-- the protocol is unknown, or a length does not belong to it or exceeds its buffer (Whole, in last/specs/Last)
abbrev pub Receives : ℕ → Type 0
Receives p = (p ≡ 2) ⊎ ((p ≡ 5) ⊎ ((p ≡ 6) ⊎ ((p ≡ 7) ⊎ ((p ≡ 9) ⊎ (p ≡ 10)))))

abbrev pub Sends : ℕ → Type 0
Sends p = (p ≡ 0) ⊎ ((p ≡ 1) ⊎ ((p ≡ 3) ⊎ ((p ≡ 4) ⊎ (p ≡ 8))))

-- of the bytes: 2 exactly where the buffer is shorter, which then is as it was; else 0, and they stand at its front
pub record CopiesOut (bytes before : List ℕ) (r : HbPart) (after : List ℕ) : Type 0 where
  pub answer_2 : (r.answer ≡ 2) ↔ (length before < length bytes)
  pub answer_0 : (r.answer ≡ 0) ↔ (length bytes ≤ length before)
  pub with_2 : r.answer ≡ 2 → (r.length ≡ 0) × (after ≡ before)
  pub with_0 : r.answer ≡ 0 → (r.length ≡ length bytes) × (take (length bytes) after ≡ bytes) × (drop (length bytes) after ≡ drop (length bytes) before)
