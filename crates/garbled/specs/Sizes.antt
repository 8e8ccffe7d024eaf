-- How many bytes a message has in all, the PEC among them: protocol by protocol, with m bytes of data sent and n received.
use Rattle.std.specs.Prelude.{[], ◌∷◌, ℕ, ◌+◌, get_or}

-- Quick has no PEC
abbrev pub bytes_in_all : ℕ → ℕ → ℕ → ℕ
bytes_in_all protocol m n = get_or (0 ∷ 3 ∷ 3 ∷ 4 ∷ 5 ∷ 5 ∷ 6 ∷ 8 ∷ (4 + m) ∷ (5 + n) ∷ (6 + m + n) ∷ []) protocol 0
