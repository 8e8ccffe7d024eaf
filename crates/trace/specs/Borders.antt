-- Whose ACKs they are, protocol by protocol: the part of a trace in which the target answers each byte, and the part, with the STOP, in
-- which the controller does. A NACK in the first is 6, in the second 5 (or the NACK that is due there).
-- S START, P STOP, A ACK, N NACK, 2 * a and 2 * a + 1 the address byte for writing and for reading, as in Rows.
use Rattle.std.specs.Prelude.{◌≡◌, List, [], ◌∷◌, ◌++◌, ℕ, ◌+◌, ◌*◌, length}
use Rattle.trace.specs.Shapes.{shape_of}
use Rattle.trace.specs.Trace.{Message, acked, by_target, by_controller}
use Rattle.trace.specs.Rows.{S, P, A, N, message}

-- the target's part and the controller's
abbrev pub Parted : ℕ → Message → List ℕ → List ℕ → List ℕ → Type 0
Parted protocol t q target controller = (by_target (shape_of protocol) t q ≡ target) × (by_controller (shape_of protocol) t q ≡ controller)

-- a is the address, c the command, d data sent, r data received, l and h, m and n the bytes of words, y the byte in PEC's place
pub record Borders : Type 0 where
  pub quick_write : (a : ℕ) → Parted 0 (message a 0 0 [] []) [] (S ∷ 2 * a ∷ A ∷ []) (P ∷ [])
  pub quick_read : (a : ℕ) → Parted 0 (message a 1 0 [] []) [] (S ∷ (2 * a + 1) ∷ A ∷ []) (P ∷ [])
  pub send_byte : (a d : ℕ) → Parted 1 (message a 0 0 (d ∷ []) []) [] (S ∷ 2 * a ∷ A ∷ d ∷ A ∷ []) (P ∷ [])
  pub send_byte_pec : (a d y : ℕ) → Parted 1 (message a 0 0 (d ∷ []) []) (y ∷ []) (S ∷ 2 * a ∷ A ∷ d ∷ A ∷ y ∷ A ∷ []) (P ∷ [])
  pub receive_byte : (a r : ℕ) → Parted 2 (message a 0 0 [] (r ∷ [])) [] (S ∷ (2 * a + 1) ∷ A ∷ []) (r ∷ N ∷ P ∷ [])
  pub receive_byte_pec : (a r y : ℕ) → Parted 2 (message a 0 0 [] (r ∷ [])) (y ∷ []) (S ∷ (2 * a + 1) ∷ A ∷ []) (r ∷ A ∷ y ∷ N ∷ P ∷ [])
  pub write_byte : (a c d : ℕ) → Parted 3 (message a 0 c (d ∷ []) []) [] (S ∷ 2 * a ∷ A ∷ c ∷ A ∷ d ∷ A ∷ []) (P ∷ [])
  pub write_byte_pec : (a c d y : ℕ) → Parted 3 (message a 0 c (d ∷ []) []) (y ∷ []) (S ∷ 2 * a ∷ A ∷ c ∷ A ∷ d ∷ A ∷ y ∷ A ∷ []) (P ∷ [])
  pub write_word : (a c l h : ℕ) → Parted 4 (message a 0 c (l ∷ h ∷ []) []) [] (S ∷ 2 * a ∷ A ∷ c ∷ A ∷ l ∷ A ∷ h ∷ A ∷ []) (P ∷ [])
  pub write_word_pec : (a c l h y : ℕ) → Parted 4 (message a 0 c (l ∷ h ∷ []) []) (y ∷ []) (S ∷ 2 * a ∷ A ∷ c ∷ A ∷ l ∷ A ∷ h ∷ A ∷ y ∷ A ∷ []) (P ∷ [])
  pub read_byte : (a c r : ℕ) → Parted 5 (message a 0 c [] (r ∷ [])) [] (S ∷ 2 * a ∷ A ∷ c ∷ A ∷ S ∷ (2 * a + 1) ∷ A ∷ []) (r ∷ N ∷ P ∷ [])
  pub read_byte_pec : (a c r y : ℕ) → Parted 5 (message a 0 c [] (r ∷ [])) (y ∷ []) (S ∷ 2 * a ∷ A ∷ c ∷ A ∷ S ∷ (2 * a + 1) ∷ A ∷ []) (r ∷ A ∷ y ∷ N ∷ P ∷ [])
  pub read_word : (a c m n : ℕ) → Parted 6 (message a 0 c [] (m ∷ n ∷ [])) [] (S ∷ 2 * a ∷ A ∷ c ∷ A ∷ S ∷ (2 * a + 1) ∷ A ∷ []) (m ∷ A ∷ n ∷ N ∷ P ∷ [])
  pub read_word_pec : (a c m n y : ℕ) → Parted 6 (message a 0 c [] (m ∷ n ∷ [])) (y ∷ []) (S ∷ 2 * a ∷ A ∷ c ∷ A ∷ S ∷ (2 * a + 1) ∷ A ∷ [])
      (m ∷ A ∷ n ∷ A ∷ y ∷ N ∷ P ∷ [])
  pub process_call : (a c l h m n : ℕ) → Parted 7 (message a 0 c (l ∷ h ∷ []) (m ∷ n ∷ [])) []
      (S ∷ 2 * a ∷ A ∷ c ∷ A ∷ l ∷ A ∷ h ∷ A ∷ S ∷ (2 * a + 1) ∷ A ∷ []) (m ∷ A ∷ n ∷ N ∷ P ∷ [])
  pub process_call_pec : (a c l h m n y : ℕ) → Parted 7 (message a 0 c (l ∷ h ∷ []) (m ∷ n ∷ [])) (y ∷ [])
      (S ∷ 2 * a ∷ A ∷ c ∷ A ∷ l ∷ A ∷ h ∷ A ∷ S ∷ (2 * a + 1) ∷ A ∷ []) (m ∷ A ∷ n ∷ A ∷ y ∷ N ∷ P ∷ [])
  pub block_write : (a c : ℕ) (d : List ℕ) → Parted 8 (message a 0 c d []) [] (S ∷ 2 * a ∷ A ∷ c ∷ A ∷ length d ∷ A ∷ acked d) (P ∷ [])
  pub block_write_pec : (a c : ℕ) (d : List ℕ) (y : ℕ) → Parted 8 (message a 0 c d []) (y ∷ [])
      (S ∷ 2 * a ∷ A ∷ c ∷ A ∷ length d ∷ A ∷ (acked d ++ y ∷ A ∷ [])) (P ∷ [])
  pub block_read_none : (a c : ℕ) → Parted 9 (message a 0 c [] []) [] (S ∷ 2 * a ∷ A ∷ c ∷ A ∷ S ∷ (2 * a + 1) ∷ A ∷ []) (0 ∷ N ∷ P ∷ [])
  pub block_read : (a c : ℕ) (r : List ℕ) (s : ℕ) → Parted 9 (message a 0 c [] (r ++ s ∷ [])) [] (S ∷ 2 * a ∷ A ∷ c ∷ A ∷ S ∷ (2 * a + 1) ∷ A ∷ [])
      ((length r + 1) ∷ A ∷ (acked r ++ s ∷ N ∷ P ∷ []))
  pub block_read_pec : (a c : ℕ) (r : List ℕ) (y : ℕ) → Parted 9 (message a 0 c [] r) (y ∷ []) (S ∷ 2 * a ∷ A ∷ c ∷ A ∷ S ∷ (2 * a + 1) ∷ A ∷ [])
      (length r ∷ A ∷ (acked r ++ y ∷ N ∷ P ∷ []))
  pub block_process_call_none : (a c : ℕ) (d : List ℕ) → Parted 10 (message a 0 c d []) []
      (S ∷ 2 * a ∷ A ∷ c ∷ A ∷ length d ∷ A ∷ (acked d ++ S ∷ (2 * a + 1) ∷ A ∷ [])) (0 ∷ N ∷ P ∷ [])
  pub block_process_call : (a c : ℕ) (d r : List ℕ) (s : ℕ) → Parted 10 (message a 0 c d (r ++ s ∷ [])) []
      (S ∷ 2 * a ∷ A ∷ c ∷ A ∷ length d ∷ A ∷ (acked d ++ S ∷ (2 * a + 1) ∷ A ∷ [])) ((length r + 1) ∷ A ∷ (acked r ++ s ∷ N ∷ P ∷ []))
  pub block_process_call_pec : (a c : ℕ) (d r : List ℕ) (y : ℕ) → Parted 10 (message a 0 c d r) (y ∷ [])
      (S ∷ 2 * a ∷ A ∷ c ∷ A ∷ length d ∷ A ∷ (acked d ++ S ∷ (2 * a + 1) ∷ A ∷ [])) (length r ∷ A ∷ (acked r ++ y ∷ N ∷ P ∷ []))
