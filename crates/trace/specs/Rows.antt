-- The scope's table as it is written: for each protocol its row, without PEC and with it (RowsLaws: the one definition over the shape
-- gives them). S START, P STOP, A ACK, N NACK, 2 * a and 2 * a + 1 the address byte for writing and for reading, c the command, d sent,
-- r received. A word is the two bytes l and h, the low one first: WordRows. A received byte gets A, the last one N; a received PEC is the
-- last; a sent PEC stands before P and gets A.
use Rattle.std.specs.Prelude.{◌≡◌, true, false, List, [], ◌∷◌, ◌++◌, ℕ, ◌+◌, ◌*◌, length}
use Rattle.pec.specs.Pec.{pec_of as pec}
use Rattle.trace.specs.Shapes.{shape_of}
use Rattle.trace.specs.Trace.{Message, acked, trace}

abbrev pub S : ℕ
S = 256

abbrev pub P : ℕ
P = 257

abbrev pub A : ℕ
A = 258

abbrev pub N : ℕ
N = 259

abbrev pub message : ℕ → ℕ → ℕ → List ℕ → List ℕ → Message
message a b c s r = record { address = a; direction = b; command = c; sent = s; received = r }

-- the trace of a protocol's message without PEC, and with it
abbrev pub plain : ℕ → Message → List ℕ
plain protocol t = trace (shape_of protocol) false t

abbrev pub checked : ℕ → Message → List ℕ
checked protocol t = trace (shape_of protocol) true t

-- a is the address, c the command, d data sent, r and s data received, l and h, m and n the bytes of words, acked l is 'byte A' for each of l
pub record Rows : Type 0 where
  pub quick_write : (a : ℕ) → plain 0 (message a 0 0 [] []) ≡ S ∷ 2 * a ∷ A ∷ P ∷ []
  pub quick_read : (a : ℕ) → plain 0 (message a 1 0 [] []) ≡ S ∷ (2 * a + 1) ∷ A ∷ P ∷ []
  pub send_byte : (a d : ℕ) → plain 1 (message a 0 0 (d ∷ []) []) ≡ S ∷ 2 * a ∷ A ∷ d ∷ A ∷ P ∷ []
  pub send_byte_pec : (a d : ℕ) → checked 1 (message a 0 0 (d ∷ []) []) ≡ S ∷ 2 * a ∷ A ∷ d ∷ A ∷ pec (2 * a ∷ d ∷ []) ∷ A ∷ P ∷ []
  pub receive_byte : (a r : ℕ) → plain 2 (message a 0 0 [] (r ∷ [])) ≡ S ∷ (2 * a + 1) ∷ A ∷ r ∷ N ∷ P ∷ []
  pub receive_byte_pec : (a r : ℕ) → checked 2 (message a 0 0 [] (r ∷ [])) ≡ S ∷ (2 * a + 1) ∷ A ∷ r ∷ A ∷ pec ((2 * a + 1) ∷ r ∷ []) ∷ N ∷ P ∷ []
  pub write_byte : (a c d : ℕ) → plain 3 (message a 0 c (d ∷ []) []) ≡ S ∷ 2 * a ∷ A ∷ c ∷ A ∷ d ∷ A ∷ P ∷ []
  pub write_byte_pec : (a c d : ℕ) → checked 3 (message a 0 c (d ∷ []) []) ≡ S ∷ 2 * a ∷ A ∷ c ∷ A ∷ d ∷ A ∷ pec (2 * a ∷ c ∷ d ∷ []) ∷ A ∷ P ∷ []
  pub write_word : (a c l h : ℕ) → plain 4 (message a 0 c (l ∷ h ∷ []) []) ≡ S ∷ 2 * a ∷ A ∷ c ∷ A ∷ l ∷ A ∷ h ∷ A ∷ P ∷ []
  pub write_word_pec : (a c l h : ℕ) → checked 4 (message a 0 c (l ∷ h ∷ []) [])
      ≡ S ∷ 2 * a ∷ A ∷ c ∷ A ∷ l ∷ A ∷ h ∷ A ∷ pec (2 * a ∷ c ∷ l ∷ h ∷ []) ∷ A ∷ P ∷ []
  pub read_byte : (a c r : ℕ) → plain 5 (message a 0 c [] (r ∷ [])) ≡ S ∷ 2 * a ∷ A ∷ c ∷ A ∷ S ∷ (2 * a + 1) ∷ A ∷ r ∷ N ∷ P ∷ []
  pub read_byte_pec : (a c r : ℕ) → checked 5 (message a 0 c [] (r ∷ []))
      ≡ S ∷ 2 * a ∷ A ∷ c ∷ A ∷ S ∷ (2 * a + 1) ∷ A ∷ r ∷ A ∷ pec (2 * a ∷ c ∷ (2 * a + 1) ∷ r ∷ []) ∷ N ∷ P ∷ []
  pub read_word : (a c l h : ℕ) → plain 6 (message a 0 c [] (l ∷ h ∷ [])) ≡ S ∷ 2 * a ∷ A ∷ c ∷ A ∷ S ∷ (2 * a + 1) ∷ A ∷ l ∷ A ∷ h ∷ N ∷ P ∷ []
  pub read_word_pec : (a c l h : ℕ) → checked 6 (message a 0 c [] (l ∷ h ∷ []))
      ≡ S ∷ 2 * a ∷ A ∷ c ∷ A ∷ S ∷ (2 * a + 1) ∷ A ∷ l ∷ A ∷ h ∷ A ∷ pec (2 * a ∷ c ∷ (2 * a + 1) ∷ l ∷ h ∷ []) ∷ N ∷ P ∷ []
  pub process_call : (a c l h m n : ℕ) → plain 7 (message a 0 c (l ∷ h ∷ []) (m ∷ n ∷ []))
      ≡ S ∷ 2 * a ∷ A ∷ c ∷ A ∷ l ∷ A ∷ h ∷ A ∷ S ∷ (2 * a + 1) ∷ A ∷ m ∷ A ∷ n ∷ N ∷ P ∷ []
  pub process_call_pec : (a c l h m n : ℕ) → checked 7 (message a 0 c (l ∷ h ∷ []) (m ∷ n ∷ []))
      ≡ S ∷ 2 * a ∷ A ∷ c ∷ A ∷ l ∷ A ∷ h ∷ A ∷ S ∷ (2 * a + 1) ∷ A ∷ m ∷ A ∷ n ∷ A
      ∷ pec (2 * a ∷ c ∷ l ∷ h ∷ (2 * a + 1) ∷ m ∷ n ∷ []) ∷ N ∷ P ∷ []
  pub block_write : (a c : ℕ) (d : List ℕ) → plain 8 (message a 0 c d []) ≡ S ∷ 2 * a ∷ A ∷ c ∷ A ∷ length d ∷ A ∷ (acked d ++ P ∷ [])
  pub block_write_pec : (a c : ℕ) (d : List ℕ) → checked 8 (message a 0 c d [])
      ≡ S ∷ 2 * a ∷ A ∷ c ∷ A ∷ length d ∷ A ∷ (acked d ++ pec (2 * a ∷ c ∷ length d ∷ d) ∷ A ∷ P ∷ [])
  pub block_read_none : (a c : ℕ) → plain 9 (message a 0 c [] []) ≡ S ∷ 2 * a ∷ A ∷ c ∷ A ∷ S ∷ (2 * a + 1) ∷ A ∷ 0 ∷ N ∷ P ∷ []
  pub block_read : (a c : ℕ) (r : List ℕ) (s : ℕ) → plain 9 (message a 0 c [] (r ++ s ∷ []))
      ≡ S ∷ 2 * a ∷ A ∷ c ∷ A ∷ S ∷ (2 * a + 1) ∷ A ∷ (length r + 1) ∷ A ∷ (acked r ++ s ∷ N ∷ P ∷ [])
  pub block_read_pec : (a c : ℕ) (r : List ℕ) → checked 9 (message a 0 c [] r)
      ≡ S ∷ 2 * a ∷ A ∷ c ∷ A ∷ S ∷ (2 * a + 1) ∷ A ∷ length r ∷ A ∷ (acked r ++ pec (2 * a ∷ c ∷ (2 * a + 1) ∷ length r ∷ r) ∷ N ∷ P ∷ [])
  pub block_process_call_none : (a c : ℕ) (d : List ℕ) → plain 10 (message a 0 c d [])
      ≡ S ∷ 2 * a ∷ A ∷ c ∷ A ∷ length d ∷ A ∷ (acked d ++ S ∷ (2 * a + 1) ∷ A ∷ 0 ∷ N ∷ P ∷ [])
  pub block_process_call : (a c : ℕ) (d r : List ℕ) (s : ℕ) → plain 10 (message a 0 c d (r ++ s ∷ []))
      ≡ S ∷ 2 * a ∷ A ∷ c ∷ A ∷ length d ∷ A ∷ (acked d ++ S ∷ (2 * a + 1) ∷ A ∷ (length r + 1) ∷ A ∷ (acked r ++ s ∷ N ∷ P ∷ []))
  pub block_process_call_pec : (a c : ℕ) (d r : List ℕ) → checked 10 (message a 0 c d r)
      ≡ S ∷ 2 * a ∷ A ∷ c ∷ A ∷ length d ∷ A
      ∷ (acked d ++ S ∷ (2 * a + 1) ∷ A ∷ length r ∷ A ∷ (acked r ++ pec (2 * a ∷ c ∷ length d ∷ (d ++ (2 * a + 1) ∷ length r ∷ r)) ∷ N ∷ P ∷ []))
