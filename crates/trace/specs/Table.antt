-- THE TABLE of the eleven protocols, row by row as the scope has it. 256 is S, 257 P, 258 A, 259 N; 2 * a and 2 * a + 1 are the address byte
-- for writing and for reading, c is the command, d data sent, r data received, l and h, m and n the bytes of words, the low one first.
-- `acked` puts A behind each byte; `nacked` puts A behind each byte and N behind the last. q stands in PEC's place: one byte, or none.
use Rattle.std.specs.Prelude.{◌≡◌, Bool, List, [], ◌∷◌, ◌++◌, ℕ, ◌+◌, ◌*◌, ◌≤◌, ◌<◌, length}
use Rattle.lists.specs.Each.{Bytes}
use Rattle.pec.specs.Pec.{pec_of}
use Rattle.wire.specs.Symbols.{START as S, STOP as P, ACK as A}
use Rattle.trace.specs.Trace.{Message, acked, nacked, in_place}
use Rattle.trace.specs.Rows.{message}

-- the number of the last row
abbrev pub last_protocol : ℕ
last_protocol = 10

-- a line of the table: the protocol, the message, every byte that PEC covers, the symbols up to the target's last ACK, and the rest, whose
-- ACKs are the controller's
pub record Line : Type 0 where
  pub protocol : ℕ
  pub message : Message
  pub covered : List ℕ
  pub by_target : List ℕ
  pub by_controller : List ℕ

abbrev pub line : ℕ → Message → List ℕ → List ℕ → List ℕ → Line
line p t b x y = record { protocol = p; message = t; covered = b; by_target = x; by_controller = y }

pub data Row (q : List ℕ) (x : Line) : Type 0 where
  quick : (a b : ℕ) → a < 128 → b ≤ 1 → q ≡ [] → x ≡ line 0 (message a b 0 [] []) ((2 * a + b) ∷ []) (S ∷ (2 * a + b) ∷ A ∷ []) (P ∷ []) → Row q x
  send_byte : (a d : ℕ) → a < 128 → d < 256
      → x ≡ line 1 (message a 0 0 (d ∷ []) []) (2 * a ∷ d ∷ []) (S ∷ 2 * a ∷ A ∷ d ∷ A ∷ acked q) (P ∷ []) → Row q x
  receive_byte : (a r : ℕ) → a < 128 → r < 256
      → x ≡ line 2 (message a 0 0 [] (r ∷ [])) ((2 * a + 1) ∷ r ∷ []) (S ∷ (2 * a + 1) ∷ A ∷ []) (nacked (r ∷ q) ++ P ∷ []) → Row q x
  write_byte : (a c d : ℕ) → a < 128 → c < 256 → d < 256
      → x ≡ line 3 (message a 0 c (d ∷ []) []) (2 * a ∷ c ∷ d ∷ []) (S ∷ 2 * a ∷ A ∷ c ∷ A ∷ d ∷ A ∷ acked q) (P ∷ []) → Row q x
  write_word : (a c l h : ℕ) → a < 128 → c < 256 → l < 256 → h < 256
      → x ≡ line 4 (message a 0 c (l ∷ h ∷ []) []) (2 * a ∷ c ∷ l ∷ h ∷ []) (S ∷ 2 * a ∷ A ∷ c ∷ A ∷ l ∷ A ∷ h ∷ A ∷ acked q) (P ∷ []) → Row q x
  read_byte : (a c r : ℕ) → a < 128 → c < 256 → r < 256
      → x ≡ line 5 (message a 0 c [] (r ∷ [])) (2 * a ∷ c ∷ (2 * a + 1) ∷ r ∷ []) (S ∷ 2 * a ∷ A ∷ c ∷ A ∷ S ∷ (2 * a + 1) ∷ A ∷ []) (nacked (r ∷ q) ++ P ∷ []) → Row q x
  read_word : (a c l h : ℕ) → a < 128 → c < 256 → l < 256 → h < 256
      → x ≡ line 6 (message a 0 c [] (l ∷ h ∷ [])) (2 * a ∷ c ∷ (2 * a + 1) ∷ l ∷ h ∷ []) (S ∷ 2 * a ∷ A ∷ c ∷ A ∷ S ∷ (2 * a + 1) ∷ A ∷ []) (nacked (l ∷ h ∷ q) ++ P ∷ []) → Row q x
  process_call : (a c l h m n : ℕ) → a < 128 → c < 256 → l < 256 → h < 256 → m < 256 → n < 256
      → x ≡ line 7 (message a 0 c (l ∷ h ∷ []) (m ∷ n ∷ [])) (2 * a ∷ c ∷ l ∷ h ∷ (2 * a + 1) ∷ m ∷ n ∷ []) (S ∷ 2 * a ∷ A ∷ c ∷ A ∷ l ∷ A ∷ h ∷ A ∷ S ∷ (2 * a + 1) ∷ A ∷ []) (nacked (m ∷ n ∷ q) ++ P ∷ []) → Row q x
  block_write : (a c : ℕ) (d : List ℕ) → a < 128 → c < 256 → Bytes d → length d ≤ 255
      → x ≡ line 8 (message a 0 c d []) (2 * a ∷ c ∷ length d ∷ d) (S ∷ 2 * a ∷ A ∷ c ∷ A ∷ length d ∷ A ∷ (acked d ++ acked q)) (P ∷ []) → Row q x
  block_read : (a c : ℕ) (r : List ℕ) → a < 128 → c < 256 → Bytes r → length r ≤ 255
      → x ≡ line 9 (message a 0 c [] r) (2 * a ∷ c ∷ (2 * a + 1) ∷ length r ∷ r) (S ∷ 2 * a ∷ A ∷ c ∷ A ∷ S ∷ (2 * a + 1) ∷ A ∷ []) (nacked (length r ∷ (r ++ q)) ++ P ∷ []) → Row q x
  block_process_call : (a c : ℕ) (d r : List ℕ) → a < 128 → c < 256 → Bytes d → Bytes r → length d + length r ≤ 255
      → x ≡ line 10 (message a 0 c d r) (2 * a ∷ c ∷ length d ∷ (d ++ (2 * a + 1) ∷ length r ∷ r)) (S ∷ 2 * a ∷ A ∷ c ∷ A ∷ length d ∷ A ∷ (acked d ++ S ∷ (2 * a + 1) ∷ A ∷ [])) (nacked (length r ∷ (r ++ q)) ++ P ∷ []) → Row q x

-- a line of the protocol, with the byte y in PEC's place where PEC is used
abbrev pub InTable : ℕ → Bool → ℕ → Line → Type 0
InTable protocol pec y x = Row (in_place pec y) x × (x.protocol ≡ protocol) × (y < 256)

abbrev pub symbols : Line → List ℕ
symbols x = x.by_target ++ x.by_controller

-- THE TRACE of a message: a line of its protocol, with the PEC of the bytes that it covers
abbrev pub TraceOf : ℕ → Bool → Message → List ℕ → Type 0
TraceOf protocol pec t tr = (x : Line) × Row (in_place pec (pec_of x.covered)) x × (x.protocol ≡ protocol) × (x.message ≡ t) × (tr ≡ symbols x)
