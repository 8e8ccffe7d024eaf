-- The rows of words, by the word: w = l + 256 h goes as the byte l, then the byte h. WordRowsLaws proves them.
use Rattle.std.specs.Prelude.{◌≡◌, [], ◌∷◌, ℕ, ◌+◌, ◌*◌, ◌<◌}
use Rattle.wire.specs.Words.{word_bytes}
use Rattle.pec.specs.Pec.{pec_of as pec}
use Rattle.trace.specs.Rows.{S, P, A, N, message, plain, checked}

-- a is the address, c the command, w the word sent, v the word received
pub record WordRows : Type 0 where
  pub write_word : (a c w l h : ℕ) → l < 256 → w ≡ l + 256 * h → plain 4 (message a 0 c (word_bytes w) []) ≡ S ∷ 2 * a ∷ A ∷ c ∷ A ∷ l ∷ A ∷ h ∷ A ∷ P ∷ []
  pub write_word_pec : (a c w l h : ℕ) → l < 256 → w ≡ l + 256 * h → checked 4 (message a 0 c (word_bytes w) [])
      ≡ S ∷ 2 * a ∷ A ∷ c ∷ A ∷ l ∷ A ∷ h ∷ A ∷ pec (2 * a ∷ c ∷ l ∷ h ∷ []) ∷ A ∷ P ∷ []
  pub read_word : (a c v m n : ℕ) → m < 256 → v ≡ m + 256 * n → plain 6 (message a 0 c [] (word_bytes v))
      ≡ S ∷ 2 * a ∷ A ∷ c ∷ A ∷ S ∷ (2 * a + 1) ∷ A ∷ m ∷ A ∷ n ∷ N ∷ P ∷ []
  pub read_word_pec : (a c v m n : ℕ) → m < 256 → v ≡ m + 256 * n → checked 6 (message a 0 c [] (word_bytes v))
      ≡ S ∷ 2 * a ∷ A ∷ c ∷ A ∷ S ∷ (2 * a + 1) ∷ A ∷ m ∷ A ∷ n ∷ A ∷ pec (2 * a ∷ c ∷ (2 * a + 1) ∷ m ∷ n ∷ []) ∷ N ∷ P ∷ []
  pub process_call : (a c w l h v m n : ℕ) → l < 256 → w ≡ l + 256 * h → m < 256 → v ≡ m + 256 * n → plain 7 (message a 0 c (word_bytes w) (word_bytes v))
      ≡ S ∷ 2 * a ∷ A ∷ c ∷ A ∷ l ∷ A ∷ h ∷ A ∷ S ∷ (2 * a + 1) ∷ A ∷ m ∷ A ∷ n ∷ N ∷ P ∷ []
  pub process_call_pec : (a c w l h v m n : ℕ) → l < 256 → w ≡ l + 256 * h → m < 256 → v ≡ m + 256 * n → checked 7 (message a 0 c (word_bytes w) (word_bytes v))
      ≡ S ∷ 2 * a ∷ A ∷ c ∷ A ∷ l ∷ A ∷ h ∷ A ∷ S ∷ (2 * a + 1) ∷ A ∷ m ∷ A ∷ n ∷ A ∷ pec (2 * a ∷ c ∷ l ∷ h ∷ (2 * a + 1) ∷ m ∷ n ∷ []) ∷ N ∷ P ∷ []
