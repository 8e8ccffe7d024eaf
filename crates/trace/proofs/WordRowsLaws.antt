-- The rows hold by the word: its low byte goes first, then its high byte.
use Rattle.std.specs.Prelude.{◌≡◌, List, [], ◌∷◌, ℕ, ◌+◌, ◌*◌, ◌<◌}
use Rattle.std.proofs.Common.{ap, ap₂, ◌∙◌}
use Rattle.wire.specs.Words.{word_bytes}
use Rattle.wire.proofs.WordsLaws.{low_is, high_is}
use Rattle.trace.proofs.RowsLaws.{rows}
use Rattle.trace.specs.Rows.{message, plain, checked}
use Rattle.trace.specs.WordRows.{WordRows}

-- a word's bytes in the order in which they go
pub word_bytes_are : (w l h : ℕ) → l < 256 → w ≡ l + 256 * h → word_bytes w ≡ l ∷ h ∷ []
word_bytes_are w l h k e = ap word_bytes e ∙ ap₂ (λ (x y : ℕ). x ∷ y ∷ []) (low_is l h k) (high_is l h k)

pub word_rows : WordRows
word_rows =
    record {
      write_word = λ a c w l h k e. ap (λ (s : List ℕ). plain 4 (message a 0 c s [])) (word_bytes_are w l h k e) ∙ rows.write_word a c l h;
      write_word_pec = λ a c w l h k e. ap (λ (s : List ℕ). checked 4 (message a 0 c s [])) (word_bytes_are w l h k e) ∙ rows.write_word_pec a c l h;
      read_word = λ a c v m n k e. ap (λ (r : List ℕ). plain 6 (message a 0 c [] r)) (word_bytes_are v m n k e) ∙ rows.read_word a c m n;
      read_word_pec = λ a c v m n k e. ap (λ (r : List ℕ). checked 6 (message a 0 c [] r)) (word_bytes_are v m n k e) ∙ rows.read_word_pec a c m n;
      process_call = λ a c w l h v m n k e j f. ap₂ (λ (s r : List ℕ). plain 7 (message a 0 c s r)) (word_bytes_are w l h k e) (word_bytes_are v m n j f) ∙ rows.process_call a c l h m n;
      process_call_pec = λ a c w l h v m n k e j f. ap₂ (λ (s r : List ℕ). checked 7 (message a 0 c s r)) (word_bytes_are w l h k e) (word_bytes_are v m n j f) ∙ rows.process_call_pec a c l h m n;
    }
