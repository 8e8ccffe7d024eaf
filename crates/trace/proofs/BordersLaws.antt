-- In the trace of each protocol the target's part and the controller's are what Borders says.
use Rattle.std.specs.Prelude.{◌≡◌, refl, List, [], ◌∷◌, ℕ, ◌+◌, ◌*◌, length}
use Rattle.std.proofs.Common.{ap, append-nil, arith}
use Rattle.trace.specs.Trace.{acked}
use Rattle.trace.proofs.RowsLaws.{counted_plain, counted_checked}
use Rattle.trace.specs.Rows.{S, A}
use Rattle.trace.specs.Borders.{Borders}

pub borders : Borders
borders =
    record {
      quick_write = λ a. (let e : 2 * a + 0 ≡ 2 * a = omega arith in ap (λ (n : ℕ). S ∷ n ∷ A ∷ []) e, refl);
      quick_read = λ a. (refl, refl);
      send_byte = λ a d. (refl, refl);
      send_byte_pec = λ a d y. (refl, refl);
      receive_byte = λ a r. (refl, refl);
      receive_byte_pec = λ a r y. (refl, refl);
      write_byte = λ a c d. (refl, refl);
      write_byte_pec = λ a c d y. (refl, refl);
      write_word = λ a c l h. (refl, refl);
      write_word_pec = λ a c l h y. (refl, refl);
      read_byte = λ a c r. (refl, refl);
      read_byte_pec = λ a c r y. (refl, refl);
      read_word = λ a c m n. (refl, refl);
      read_word_pec = λ a c m n y. (refl, refl);
      process_call = λ a c l h m n. (refl, refl);
      process_call_pec = λ a c l h m n y. (refl, refl);
      block_write = λ a c d. (ap (λ (l : List ℕ). S ∷ 2 * a ∷ A ∷ c ∷ A ∷ length d ∷ A ∷ l) (append-nil (acked d)), refl);
      block_write_pec = λ a c d y. (refl, refl);
      block_read_none = λ a c. (refl, refl);
      block_read = λ a c r s. (refl, counted_plain r s);
      block_read_pec = λ a c r y. (refl, counted_checked r y);
      block_process_call_none = λ a c d. (refl, refl);
      block_process_call = λ a c d r s. (refl, counted_plain r s);
      block_process_call_pec = λ a c d r y. (refl, counted_checked r y);
    }
