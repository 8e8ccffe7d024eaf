-- The one definition of a trace gives every row of the scope's table, with PEC and without.
use Rattle.std.specs.Prelude.{◌≡◌, refl, List, [], ◌∷◌, ◌++◌, ℕ, ◌+◌, ◌*◌, length}
use Rattle.std.proofs.Common.{ap, ◌∙◌, append_assoc, append-nil, arith, length-append}
use Rattle.pec.specs.Pec.{pec_of as pec}
use Rattle.trace.specs.Trace.{W, R, acked, ack_of, nacked}
use Rattle.trace.specs.Rows.{S, P, A, N, Rows}

-- the last of the bytes received gets N, those before it A
ack_before : (xs : List ℕ) (x : ℕ) → ack_of (xs ++ x ∷ []) ≡ A
ack_before [] x = refl
ack_before (y ∷ ys) x = refl

last_nacked : (xs : List ℕ) (x : ℕ) → nacked (xs ++ x ∷ []) ≡ acked xs ++ x ∷ N ∷ []
last_nacked [] x = refl
last_nacked (y ∷ ys) x = rw (ack_before ys x, last_nacked ys x)

-- with STOP behind, and no PEC or one
ends_plain : (r : List ℕ) (s : ℕ) → nacked ((r ++ s ∷ []) ++ []) ++ P ∷ [] ≡ acked r ++ s ∷ N ∷ P ∷ []
ends_plain r s = rw (append-nil (r ++ s ∷ []), last_nacked r s, append_assoc (acked r) (s ∷ N ∷ []) (P ∷ []))

pub ends_checked : (r : List ℕ) (y : ℕ) → nacked (r ++ y ∷ []) ++ P ∷ [] ≡ acked r ++ y ∷ N ∷ P ∷ []
ends_checked r y = rw (last_nacked r y, append_assoc (acked r) (y ∷ N ∷ []) (P ∷ []))

pub counted_plain : (r : List ℕ) (s : ℕ) → nacked (length (r ++ s ∷ []) ∷ ((r ++ s ∷ []) ++ [])) ++ P ∷ [] ≡ (length r + 1) ∷ A ∷ (acked r ++ s ∷ N ∷ P ∷ [])
counted_plain r s =
    let k : ack_of ((r ++ s ∷ []) ++ []) ≡ A = ap ack_of (append-nil (r ++ s ∷ [])) ∙ ack_before r s in
    rw (length-append r (s ∷ []), k, ends_plain r s)

pub counted_checked : (r : List ℕ) (y : ℕ) → nacked (length r ∷ (r ++ y ∷ [])) ++ P ∷ [] ≡ length r ∷ A ∷ (acked r ++ y ∷ N ∷ P ∷ [])
counted_checked r y = rw (ack_before r y, ends_checked r y)

-- the ends of the blocks sent: STOP, PEC and STOP, or the turn to a read
sent_plain : (d : List ℕ) → (acked d ++ []) ++ P ∷ [] ≡ acked d ++ P ∷ []
sent_plain d = ap (λ (l : List ℕ). l ++ P ∷ []) (append-nil (acked d))

sent_checked : (f c n : ℕ) (d : List ℕ)
    → (acked d ++ pec (f ∷ c ∷ n ∷ (d ++ [])) ∷ A ∷ []) ++ P ∷ [] ≡ acked d ++ pec (f ∷ c ∷ n ∷ d) ∷ A ∷ P ∷ []
sent_checked f c n d =
    append_assoc (acked d) (pec (f ∷ c ∷ n ∷ (d ++ [])) ∷ A ∷ []) (P ∷ []) ∙ ap (λ (l : List ℕ). acked d ++ pec (f ∷ c ∷ n ∷ l) ∷ A ∷ P ∷ []) (append-nil d)

turned : (d : List ℕ) (b : ℕ) (l m : List ℕ) → l ≡ m → (acked d ++ S ∷ b ∷ A ∷ []) ++ l ≡ acked d ++ S ∷ b ∷ A ∷ m
turned d b l m e = append_assoc (acked d) (S ∷ b ∷ A ∷ []) l ∙ ap (λ (n : List ℕ). acked d ++ S ∷ b ∷ A ∷ n) e

-- what stands before a block's data
abbrev head : ℕ → ℕ → ℕ → List ℕ → List ℕ
head f c n l = S ∷ f ∷ A ∷ c ∷ A ∷ n ∷ A ∷ l

pub rows : Rows
rows =
    record {
      quick_write = λ a. (let e : 2 * a + 0 ≡ W a = omega arith in ap (λ (n : ℕ). S ∷ n ∷ A ∷ P ∷ []) e);
      quick_read = λ a. refl;
      send_byte = λ a d. refl;
      send_byte_pec = λ a d. refl;
      receive_byte = λ a r. refl;
      receive_byte_pec = λ a r. refl;
      write_byte = λ a c d. refl;
      write_byte_pec = λ a c d. refl;
      write_word = λ a c l h. refl;
      write_word_pec = λ a c l h. refl;
      read_byte = λ a c r. refl;
      read_byte_pec = λ a c r. refl;
      read_word = λ a c l h. refl;
      read_word_pec = λ a c l h. refl;
      process_call = λ a c l h m n. refl;
      process_call_pec = λ a c l h m n. refl;
      block_write = λ a c d. ap (head (W a) c (length d)) (sent_plain d);
      block_write_pec = λ a c d. ap (head (W a) c (length d)) (sent_checked (W a) c (length d) d);
      block_read_none = λ a c. refl;
      block_read = λ a c r s. ap (λ (l : List ℕ). S ∷ W a ∷ A ∷ c ∷ A ∷ S ∷ R a ∷ A ∷ l) (counted_plain r s);
      block_read_pec = λ a c r. ap (λ (l : List ℕ). S ∷ W a ∷ A ∷ c ∷ A ∷ S ∷ R a ∷ A ∷ l) (counted_checked r _);
      block_process_call_none = λ a c d. ap (head (W a) c (length d)) (turned d (R a) _ _ refl);
      block_process_call = λ a c d r s. ap (head (W a) c (length d)) (turned d (R a) _ _ (counted_plain r s));
      block_process_call_pec = λ a c d r. ap (head (W a) c (length d)) (turned d (R a) _ _ (counted_checked r _));
    }
