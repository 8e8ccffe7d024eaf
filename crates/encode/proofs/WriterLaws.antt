-- Laws of the writers: stores at the end of what is written, one writer after another, and the NACK of the last byte.
use mathlib.Core.Path.{◌≡◌, refl, sym, ap, ◌∙◌}
use mathlib.Core.Bool.{Bool, true, false}
use mathlib.Core.List.{List, [], ◌∷◌, ◌++◌, append_assoc}
use Prim.Native.Nat.{ℕ, zero, suc, ◌+◌, ◌-◌, ◌*◌, ◌≤◌, ◌<◌}
use native.Mathlib.Numerals.{add-one}
use native.Mathlib.Nat.{not-suc-le-zero}
use native.Mathlib.Omega.{arith}
use lib.ListN.{length, take, drop, get_or, set, length-append}
use lib.Seq.{take-suc, length-take-le}
use Rattle.lists.specs.ChoiceLaws.{false_not_true}
use Rattle.lists.specs.Onto.{onto}
use Rattle.lists.specs.OntoLaws.{onto_put, onto_onto, onto_take}
use Rattle.wire.specs.Symbols.{START, STOP, ACK, NACK}
use Rattle.trace.specs.Trace.{acked, nacked, in_place}
use Rattle.trace.proofs.AckedLaws.{double_suc_plus_one}
use Rattle.trace.proofs.LengthLaws.{length_acked, length_nacked}
use Rattle.encode.specs.Pieces.{repeated_start}

pub acked_append : (xs ys : List ℕ) → acked (xs ++ ys) ≡ acked xs ++ acked ys
acked_append [] ys = refl
acked_append (x ∷ xs) ys = ap (λ (l : List ℕ). x ∷ ACK ∷ l) (acked_append xs ys)

-- a byte and its ACK at the end of what is written
onto_byte : (p l : List ℕ) (b n : ℕ) → length p ≡ n → n + 2 ≤ length l → set (set (onto p l) n b) (n + 1) ACK ≡ onto (p ++ b ∷ ACK ∷ []) l
onto_byte p l b n e h =
    rw (onto_put p l b n e (omega arith), onto_put (p ++ b ∷ []) l ACK (n + 1) (omega (arith, length-append p (b ∷ []))) (omega arith), append_assoc p (b ∷ []) (ACK ∷ []))

-- a byte as a symbol
pub byte_below_65536 : (b : ℕ) → b < 256 → b < 65536
byte_below_65536 b h = omega arith

-- the turn of the loop of `put_acked`
pub acked_turn : (p s l : List ℕ) (i n j : ℕ) → length p ≡ n → i < length s → n + 2 * length s ≤ length l → j ≡ n + 2 * i
    → set (set (onto (p ++ acked (take i s)) l) j (get_or s i 0)) (j + 1) ACK ≡ onto (p ++ acked (take (i + 1) s)) l
acked_turn p s l i n j e h r g =
    let k : length (take i s) ≡ i = length-take-le i s (omega arith) in
    let b : ℕ = get_or s i 0 in
    rw (
      onto_byte (p ++ acked (take i s)) l b j (omega (arith, length-append p (acked (take i s)), length_acked (take i s))) (omega arith),
      add-one i,
      take-suc s i 0 h,
      acked_append (take i s) (b ∷ []),
      append_assoc p (acked (take i s)) (b ∷ ACK ∷ []),
    )

-- one byte, where it is written
pub put_byte : (l : List ℕ) (n y : ℕ) → n + 2 ≤ length l → set (set l n y) (n + 1) ACK ≡ onto (take n l ++ y ∷ ACK ∷ []) l
put_byte l n y h =
    ap (λ (t : List ℕ). set (set t n y) (n + 1) ACK) (onto_take l n (omega arith)) ∙ onto_byte (take n l) l y n (length-take-le n l (omega arith)) h

pub yes_room : (b : Bool) (y n m : ℕ) → b ≡ true → n + 2 * length (in_place b y) ≤ m → n + 2 ≤ m
yes_room true y n m e h = omega arith
yes_room false y n m e h = false_not_true e

-- START, a byte and its ACK at the front
pub put_start : (l : List ℕ) (b : ℕ) → 3 ≤ length l → set (set (set l 0 START) 1 b) 2 ACK ≡ onto (START ∷ b ∷ ACK ∷ []) l
put_start l b h =
    ap (λ (t : List ℕ). set (set t 1 b) 2 ACK) (onto_put [] l START 0 refl (omega arith))
    ∙ ap (λ (t : List ℕ). set t 2 ACK) (onto_put (START ∷ []) l b 1 refl (omega arith))
    ∙ onto_put (START ∷ b ∷ []) l ACK 2 refl (omega arith)

pub turn_room : (b : Bool) (g m : ℕ) → b ≡ true → length (repeated_start b g) ≤ m → 3 ≤ m
turn_room true g m e h = omega arith
turn_room false g m e h = false_not_true e

-- one writer after another
pub onto_next : (xs ys l l₁ l₂ : List ℕ) (n : ℕ) → l₁ ≡ onto xs l → length xs ≡ n → l₂ ≡ onto (take n l₁ ++ ys) l₁ → l₂ ≡ onto (xs ++ ys) l
onto_next xs ys l l₁ l₂ n e g h = h ∙ ap (λ (t : List ℕ). onto (take n t ++ ys) t) e ∙ onto_onto xs ys l n g

-- more bytes with their ACKs, after some
pub onto_next_acked : (p xs ys l l₁ l₂ : List ℕ) (n : ℕ) → l₁ ≡ onto (p ++ acked xs) l → length p + 2 * length xs ≡ n → l₂ ≡ onto (take n l₁ ++ acked ys) l₁
    → l₂ ≡ onto (p ++ acked (xs ++ ys)) l
onto_next_acked p xs ys l l₁ l₂ n e g h =
    onto_next (p ++ acked xs) (acked ys) l l₁ l₂ n e (omega (arith, length-append p (acked xs), length_acked xs)) h
    ∙ ap (λ (t : List ℕ). onto t l) (append_assoc p (acked xs) (acked ys) ∙ ap (λ (t : List ℕ). p ++ t) (sym (acked_append xs ys)))

-- the last ACK becomes a NACK
nacked_acked : (x : ℕ) (xs l : List ℕ) → set (acked (x ∷ xs) ++ l) (2 * length xs + 1) NACK ≡ nacked (x ∷ xs) ++ l
nacked_acked x [] l = refl
nacked_acked x (y ∷ xs) l = rw double_suc_plus_one (ap (λ (t : List ℕ). x ∷ ACK ∷ t) (nacked_acked y xs l))

set_after : (p q : List ℕ) (n a i : ℕ) → i ≡ length p + n → set (p ++ q) i a ≡ p ++ set q n a
set_after [] q n a i e = let k : i ≡ n = omega arith in ap (λ (j : ℕ). set q j a) k
set_after (x ∷ p) q n a zero e = absurd (omega arith)
set_after (x ∷ p) q n a (suc i) e = ap (λ (t : List ℕ). x ∷ t) (set_after p q n a i (omega arith))

nacked_after : (p : List ℕ) (x : ℕ) (xs l : List ℕ) (n : ℕ) → n ≡ length p + (2 * length xs + 1) → set (p ++ (acked (x ∷ xs) ++ l)) n NACK ≡ p ++ (nacked (x ∷ xs) ++ l)
nacked_after p x xs l n e =
    set_after p (acked (x ∷ xs) ++ l) (2 * length xs + 1) NACK n e ∙ ap (λ (t : List ℕ). p ++ t) (nacked_acked x xs l)

-- and STOP follows it
pub onto_nack_stop : (p xs l : List ℕ) (e : ℕ) → 0 < length xs → e ≡ length p + 2 * length xs → e < length l
    → set (set (onto (p ++ acked xs) l) (e - 1) NACK) e STOP ≡ onto (p ++ (nacked xs ++ STOP ∷ [])) l
onto_nack_stop p [] l e z g h = absurd (not-suc-le-zero z)
onto_nack_stop p (x ∷ xs) l e z g h =
    let us : List ℕ = acked (x ∷ xs) in
    let ns : List ℕ = nacked (x ∷ xs) in
    let n : e - 1 ≡ length p + (2 * length xs + 1) = omega arith in
    let k : length (p ++ us) ≡ length (p ++ ns) = omega (arith, length-append p us, length-append p ns, length_acked (x ∷ xs), length_nacked (x ∷ xs)) in
    let q : length (p ++ ns) ≡ e = omega (arith, length-append p ns, length_nacked (x ∷ xs)) in
    ap (λ (t : List ℕ). set t e STOP)
    (ap (λ (t : List ℕ). set t (e - 1) NACK) (append_assoc p us (drop (length (p ++ us)) l))
    ∙ nacked_after p x xs (drop (length (p ++ us)) l) (e - 1) n
    ∙ ap (λ (j : ℕ). p ++ (ns ++ drop j l)) k
    ∙ sym (append_assoc p ns (drop (length (p ++ ns)) l)))
    ∙ onto_put (p ++ ns) l STOP e q h ∙ ap (λ (t : List ℕ). onto t l) (append_assoc p ns (STOP ∷ []))

-- STOP at the end of what is written
pub onto_stop : (xs l l₁ : List ℕ) (e : ℕ) → l₁ ≡ onto xs l → e ≡ length xs → e < length l → set l₁ e STOP ≡ onto (xs ++ STOP ∷ []) l
onto_stop xs l l₁ e h g k = ap (λ (t : List ℕ). set t e STOP) h ∙ onto_put xs l STOP e (sym g) k
