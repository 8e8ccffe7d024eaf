-- A byte put among bytes with their ACKs, in a part of a list, in the data of a part, in the bytes up to the last one sent.
use Rattle.std.specs.Prelude.{◌≡◌, refl, Bool, true, false, List, [], ◌∷◌, ◌++◌, ℕ, zero, suc, ◌+◌, ◌*◌, ◌≤◌, ◌<◌, length, set}
use Rattle.std.proofs.Common.{sym, ap, ap₂, ◌∙◌, subst, zero-add, arith, length-set}
use Rattle.std.proofs.lemmas.List.{set-append_left}
use Rattle.lists.specs.Choice.{pick}
use Rattle.trace.proofs.AckedLaws.{double_suc}
use Rattle.trace.proofs.LengthLaws.{laid_length}
use Rattle.trace.specs.Shapes.{is_counted}
use Rattle.trace.specs.Trace.{laid, acked, ack_of, nacked, LengthOf}
use Rattle.trace.specs.declared.shape.Part.{Part}
use Rattle.trace.specs.declared.shape.Part.TheVariants.{Nothing, Fixed, Counted}

pub set_acked : (xs : List ℕ) (i b : ℕ) → set (acked xs) (2 * i) b ≡ acked (set xs i b)
set_acked [] i b = refl
set_acked (x ∷ xs) zero b = refl
set_acked (x ∷ xs) (suc i) b = ap (λ (k : ℕ). set (acked (x ∷ xs)) k b) (double_suc i) ∙ ap (λ (l : List ℕ). x ∷ 258 ∷ l) (set_acked xs i b)

set_ack : (xs : List ℕ) (i b : ℕ) → ack_of (set xs i b) ≡ ack_of xs
set_ack [] i b = refl
set_ack (x ∷ xs) zero b = refl
set_ack (x ∷ xs) (suc i) b = refl

pub set_nacked : (xs : List ℕ) (i b : ℕ) → set (nacked xs) (2 * i) b ≡ nacked (set xs i b)
set_nacked [] i b = refl
set_nacked (x ∷ xs) zero b = refl
set_nacked (x ∷ xs) (suc i) b =
    ap (λ (k : ℕ). set (nacked (x ∷ xs)) k b) (double_suc i) ∙ ap₂ (λ (a : ℕ) (l : List ℕ). x ∷ a ∷ l) (sym (set_ack xs i b)) (set_nacked xs i b)

pub set_append_right : (xs ys : List ℕ) (i b n : ℕ) → n ≡ length xs + i → set (xs ++ ys) n b ≡ xs ++ set ys i b
set_append_right [] ys i b n e = ap (λ (k : ℕ). set ys k b) (e ∙ zero-add i)
set_append_right (x ∷ xs) ys i b zero e = absurd (omega (arith, e))
set_append_right (x ∷ xs) ys i b (suc n) e = ap (λ (l : List ℕ). x ∷ l) (set_append_right xs ys i b n (omega (arith, e)))

-- ---- data of a part

pub same_length_of : (least : ℕ) (a : Part) (s r : List ℕ) → length r ≡ length s → LengthOf least a s → LengthOf least a r
same_length_of least Nothing s r e h = e ∙ h
same_length_of least (Fixed k) s r e h = e ∙ h
same_length_of least Counted s r e h = subst (λ (n : ℕ). least ≤ n) (sym e) h

-- a data byte, behind the count where there is one
set_part : (a : Part) (s : List ℕ) (i b : ℕ) → set (laid a s) (pick (is_counted a) 1 0 + i) b ≡ laid a (set s i b)
set_part Nothing s i b = ap (λ (n : ℕ). set s n b) (zero-add i)
set_part (Fixed k) s i b = ap (λ (n : ℕ). set s n b) (zero-add i)
set_part Counted s i b = ap (λ (n : ℕ). set (length s ∷ s) n b) (one_add i) ∙ ap (λ (n : ℕ). n ∷ set s i b) (sym (length-set s i b))
  where
    one_add : (i : ℕ) → 1 + i ≡ suc i
    one_add i = omega arith

-- with something behind it
pub set_laid : (a : Part) (s q : List ℕ) (i b : ℕ) → i < length s → set (laid a s ++ q) (pick (is_counted a) 1 0 + i) b ≡ laid a (set s i b) ++ q
set_laid a s q i b h = set-append_left (laid a s) q (pick (is_counted a) 1 0 + i) b (omega (arith, h, laid_length a s)) ∙ ap (λ (l : List ℕ). l ++ q) (set_part a s i b)

-- ---- the bytes from the first address byte to the last data byte sent

-- the command
pub set_command : (k : Bool) (f c b : ℕ) (l : List ℕ) → k ≡ true → set (f ∷ (pick k (c ∷ []) [] ++ l)) 1 b ≡ f ∷ (pick k (b ∷ []) [] ++ l)
set_command k f c b l e = rw e

-- a data byte
pub set_sent : (k : Bool) (f c : ℕ) (a : Part) (s : List ℕ) (i b : ℕ)
    → set (f ∷ (pick k (c ∷ []) [] ++ laid a s)) (1 + pick k 1 0 + pick (is_counted a) 1 0 + i) b ≡ f ∷ (pick k (c ∷ []) [] ++ laid a (set s i b))
set_sent k f c a s i b =
    set_append_right (f ∷ pick k (c ∷ []) []) (laid a s) (pick (is_counted a) 1 0 + i) b (1 + pick k 1 0 + pick (is_counted a) 1 0 + i) (omega (arith, command_length k))
    ∙ ap (λ (l : List ℕ). f ∷ (pick k (c ∷ []) [] ++ l)) (set_part a s i b)
  where
    command_length : (k : Bool) → length (pick k (c ∷ []) []) ≡ pick k 1 0
    command_length true = refl
    command_length false = refl
