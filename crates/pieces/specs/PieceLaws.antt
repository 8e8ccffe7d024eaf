-- Texts one after another, and the bytes of an identifier.
use Rattle.std.specs.Prelude.{ℕ, zero, suc, ◌+◌, ◌-◌, ◌<◌, ◌≤◌, ◌≡◌, List, [], ◌++◌, length}
use Rattle.std.proofs.Common.{refl, sym, ap, ◌∙◌, append-nil, add-one, zero-add, append_assoc, arith, drop_of_length-le}
use Rattle.udid.specs.declared.Udid.{Udid}
use Rattle.udid.specs.Bytes.{udid_bytes, put_at}
use Rattle.udid.proofs.UdidLaws.{length_udid}
use Rattle.pieces.specs.Pieces.{texts, below}
use Rattle.writing.specs.PageLaws.{pages}

texts_on : (f : ℕ → List ℕ) (i k m : ℕ) → k ≡ suc m → texts f i k ≡ f i ++ texts f (i + 1) m
unfolding texts
texts_on f i k m e = rw (e, add-one i)

-- the text of a number, and of those after it
pub below_on : (f : ℕ → List ℕ) (i n : ℕ) → i < n → below f i n ≡ f i ++ below f (i + 1) n
unfolding below
below_on f i n h = texts_on f i (n - i) (n - (i + 1)) (omega arith)

texts_over : (f : ℕ → List ℕ) (i k : ℕ) → k ≡ 0 → texts f i k ≡ []
unfolding texts
texts_over f i k e = rw e

-- no number is left
pub below_over : (f : ℕ → List ℕ) (i n : ℕ) → n ≤ i → below f i n ≡ []
unfolding below
below_over f i n h = texts_over f i (n - i) (omega arith)

-- the bytes of an identifier in a buffer of 16
pub whole : (l : List ℕ) (u : Udid) → length l ≡ 16 → put_at l 0 (udid_bytes u) ≡ udid_bytes u
unfolding put_at
whole l u e =
    rw (length_udid u, e, drop_of_length-le l {i = 0 + 16} (omega (arith, e))) (append-nil (udid_bytes u))

texts_more : (f : ℕ → List ℕ) (i k : ℕ) → texts f i (suc k) ≡ texts f i k ++ f (i + k)
unfolding texts
texts_more f i zero = rw append-nil (ap f (omega arith))
texts_more f i (suc k) =
    let e : suc i + k ≡ i + suc k = omega arith in
    ap (λ (z : List ℕ). f i ++ z) (texts_more f (suc i) k ∙ ap (λ (j : ℕ). texts f (suc i) k ++ f j) e)
    ∙ sym (append_assoc (f i) (texts f (suc i) k) (f (i + suc k)))

-- no number, and one number more
pub below_none : (f : ℕ → List ℕ) → below f 0 0 ≡ []
unfolding below texts
below_none f = refl

pub below_more : (f : ℕ → List ℕ) (n : ℕ) → below f 0 (n + 1) ≡ below f 0 n ++ f n
unfolding below
below_more f n =
    let e : n + 1 - 0 ≡ suc n = omega arith in
    let e' : n - 0 ≡ n = omega arith in
    rw (e, e') (texts_more f 0 n ∙ ap (λ (j : ℕ). texts f 0 n ++ f j) (zero-add n))

-- what the check uses where text is added number after number
pub ruleset pieces = (pages, below_none, below_more)
