-- A PEC is right exactly if the message is a multiple of x^8+x^2+x+1. So a change is not caught exactly if what it flips is a multiple.
use Rattle.std.specs.Prelude.{◌≡◌, refl, ◌↔◌, List, [], ◌∷◌, ◌++◌, ℕ, zero, suc, ◌+◌, ◌*◌, ◌/◌, ◌%◌, ◌^◌, ◌<◌, length}
use Rattle.std.proofs.Common.{sym, ap, ◌∙◌, subst, mul_comm, mul_assoc, pow-suc, one-mul, arith, length-append}
use Rattle.std.specs.Int.Bits.{bit_xor, xor_shifted}
use Rattle.lists.specs.Each.{Bytes}
use Rattle.pec.specs.Pec.{pec_of}
use Rattle.pec.specs.PecDivision.{times_g, polynomial_from, polynomial}
use Rattle.pec.proofs.PecDivisionLaws.{small_multiple, pec_is_remainder}
use Rattle.pec.proofs.PecBitLaws.{xor_odd, xor_twice, xor_back, times_g_xor, times_g_double}
use Rattle.catches.specs.Changes.{RightPec, Came}
use Rattle.catches.specs.Multiples.{Multiple, flips}

-- ---- bytes and the byte after them

-- a list that is not empty has a last byte
with_last_lem : (x : ℕ) (xs : List ℕ) → (bs : List ℕ) × (y : ℕ) × (x ∷ xs ≡ bs ++ y ∷ [])
with_last_lem x [] = ([], x, refl)
with_last_lem x (y ∷ xs) = let (bs, z, e) = with_last_lem y xs in (x ∷ bs, z, ap (λ (l : List ℕ). x ∷ l) e)

split_bytes : (bs : List ℕ) (y : ℕ) → Bytes (bs ++ y ∷ []) → Bytes bs × (y < 256)
split_bytes [] y h = (tt, h.0)
split_bytes (b ∷ bs) y h = let r = split_bytes bs y h.1 in ((h.0, r.0), r.1)

last_from : (n : ℕ) (bs : List ℕ) (y : ℕ) → polynomial_from n (bs ++ y ∷ []) ≡ 256 * polynomial_from n bs + y
unfolding polynomial_from
last_from n [] y = refl
last_from n (b ∷ bs) y = last_from (256 * n + b) bs y

-- a byte more adds its bits behind those before: times x^8, plus the byte
one_more : (bs : List ℕ) (y : ℕ) → y < 256 → polynomial (bs ++ y ∷ []) ≡ bit_xor (256 * polynomial bs) y
one_more bs y h =
    last_from 0 bs y ∙ sym (ap (λ (n : ℕ). bit_xor n y) (mul_comm 256 (polynomial bs)) ∙ xor_shifted (polynomial bs) 8 y h ∙ ap (λ (n : ℕ). n + y) (mul_comm (polynomial bs) 256))

-- ---- right is a multiple

multiple_of_right : (bs : List ℕ) (y : ℕ) → Bytes bs → y < 256 → (y ≡ pec_of bs) ↔ Multiple (polynomial (bs ++ y ∷ []))
multiple_of_right bs y h g = (there, back)
  where
    there : y ≡ pec_of bs → Multiple (polynomial (bs ++ y ∷ []))
    there r = let (q, e) = (pec_is_remainder bs h y g).1 r in (q, one_more bs y g ∙ ap (λ (n : ℕ). bit_xor n y) e ∙ xor_back (times_g q) y)

    back : Multiple (polynomial (bs ++ y ∷ [])) → y ≡ pec_of bs
    back (q, e) = (pec_is_remainder bs h y g).0 (q, sym (xor_back (256 * polynomial bs) y) ∙ ap (λ (n : ℕ). bit_xor n y) (sym (one_more bs y g) ∙ e))

-- RIGHT EXACTLY IF A MULTIPLE, of all bytes, the PEC among them
pub right_exactly : (xs : List ℕ) → Bytes xs → 0 < length xs → RightPec xs ↔ Multiple (polynomial xs)
right_exactly xs h l = (there, back xs h l)
  where
    there : RightPec xs → Multiple (polynomial xs)
    there (bs, e) =
        let s = split_bytes bs (pec_of bs) (subst Bytes e h) in
        subst (λ (l : List ℕ). Multiple (polynomial l)) (sym e) ((multiple_of_right bs (pec_of bs) s.0 s.1).0 refl)

    back : (xs : List ℕ) → Bytes xs → 0 < length xs → Multiple (polynomial xs) → RightPec xs
    back [] h l m = absurd (omega (arith, l))
    back (x ∷ xs) h l m =
        let (bs, y, e) = with_last_lem x xs in
        let s = split_bytes bs y (subst Bytes e h) in
        let r = (multiple_of_right bs y s.0 s.1).1 (subst (λ (l : List ℕ). Multiple (polynomial l)) e m) in
        (bs, e ∙ ap (λ (n : ℕ). bs ++ n ∷ []) r)

pub right_some : (xs : List ℕ) → RightPec xs → 0 < length xs
right_some xs (bs, e) = omega (arith, ap length e, length-append bs (pec_of bs ∷ []))

-- NOT CAUGHT EXACTLY IF WHAT IT FLIPS IS A MULTIPLE
pub escapes_exactly : (xs ys : List ℕ) → Came xs ys → RightPec ys ↔ Multiple (flips xs ys)
escapes_exactly xs ys c = (there, back)
  where
    some : 0 < length xs
    some = right_some xs c.right

    sent : Multiple (polynomial xs)
    sent = (right_exactly xs c.sent some).0 c.right

    came : RightPec ys ↔ Multiple (polynomial ys)
    came = right_exactly ys c.came (rw c.as_many some)

    there : RightPec ys → Multiple (flips xs ys)
    there r =
        let (a, e) = sent in
        let (b, f) = came.0 r in
        (bit_xor a b, cc (times_g_xor a b))

    back : Multiple (flips xs ys) → RightPec ys
    back (q, e) =
        let (a, f) = sent in
        came.1 (bit_xor a q, cc (times_g_xor a q, xor_twice (polynomial xs) (polynomial ys)))

-- ---- multiples times x^k, and small ones

times_g_odd : (q : ℕ) → times_g q % 2 ≡ q % 2
unfolding times_g
times_g_odd q =
    let a = xor_odd (256 * q) (bit_xor (4 * q) (bit_xor (2 * q) q)) in
    let b = xor_odd (4 * q) (bit_xor (2 * q) q) in
    let c = xor_odd (2 * q) q in
    omega arith

-- an even multiple is twice a multiple
halve : (n : ℕ) → Multiple (2 * n) → Multiple n
halve n (q, e) =
    let o = times_g_odd q in
    let h : q ≡ 2 * (q / 2) = omega arith in
    let d : 2 * n ≡ 2 * times_g (q / 2) = e ∙ ap times_g h ∙ times_g_double (q / 2) in
    (q / 2, omega arith)

twice_as_far : (k n : ℕ) → 2 ^ suc k * n ≡ 2 * (2 ^ k * n)
twice_as_far k n = ap (λ (p : ℕ). p * n) (pow-suc 2 k ∙ mul_comm (2 ^ k) 2) ∙ mul_assoc 2 (2 ^ k) n

-- a number times x^k is a multiple exactly if the number is
pub shifted_exactly : (k n : ℕ) → Multiple (2 ^ k * n) ↔ Multiple n
shifted_exactly zero n = (subst Multiple (one-mul n), subst Multiple (sym (one-mul n)))
shifted_exactly (suc k) n =
    let r = shifted_exactly k n in (
      λ m. r.0 (halve (2 ^ k * n) (subst Multiple (twice_as_far k n) m)),
      λ m. (let (q, f) = r.1 m in (2 * q, twice_as_far k n ∙ ap (λ (p : ℕ). 2 * p) f ∙ sym (times_g_double q))),
    )

-- nothing below x^8 but 0 is one
pub small_is_none : (d : ℕ) → d < 2 ^ 8 → Multiple d → d ≡ 0
unfolding times_g
small_is_none d h (q, e) = e ∙ ap times_g (small_multiple q (omega (arith, h, e)))
