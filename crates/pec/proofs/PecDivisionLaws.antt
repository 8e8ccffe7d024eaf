-- The packet error code is the remainder of a division of polynomials: of the bytes, times x^8, by x^8+x^2+x+1. A remainder is a number
-- below 256: a polynomial of a degree below 8. pec_divides says that the PEC is a remainder, remainder_unique that there is one only, and
-- pec_is_remainder puts the two together.
use Rattle.std.specs.Prelude.{◌≡◌, refl, ◌↔◌, List, [], ◌∷◌, ℕ, zero, suc, ◌+◌, ◌*◌, ◌≤◌, ◌<◌}
use Rattle.std.proofs.Common.{sym, ◌∙◌, mul_comm, arith}
use Rattle.std.specs.Int.Bits.{bit_xor, xor_add_and, xor_self, xor_shifted, xor_zero_r}
use Rattle.std.proofs.lemmas.Nat.{xor_lt}
use Rattle.lists.specs.Each.{Bytes}
use Rattle.pec.specs.Pec.{bit_step, pec_step, pec_from, pec_of}
use Rattle.pec.specs.PecDivision.{times_g, polynomial_from, polynomial, Leaves}
use Rattle.pec.proofs.PecLaws.{bit_byte, step_byte, pec_byte}
use Rattle.pec.proofs.PecBitLaws.{xor_twice, xor_back, xor_swap, times_g_xor, leaves_self, leaves_trans, leaves_double, leaves_plus, bit_leaves}

-- a bit more
pub next_bit : (p c : ℕ) → c < 256 → Leaves p c → Leaves (2 * p) (bit_step c)
next_bit p c h l = leaves_trans (2 * p) (2 * c) (bit_step c) (leaves_double p c l) (bit_leaves c h)

-- eight bits more: times x^8
eight_bits : (p c : ℕ) → c < 256 → Leaves p c
    → Leaves (256 * p) (bit_step (bit_step (bit_step (bit_step (bit_step (bit_step (bit_step (bit_step c))))))))
eight_bits p c h l =
    let h1 = bit_byte _ h in
    let h2 = bit_byte _ h1 in
    let h3 = bit_byte _ h2 in
    let h4 = bit_byte _ h3 in
    let h5 = bit_byte _ h4 in
    let h6 = bit_byte _ h5 in
    let h7 = bit_byte _ h6 in
    let e : 256 * p ≡ 2 * (2 * (2 * (2 * (2 * (2 * (2 * (2 * p))))))) = omega arith in
    rw e (next_bit _ _ h7 (next_bit _ _ h6 (next_bit _ _ h5 (next_bit _ _ h4 (next_bit _ _ h3 (next_bit _ _ h2 (next_bit _ _ h1 (next_bit _ _ h l))))))))

-- a byte more
next_byte : (n c b : ℕ) → c < 256 → b < 256 → Leaves (256 * n) c → Leaves (256 * (256 * n + b)) (pec_step c b)
unfolding pec_step
next_byte n c b h g l =
    let e : bit_xor (256 * n) b ≡ 256 * n + b = rw (mul_comm 256 n) (xor_shifted n 8 b g) in
    rw (← e) (eight_bits (bit_xor (256 * n) b) (bit_xor c b) (xor_lt 8 c b h g) (leaves_plus (256 * n) c b l))

from_leaves : (n c : ℕ) (bs : List ℕ) → c < 256 → Bytes bs → Leaves (256 * n) c → Leaves (256 * polynomial_from n bs) (pec_from c bs)
unfolding polynomial_from pec_from
from_leaves n c [] h g l = l
from_leaves n c (b ∷ bs) h g l = from_leaves (256 * n + b) (pec_step c b) bs (step_byte c b h g.0) g.1 (next_byte n c b h g.0 l)

-- the bytes times x^8 are a multiple of x^8+x^2+x+1, plus the PEC
pub pec_divides : (bs : List ℕ) → Bytes bs → (q : ℕ) × (256 * polynomial bs ≡ bit_xor (times_g q) (pec_of bs))
pec_divides bs h = from_leaves 0 0 bs (omega arith) h (leaves_self 0)

-- ---- there is one remainder only

xor_le : (a b : ℕ) → bit_xor a b ≤ a + b
xor_le a b = omega (arith, xor_add_and a b)

le_xor : (a b : ℕ) → a ≤ bit_xor a b + b
le_xor a b = omega (arith, xor_back a b, xor_le (bit_xor a b) b)

-- as a number a multiple is large: 256 * d, of which the other three terms take off 7 * d at most
times_g_large : (d : ℕ) → 249 * d ≤ times_g d
unfolding times_g
times_g_large d =
    let m = le_xor (256 * d) (bit_xor (4 * d) (bit_xor (2 * d) d)) in
    let n = xor_le (4 * d) (bit_xor (2 * d) d) in
    let o = xor_le (2 * d) d in
    omega arith

-- so a multiple below x^8 is that by 0
pub small_multiple : (d : ℕ) → times_g d < 256 → d ≡ 0
unfolding times_g
small_multiple zero h = refl
small_multiple (suc zero) h = omega arith
small_multiple (suc (suc d)) h = let m = times_g_large (suc (suc d)) in omega arith

-- what adds up to 0 is the same
same_of_zero : (a b : ℕ) → bit_xor a b ≡ 0 → a ≡ b
same_of_zero a b e = cc (xor_twice a b, xor_zero_r a)

-- a polynomial that is written in two ways as a multiple plus a remainder
module _ (q q' r r' : ℕ) (h : r < 256) (h' : r' < 256) (e : bit_xor (times_g q) r ≡ bit_xor (times_g q') r') where
  pub quotient_unique : q ≡ q'
  quotient_unique =
      let z : bit_xor (bit_xor (times_g q) (times_g q')) (bit_xor r r') ≡ 0 = cc (xor_swap (times_g q) r (times_g q') r', xor_self (bit_xor (times_g q) r)) in
      let m : times_g (bit_xor q q') ≡ bit_xor r r' = times_g_xor q q' ∙ same_of_zero _ _ z in
      same_of_zero q q' (small_multiple (bit_xor q q') (rw m (xor_lt 8 r r' h h')))

  pub remainder_unique : r ≡ r'
  remainder_unique = cc (quotient_unique, xor_twice (times_g q) r, xor_twice (times_g q') r')

-- the PEC is the remainder of the bytes times x^8: a byte is what they leave if and only if it is the PEC
pub pec_is_remainder : (bs : List ℕ) → Bytes bs → (r : ℕ) → r < 256 → ((q : ℕ) × (256 * polynomial bs ≡ bit_xor (times_g q) r)) ↔ (r ≡ pec_of bs)
pec_is_remainder bs h r g = (is_pec, pec_is_lem)
  where
    is_pec : Leaves (256 * polynomial bs) r → r ≡ pec_of bs
    is_pec (q, e) =
        let (q', e') = pec_divides bs h in
        remainder_unique q q' r (pec_of bs) g (pec_byte 0 bs (omega arith) h) (sym e ∙ e')

    pec_is_lem : r ≡ pec_of bs → Leaves (256 * polynomial bs) r
    pec_is_lem e = rw e (pec_divides bs h)

-- a byte more, after any PEC: the two added, times x^8, leave the new PEC, and no other byte
step_leaves : (c b : ℕ) → c < 256 → b < 256 → Leaves (256 * bit_xor c b) (pec_step c b)
unfolding pec_step
step_leaves c b h g = eight_bits (bit_xor c b) (bit_xor c b) (xor_lt 8 c b h g) (leaves_self (bit_xor c b))

pub step_is_remainder : (c b r : ℕ) → c < 256 → b < 256 → r < 256 → ((q : ℕ) × (256 * bit_xor c b ≡ bit_xor (times_g q) r)) ↔ (r ≡ pec_step c b)
step_is_remainder c b r h g k = (is_pec, pec_is_lem)
  where
    is_pec : Leaves (256 * bit_xor c b) r → r ≡ pec_step c b
    is_pec (q, e) =
        let (q', e') = step_leaves c b h g in
        remainder_unique q q' r (pec_step c b) k (step_byte c b h g) (sym e ∙ e')

    pec_is_lem : r ≡ pec_step c b → Leaves (256 * bit_xor c b) r
    pec_is_lem e = rw e (step_leaves c b h g)
