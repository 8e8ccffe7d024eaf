-- Adding and multiplying polynomials, what leaves a remainder, and one step of the register: times x.
use Rattle.std.specs.Prelude.{◌≡◌, refl, Bool, true, false, ℕ, ◌+◌, ◌-◌, ◌*◌, ◌/◌, ◌%◌, ◌^◌, ◌<◌, ltb}
use Rattle.std.proofs.Common.{sym, ap, ◌∙◌, add-zero, mul_comm, arith, pow_pos, ltb-false}
use Rattle.std.proofs.Math.Arith.{bin_ind}
use Rattle.std.specs.Int.Bits.{bit_xor, xor_add_and, xor_self, xor_shifted, xor_zero_r}
use Rattle.std.proofs.lemmas.Nat.{xor_block, xor_comm, xor_shr}
use Rattle.lists.specs.Choice.{pick}
use Rattle.pec.specs.Pec.{bit_step}
use Rattle.pec.specs.PecDivision.{times_g, Leaves}

-- x^8+x^2+x+1 itself
pub the_divisor : times_g 1 ≡ 0x107
unfolding times_g
the_divisor = refl

-- ---- adding

same_halves : (a b : ℕ) → a / 2 ≡ b / 2 → a % 2 ≡ b % 2 → a ≡ b
same_halves a b h g = omega arith

xor_half : (a b : ℕ) → bit_xor a b / 2 ≡ bit_xor (a / 2) (b / 2)
xor_half a b = xor_shr a b 1

pub xor_odd : (a b : ℕ) → bit_xor a b % 2 ≡ (a + b) % 2
xor_odd a b = omega (arith, xor_add_and a b)

-- the lowest coefficient of three
odd_left : (a b c : ℕ) → bit_xor (bit_xor a b) c % 2 ≡ (a + b + c) % 2
odd_left a b c = xor_odd (bit_xor a b) c ∙ (let h = xor_odd a b in omega arith)

odd_right : (a b c : ℕ) → bit_xor a (bit_xor b c) % 2 ≡ (a + b + c) % 2
odd_right a b c = xor_odd a (bit_xor b c) ∙ (let h = xor_odd b c in omega arith)

pub xor_assoc : (a b c : ℕ) → bit_xor (bit_xor a b) c ≡ bit_xor a (bit_xor b c)
xor_assoc = bin_ind (λ (n : ℕ). (b c : ℕ) → bit_xor (bit_xor n b) c ≡ bit_xor n (bit_xor b c)) (λ b c. refl) step
  where
    step : (n : ℕ) → ((b c : ℕ) → bit_xor (bit_xor (n / 2) b) c ≡ bit_xor (n / 2) (bit_xor b c))
        → (b c : ℕ) → bit_xor (bit_xor n b) c ≡ bit_xor n (bit_xor b c)
    step n ih b c =
        same_halves _ _ (cc (xor_half (bit_xor n b) c, xor_half n b, xor_half n (bit_xor b c), xor_half b c, ih (b / 2) (c / 2)))
        (odd_left n b c ∙ sym (odd_right n b c))

-- what is added twice is gone
pub xor_twice : (a b : ℕ) → bit_xor a (bit_xor a b) ≡ b
xor_twice a b = sym (xor_assoc a a b) ∙ ap (λ (x : ℕ). bit_xor x b) (xor_self a)

pub xor_back : (a b : ℕ) → bit_xor (bit_xor a b) b ≡ a
xor_back a b = xor_assoc a b b ∙ ap (bit_xor a) (xor_self b) ∙ xor_zero_r a

pub xor_swap : (a b c d : ℕ) → bit_xor (bit_xor a b) (bit_xor c d) ≡ bit_xor (bit_xor a c) (bit_xor b d)
xor_swap a b c d = cc (xor_assoc a b (bit_xor c d), xor_assoc b c d, xor_comm b c, xor_assoc c b d, xor_assoc a c (bit_xor b d))

-- times x^k of a sum
times_power : (k a b : ℕ) → 2 ^ k * bit_xor a b ≡ bit_xor (2 ^ k * a) (2 ^ k * b)
times_power k a b =
    let e = xor_block k a b 0 0 (pow_pos k) (pow_pos k) in
    cc (mul_comm (2 ^ k) (bit_xor a b), mul_comm (2 ^ k) a, mul_comm (2 ^ k) b, add-zero (a * 2 ^ k), add-zero (b * 2 ^ k), add-zero (bit_xor a b * 2 ^ k))

-- ---- multiples of x^8+x^2+x+1

-- of a sum
pub times_g_xor : (a b : ℕ) → times_g (bit_xor a b) ≡ bit_xor (times_g a) (times_g b)
unfolding times_g
times_g_xor a b =
    let e8 : 256 * bit_xor a b ≡ bit_xor (256 * a) (256 * b) = times_power 8 a b in
    let e2 : 4 * bit_xor a b ≡ bit_xor (4 * a) (4 * b) = times_power 2 a b in
    let e1 : 2 * bit_xor a b ≡ bit_xor (2 * a) (2 * b) = times_power 1 a b in
    cc (xor_swap (2 * a) (2 * b) a b, xor_swap (4 * a) (4 * b) (bit_xor (2 * a) a) (bit_xor (2 * b) b), xor_swap (256 * a) (256 * b) (bit_xor (4 * a) (bit_xor (2 * a) a)) (bit_xor (4 * b) (bit_xor (2 * b) b)))

-- times x
pub times_g_double : (q : ℕ) → times_g (2 * q) ≡ 2 * times_g q
unfolding times_g
times_g_double q =
    let e0 : 256 * (2 * q) ≡ 2 * (256 * q) = omega arith in
    let e1 : 4 * (2 * q) ≡ 2 * (4 * q) = omega arith in
    let t = times_power 1 (256 * q) (bit_xor (4 * q) (bit_xor (2 * q) q)) in
    let u = times_power 1 (4 * q) (bit_xor (2 * q) q) in
    let v = times_power 1 (2 * q) q in
    cc

-- ---- what Leaves keeps to

pub leaves_self : (p : ℕ) → Leaves p p
unfolding times_g
leaves_self p = (0, refl)

pub leaves_trans : (p c r : ℕ) → Leaves p c → Leaves c r → Leaves p r
leaves_trans p c r (a, e) (b, f) = (bit_xor a b, cc (times_g_xor a b, xor_assoc (times_g a) (times_g b) r))

pub leaves_double : (p c : ℕ) → Leaves p c → Leaves (2 * p) (2 * c)
leaves_double p c (a, e) = (2 * a, (let t = times_power 1 (times_g a) c in cc (times_g_double a)))

pub leaves_plus : (p c b : ℕ) → Leaves p c → Leaves (bit_xor p b) (bit_xor c b)
leaves_plus p c b (a, e) = (a, cc (xor_assoc (times_g a) c b))

-- ---- the register

-- x^8+x^2+x+1 and x^2+x+1, which is 7, make x^8
seven_off : (y : ℕ) → y < 256 → bit_xor (times_g 1) (bit_xor 7 y) ≡ 256 + y
unfolding times_g
seven_off y h = sym (xor_assoc (times_g 1) 7 y) ∙ xor_shifted 1 8 y h

-- one bit: times x
pub bit_leaves : (c : ℕ) → c < 256 → Leaves (2 * c) (bit_step c)
unfolding bit_step
bit_leaves c h = go (ltb c 128) refl
  where
    go : (b : Bool) → ltb c 128 ≡ b → Leaves (2 * c) (pick b (2 * c) (bit_xor 7 (2 * (c - 128))))
    go true e = leaves_self (2 * c)
    go false e = (1, (let g = ltb-false c 128 e in let m : 2 * c ≡ 256 + 2 * (c - 128) = omega arith in m ∙ sym (seven_off (2 * (c - 128)) (omega arith))))
