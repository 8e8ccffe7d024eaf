-- A number times x^8 leaves what it is folded into. What that has above x^7 is folded once more, and two folds give the code of a byte more.
use Rattle.std.specs.Prelude.{◌≡◌, ℕ, ◌+◌, ◌*◌, ◌/◌, ◌%◌, ◌<◌}
use Rattle.std.proofs.Common.{sym, ap, subst, ◌∙◌, mod-eq_of_lt, mul_comm, arith}
use Rattle.std.specs.Int.Bits.{bit_xor, xor_self, xor_shifted, xor_zero_r}
use Rattle.std.proofs.lemmas.Nat.{xor_comm, xor_lt, xor_mod}
use Rattle.pec.specs.Pec.{pec_step}
use Rattle.pec.specs.PecDivision.{times_g, Leaves}
use Rattle.pec.proofs.PecDivisionLaws.{step_is_remainder}
use Rattle.pec.proofs.PecBitLaws.{xor_assoc, leaves_plus, leaves_trans}
use Rattle.pec.specs.Fold.{folded}

-- what a number times x^8 leaves
fold_leaves : (n : ℕ) → Leaves (256 * n) (folded n)
unfolding times_g folded
fold_leaves n =
    let s = bit_xor (4 * n) (bit_xor (2 * n) n) in
    (n, sym (xor_assoc (256 * n) s s ∙ ap (bit_xor (256 * n)) (xor_self s) ∙ xor_zero_r (256 * n)))

-- of a byte: ten bits at the most
fold_of_byte : (n : ℕ) → n < 256 → folded n < 1024
unfolding folded
fold_of_byte n h = xor_lt 10 (4 * n) (bit_xor (2 * n) n) (omega arith) (xor_lt 10 (2 * n) n (omega arith) (omega arith))

-- of the two bits that this can have above x^7: a byte
fold_of_two_bits : (n : ℕ) → n < 4 → folded n < 256
unfolding folded
fold_of_two_bits n h = xor_lt 8 (4 * n) (bit_xor (2 * n) n) (omega arith) (xor_lt 8 (2 * n) n (omega arith) (omega arith))

-- a number is what it has above x^7 and its low byte
above_and_low : (y : ℕ) → bit_xor (256 * (y / 256)) (y % 256) ≡ y
above_and_low y =
    let e : bit_xor (y / 256 * 256) (y % 256) ≡ y / 256 * 256 + y % 256 = xor_shifted (y / 256) 8 (y % 256) (omega arith) in
    let f : y / 256 * 256 + y % 256 ≡ y = omega arith in
    rw (mul_comm 256 (y / 256)) (e ∙ f)

-- what is above x^7 folded into the low byte
rest_leaves : (y : ℕ) → Leaves y (bit_xor (folded (y / 256)) (y % 256))
rest_leaves y =
    subst (λ (p : ℕ). Leaves p (bit_xor (folded (y / 256)) (y % 256))) (above_and_low y)
    (leaves_plus (256 * (y / 256)) (folded (y / 256)) (y % 256) (fold_leaves (y / 256)))

-- the same as the low byte of the two added
low_of_both : (y : ℕ) → y < 1024 → bit_xor y (folded (y / 256)) % 256 ≡ bit_xor (folded (y / 256)) (y % 256)
low_of_both y h =
    xor_mod y (folded (y / 256)) 8
    ∙ ap (bit_xor (y % 256)) (mod-eq_of_lt (fold_of_two_bits (y / 256) (omega arith)))
    ∙ xor_comm (y % 256) (folded (y / 256))

-- the code of one byte more by two folds
pub two_folds : (c b : ℕ) → c < 256 → b < 256 → bit_xor (folded (bit_xor c b)) (folded (folded (bit_xor c b) / 256)) % 256 ≡ pec_step c b
two_folds c b h g =
    let x = bit_xor c b in
    let y = folded x in
    let k : y < 1024 = fold_of_byte x (xor_lt 8 c b h g) in
    let l = fold_of_two_bits (y / 256) (omega arith) in
    low_of_both y k
    ∙ (step_is_remainder c b (bit_xor (folded (y / 256)) (y % 256)) h g (xor_lt 8 (folded (y / 256)) (y % 256) l (omega arith))).0
    (leaves_trans (256 * x) y (bit_xor (folded (y / 256)) (y % 256)) (fold_leaves x) (rest_leaves y))
