-- Laws of bits: their number, that bytes are read as they were sent, and that the bits of an identifier are those of its 16 bytes.
use Rattle.std.specs.Prelude.{ℕ, zero, suc, ◌+◌, ◌*◌, ◌/◌, ◌%◌, ◌^◌, ◌≡◌, refl, Bool, true, false, ◌⊎◌, List, [], ◌∷◌, ◌++◌, eqb, length}
use Rattle.std.proofs.Common.{sym, ap, ap₂, ◌∙◌, inl, inr, append_assoc, mod-eq_of_lt, zero-mul, one-mul, zero-add, suc-add, add_comm, suc-mul, pow-suc, arith, pow-add, shr-shr, length-append, take_at, drop_at}
use Rattle.std.proofs.Math.Nat.{mod-one}
use Rattle.lists.specs.Each.{Bytes}
use Rattle.pool.specs.Counts.{one}
use Rattle.pool.specs.Digits.{digit}
use Rattle.pool.specs.DigitLaws.{top_digit}
use Rattle.udid.specs.Bytes.{bytes_of, udid_bytes}
use Rattle.udid.specs.declared.Udid.{Udid}
use Rattle.arbitration.specs.Bits.{bits, udid_bits, byte_bits, number_of, bytes_read}

pub length_bits : (k n : ℕ) → length (bits k n) ≡ k
unfolding bits
length_bits zero n = refl
length_bits (suc k) n = ap suc (length_bits k n)

pub length_udid_bits : (u : Udid) → length (udid_bits u) ≡ 128
length_udid_bits u = simp (length-append, length_bits)

pub length_byte_bits : (s : List ℕ) → length (byte_bits s) ≡ length s * 8
length_byte_bits [] = refl
length_byte_bits (b ∷ s) = length-append (bits 8 b) (byte_bits s) ∙ omega (arith, length_bits 8 b, length_byte_bits s)

pub byte_bits_append : (s t : List ℕ) → byte_bits (s ++ t) ≡ byte_bits s ++ byte_bits t
byte_bits_append [] t = refl
byte_bits_append (b ∷ s) t = ap (λ (x : List Bool). bits 8 b ++ x) (byte_bits_append s t) ∙ sym (append_assoc (bits 8 b) (byte_bits s) (byte_bits t))

-- ---- what was sent as bytes is read as those bytes

-- the lowest k bits make what the number leaves by 2 ^ k
pub number_bits : (k n : ℕ) → number_of (bits k n) ≡ n % 2 ^ k
unfolding number_of bits
number_bits zero n = sym (mod-one n)
number_bits (suc k) n = go (number_bits k n) (length_bits k n) (top_digit n k)
  where
    go : number_of (bits k n) ≡ n % 2 ^ k → length (bits k n) ≡ k
        → ((digit n k ≡ false) × (n % 2 ^ suc k ≡ n % 2 ^ k)) ⊎ ((digit n k ≡ true) × (n % 2 ^ suc k ≡ 2 ^ k + n % 2 ^ k))
        → one (digit n k) * 2 ^ length (bits k n) + number_of (bits k n) ≡ n % 2 ^ suc k
    go ih l (inl a) = rw (a.0, l) (omega (arith, zero-mul (2 ^ k)))
    go ih l (inr a) = rw (a.0, l) (omega (arith, one-mul (2 ^ k)))

pub read_bytes_lem : (s : List ℕ) → Bytes s → bytes_read (length s) (byte_bits s) ≡ s
read_bytes_lem [] h = refl
read_bytes_lem (b ∷ s) h =
    ap₂ ◌∷◌ (ap number_of (take_at (bits 8 b) (byte_bits s) 8 (length_bits 8 b)) ∙ number_bits 8 b ∙ mod-eq_of_lt h.0)
    (ap (bytes_read (length s)) (drop_at (bits 8 b) (byte_bits s) 8 (length_bits 8 b)) ∙ read_bytes_lem s h.1)

-- ---- the bits of a number are those of its bytes

digit_shift : (n j k : ℕ) → digit n (j + k) ≡ digit (n / 2 ^ k) j
unfolding digit
digit_shift n j k = ap (λ (x : ℕ). eqb (x % 2) 1) (ap (λ (i : ℕ). n / 2 ^ i) (add_comm j k) ∙ sym (shr-shr n k j))

-- the bits above the lowest k, and those
bits_split : (j k n : ℕ) → bits (j + k) n ≡ bits j (n / 2 ^ k) ++ bits k n
unfolding bits
bits_split zero k n = ap (λ (x : ℕ). bits x n) (zero-add k)
bits_split (suc j) k n = ap (λ (x : ℕ). bits x n) (suc-add j k) ∙ ap₂ ◌∷◌ (digit_shift n j k) (bits_split j k n)

digit7 : (n : ℕ) → n % 256 / 128 % 2 ≡ n / 128 % 2
digit7 n = omega arith

digit6 : (n : ℕ) → n % 256 / 64 % 2 ≡ n / 64 % 2
digit6 n = omega arith

digit5 : (n : ℕ) → n % 256 / 32 % 2 ≡ n / 32 % 2
digit5 n = omega arith

digit4 : (n : ℕ) → n % 256 / 16 % 2 ≡ n / 16 % 2
digit4 n = omega arith

digit3 : (n : ℕ) → n % 256 / 8 % 2 ≡ n / 8 % 2
digit3 n = omega arith

digit2 : (n : ℕ) → n % 256 / 4 % 2 ≡ n / 4 % 2
digit2 n = omega arith

digit1 : (n : ℕ) → n % 256 / 2 % 2 ≡ n / 2 % 2
digit1 n = omega arith

digit0 : (n : ℕ) → n % 256 / 1 % 2 ≡ n / 1 % 2
digit0 n = omega arith

same_digit : {x y : ℕ} → x ≡ y → eqb x 1 ≡ eqb y 1
same_digit e = ap (λ (z : ℕ). eqb z 1) e

-- eight bits are those of the lowest byte
low_byte : (n : ℕ) → bits 8 (n % 256) ≡ bits 8 n
unfolding bits digit
low_byte n = λ i. same_digit (digit7 n) i ∷ same_digit (digit6 n) i ∷ same_digit (digit5 n) i ∷ same_digit (digit4 n) i ∷ same_digit (digit3 n) i ∷ same_digit (digit2 n) i ∷ same_digit (digit1 n) i ∷ same_digit (digit0 n) i ∷ []

power_bytes : (k : ℕ) → 2 ^ (k * 8) ≡ 256 ^ k
power_bytes zero = refl
power_bytes (suc k) = ap (λ (x : ℕ). 2 ^ x) (suc-mul k 8) ∙ pow-add 2 (k * 8) 8 ∙ ap (λ (x : ℕ). x * 256) (power_bytes k) ∙ sym (pow-suc 256 k)

pub bytes_bits : (k n : ℕ) → byte_bits (bytes_of k n) ≡ bits (k * 8) n
unfolding bytes_of bits
bytes_bits zero n = refl
bytes_bits (suc k) n =
    let e : 8 + k * 8 ≡ suc k * 8 = omega arith in
    ap₂ (λ (x y : List Bool). x ++ y) (low_byte (n / 256 ^ k) ∙ ap (λ (x : ℕ). bits 8 (n / x)) (sym (power_bytes k))) (bytes_bits k n)
    ∙ sym (bits_split 8 (k * 8) n)
    ∙ ap (λ (x : ℕ). bits x n) e

-- the bits of an identifier are those of its 16 bytes
pub udid_bits_lem : (u : Udid) → udid_bits u ≡ byte_bits (udid_bytes u)
unfolding udid_bytes
udid_bits_lem u =
    ap₂ (λ (x y : List Bool). x ++ y) (sym (bytes_bits 8 u.high)) (sym (bytes_bits 8 u.low))
    ∙ sym (byte_bits_append (bytes_of 8 u.high) (bytes_of 8 u.low))
