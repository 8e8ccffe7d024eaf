-- Bytes make a number and a number has bytes, there and back; the order of numbers is that of their bytes, highest first.
use Rattle.std.specs.Prelude.{ℕ, zero, suc, ◌+◌, ◌*◌, ◌/◌, ◌%◌, ◌^◌, ◌<◌, ◌≡◌, refl, Bool, true, false, List, [], ◌∷◌, ltb, eqb, length}
use Rattle.std.proofs.Common.{sym, ap, ap₂, ◌∙◌, pow-suc, add-mul, mul_assoc, mul_comm, suc-mul, mul-le-mul_right, arith, lt-ltb, le-ltb, eq-eqb, ne_eqb, ltb-true, ltb-false}
use Rattle.std.proofs.Math.Decide.{dec_lt, ℕ_discrete}
use Rattle.std.proofs.Math.Arith.{digits_lt, digits_div, mod-mul}
use Rattle.lists.specs.Choice.{or, and}
use Rattle.lists.specs.Each.{Bytes}
use Rattle.udid.specs.Bytes.{number_from, number, bytes_of, less}

pub power_pos : (k : ℕ) → 0 < 256 ^ k
power_pos zero = omega arith
power_pos (suc k) = omega (arith, pow-suc 256 k, power_pos k)

-- one byte more before those that count p
spread : (n b p : ℕ) → (256 * n + b) * p ≡ n * (p * 256) + b * p
spread n b p = omega (arith, add-mul (256 * n) b p, mul_assoc 256 n p, mul_assoc n p 256)

-- ---- the number that bytes make

-- what went before counts 256 ^ k for k bytes that follow
pub number_split : (n : ℕ) (bs : List ℕ) → number_from n bs ≡ n * 256 ^ length bs + number bs
unfolding number_from
number_split n [] = omega arith
number_split n (b ∷ bs) =
    let e : number_from n (b ∷ bs) ≡ (256 * n + b) * 256 ^ length bs + number bs = number_split (256 * n + b) bs in
    let f : number (b ∷ bs) ≡ (256 * 0 + b) * 256 ^ length bs + number bs = number_split (256 * 0 + b) bs in
    let z : (256 * 0 + b) * 256 ^ length bs ≡ b * 256 ^ length bs = ap (λ (x : ℕ). x * 256 ^ length bs) (omega arith) in
    let g : n * 256 ^ suc (length bs) ≡ n * (256 ^ length bs * 256) = ap (λ (x : ℕ). n * x) (pow-suc 256 (length bs)) in
    omega (arith, spread n b (256 ^ length bs))

pub number_nil : number [] ≡ 0
unfolding number_from
number_nil = refl

pub number_cons : (b : ℕ) (bs : List ℕ) → number (b ∷ bs) ≡ b * 256 ^ length bs + number bs
unfolding number_from
number_cons b bs = number_split (256 * 0 + b) bs ∙ ap (λ (x : ℕ). x * 256 ^ length bs + number bs) (omega arith)

pub number_lt : (bs : List ℕ) → Bytes bs → number bs < 256 ^ length bs
unfolding number_from
number_lt [] h = omega arith
number_lt (b ∷ bs) h =
    let l = digits_lt {q = b} {m = 256} {r = number bs} {c = 256 ^ length bs} h.0 (number_lt bs h.1) in
    omega (arith, l, number_cons b bs, pow-suc 256 (length bs))

-- ---- the bytes of a number

pub length_bytes : (k n : ℕ) → length (bytes_of k n) ≡ k
unfolding bytes_of
length_bytes zero n = refl
length_bytes (suc k) n = ap suc (length_bytes k n)

pub bytes_bytes : (k n : ℕ) → Bytes (bytes_of k n)
unfolding bytes_of
bytes_bytes zero n = tt
bytes_bytes (suc k) n = (omega arith, bytes_bytes k n)

-- the lowest k bytes make what the number leaves by 256 ^ k
pub number_bytes : (k n : ℕ) → number (bytes_of k n) ≡ n % 256 ^ k
unfolding bytes_of number_from
number_bytes zero n = omega arith
number_bytes (suc k) n =
    let m = mod-mul n {m = 256} {c = 256 ^ k} (omega arith) (power_pos k) in
    let e = number_cons (n / 256 ^ k % 256) (bytes_of k n) in
    let l = ap (λ (x : ℕ). n / 256 ^ k % 256 * 256 ^ x) (length_bytes k n) in
    let p = ap (λ (x : ℕ). n % x) (pow-suc 256 k ∙ mul_comm (256 ^ k) 256) in
    let q : number (bytes_of (suc k) n) ≡ n / 256 ^ k % 256 * 256 ^ length (bytes_of k n) + number (bytes_of k n) = e in
    omega (arith, number_bytes k n)

-- and the bytes of that number are those bytes
pub bytes_number : (n : ℕ) (bs : List ℕ) → Bytes bs → bytes_of (length bs) (number_from n bs) ≡ bs
unfolding bytes_of number_from
bytes_number n [] h = refl
bytes_number n (b ∷ bs) h =
    let e : number_from (256 * n + b) bs ≡ (256 * n + b) * 256 ^ length bs + number bs = number_split (256 * n + b) bs in
    let d : number_from (256 * n + b) bs / 256 ^ length bs ≡ 256 * n + b = ap (λ (x : ℕ). x / 256 ^ length bs) e ∙ digits_div (256 * n + b) (number_lt bs h.1) in
    let f : number_from (256 * n + b) bs / 256 ^ length bs % 256 ≡ b = ap (λ (x : ℕ). x % 256) d ∙ (let l = h.0 in omega arith) in
    ap₂ (λ (x : ℕ) (l : List ℕ). x ∷ l) f (bytes_number (256 * n + b) bs h.1)

-- ---- the order of numbers is that of their bytes: the first that differs decides

apart : (x y p m n : ℕ) → x < y → m < p → x * p + m < y * p + n
apart x y p m n h l = omega (arith, mul-le-mul_right p h, suc-mul x p)

pub digits_order : (x y p m n : ℕ) (b : Bool) → m < p → n < p → ltb m n ≡ b → ltb (x * p + m) (y * p + n) ≡ or (ltb x y) (and (eqb x y) b)
digits_order x y p m n b k l e = go (dec_lt x y) (ℕ_discrete x y)
  where
    go : Dec (x < y) → Dec (x ≡ y) → ltb (x * p + m) (y * p + n) ≡ or (ltb x y) (and (eqb x y) b)
    go (yes h) q = rw (lt-ltb x y h) (lt-ltb (x * p + m) (y * p + n) (apart x y p m n h k))
    go (no h) (yes q) = rw (q, le-ltb y y (omega arith), eq-eqb y y refl) (same (y * p) (ltb m n) refl ∙ e)
      where
        same : (z : ℕ) (t : Bool) → ltb m n ≡ t → ltb (z + m) (z + n) ≡ ltb m n
        same z true f = rw (lt-ltb (z + m) (z + n) (omega (arith, ltb-true m n f))) (sym f)
        same z false f = rw (le-ltb (z + m) (z + n) (omega (arith, ltb-false m n f))) (sym f)
    go (no h) (no q) = rw (le-ltb x y (omega arith), ne_eqb x y q) (le-ltb (x * p + m) (y * p + n) (let r = apart y x p n m (omega arith) l in omega arith))

pub number_order : (xs ys : List ℕ) → length xs ≡ length ys → Bytes xs → Bytes ys → ltb (number xs) (number ys) ≡ less xs ys
unfolding less
number_order [] [] e h g = rw number_nil
number_order [] (y ∷ ys) e h g = absurd (omega arith)
number_order (x ∷ xs) [] e h g = absurd (omega arith)
number_order (x ∷ xs) (y ∷ ys) e h g =
    let k : length xs ≡ length ys = omega arith in
    rw (number_cons x xs, number_cons y ys, ← k)
    (digits_order x y (256 ^ length xs) (number xs) (number ys) (less xs ys) (number_lt xs h.1) (rw k (number_lt ys g.1)) (number_order xs ys k h.1 g.1))
