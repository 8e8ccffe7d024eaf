-- A byte of an identifier by its place.
use Rattle.std.specs.Int.{w64, to_be_bytes}
use Rattle.std.specs.Prelude.{ℕ, zero, suc, ◌+◌, ◌*◌, ◌-◌, ◌/◌, ◌%◌, ◌^◌, ◌<◌, ◌≤◌, ◌≡◌, refl, [], ◌∷◌, length, get_or}
use Rattle.std.proofs.Common.{ap, sym, arith, get_or-append-add}
use Rattle.udid.proofs.ByteLaws.{length_bytes}
use Rattle.udid.specs.Bytes.{bytes_of, udid_bytes}
use Rattle.udid.specs.declared.Udid.{Udid}

-- std's bytes of a half
pub be_bytes : (n : ℕ) → to_be_bytes w64 n ≡ bytes_of 8 n
unfolding bytes_of
be_bytes n =
    let e : n % 256 ≡ n / 1 % 256 = omega arith in
    ap (λ (b : ℕ). n / 256 ^ 7 % 256 ∷ n / 256 ^ 6 % 256 ∷ n / 256 ^ 5 % 256 ∷ n / 256 ^ 4 % 256 ∷ n / 256 ^ 3 % 256 ∷ n / 256 ^ 2 % 256 ∷ n / 256 ^ 1 % 256 ∷ b ∷ []) e

-- byte k of eight, highest first, as a quotient
pub half_at : (n k : ℕ) → k < 8 → get_or (bytes_of 8 n) k 0 ≡ n / 2 ^ (56 - 8 * k) % 256
unfolding bytes_of
half_at n zero h = refl
half_at n (suc zero) h = refl
half_at n (suc (suc zero)) h = refl
half_at n (suc (suc (suc zero))) h = refl
half_at n (suc (suc (suc (suc zero)))) h = refl
half_at n (suc (suc (suc (suc (suc zero))))) h = refl
half_at n (suc (suc (suc (suc (suc (suc zero)))))) h = refl
half_at n (suc (suc (suc (suc (suc (suc (suc zero))))))) h = refl
half_at n (suc (suc (suc (suc (suc (suc (suc (suc k)))))))) h = absurd (omega arith)

-- the first eight are those of the high half
pub high_at : (u : Udid) (k : ℕ) → k < 8 → get_or (udid_bytes u) k 0 ≡ get_or (bytes_of 8 u.high) k 0
unfolding udid_bytes bytes_of
high_at u zero h = refl
high_at u (suc zero) h = refl
high_at u (suc (suc zero)) h = refl
high_at u (suc (suc (suc zero))) h = refl
high_at u (suc (suc (suc (suc zero)))) h = refl
high_at u (suc (suc (suc (suc (suc zero))))) h = refl
high_at u (suc (suc (suc (suc (suc (suc zero)))))) h = refl
high_at u (suc (suc (suc (suc (suc (suc (suc zero))))))) h = refl
high_at u (suc (suc (suc (suc (suc (suc (suc (suc k)))))))) h = absurd (omega arith)

-- a place modulo 16, by halves
pub high_byte_lem : (u : Udid) (k : ℕ) → k % 16 < 8 → get_or (bytes_of 8 u.high) (k % 8) 0 ≡ get_or (udid_bytes u) (k % 16) 0
high_byte_lem u k h =
    let e : k % 8 ≡ k % 16 = omega arith in
    rw e (sym (high_at u (k % 16) h))

pub low_byte : (u : Udid) (k : ℕ) → 8 ≤ k % 16 → get_or (bytes_of 8 u.low) (k % 8) 0 ≡ get_or (udid_bytes u) (k % 16) 0
unfolding udid_bytes
low_byte u k h =
    let e : k % 16 ≡ length (bytes_of 8 u.high) + k % 8 = omega (arith, length_bytes 8 u.high) in
    rw e (sym (get_or-append-add (bytes_of 8 u.high) (bytes_of 8 u.low) (k % 8) 0))
