-- Laws of a number written byte by byte, from the last to the first.
use Rattle.std.specs.Prelude.{ℕ, suc, ◌+◌, ◌-◌, ◌/◌, ◌%◌, ◌^◌, ◌<◌, ◌≤◌, ◌≡◌, List, [], ◌∷◌, ◌++◌, length, get_or, take, drop, set}
use Rattle.std.proofs.Common.{sym, append_assoc, arith, add-zero, take-append-drop, length-append, length-drop, take-suc, length-take-le}
use Rattle.std.proofs.lemmas.List.{set_at}
use Rattle.udid.specs.Bytes.{bytes_of}
use Rattle.udid.proofs.ByteLaws.{length_bytes}

-- nothing is written yet, and all is
pub start : (l : List ℕ) (m n : ℕ) → l ≡ take m l ++ (bytes_of 0 n ++ drop m l)
unfolding bytes_of
start l m n = sym (take-append-drop m l)

pub finish : (l d : List ℕ) (n at k : ℕ) → k ≡ 0 → take (at + k) l ++ (bytes_of (8 - k) n ++ d) ≡ take at l ++ (bytes_of 8 n ++ d)
finish l d n at k e = rw (e, add-zero at)

pub kept : (l : List ℕ) (n at k : ℕ) → k ≤ 8 → at + 8 ≤ length l → length (take (at + k) l ++ (bytes_of (8 - k) n ++ drop (at + 8) l)) ≡ length l
kept l n at k h g =
    let t = length-take-le (at + k) l (omega arith) in
    omega (arith, length-append (take (at + k) l) (bytes_of (8 - k) n ++ drop (at + 8) l), length-append (bytes_of (8 - k) n) (drop (at + 8) l), length_bytes (8 - k) n, length-drop (at + 8) l)

-- the byte before those that are written
pub next : (l d : List ℕ) (n at k rest : ℕ) → 0 < k → k ≤ 8 → at + k ≤ length l → rest ≡ n / 256 ^ (8 - k)
    → set (take (at + k) l ++ (bytes_of (8 - k) n ++ d)) (at + (k - 1)) (rest % 256) ≡ take (at + (k - 1)) l ++ (bytes_of (8 - (k - 1)) n ++ d)
unfolding bytes_of
next l d n at k rest h g m e =
    let a : at + k ≡ suc (at + (k - 1)) = omega arith in
    let b : 8 - (k - 1) ≡ suc (8 - k) = omega arith in
    let t = length-take-le (at + (k - 1)) l (omega arith) in
    rw (a, b, take-suc l (at + (k - 1)) 0 (omega arith), append_assoc (take (at + (k - 1)) l) (get_or l (at + (k - 1)) 0 ∷ []) (bytes_of (8 - k) n ++ d), e)
    (set_at (take (at + (k - 1)) l) (get_or l (at + (k - 1)) 0) (bytes_of (8 - k) n ++ d) (n / 256 ^ (8 - k) % 256) (at + (k - 1)) t)
