-- Two lists of bytes in a row are one, a list whose every place holds a byte is one, and so are zeros, and bytes among which a byte is put.
-- What holds of each element holds of the one at an index, and what follows from it holds of each.
use Rattle.std.specs.Prelude.{List, [], ◌∷◌, ◌++◌, ℕ, zero, suc, ◌<◌, get_or, set, replicate}
use Rattle.std.proofs.Common.{arith}
use Rattle.lists.specs.Each.{Each, Bytes}

pub append_bytes : (xs ys : List ℕ) → Bytes xs → Bytes ys → Bytes (xs ++ ys)
append_bytes [] ys h g = g
append_bytes (x ∷ xs) ys h g = (h.0, append_bytes xs ys h.1 g)

-- a list each of whose places holds a byte is a list of bytes
pub all_bytes : (s : List ℕ) → ((i : ℕ) → get_or s i 0 < 256) → Bytes s
all_bytes [] h = tt
all_bytes (x ∷ s) h = (h 0, all_bytes s (λ i. h (suc i)))

-- what an index finds in a list of bytes is a byte
pub byte_at : (xs : List ℕ) (i : ℕ) → Bytes xs → get_or xs i 0 < 256
byte_at [] i h = omega arith
byte_at (x ∷ xs) zero h = h.0
byte_at (x ∷ xs) (suc i) h = byte_at xs i h.1

pub set_bytes : (xs : List ℕ) (i b : ℕ) → Bytes xs → b < 256 → Bytes (set xs i b)
set_bytes [] i b h g = tt
set_bytes (x ∷ xs) zero b h g = (g, h.1)
set_bytes (x ∷ xs) (suc i) b h g = (h.0, set_bytes xs i b h.1 g)

pub zeros_bytes : (n : ℕ) → Bytes (replicate n 0)
zeros_bytes zero = tt
zeros_bytes (suc n) = (omega arith, zeros_bytes n)

-- what holds of each, and of the default, holds of whatever an index finds
pub each_at {ℓ} : {A : Type 0} (P : A → Type ℓ) (l : List A) (d : A) (n : ℕ) → Each P l → P d → P (get_or l n d)
each_at P [] d n h g = g
each_at P (x ∷ xs) d zero h g = h.0
each_at P (x ∷ xs) d (suc n) h g = each_at P xs d n h.1 g

-- something holds of each, and so what follows from it
pub each_map : {A : Type 0} {P Q : A → Type 0} (l : List A) → ((x : A) → P x → Q x) → Each P l → Each Q l
each_map [] f h = tt
each_map (x ∷ l) f h = (f x h.0, each_map l f h.1)

-- two things hold of each, and so a third
pub each_both : {A : Type 0} {P Q R : A → Type 0} (l : List A) → ((x : A) → P x → Q x → R x) → Each P l → Each Q l → Each R l
each_both [] f p q = tt
each_both (x ∷ l) f p q = (f x p.0 q.0, each_both l f p.1 q.1)
