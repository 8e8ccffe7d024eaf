-- The bytes of a trace, one number at a time and in two parts; the decoder's count is how many they are.
use Rattle.std.specs.Prelude.{◌≡◌, refl, Bool, true, false, List, [], ◌∷◌, ◌++◌, ℕ, ◌+◌, ◌≤◌, ◌<◌, ltb, length, count_by, cond}
use Rattle.std.proofs.Common.{ap, arith, lt-ltb, le-ltb}
use Rattle.std.proofs.lemmas.List.Recursion.{is_count_by}
use Rattle.lists.specs.Choice.{pick}
use Rattle.lists.specs.Each.{Bytes}
use Rattle.trace.specs.Trace.{acked}
use Rattle.scan.specs.BytesIn.{bytes_in}
use Rattle.scan.specs.Run.{byte_count}

-- a number below 256 is one byte more, and any other is none
pub byte_more : (x : ℕ) (l : List ℕ) → x < 256 → bytes_in (x ∷ l) ≡ x ∷ bytes_in l
byte_more x l h = rw (lt-ltb x 256 h)

pub no_byte_more : (x : ℕ) (l : List ℕ) → 256 ≤ x → bytes_in (x ∷ l) ≡ bytes_in l
no_byte_more x l h = rw (le-ltb x 256 h)

pub bytes_append : (xs ys : List ℕ) → bytes_in (xs ++ ys) ≡ bytes_in xs ++ bytes_in ys
bytes_append [] ys = refl
bytes_append (x ∷ xs) ys = go (ltb x 256) (bytes_append xs ys)
  where
    go : (b : Bool) → bytes_in (xs ++ ys) ≡ bytes_in xs ++ bytes_in ys → pick b (x ∷ bytes_in (xs ++ ys)) (bytes_in (xs ++ ys)) ≡ pick b (x ∷ bytes_in xs) (bytes_in xs) ++ bytes_in ys
    go true e = ap (λ (l : List ℕ). x ∷ l) e
    go false e = e

-- bytes with their ACKs
pub bytes_acked : (bs : List ℕ) → Bytes bs → bytes_in (acked bs) ≡ bs
bytes_acked [] h = refl
bytes_acked (b ∷ bs) h = rw (lt-ltb b 256 h.0) (ap (λ (l : List ℕ). b ∷ l) (bytes_acked bs h.1))

-- the decoder's count
pub byte_counted : (l : List ℕ) → byte_count l ≡ count_by (λ x. ltb x 256) l
unfolding byte_count
byte_counted = is_count_by byte_count (λ x. ltb x 256) refl (λ x l. go (ltb x 256) l)
  where
    go : (b : Bool) (l : List ℕ) → pick b 1 0 + byte_count l ≡ cond b (1 + byte_count l) (byte_count l)
    go true l = refl
    go false l = omega arith

pub byte_count_is : (l : List ℕ) → byte_count l ≡ length (bytes_in l)
unfolding byte_count
byte_count_is [] = refl
byte_count_is (x ∷ l) = go (ltb x 256) (byte_count_is l)
  where
    go : (b : Bool) → byte_count l ≡ length (bytes_in l) → pick b 1 0 + byte_count l ≡ length (pick b (x ∷ bytes_in l) (bytes_in l))
    go true e = omega (arith, e)
    go false e = omega (arith, e)

-- START, C2h, ACK, FFh: two bytes
pub two_bytes : bytes_in (256 ∷ 0xC2 ∷ 258 ∷ 0xFF ∷ []) ≡ 0xC2 ∷ 0xFF ∷ []
two_bytes = refl
