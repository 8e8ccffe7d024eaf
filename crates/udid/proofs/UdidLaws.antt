-- Identifiers: the test of equality is equality, bytes and halves determine each other, and the order is that of the bytes.
use Rattle.std.specs.Prelude.{ℕ, ◌+◌, ◌*◌, ◌/◌, ◌^◌, ◌<◌, ◌≤◌, ◌≡◌, refl, Bool, true, false, List, [], ◌∷◌, ◌++◌, ◌↔◌, ltb, eqb, length, get_or, take, drop, replicate}
use Rattle.std.proofs.Common.{sym, ap, ap₂, ◌∙◌, append_assoc, mod-eq_of_lt, arith, length-append, take-add, drop-drop, length-take-le, eqb-true, eq-eqb, ne_eqb, le-ltb}
use Rattle.std.proofs.Math.Decide.{ℕ_discrete, dec_lt}
use Rattle.lists.specs.Choice.{pick, or, and}
use Rattle.lists.specs.ChoiceLaws.{false_not_true, not_both, or_none}
use Rattle.lists.specs.EachLaws.{append_bytes}
use Rattle.lists.specs.Each.{Bytes}
use Rattle.udid.specs.Bytes.{number, number_from, bytes_of, bytes_from, udid_bytes, udid_at, less, put_at}
use Rattle.udid.proofs.ByteLaws.{number_lt, number_split, number_bytes, bytes_number, bytes_bytes, length_bytes, number_order, digits_order}
use Rattle.udid.specs.Udids.{Fits, same_udid, value, is_below, top_bits, is_fixed}
use Rattle.udid.proofs.WindowLaws.{length_from, bytes_from_lem, from_part, from_between, from_zeros, put_fits}
use Rattle.udid.specs.declared.Udid.{Udid}

same_halves : (u v : Udid) → u.high ≡ v.high → u.low ≡ v.low → u ≡ v
same_halves u v h l = λ i. record { high = h i; low = l i }

-- ---- the test of equality

pub same_equal : (u v : Udid) → same_udid u v ≡ true → u ≡ v
same_equal u v e = go (eqb u.high v.high) refl (eqb u.low v.low) refl e
  where
    go : (a : Bool) → eqb u.high v.high ≡ a → (b : Bool) → eqb u.low v.low ≡ b → and a b ≡ true → u ≡ v
    go true h true l k = same_halves u v (eqb-true _ _ h) (eqb-true _ _ l)
    go true h false l k = false_not_true k
    go false h b l k = false_not_true k

pub same_refl : (u : Udid) → same_udid u u ≡ true
same_refl u = simp (eq-eqb u.high u.high refl, eq-eqb u.low u.low refl)

pub same_is : (u v : Udid) → (same_udid u v ≡ true) ↔ (u ≡ v)
same_is u v = (same_equal u v, λ e. ap (same_udid u) (sym e) ∙ same_refl u)

pub other_udid : (u v : Udid) → (u ≡ v → ⊥) → same_udid u v ≡ false
other_udid u v n = go (same_udid u v) refl
  where
    go : (b : Bool) → same_udid u v ≡ b → same_udid u v ≡ false
    go true e = absurd (n (same_equal u v e))
    go false e = e

-- ---- there and back

pub length_udid : (u : Udid) → length (udid_bytes u) ≡ 16
unfolding udid_bytes
length_udid u = omega (arith, length-append (bytes_of 8 u.high) (bytes_of 8 u.low), length_bytes 8 u.high, length_bytes 8 u.low)

pub udid_bytes_lem : (u : Udid) → Bytes (udid_bytes u)
unfolding udid_bytes
udid_bytes_lem u = append_bytes (bytes_of 8 u.high) (bytes_of 8 u.low) (bytes_bytes 8 u.high) (bytes_bytes 8 u.low)

pub fits_at : (s : List ℕ) (i : ℕ) → Bytes s → Fits (udid_at s i)
unfolding udid_at
fits_at s i h =
    record {
      high = rw (length_from s i 8) at (number_lt (bytes_from s i 8) (bytes_from_lem s i 8 h));
      low = rw (length_from s (i + 8) 8) at (number_lt (bytes_from s (i + 8) 8) (bytes_from_lem s (i + 8) 8 h));
    }

eight_bytes_make : (n : ℕ) → n < 2 ^ 64 → number (bytes_of 8 n) ≡ n
eight_bytes_make n h = number_bytes 8 n ∙ mod-eq_of_lt h

-- an identifier is read where its bytes stand, whatever stands before and after them
pub udid_back : (p r : List ℕ) (i : ℕ) (u : Udid) → Fits u → length p ≡ i → udid_at (p ++ (udid_bytes u ++ r)) i ≡ u
unfolding udid_at udid_bytes
udid_back p r i u f e =
    let a : List ℕ = bytes_of 8 u.high in
    let b : List ℕ = bytes_of 8 u.low in
    let l : length (bytes_of 8 u.high) ≡ 8 = length_bytes 8 u.high in
    let m : length (bytes_of 8 u.low) ≡ 8 = length_bytes 8 u.low in
    let x : bytes_from (p ++ ((bytes_of 8 u.high ++ bytes_of 8 u.low) ++ r)) i 8 ≡ bytes_of 8 u.high
    = rw (append_assoc (bytes_of 8 u.high) (bytes_of 8 u.low) r) (from_between p (bytes_of 8 u.high) (bytes_of 8 u.low ++ r) i 8 e l) in
    let y : bytes_from (p ++ ((bytes_of 8 u.high ++ bytes_of 8 u.low) ++ r)) (i + 8) 8 ≡ bytes_of 8 u.low
    = rw (append_assoc (bytes_of 8 u.high) (bytes_of 8 u.low) r, ← append_assoc p (bytes_of 8 u.high) (bytes_of 8 u.low ++ r))
    (from_between (p ++ bytes_of 8 u.high) (bytes_of 8 u.low) r (i + 8) 8 (omega (arith, length-append p (bytes_of 8 u.high))) m) in
    same_halves _ u (ap number x ∙ eight_bytes_make u.high f.high) (ap number y ∙ eight_bytes_make u.low f.low)

-- and its bytes are those that stand there
pub bytes_back : (s : List ℕ) (i : ℕ) → Bytes s → i + 16 ≤ length s → udid_bytes (udid_at s i) ≡ take 16 (drop i s)
unfolding udid_at udid_bytes
bytes_back s i h g =
    ap₂ (λ (x y : List ℕ). x ++ y) (eight i (omega arith)) (eight (i + 8) (omega arith) ∙ ap (take 8) (sym (drop-drop 8 i s)))
    ∙ sym (take-add 8 8 (drop i s))
  where
    eight : (j : ℕ) → j + 8 ≤ length s → bytes_of 8 (number (bytes_from s j 8)) ≡ take 8 (drop j s)
    eight j l = rw (length_from s j 8) at (bytes_number 0 (bytes_from s j 8) (bytes_from_lem s j 8 h)) ∙ from_part s j 8 l

-- what is written is read there
pub put_back : (l : List ℕ) (i : ℕ) (u : Udid) → Fits u → i + 16 ≤ length l → udid_at (put_at l i (udid_bytes u)) i ≡ u
put_back l i u f h =
    ap (λ (x : List ℕ). udid_at x i) (put_fits l (udid_bytes u) i (omega (arith, length_udid u)))
    ∙ udid_back (take i l) (drop (i + length (udid_bytes u)) l) i u f (length-take-le i l (omega arith))

-- a list that ends before the 16 bytes is read as though zeros followed it
pub udid_zeros : (s : List ℕ) (k i : ℕ) → udid_at (s ++ replicate k 0) i ≡ udid_at s i
unfolding udid_at
udid_zeros s k i = same_halves _ _ (ap number (from_zeros s k i 8)) (ap number (from_zeros s k (i + 8) 8))

-- ten bytes: the six that are not there are zeros
pub udid_of_ten : udid_at (1 ∷ 2 ∷ 3 ∷ 4 ∷ 5 ∷ 6 ∷ 7 ∷ 8 ∷ 9 ∷ 10 ∷ []) 0 ≡ record { high = 0x0102030405060708; low = 0x090A000000000000 }
unfolding udid_at bytes_from number_from
udid_of_ten = refl

-- ---- bytes and halves

pub same_bytes : (u v : Udid) → Fits u → Fits v → (udid_bytes u ≡ udid_bytes v) ↔ (u ≡ v)
same_bytes u v f g = (
  λ e. sym (udid_back [] [] 0 u f refl) ∙ ap (λ (x : List ℕ). udid_at (x ++ []) 0) e ∙ udid_back [] [] 0 v g refl,
  λ e. ap udid_bytes e,
)

-- ---- the order

-- the number of 128 bits is that of the 16 bytes
number_after : (n : ℕ) (xs ys : List ℕ) → number_from n (xs ++ ys) ≡ number_from (number_from n xs) ys
unfolding number_from
number_after n [] ys = refl
number_after n (x ∷ xs) ys = number_after (256 * n + x) xs ys

number_append : (xs ys : List ℕ) → number (xs ++ ys) ≡ number xs * 256 ^ length ys + number ys
number_append xs ys = number_after 0 xs ys ∙ number_split (number xs) ys

pub value_bytes : (u : Udid) → Fits u → number (udid_bytes u) ≡ value u
unfolding udid_bytes
value_bytes u f =
    number_append (bytes_of 8 u.high) (bytes_of 8 u.low)
    ∙ rw (length_bytes 8 u.low, eight_bytes_make u.high f.high, eight_bytes_make u.low f.low)

halves_unique : (h l h' l' : ℕ) → l < 2 ^ 64 → l' < 2 ^ 64 → h * 2 ^ 64 + l ≡ h' * 2 ^ 64 + l' → (h ≡ h') × (l ≡ l')
halves_unique h l h' l' a b e = omega arith

pub value_same : (u v : Udid) → u.low < 2 ^ 64 → v.low < 2 ^ 64 → value u ≡ value v → u ≡ v
value_same u v a b e = let r = halves_unique u.high u.low v.high v.low a b e in same_halves u v r.0 r.1

-- an identifier is below another if and only if its bytes are: the first that differs decides
pub below_bytes : (u v : Udid) → Fits u → Fits v → is_below u v ≡ less (udid_bytes u) (udid_bytes v)
below_bytes u v f g =
    ap₂ ltb (sym (value_bytes u f)) (sym (value_bytes v g))
    ∙ number_order (udid_bytes u) (udid_bytes v) (length_udid u ∙ sym (length_udid v)) (udid_bytes_lem u) (udid_bytes_lem v)

-- the high halves decide, and where they are the same the low ones
pub below_halves : (u v : Udid) → u.low < 2 ^ 64 → v.low < 2 ^ 64 → is_below u v ≡ pick (eqb u.high v.high) (ltb u.low v.low) (ltb u.high v.high)
below_halves u v a b = digits_order u.high v.high (2 ^ 64) u.low v.low (ltb u.low v.low) a b refl ∙ go (ℕ_discrete u.high v.high)
  where
    go : Dec (u.high ≡ v.high) → or (ltb u.high v.high) (and (eqb u.high v.high) (ltb u.low v.low))
        ≡ pick (eqb u.high v.high) (ltb u.low v.low) (ltb u.high v.high)
    go (yes e) = rw (le-ltb u.high v.high (omega arith), eq-eqb u.high v.high e)
    go (no e) = rw (ne_eqb u.high v.high e) (or_none (ltb u.high v.high))

-- ---- the top two bits

-- they are those of the first byte on the wire, the capabilities
pub top_of_first : (u : Udid) → Fits u → top_bits u ≡ get_or (udid_bytes u) 0 0 / 64
unfolding udid_bytes bytes_of
top_of_first u f = omega (arith, f.high)

pub fixed_is : (u : Udid) → (is_fixed u ≡ true) ↔ (top_bits u ≡ 0)
fixed_is u = (eqb-true (top_bits u) 0, eq-eqb (top_bits u) 0)

-- 00, exactly if that byte is below 64; 01, 10 and 11 from 64 on
pub fixed_first : (u : Udid) → Fits u → (is_fixed u ≡ true) ↔ (get_or (udid_bytes u) 0 0 < 64)
fixed_first u f = (λ e. omega (arith, top_of_first u f, (fixed_is u).0 e), λ h. (fixed_is u).1 (omega (arith, top_of_first u f)))

pub movable_first : (u : Udid) → Fits u → (is_fixed u ≡ false) ↔ (64 ≤ get_or (udid_bytes u) 0 0)
movable_first u f = (λ e. above e (dec_lt (get_or (udid_bytes u) 0 0) 64), λ h. ne_eqb (top_bits u) 0 (λ e. omega (arith, top_of_first u f)))
  where
    above : is_fixed u ≡ false → Dec (get_or (udid_bytes u) 0 0 < 64) → 64 ≤ get_or (udid_bytes u) 0 0
    above e (yes h) = not_both e ((fixed_first u f).1 h)
    above e (no h) = omega arith

-- ---- one of them in numbers: the high half first, and in each half the highest byte first

pub written_out : udid_bytes (record { high = 0x0102030405060708; low = 0x090A0B0C0D0E0F10 })
    ≡ 1 ∷ 2 ∷ 3 ∷ 4 ∷ 5 ∷ 6 ∷ 7 ∷ 8 ∷ 9 ∷ 10 ∷ 11 ∷ 12 ∷ 13 ∷ 14 ∷ 15 ∷ 16 ∷ []
unfolding udid_bytes bytes_of
written_out = refl
