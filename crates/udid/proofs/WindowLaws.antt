-- Bytes that stand in a list from a place on: what is read there, zeros past the end, and what a write changes and leaves.
use Rattle.std.specs.Prelude.{ℕ, zero, suc, ◌+◌, ◌*◌, ◌<◌, ◌≤◌, ◌≡◌, refl, List, [], ◌∷◌, ◌++◌, length, get_or, take, drop, replicate}
use Rattle.std.proofs.Common.{sym, ap, ap₂, ◌∙◌, append_assoc, arith, length-append, length-drop, drop-cons, drop-drop, drop_at, take_at, length-take-le, get_or-append-add, get_or-drop, get_or-take, le-leb}
use Rattle.std.proofs.Math.ListN.{get_or-append}
use Rattle.std.proofs.lemmas.Bool.{lt-leb}
use Rattle.lists.specs.Each.{Bytes}
pub use Rattle.lists.specs.EachLaws.{byte_at}
use Rattle.udid.specs.Bytes.{number, number_from, bytes_from, put_at}

pub length_from : (s : List ℕ) (i n : ℕ) → length (bytes_from s i n) ≡ n
unfolding bytes_from
length_from s i zero = refl
length_from s i (suc n) = ap suc (length_from s (suc i) n)

pub bytes_from_lem : (s : List ℕ) (i n : ℕ) → Bytes s → Bytes (bytes_from s i n)
unfolding bytes_from
bytes_from_lem s i zero h = tt
bytes_from_lem s i (suc n) h = (byte_at s i h, bytes_from_lem s (suc i) n h)

-- the number of eight bytes is that of the first four, and of the four after them
pub number_halves : (s : List ℕ) (i : ℕ) → 4294967296 * number (bytes_from s i 4) + number (bytes_from s (i + 4) 4) ≡ number (bytes_from s i 8)
unfolding number_from bytes_from
number_halves s i = let e : i + 4 ≡ suc (suc (suc (suc i))) = omega arith in rw e (omega arith)

-- where the list has them all, they are a part of it
pub from_part : (s : List ℕ) (i n : ℕ) → i + n ≤ length s → bytes_from s i n ≡ take n (drop i s)
unfolding bytes_from
from_part s i zero h = refl
from_part s i (suc n) h =
    let l : i < length s = omega arith in
    ap (λ (t : List ℕ). get_or s i 0 ∷ t) (from_part s (suc i) n (omega arith)) ∙ sym (ap (take (suc n)) (drop-cons s i 0 l))

-- what stands between other bytes is read there
pub from_between : (p q r : List ℕ) (i n : ℕ) → length p ≡ i → length q ≡ n → bytes_from (p ++ (q ++ r)) i n ≡ q
from_between p q r i n e f =
    from_part (p ++ (q ++ r)) i n (omega (arith, length-append p (q ++ r), length-append q r))
    ∙ ap (take n) (drop_at p (q ++ r) i e)
    ∙ take_at q r n f

-- a byte that the list does not have counts as zero: what is read is what would be read if zeros followed the list
none_there : (k i : ℕ) → ◌≡◌ {A = ℕ} (get_or (replicate k 0) i 0) 0
none_there zero i = refl
none_there (suc k) zero = refl
none_there (suc k) (suc i) = none_there k i

byte_zeros : (s : List ℕ) (k i : ℕ) → get_or (s ++ replicate k 0) i 0 ≡ get_or s i 0
byte_zeros [] k i = none_there k i
byte_zeros (x ∷ s) k zero = refl
byte_zeros (x ∷ s) k (suc i) = byte_zeros s k i

pub from_zeros : (s : List ℕ) (k i n : ℕ) → bytes_from (s ++ replicate k 0) i n ≡ bytes_from s i n
unfolding bytes_from
from_zeros s k i zero = refl
from_zeros s k i (suc n) = ap₂ (λ (x : ℕ) (l : List ℕ). x ∷ l) (byte_zeros s k i) (from_zeros s k (suc i) n)

-- and from a place on, what stands further on in the list
pub from_drop : (s : List ℕ) (i j n : ℕ) → bytes_from (drop i s) j n ≡ bytes_from s (i + j) n
unfolding bytes_from
from_drop s i j zero = refl
from_drop s i j (suc n) = ap₂ (λ (x : ℕ) (l : List ℕ). x ∷ l) (get_or-drop i s j 0) (from_drop s i (suc j) n ∙ ap (λ (x : ℕ). bytes_from s x n) (omega arith))

-- ---- written

pub put_fits : (l bs : List ℕ) (i : ℕ) → i + length bs ≤ length l → put_at l i bs ≡ take i l ++ (bs ++ drop (i + length bs) l)
unfolding put_at
put_fits l bs i h = rw (le-leb (i + length bs) (length l) h)

-- where there is no room, nothing is
pub put_short : (l bs : List ℕ) (i : ℕ) → length l < i + length bs → put_at l i bs ≡ l
unfolding put_at
put_short l bs i h = rw (lt-leb (i + length bs) (length l) h)

module _ (l bs : List ℕ) (i : ℕ) (h : i + length bs ≤ length l) where
  -- the bytes stand there
  pub put_there : take (length bs) (drop i (put_at l i bs)) ≡ bs
  put_there =
      let k : length (take i l) ≡ i = length-take-le i l (omega arith) in
      ap (λ (x : List ℕ). take (length bs) (drop i x)) (put_fits l bs i h)
      ∙ ap (take (length bs)) (drop_at (take i l) (bs ++ drop (i + length bs) l) i k)
      ∙ take_at bs (drop (i + length bs) l) (length bs) refl

  -- before and after them the list is as it was
  pub put_before : (j : ℕ) → j < i → get_or (put_at l i bs) j 0 ≡ get_or l j 0
  put_before j g =
      let k : length (take i l) ≡ i = length-take-le i l (omega arith) in
      ap (λ (x : List ℕ). get_or x j 0) (put_fits l bs i h)
      ∙ get_or-append (take i l) (bs ++ drop (i + length bs) l) 0 j (omega arith)
      ∙ get_or-take i l j 0 g

  pub put_after : (j : ℕ) → get_or (put_at l i bs) (i + length bs + j) 0 ≡ get_or l (i + length bs + j) 0
  put_after j =
      let k : length (take i l) ≡ i = length-take-le i l (omega arith) in
      let m : i + length bs + j ≡ length (take i l) + (length bs + j) = omega arith in
      ap (λ (x : List ℕ). get_or x (i + length bs + j) 0) (put_fits l bs i h)
      ∙ ap (λ (x : ℕ). get_or (take i l ++ (bs ++ drop (i + length bs) l)) x 0) m
      ∙ get_or-append-add (take i l) (bs ++ drop (i + length bs) l) (length bs + j) 0
      ∙ get_or-append-add bs (drop (i + length bs) l) j 0
      ∙ get_or-drop (i + length bs) l j 0

  pub length_put : length (put_at l i bs) ≡ length l
  length_put =
      let k : length (take i l) ≡ i = length-take-le i l (omega arith) in
      ap length (put_fits l bs i h)
      ∙ omega (arith, length-append (take i l) (bs ++ drop (i + length bs) l), length-append bs (drop (i + length bs) l), length-drop (i + length bs) l)

-- two lists written one behind the other are one
pub put_two : (l a b x y : List ℕ) (i m n : ℕ) → length a ≡ m → length b ≡ n → i + m + n ≤ length l
    → x ≡ take i l ++ (a ++ drop (i + m) l) → y ≡ take (i + m) x ++ (b ++ drop (i + m + n) x) → y ≡ put_at l i (a ++ b)
put_two l a b x y i m n p q h e f =
    let t : length (take i l ++ a) ≡ i + m = omega (arith, length-append (take i l) a, length-take-le i l (omega arith)) in
    let g : x ≡ (take i l ++ a) ++ drop (i + m) l = e ∙ sym (append_assoc (take i l) a (drop (i + m) l)) in
    let u : take (i + m) x ≡ take i l ++ a = ap (take (i + m)) g ∙ take_at (take i l ++ a) (drop (i + m) l) (i + m) t in
    let v : drop (i + m + n) x ≡ drop (i + m + n) l
    = sym (drop-drop n (i + m) x) ∙ ap (λ (z : List ℕ). drop n (drop (i + m) z)) g ∙ ap (drop n) (drop_at (take i l ++ a) (drop (i + m) l) (i + m) t) ∙ drop-drop n (i + m) l in
    let k : length (a ++ b) ≡ m + n = omega (arith, length-append a b) in
    let w : i + m + n ≡ i + length (a ++ b) = omega arith in
    f
    ∙ ap₂ (λ (z w : List ℕ). z ++ (b ++ w)) u (v ∙ ap (λ (j : ℕ). drop j l) w)
    ∙ append_assoc (take i l) a (b ++ drop (i + length (a ++ b)) l)
    ∙ ap (λ (z : List ℕ). take i l ++ z) (sym (append_assoc a b (drop (i + length (a ++ b)) l)))
    ∙ sym (put_fits l (a ++ b) i (omega arith))
