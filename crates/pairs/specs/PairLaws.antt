-- Pairs of bytes: how many there are, by index, there and back, and into a buffer: 258 is 02h 01h.
use Rattle.std.specs.Prelude.{◌≡◌, refl, Bool, true, false, List, [], ◌∷◌, ◌++◌, ℕ, zero, suc, ◌+◌, ◌*◌, ◌/◌, ◌%◌, ◌≤◌, ◌<◌, leb, length, take, drop, get_or}
use Rattle.std.proofs.Common.{ap, ◌∙◌, sym, ap₂, arith, get_or-drop, get_or-take, ext_get_or, le-leb, leb-true, leb-false}
use Rattle.std.proofs.lemmas.Bool.{lt-leb}
use Rattle.lists.specs.Onto.{onto}
use Rattle.lists.specs.Choice.{pick}
use Rattle.lists.specs.Each.{Bytes}
use Rattle.pairs.specs.Pairs.{pairs_of, symbols_in, Put}

pub length_symbols : (n : ℕ) (l : List ℕ) → length (symbols_in n l) ≡ n
unfolding symbols_in
length_symbols zero l = refl
length_symbols (suc n) l = ap suc (length_symbols n (drop 2 l))

pub length_pairs : (xs : List ℕ) → length (pairs_of xs) ≡ 2 * length xs
unfolding pairs_of
length_pairs [] = refl
length_pairs (x ∷ xs) = let ih = length_pairs xs in omega arith

-- byte 2 i is the low byte of symbol i, byte 2 i + 1 the high one
pub pair_at : (xs : List ℕ) (i : ℕ) → i < length xs → (get_or (pairs_of xs) (2 * i) 0 ≡ get_or xs i 0 % 256) × (get_or (pairs_of xs) (2 * i + 1) 0 ≡ get_or xs i 0 / 256)
unfolding pairs_of
pair_at [] i h = absurd (omega arith)
pair_at (x ∷ xs) zero h = (refl, refl)
pair_at (x ∷ xs) (suc i) h =
    let k = pair_at xs i (omega arith) in
    let l : List ℕ = x % 256 ∷ x / 256 ∷ pairs_of xs in
    let e : 2 * suc i ≡ suc (suc (2 * i)) = omega arith in
    let f : 2 * suc i + 1 ≡ suc (suc (2 * i + 1)) = omega arith in
    (ap (λ (j : ℕ). get_or l j 0) e ∙ k.0, ap (λ (j : ℕ). get_or l j 0) f ∙ k.1)

-- symbol i is byte 2 i plus 256 times byte 2 i + 1
pub symbol_at_lem : (n : ℕ) (l : List ℕ) (i : ℕ) → i < n → get_or (symbols_in n l) i 0 ≡ get_or l (2 * i) 0 + 256 * get_or l (2 * i + 1) 0
unfolding symbols_in
symbol_at_lem zero l i h = absurd (omega arith)
symbol_at_lem (suc n) l zero h = refl
symbol_at_lem (suc n) l (suc i) h =
    let e : 2 + 2 * i ≡ 2 * suc i = omega arith in
    let f : 2 + (2 * i + 1) ≡ 2 * suc i + 1 = omega arith in
    symbol_at_lem n (drop 2 l) i (omega arith)
    ∙ ap₂ (λ (a b : ℕ). a + 256 * b) (get_or-drop 2 l (2 * i) 0 ∙ ap (λ (j : ℕ). get_or l j 0) e) (get_or-drop 2 l (2 * i + 1) 0 ∙ ap (λ (j : ℕ). get_or l j 0) f)

-- the symbols that bytes are: this list and no other
pub symbols_are : (n : ℕ) (bytes tr : List ℕ) → length tr ≡ n → ((i : ℕ) → i < n → get_or tr i 0 ≡ get_or bytes (2 * i) 0 + 256 * get_or bytes (2 * i + 1) 0)
    → symbols_in n bytes ≡ tr
symbols_are n bytes tr e h =
    ext_get_or 0 (symbols_in n bytes) tr (length_symbols n bytes ∙ sym e)
    (λ i k. let l : i < n = omega (arith, length_symbols n bytes) in symbol_at_lem n bytes i l ∙ sym (h i l))

-- there and back
pub pairs_back : (xs rest : List ℕ) → symbols_in (length xs) (pairs_of xs ++ rest) ≡ xs
unfolding pairs_of symbols_in
pairs_back [] rest = refl
pairs_back (x ∷ xs) rest = let e : x % 256 + 256 * (x / 256) ≡ x = omega arith in ap₂ (λ (y : ℕ) (ys : List ℕ). y ∷ ys) e (pairs_back xs rest)

byte_back : (a b : ℕ) → a < 256 → ((a + 256 * b) % 256 ≡ a) × ((a + 256 * b) / 256 ≡ b)
byte_back a b h = (omega arith, omega arith)

-- and back and there, for bytes
pub bytes_back : (n : ℕ) (l : List ℕ) → Bytes l → 2 * n ≤ length l → pairs_of (symbols_in n l) ≡ take (2 * n) l
unfolding pairs_of symbols_in
bytes_back zero l b h = refl
bytes_back (suc n) [] b h = absurd (omega arith)
bytes_back (suc n) (x ∷ []) b h = absurd (omega arith)
bytes_back (suc n) (x ∷ y ∷ l) b h =
    let e : suc (suc (2 * n)) ≡ 2 * suc n = omega arith in
    let k = byte_back x y b.0 in
    ap₂ (λ (u : ℕ) (v : ℕ). u ∷ v ∷ pairs_of (symbols_in n l)) k.0 k.1
    ∙ ap (λ (t : List ℕ). x ∷ y ∷ t) (bytes_back n l b.1.1 (omega arith))
    ∙ ap (λ (j : ℕ). take j (x ∷ y ∷ l)) e

-- 258, an ACK, is 02h 01h
pub ack_bytes : pairs_of (258 ∷ []) ≡ 0x02 ∷ 0x01 ∷ []
unfolding pairs_of
ack_bytes = refl

pub ack_symbol : symbols_in 1 (0x02 ∷ 0x01 ∷ []) ≡ 258 ∷ []
unfolding symbols_in
ack_symbol = refl

-- fewer symbols are the front of more
pub fewer_symbols_front : (k n : ℕ) (l : List ℕ) → k ≤ n → take k (symbols_in n l) ≡ symbols_in k l
unfolding symbols_in
fewer_symbols_front zero n l h = refl
fewer_symbols_front (suc k) zero l h = absurd (omega arith)
fewer_symbols_front (suc k) (suc n) l h = ap (λ (t : List ℕ). (get_or l 0 0 + 256 * get_or l 1 0) ∷ t) (fewer_symbols_front k n (drop 2 l) (omega arith))

-- ---- into a buffer of bytes

pub put_none : (symbols before : List ℕ) → length before / 2 < length symbols → Put symbols before false before
put_none symbols before h = let t = lt-leb (length symbols) (length before / 2) h in record { room = sym t; output = rw t }

pub put_all : (symbols before after : List ℕ) → length symbols ≤ length before / 2 → after ≡ onto (pairs_of symbols) before → Put symbols before true after
put_all symbols before after h e = let t = le-leb (length symbols) (length before / 2) h in record { room = sym t; output = rw t e }

-- true: there was room, and the pairs stand at the front
pub put_true : (symbols before : List ℕ) (r : Bool) (after : List ℕ) → Put symbols before r after → r ≡ true
    → (length symbols ≤ length before / 2) × (after ≡ onto (pairs_of symbols) before)
put_true symbols before r after p e =
    let t : leb (length symbols) (length before / 2) ≡ true = sym p.room ∙ e in
    (leb-true (length symbols) (length before / 2) t, p.output ∙ ap (λ (b : Bool). pick b (onto (pairs_of symbols) before) before) t)

-- false: there was none, and nothing is written
pub put_false : (symbols before : List ℕ) (r : Bool) (after : List ℕ) → Put symbols before r after → r ≡ false
    → (length before / 2 < length symbols) × (after ≡ before)
put_false symbols before r after p e =
    let t : leb (length symbols) (length before / 2) ≡ false = sym p.room ∙ e in
    (leb-false (length symbols) (length before / 2) t, p.output ∙ ap (λ (b : Bool). pick b (onto (pairs_of symbols) before) before) t)

-- the symbols of a part of bytes
pub symbols_of_part : (n : ℕ) (l : List ℕ) → symbols_in n (take (2 * n) l) ≡ symbols_in n l
symbols_of_part n l =
    symbols_are n (take (2 * n) l) (symbols_in n l) (length_symbols n l)
    (λ i h. symbol_at_lem n l i h ∙ sym (ap₂ (λ (a b : ℕ). a + 256 * b) (get_or-take (2 * n) l (2 * i) 0 (omega arith)) (get_or-take (2 * n) l (2 * i + 1) 0 (omega arith))))
