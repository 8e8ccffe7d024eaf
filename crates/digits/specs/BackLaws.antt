-- What was written is there, where it has room; a number written in decimal reads back as itself, and a byte as two digits too.
use Rattle.std.specs.Prelude.{ℕ, zero, suc, ◌+◌, ◌*◌, ◌/◌, ◌%◌, ◌<◌, ◌≤◌, ◌≡◌, refl, Bool, true, false, List, [], ◌∷◌, ◌++◌, ltb, length, take, drop, set}
use Rattle.std.proofs.Common.{sym, ap, ◌∙◌, add-one, arith, length-set, lt-ltb, ltb-true, ltb-false}
use Rattle.std.proofs.lemmas.List.Edits.{sets, sets-eq}
use Rattle.lists.specs.Choice.{pick}
use Rattle.digits.specs.Numbers.{digit_of, value_from, value_of}
use Rattle.digits.specs.NumberLaws.{digit_decimal, digit_lower}
use Rattle.writing.specs.Written.{following, after, written, glyph, decimal, decimal_of, pair_of}

-- ---- where there is room

pub after_fits : (n at : ℕ) (xs : List ℕ) → at + length xs ≤ n → after n at xs ≡ at + length xs
unfolding after
after_fits n at [] h = omega arith
after_fits n at (x ∷ xs) h =
    let e : following n at ≡ at + 1 = simp (lt-ltb at n (omega arith)) in
    ap (λ (p : ℕ). after n p xs) e ∙ after_fits n (at + 1) xs (omega arith) ∙ omega arith

written_sets : (l : List ℕ) (at : ℕ) (xs : List ℕ) → at + length xs ≤ length l → written l at xs ≡ sets l at xs
unfolding written
written_sets l at [] h = refl
written_sets l at (x ∷ xs) h =
    let e : following (length l) at ≡ suc at = (simp (lt-ltb at (length l) (omega arith))) ∙ add-one at in
    ap (λ (p : ℕ). written (set l at x) p xs) e ∙ written_sets (set l at x) (suc at) xs (omega (arith, length-set l at x))

-- the text stands there, and the rest of the buffer is as it was
pub written_fits : (l : List ℕ) (at : ℕ) (xs : List ℕ) → at + length xs ≤ length l → written l at xs ≡ take at l ++ xs ++ drop (at + length xs) l
written_fits l at xs h = written_sets l at xs h ∙ sets-eq xs l at h

-- ---- read back

pub value_snoc : (base v : ℕ) (xs : List ℕ) (c : ℕ) → value_from base v (xs ++ (c ∷ [])) ≡ value_from base v xs * base + digit_of c
unfolding value_from
value_snoc base v [] c = refl
value_snoc base v (x ∷ xs) c = value_snoc base (v * base + digit_of x) xs c

pub glyph_back : (d : ℕ) → d < 16 → digit_of (glyph d) ≡ d
glyph_back d h = go (ltb d 10) refl
  where
    go : (t : Bool) → ltb d 10 ≡ t → digit_of (pick t (48 + d) (87 + d)) ≡ d
    go true e = digit_decimal (48 + d) (omega arith) (omega (arith, ltb-true d 10 e)) ∙ omega arith
    go false e = digit_lower (87 + d) (omega (arith, ltb-false d 10 e)) (omega arith) ∙ omega arith

decimal_step : (k n : ℕ) → (10 ≤ n → value_of 10 (decimal k (n / 10)) ≡ n / 10) → (t : Bool) → ltb n 10 ≡ t
    → value_of 10 (pick t (glyph n ∷ []) (decimal k (n / 10) ++ (glyph (n % 10) ∷ []))) ≡ n
unfolding value_from
decimal_step k n rest true e = omega (arith, glyph_back n (omega (arith, ltb-true n 10 e)))
decimal_step k n rest false e =
    value_snoc 10 0 (decimal k (n / 10)) (glyph (n % 10)) ∙ omega (arith, rest (ltb-false n 10 e), glyph_back (n % 10) (omega arith))

decimal_value : (k n : ℕ) → n < k → value_of 10 (decimal k n) ≡ n
unfolding decimal
decimal_value zero n h = absurd (omega arith)
decimal_value (suc k) n h = decimal_step k n (λ b. decimal_value k (n / 10) (omega arith)) (ltb n 10) refl

-- the digits of a number say the number
pub decimal_back : (n : ℕ) → value_of 10 (decimal_of n) ≡ n
decimal_back n = decimal_value (suc n) n (omega arith)

-- and the two digits of a byte the byte
pub pair_back : (b : ℕ) → b < 256 → value_of 16 (pair_of b) ≡ b
unfolding value_from
pair_back b h = omega (arith, glyph_back (b / 16) (omega arith), glyph_back (b % 16) (omega arith))

-- ---- one outcome: two places and buffers that meet what a writer promises are equal

pub put_once : (l : List ℕ) (at : ℕ) (xs : List ℕ) (r r' : ℕ) (k k' : List ℕ) → (r ≡ after (length l) at xs) × (k ≡ written l at xs)
    → (r' ≡ after (length l) at xs) × (k' ≡ written l at xs) → (r ≡ r') × (k ≡ k')
put_once l at xs r r' k k' p q = (p.0 ∙ sym q.0, p.1 ∙ sym q.1)

pub byte_once : (l : List ℕ) (at c r r' : ℕ) (k k' : List ℕ) → (r ≡ following (length l) at) × (k ≡ set l at c)
    → (r' ≡ following (length l) at) × (k' ≡ set l at c) → (r ≡ r') × (k ≡ k')
byte_once l at c r r' k k' p q = (p.0 ∙ sym q.0, p.1 ∙ sym q.1)
