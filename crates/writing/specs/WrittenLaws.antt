-- Text written piece after piece is the text written at once; the digits of a number come one after the other, the last one last.
use Rattle.std.specs.Prelude.{ℕ, zero, suc, ◌+◌, ◌/◌, ◌%◌, ◌<◌, ◌≤◌, ◌≡◌, refl, Bool, true, false, List, [], ◌∷◌, ◌++◌, ltb, length, drop, get_or, set}
use Rattle.std.proofs.Common.{sym, ap, subst, ◌∙◌, append-nil, add-one, mod-eq_of_lt, arith, length-set, drop_of_length-le, drop-cons, lt-ltb, le-ltb, ltb-true, ltb-false}
use Rattle.lists.specs.Choice.{pick}
use Rattle.writing.specs.Written.{following, after, written, glyph, decimal, decimal_of, pair_of, pairs_of, Appended, Came}

-- ---- one piece after another

pub length_written : (l : List ℕ) (at : ℕ) (xs : List ℕ) → length (written l at xs) ≡ length l
unfolding written
length_written l at [] = refl
length_written l at (x ∷ xs) = length_written (set l at x) (following (length l) at) xs ∙ length-set l at x

pub after_append : (n at : ℕ) (xs ys : List ℕ) → after n at (xs ++ ys) ≡ after n (after n at xs) ys
unfolding after
after_append n at [] ys = refl
after_append n at (x ∷ xs) ys = after_append n (following n at) xs ys

pub written_append : (l : List ℕ) (n at : ℕ) (xs ys : List ℕ) → length l ≡ n → written l at (xs ++ ys) ≡ written (written l at xs) (after n at xs) ys
unfolding written after
written_append l n at [] ys e = refl
written_append l n at (x ∷ xs) ys e =
    written_append (set l at x) n (following (length l) at) xs ys (length-set l at x ∙ e)
    ∙ ap (λ (m : ℕ). written (written (set l at x) (following (length l) at) xs) (after n (following m at) xs) ys) e

-- one character
pub after_one : (n at c : ℕ) → after n at (c ∷ []) ≡ following n at
unfolding after
after_one n at c = refl

pub written_one : (l : List ℕ) (at c : ℕ) → written l at (c ∷ []) ≡ set l at c
unfolding written
written_one l at c = refl

pub one_put : {l l' : List ℕ} {at to c : ℕ} → to ≡ following (length l) at → l' ≡ set l at c → Appended l at (c ∷ []) l' to
one_put {l} {l'} {at} {to} {c} e f = record { place = e ∙ sym (after_one (length l) at c); text = f ∙ sym (written_one l at c) }

-- one character where there is room
pub put_within : {l : List ℕ} {at c : ℕ} → at < length l → Appended l at (c ∷ []) (set l at c) (at + 1)
put_within {l} {at} {c} h = one_put (rw (lt-ltb at (length l) h)) refl

-- the place after characters stays in the buffer
following_within : (n at : ℕ) → at ≤ n → (t : Bool) → ltb at n ≡ t → pick t (at + 1) at ≤ n
following_within n at h true e = omega (arith, ltb-true at n e)
following_within n at h false e = h

pub after_within : (n at : ℕ) (xs : List ℕ) → at ≤ n → after n at xs ≤ n
unfolding after
after_within n at [] h = h
after_within n at (x ∷ xs) h = after_within n (following n at) xs (following_within n at h (ltb at n) refl)

pub appended_within : {l xs l' : List ℕ} {at to : ℕ} → Appended l at xs l' to → at ≤ length l → to ≤ length l
appended_within {l} {xs} {l'} {at} {to} a h = subst (λ (p : ℕ). p ≤ length l) (sym a.place) (after_within (length l) at xs h)

pub came_start : (l : List ℕ) (at : ℕ) (all : List ℕ) → Came l at all l at all
came_start l at all = record { size = refl; place = refl; text = refl }

-- a piece is written
pub came_on : (l₀ : List ℕ) (at : ℕ) (all l : List ℕ) (to : ℕ) (xs ys : List ℕ) (l' : List ℕ) (to' : ℕ) → Came l₀ at all l to (xs ++ ys)
    → to' ≡ after (length l) to xs → l' ≡ written l to xs → Came l₀ at all l' to' ys
came_on l₀ at all l to xs ys l' to' c e f = record {
  size = ap length f ∙ length_written l to xs ∙ c.size;
  place = c.place ∙ after_append (length l₀) to xs ys ∙ ap (λ (p : ℕ). after (length l₀) p ys) (ap (λ (n : ℕ). after n to xs) (sym c.size) ∙ sym e);
  text = c.text ∙ written_append l (length l) to xs ys refl ∙ ap (λ (z : List ℕ). written z (after (length l) to xs) ys) (sym f) ∙ ap (λ (p : ℕ). written l' p ys) (sym e);
}

-- all is
pub came_end : (l₀ : List ℕ) (at : ℕ) (all l : List ℕ) (to : ℕ) → Came l₀ at all l to [] → Appended l₀ at all l to
unfolding after written
came_end l₀ at all l to c = record { place = sym c.place; text = sym c.text }

-- one writer after another
pub appended_on : {l l₁ l₂ xs ys : List ℕ} {at t₁ t₂ : ℕ} → Appended l at xs l₁ t₁ → Appended l₁ t₁ ys l₂ t₂ → Appended l at (xs ++ ys) l₂ t₂
appended_on {l} {l₁} {l₂} {xs} {ys} {at} {t₁} {t₂} a b =
    came_end l at (xs ++ ys) l₂ t₂
    (came_on l at (xs ++ ys) l₁ t₁ ys [] l₂ t₂ (rw append-nil (came_on l at (xs ++ ys) l at xs ys l₁ t₁ (came_start l at (xs ++ ys)) a.place a.text)) b.place b.text)

-- a turn of a loop: what is left begins with a piece, and that is written
pub came_turn : {l₀ all l rest xs ys l' : List ℕ} {at to to' : ℕ} → Came l₀ at all l to rest → rest ≡ xs ++ ys → Appended l to xs l' to' → Came l₀ at all l' to' ys
came_turn {l₀} {all} {l} {rest} {xs} {ys} {l'} {at} {to} {to'} c e a =
    came_on l₀ at all l to xs ys l' to' (subst (λ (r : List ℕ). Came l₀ at all l to r) e c) a.place a.text

-- nothing is left
pub came_done : {l₀ all l rest : List ℕ} {at to : ℕ} → Came l₀ at all l to rest → rest ≡ [] → Appended l₀ at all l to
came_done {l₀} {all} {l} {rest} {at} {to} c e = came_end l₀ at all l to (subst (λ (r : List ℕ). Came l₀ at all l to r) e c)

-- a text that is another
pub appended_as : {l xs ys l' : List ℕ} {at to : ℕ} → xs ≡ ys → Appended l at xs l' to → Appended l at ys l' to
appended_as {l} {xs} {ys} {l'} {at} {to} e a = subst (λ (zs : List ℕ). Appended l at zs l' to) e a

-- nothing is written
pub appended_none : {l : List ℕ} {at : ℕ} → Appended l at [] l at
appended_none {l} {at} = came_end l at [] l at (came_start l at [])

-- ---- the pieces of a loop

pub rest_on : (s : List ℕ) (i : ℕ) → i < length s → drop i s ≡ (get_or s i 0 ∷ []) ++ drop (i + 1) s
rest_on s i h = rw (drop-cons s i 0 h, add-one i)

pub pairs_on : (s : List ℕ) (i : ℕ) → i < length s → pairs_of (drop i s) ≡ pair_of (get_or s i 0) ++ pairs_of (drop (i + 1) s)
unfolding pairs_of
pairs_on s i h = rw (drop-cons s i 0 h, add-one i)

pub pairs_over : (s : List ℕ) (i : ℕ) → length s ≤ i → pairs_of (drop i s) ≡ []
unfolding pairs_of
pairs_over s i h = rw (drop_of_length-le s h)

-- two characters, one after the other
pub put_two : (l l₁ l₂ : List ℕ) (at to₁ to₂ c d : ℕ) → to₁ ≡ following (length l) at → l₁ ≡ set l at c → to₂ ≡ following (length l₁) to₁ → l₂ ≡ set l₁ to₁ d
    → Appended l at (c ∷ d ∷ []) l₂ to₂
unfolding after written
put_two l l₁ l₂ at to₁ to₂ c d e f g h =
    let n : length l₁ ≡ length l = ap length f ∙ length-set l at c in record {
      place = g ∙ ap (λ (m : ℕ). following m to₁) n ∙ ap (following (length l)) e;
      text = h ∙ ap (λ (z : List ℕ). set z to₁ d) f ∙ ap (λ (p : ℕ). set (set l at c) p d) e;
    }

-- ---- decimal

-- more fuel than the number needs changes nothing
fuel_step : (k m n : ℕ) → (10 ≤ n → decimal k (n / 10) ≡ decimal m (n / 10)) → (t : Bool) → ltb n 10 ≡ t
    → pick t (glyph n ∷ []) (decimal k (n / 10) ++ (glyph (n % 10) ∷ [])) ≡ pick t (glyph n ∷ []) (decimal m (n / 10) ++ (glyph (n % 10) ∷ []))
fuel_step k m n rest true e = refl
fuel_step k m n rest false e = ap (λ (z : List ℕ). z ++ (glyph (n % 10) ∷ [])) (rest (ltb-false n 10 e))

pub fuel_enough : (k m n : ℕ) → n < k → n < m → decimal k n ≡ decimal m n
unfolding decimal
fuel_enough zero m n h g = absurd (omega arith)
fuel_enough (suc k) zero n h g = absurd (omega arith)
fuel_enough (suc k) (suc m) n h g = fuel_step k m n (λ b. fuel_enough k m (n / 10) (omega arith) (omega arith)) (ltb n 10) refl

pub decimal_digit : (n : ℕ) → n < 10 → decimal_of n ≡ glyph (n % 10) ∷ []
unfolding decimal
decimal_digit n h = rw (lt-ltb n 10 h, mod-eq_of_lt h, lt-ltb n 10 h)

pub decimal_more : (n : ℕ) → 10 ≤ n → decimal_of n ≡ decimal_of (n / 10) ++ (glyph (n % 10) ∷ [])
unfolding decimal
decimal_more n h = rw (le-ltb n 10 h) (ap (λ (z : List ℕ). z ++ (glyph (n % 10) ∷ [])) (fuel_enough n (suc (n / 10)) (n / 10) (omega arith) (omega arith)))

-- a number of one digit, and one of more
pub put_digit : (l l' : List ℕ) (at to n d : ℕ) → n < 10 → d ≡ glyph (n % 10) → to ≡ following (length l) at → l' ≡ set l at d
    → Appended l at (decimal_of n) l' to
put_digit l l' at to n d h e f g =
    let m : decimal_of n ≡ d ∷ [] = decimal_digit n h ∙ ap (λ (x : ℕ). x ∷ []) (sym e) in record {
      place = f ∙ sym (ap (after (length l) at) m ∙ after_one (length l) at d);
      text = g ∙ sym (ap (written l at) m ∙ written_one l at d);
    }

pub put_digits : (l l₁ l₂ : List ℕ) (at to₁ to₂ n d : ℕ) → 10 ≤ n → d ≡ glyph (n % 10)
    → Appended l at (decimal_of (n / 10)) l₁ to₁ → to₂ ≡ following (length l₁) to₁ → l₂ ≡ set l₁ to₁ d
    → Appended l at (decimal_of n) l₂ to₂
put_digits l l₁ l₂ at to₁ to₂ n d h e a p q =
    let m : decimal_of (n / 10) ++ (d ∷ []) ≡ decimal_of n = sym (decimal_more n h ∙ ap (λ (x : ℕ). decimal_of (n / 10) ++ (x ∷ [])) (sym e)) in
    appended_as m (appended_on a (record { place = p ∙ sym (after_one (length l₁) to₁ d); text = q ∙ sym (written_one l₁ to₁ d) }))

-- the digits of a byte are below 16
pub glyph_low : (d : ℕ) → d < 16 → glyph (d % 16) ≡ glyph d
glyph_low d h = ap glyph (mod-eq_of_lt h)

pub pair_high : (b : ℕ) → b < 256 → glyph (b / 16 % 16) ≡ glyph (b / 16)
pair_high b h = glyph_low (b / 16) (omega arith)

pub pair_low : (b : ℕ) → glyph (b % 16 % 16) ≡ glyph (b % 16)
pair_low b = glyph_low (b % 16) (omega arith)
