-- A turn of the loop that reads pairs, and of the loop that writes them.
use mathlib.Core.Path.{◌≡◌, refl, ap, ◌∙◌, sym}
use mathlib.Core.List.{List, [], ◌∷◌, ◌++◌, append_assoc}
use Prim.Native.Nat.{ℕ, zero, suc, ◌+◌, ◌*◌, ◌/◌, ◌%◌, ◌≤◌, ◌<◌}
use native.Mathlib.Numerals.{add-one}
use native.Mathlib.Omega.{arith}
use lib.ListN.{length, take, drop, get_or, set, length-append}
use lib.Seq.{get_or-drop, take-suc, length-take-le}
use Rattle.lists.specs.Onto.{onto}
use Rattle.lists.specs.OntoLaws.{onto_put}
use Rattle.pairs.specs.Pairs.{pairs_of, symbols_in}
use Rattle.pairs.specs.PairLaws.{length_symbols, length_pairs}

-- one symbol more
symbols_more : (n : ℕ) (l : List ℕ) → symbols_in (suc n) l ≡ symbols_in n l ++ (get_or l (2 * n) 0 + 256 * get_or l (2 * n + 1) 0) ∷ []
unfolding symbols_in
symbols_more zero l = refl
symbols_more (suc n) l =
    let low : get_or (drop 2 l) (2 * n) 0 ≡ get_or l (2 * suc n) 0 = get_or-drop 2 l (2 * n) 0 ∙ ap (λ (k : ℕ). get_or l k 0) (omega arith) in
    let high : get_or (drop 2 l) (2 * n + 1) 0 ≡ get_or l (2 * suc n + 1) 0 = get_or-drop 2 l (2 * n + 1) 0 ∙ ap (λ (k : ℕ). get_or l k 0) (omega arith) in
    ap (λ (t : List ℕ). (get_or l 0 0 + 256 * get_or l 1 0) ∷ t)
    (symbols_more n (drop 2 l) ∙ ap (λ (k : ℕ). symbols_in n (drop 2 l) ++ (k + 256 * get_or (drop 2 l) (2 * n + 1) 0) ∷ []) low
    ∙ ap (λ (k : ℕ). symbols_in n (drop 2 l) ++ (get_or l (2 * suc n) 0 + 256 * k) ∷ []) high)

-- a turn of the loop that reads pairs
pub symbols_turn : (b l : List ℕ) (i : ℕ) → i < length b
    → set (onto (symbols_in i l) b) i (get_or l (2 * i) 0 + 256 * get_or l (2 * i + 1) 0) ≡ onto (symbols_in (i + 1) l) b
symbols_turn b l i h =
    let m : symbols_in (i + 1) l ≡ symbols_in i l ++ (get_or l (2 * i) 0 + 256 * get_or l (2 * i + 1) 0) ∷ [] = ap (λ (k : ℕ). symbols_in k l) (add-one i) ∙ symbols_more i l in
    onto_put (symbols_in i l) b (get_or l (2 * i) 0 + 256 * get_or l (2 * i + 1) 0) i (length_symbols i l) h ∙ ap (λ (k : List ℕ). onto k b) (sym m)

pairs_append : (xs ys : List ℕ) → pairs_of (xs ++ ys) ≡ pairs_of xs ++ pairs_of ys
unfolding pairs_of
pairs_append [] ys = refl
pairs_append (x ∷ xs) ys = ap (λ (l : List ℕ). x % 256 ∷ x / 256 ∷ l) (pairs_append xs ys)

pairs_one : (x : ℕ) → pairs_of (x ∷ []) ≡ x % 256 ∷ x / 256 ∷ []
unfolding pairs_of
pairs_one x = refl

-- a turn of the loop that writes pairs
pub pairs_turn : (o s : List ℕ) (i : ℕ) → i < length s → 2 * length s ≤ length o
    → set (set (onto (pairs_of (take i s)) o) (2 * i) (get_or s i 0 % 256)) (2 * i + 1) (get_or s i 0 / 256) ≡ onto (pairs_of (take (i + 1) s)) o
pairs_turn o s i h r =
    let x : ℕ = get_or s i 0 in
    let p : List ℕ = pairs_of (take i s) in
    let k : length p ≡ 2 * i = omega (arith, length_pairs (take i s), length-take-le i s (omega arith)) in
    let m : pairs_of (take (i + 1) s) ≡ p ++ x % 256 ∷ x / 256 ∷ [] =
    ap (λ (j : ℕ). pairs_of (take j s)) (add-one i) ∙ ap pairs_of (take-suc s i 0 h) ∙ pairs_append (take i s) (x ∷ []) ∙ ap (λ (l : List ℕ). p ++ l) (pairs_one x) in
    rw (
      onto_put p o (x % 256) (2 * i) k (omega arith),
      onto_put (p ++ (x % 256) ∷ []) o (x / 256) (2 * i + 1) (omega (arith, length-append p ((x % 256) ∷ []))) (omega arith),
      append_assoc p ((x % 256) ∷ []) ((x / 256) ∷ []),
      m,
    )
