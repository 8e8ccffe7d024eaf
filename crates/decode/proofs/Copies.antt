-- The copy of every second symbol to the front of a buffer: a turn of its loop.
use mathlib.Core.Path.{◌≡◌, refl, sym, ap, ◌∙◌}
use mathlib.Core.Bool.{Bool, true, false}
use mathlib.Core.List.{List, [], ◌∷◌, ◌++◌}
use Prim.Native.Nat.{ℕ, zero, suc, ◌+◌, ◌-◌, ◌*◌, ◌%◌, ◌≤◌, ◌<◌}
use native.Mathlib.Numerals.{add-one}
use native.Mathlib.Omega.{arith}
use lib.ListN.{length, drop, get_or, set}
use lib.Seq.{get_or-drop}
use Rattle.lists.specs.Onto.{onto}
use Rattle.lists.specs.OntoLaws.{onto_put}
use Rattle.scan.proofs.DataLaws.{length_lows}
use Rattle.scan.specs.Handed.{lows}

lows_more : (n : ℕ) (l : List ℕ) → lows (suc n) l ≡ lows n l ++ (get_or l (2 * n) 0 % 256) ∷ []
lows_more zero l = refl
lows_more (suc n) l =
    ap (λ (t : List ℕ). get_or l 0 0 % 256 ∷ t)
    (lows_more n (drop 2 l) ∙ ap (λ (k : ℕ). lows n (drop 2 l) ++ (k % 256) ∷ []) (get_or-drop 2 l (2 * n) 0 ∙ ap (λ (k : ℕ). get_or l k 0) (omega arith)))

pub copy_turn : (b t : List ℕ) (from j : ℕ) → j < length b
    → set (onto (lows j (drop from t)) b) j (get_or t (from + 2 * j) 0 % 256) ≡ onto (lows (j + 1) (drop from t)) b
copy_turn b t from j h =
    let d : List ℕ = drop from t in
    let m : lows (j + 1) d ≡ lows j d ++ (get_or t (from + 2 * j) 0 % 256) ∷ [] =
    ap (λ (k : ℕ). lows k d) (add-one j) ∙ lows_more j d ∙ ap (λ (k : ℕ). lows j d ++ (k % 256) ∷ []) (get_or-drop from t (2 * j) 0) in
    onto_put (lows j d) b (get_or t (from + 2 * j) 0 % 256) j (length_lows j d) h ∙ ap (λ (k : List ℕ). onto k b) (sym m)
