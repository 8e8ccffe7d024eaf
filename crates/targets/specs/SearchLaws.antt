-- Laws of the search for the winner, one record after the other.
use Rattle.std.specs.Prelude.{ℕ, zero, suc, ◌+◌, ◌-◌, ◌<◌, ◌≡◌, refl, Bool, true, false, Option, Some, None, List, eqb}
use Rattle.std.specs.List.{fold, range_with_len}
use Rattle.std.proofs.Common.{sym, ap, ◌∙◌, add-one, arith}
use Rattle.lists.specs.Choice.{pick}
use Rattle.targets.specs.Records.{flag_of}
use Rattle.targets.specs.Winner.{is_before, is_better, least_of}

-- the better of record i and the best so far
abbrev pub better_of : List ℕ → Option ℕ → ℕ → Option ℕ
better_of s b i = pick (eqb (flag_of s i) 1) b (pick (is_before s i b) (Some i) b)

-- the best of the k records from i on and the best so far
abbrev pub best_from : List ℕ → ℕ → ℕ → Option ℕ → Option ℕ
best_from s k i b = fold (better_of s) b (range_with_len i k)

-- the better one is record i, or the best so far
pub better_is : (s : List ℕ) (i : ℕ) (b : Option ℕ) → better_of s b i ≡ pick (is_better s i b) (Some i) b
unfolding is_better
better_is s i b = go (eqb (flag_of s i) 1) (is_before s i b)
  where
    go : (x y : Bool) → pick x b (pick y (Some i) b) ≡ pick (pick x false y) (Some i) b
    go true y = refl
    go false y = refl

-- a turn, and the end
pub onward : (s : List ℕ) (n i : ℕ) (b : Option ℕ) → i < n → best_from s (n - i) i b ≡ best_from s (n - (i + 1)) (i + 1) (better_of s b i)
onward s n i b h = let m : n - i ≡ suc (n - (i + 1)) = omega arith in rw m refl

pub at_end : (s : List ℕ) (n i : ℕ) (b : Option ℕ) → n - i ≡ 0 → best_from s (n - i) i b ≡ b
at_end s n i b e = rw e refl

-- a record that is not better is passed over, and one that is better is taken
pub passed : (s : List ℕ) (n i : ℕ) (b : Option ℕ) → i < n → is_better s i b ≡ false → best_from s (n - i) i b ≡ best_from s (n - (i + 1)) (i + 1) b
passed s n i b h e = onward s n i b h ∙ ap (best_from s (n - (i + 1)) (i + 1)) (better_is s i b ∙ ap (λ (x : Bool). pick x (Some i) b) e)

pub taken : (s : List ℕ) (i : ℕ) (b : Option ℕ) → is_better s i b ≡ true → better_of s b i ≡ Some i
taken s i b e = better_is s i b ∙ ap (λ (x : Bool). pick x (Some i) b) e

-- THE BEST OF THE FIRST n RECORDS is what the search from the first one on gives
least_on : (s : List ℕ) (k i : ℕ) → best_from s k i (least_of s i) ≡ least_of s (i + k)
unfolding least_of
least_on s zero i = ap (least_of s) (omega arith)
least_on s (suc k) i =
    let t : better_of s (least_of s i) i ≡ least_of s (i + 1) = better_is s i (least_of s i) ∙ ap (least_of s) (sym (add-one i)) in
    let m : i + 1 + k ≡ i + suc k = omega arith in
    ap (best_from s k (i + 1)) t ∙ least_on s k (i + 1) ∙ ap (least_of s) m

pub least_is : (s : List ℕ) (n : ℕ) → best_from s n 0 None ≡ least_of s n
unfolding least_of
least_is s n = least_on s n 0 ∙ ap (least_of s) (omega arith)
