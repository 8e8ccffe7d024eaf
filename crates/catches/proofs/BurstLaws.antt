-- CAUGHT: any change within eight consecutive bits, whatever the length. What is flipped is a pattern below x^8 times a power of x. It is not 0,
-- and so no multiple of x^8+x^2+x+1.
use Rattle.std.specs.Prelude.{◌≡◌, List, ℕ, ◌*◌, ◌/◌, ◌^◌, ◌<◌}
use Rattle.std.proofs.Common.{ap, ◌∙◌, subst, arith}
use Rattle.catches.specs.Changes.{RightPec, Came, Within}
use Rattle.catches.specs.Multiples.{Multiple, flips}
use Rattle.catches.proofs.MultiplesLaws.{escapes_exactly, shifted_exactly, small_is_none}
use Rattle.catches.proofs.WindowLaws.{lowest, pattern_small, pattern_placed, some_flipped}

-- caught, if no pattern so small but 0 is a multiple
caught_if_small : (w : ℕ) (xs ys : List ℕ) → Came xs ys → Within w xs ys → ((d : ℕ) → d < 2 ^ w → Multiple d → d ≡ 0) → RightPec ys → ⊥
caught_if_small w xs ys c b small r =
    let k = lowest w xs ys c b in
    let p = pattern_placed w xs ys c b in
    let m = (shifted_exactly k (flips xs ys / 2 ^ k)).0 (subst Multiple p ((escapes_exactly xs ys c).0 r)) in
    let z = small (flips xs ys / 2 ^ k) (pattern_small w xs ys c b) m in
    some_flipped w xs ys c b (p ∙ ap (λ (n : ℕ). 2 ^ k * n) z ∙ times_none (2 ^ k))
  where
    times_none : (n : ℕ) → n * 0 ≡ 0
    times_none n = omega arith

-- CAUGHT
pub eight_bits_caught : (xs ys : List ℕ) → Came xs ys → Within 8 xs ys → RightPec ys → ⊥
eight_bits_caught xs ys c b = caught_if_small 8 xs ys c b small_is_none
