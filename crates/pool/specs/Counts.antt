-- How many numbers below a bound pass a test.
use Rattle.std.specs.Prelude.{ℕ, zero, suc, ◌+◌, Bool}
use Rattle.lists.specs.Choice.{pick}

abbrev pub one : Bool → ℕ
one b = pick b 1 0

-- of 0, 1, .., n - 1
unfoldable pub count : (ℕ → Bool) → ℕ → ℕ
count test zero = 0
count test (suc n) = one (test 0) + count (λ j. test (suc j)) n
