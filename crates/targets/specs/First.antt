-- The first number that passes a test.
use Rattle.std.specs.Prelude.{ℕ, Bool, Option}
use Rattle.std.specs.List.{find, list_any, range_with_len}

-- the first number below n that passes, if one does
abbrev pub first : (ℕ → Bool) → ℕ → Option ℕ
first test n = find test (range_with_len 0 n)

-- some number below n passes
abbrev pub some : (ℕ → Bool) → ℕ → Bool
some test n = list_any test (range_with_len 0 n)
