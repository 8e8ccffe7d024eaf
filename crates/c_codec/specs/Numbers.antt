-- Truth values as numbers.
use Rattle.std.specs.Prelude.{Bool, ℕ, eqb, ◌≡◌, ◌↔◌}
use Rattle.lists.specs.Choice.{pick, not}

abbrev pub truth : ℕ → Bool
truth n = not (eqb n 0)

abbrev pub bit : Bool → ℕ
bit b = pick b 1 0

-- handed back: 1 exactly where it holds, 0 exactly where it does not
abbrev pub Says : ℕ → Type 0 → Type 0
Says r P = ((r ≡ 1) ↔ P) × ((r ≡ 0) ↔ (P → ⊥))
