-- THE KINDS OF A WRONG SYMBOL x, by what would have fitted in its place: `fit y` says that y would have. `start` says that a START stands right
-- before it, `host` that the protocol goes to the host alone.
use Rattle.std.specs.Prelude.{◌≡◌, ◌⊎◌, ℕ, ◌<◌}
use Rattle.misfit.specs.declared.kind.Kind.{Kind}
use Rattle.misfit.specs.declared.kind.Kind.TheVariants.{Swapped, Misaddressed, Miscounted, Other}

-- 17: ACK where NACK is due, or NACK where ACK is due
abbrev pub IsSwapped : (ℕ → Type 0) → ℕ → Type 0
IsSwapped fit x = ((x ≡ 258) × fit 259) ⊎ ((x ≡ 259) × fit 258)

-- 18: a byte right after a START
abbrev pub IsMisaddressed : Type 0 → Type 0 → ℕ → Type 0
IsMisaddressed start host x = (x < 256) × start × (host → ⊥)

-- 19: a byte elsewhere, where another byte would have fitted
abbrev pub IsMiscounted : (ℕ → Type 0) → Type 0 → Type 0 → ℕ → Type 0
IsMiscounted fit start host x = (x < 256) × (start → ⊥) × (host → ⊥) × ((y : ℕ) × (y < 256) × fit y)

-- 5: none of these
abbrev pub IsOther : (ℕ → Type 0) → Type 0 → Type 0 → ℕ → Type 0
IsOther fit start host x = (IsSwapped fit x → ⊥) × (IsMisaddressed start host x → ⊥) × (IsMiscounted fit start host x → ⊥)

abbrev pub Means : (ℕ → Type 0) → Type 0 → Type 0 → ℕ → Kind → Type 0
Means fit start host x Swapped = IsSwapped fit x
Means fit start host x Misaddressed = IsMisaddressed start host x
Means fit start host x Miscounted = IsMiscounted fit start host x
Means fit start host x Other = IsOther fit start host x
