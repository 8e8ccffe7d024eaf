-- A binding buffer that is long enough takes the bindings, and keeps what stands behind them. A shorter one keeps all.
use Rattle.std.specs.Prelude.{ℕ, ◌≤◌, ◌<◌, ◌≡◌, List, ◌++◌, length, drop}
use Rattle.std.proofs.Common.{lt-ltb, le-ltb}
use Rattle.bindings.specs.Entries.{buffer_of}
use Rattle.slots.specs.declared.Slots.{Slots}
use Rattle.report.specs.Report.{entry_at, with_bindings}

pub long_enough : (slots : Slots) (b : List ℕ) → 2048 ≤ length b → with_bindings slots b ≡ buffer_of (entry_at slots) ++ drop 2048 b
unfolding with_bindings
long_enough slots b h = rw (le-ltb (length b) 2048 h)

pub too_short : (slots : Slots) (b : List ℕ) → length b < 2048 → with_bindings slots b ≡ b
unfolding with_bindings
too_short slots b h = rw (lt-ltb (length b) 2048 h)
