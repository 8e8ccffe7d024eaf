-- The copy of the last data phase: a turn of its loop.
use mathlib.Core.Path.{◌≡◌, sym, ap, ◌∙◌}
use mathlib.Core.List.{List}
use Prim.Native.Nat.{ℕ, ◌+◌, ◌≤◌, ◌<◌}
use native.Mathlib.Numerals.{add-one}
use native.Mathlib.Omega.{arith}
use lib.ListN.{length, take, get_or, set}
use lib.Seq.{take-suc, length-take-le}
use Rattle.lists.specs.Onto.{onto}
use Rattle.lists.specs.OntoLaws.{onto_put}

-- one byte more
pub copy_turn : (s o : List ℕ) (i : ℕ) → i < length s → length s ≤ length o → set (onto (take i s) o) i (get_or s i 0) ≡ onto (take (i + 1) s) o
copy_turn s o i h r =
    onto_put (take i s) o (get_or s i 0) i (length-take-le i s (omega arith)) (omega arith)
    ∙ ap (λ (p : List ℕ). onto p o) (sym (ap (λ (k : ℕ). take k s) (add-one i) ∙ take-suc s i 0 h))
