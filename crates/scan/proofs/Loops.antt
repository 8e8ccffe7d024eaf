-- The turns and the ends of the loops over a trace.
use mathlib.Core.Path.{◌≡◌}
use mathlib.Core.Bool.{Bool, true, false}
use mathlib.Core.List.{List}
use Prim.Native.Nat.{ℕ, suc, ◌+◌, ◌≤◌, ◌<◌}
use native.Mathlib.Numerals.{add-one}
use lib.ListN.{length, drop, get_or, drop_of_length-le}
use lib.Seq.{drop-cons}
use Rattle.trace.specs.declared.shape.Shape.{Shape}
use Rattle.step.specs.declared.state.Decoder.{Decoder}
use Rattle.std.specs.Prelude.{Ok, Err}
use Rattle.step.specs.Fits.{fits}
use Rattle.step.specs.Move.{move}
use Rattle.scan.specs.Refusal.{why}
use Rattle.scan.specs.Run.{run}
use Rattle.scan.proofs.RunLaws.{run_fits, run_stops}

module _ (sh : Shape) (p : Bool) (s : List ℕ) (d : Decoder) (i : ℕ) where
  pub read_turn : i < length s → fits sh d (get_or s i 0) ≡ true → run sh p d i (drop i s) ≡ run sh p (move sh p d (get_or s i 0)) (i + 1) (drop (i + 1) s)
  read_turn h f = rw (add-one, drop-cons s i 0) (run_fits sh p d i (get_or s i 0) (drop (suc i) s) f)

  pub read_stop : i < length s → fits sh d (get_or s i 0) ≡ false → run sh p d i (drop i s) ≡ Err (why sh d i (get_or s i 0))
  read_stop h f = rw (drop-cons s i 0) (run_stops sh p d i (get_or s i 0) (drop (suc i) s) f)

  pub read_end : length s ≤ i → run sh p d i (drop i s) ≡ Ok d
  unfolding run
  read_end h = rw drop_of_length-le
