-- The last pick that a controller is made with is the one given, and never picked for a number above 127.
use Rattle.std.specs.Prelude.{ℕ, ◌<◌, ◌≡◌}
use Rattle.std.proofs.Math.Decide.{dec_lt}
use Rattle.std.proofs.Common.{arith, lt-ltb, le-ltb}
use Rattle.arp.specs.Controller.{last_pick}

pub last_pick_is : (last : ℕ) → last < 128 → last_pick last ≡ last
unfolding last_pick
last_pick_is last h = rw (le-ltb 127 last (omega arith))

pub last_pick_above : (last : ℕ) → 127 < last → last_pick last ≡ 127
unfolding last_pick
last_pick_above last h = rw (lt-ltb 127 last h)

pub last_pick_small : (last : ℕ) → last_pick last < 128
last_pick_small last = go (dec_lt 127 last)
  where
    go : Dec (127 < last) → last_pick last < 128
    go (yes h) = omega (arith, last_pick_above last h)
    go (no h) = omega (arith, last_pick_is last (omega arith))
