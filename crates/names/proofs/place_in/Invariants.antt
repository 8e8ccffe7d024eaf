use Rattle.std.proofs.Common.{◌-◌, ◌≤◌, ◌≡◌}
use Rattle.names.specs.Names.{place_in}
use Rattle.names.proofs.place_in.Given as goal

abbrev pub invariant-loop-k : goal.invariant-loop-k
invariant-loop-k l = place_in 255 l.names l.s 0 0 ≡ place_in (255 - l.k) l.names l.s l.at l.k
