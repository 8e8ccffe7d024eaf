-- What a pass tells C, and the lookup after it, by the last pick that is given: 1 above 127, and else the pass.
use Rattle.std.specs.Prelude.{ℕ, ◌<◌, ◌≡◌, List}
use Rattle.std.proofs.Common.{arith, lt-ltb, le-ltb}
use Rattle.pool.specs.declared.Pool.{Pool}
use Rattle.arp.specs.Lookup.{looked_up}
use Rattle.report.specs.Report.{no_udid}
use Rattle.c_arp.specs.Pass.{pass_over, told_pass, refused_pass, pass_command, found_of, told_found, pass_found}

module _ (occupied : Pool) (last : ℕ) (l : List ℕ) where
  pub command_forbidden : 127 < last → pass_command occupied last l ≡ refused_pass
  unfolding pass_command
  command_forbidden h = rw (lt-ltb 127 last h)

  pub command_told : last < 128 → pass_command occupied last l ≡ told_pass (pass_over occupied last l)
  unfolding pass_command
  command_told h = rw (le-ltb 127 last (omega arith))

  pub found_forbidden : (a : ℕ) → 127 < last → pass_found occupied last l a ≡ found_of 1 no_udid
  unfolding pass_found
  found_forbidden a h = rw (lt-ltb 127 last h)

  pub found_told : (a : ℕ) → last < 128 → pass_found occupied last l a ≡ told_found (looked_up (pass_over occupied last l).state a)
  unfolding pass_found
  found_told a h = rw (le-ltb 127 last (omega arith))
