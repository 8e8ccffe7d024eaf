-- The bus over the records' bytes: their targets stand on it, and what a trace does to them is stored.
use Rattle.std.specs.Prelude.{ℕ, ◌≡◌, List, length}
use Rattle.targets.specs.Records.{targets_of, records_with}
use Rattle.targets.specs.Target.{Target}
use Rattle.arp.specs.declared.state.Stepped.{Stepped}
use Rattle.rule.specs.Acknowledge.{on_bus}
use Rattle.rule.specs.AnyBus.{Bus}
use Rattle.rule.specs.Bus.{reached}

abbrev pub records_bus : Bus (List ℕ)
records_bus = record { stands = λ k s. on_bus k (targets_of s); acts = λ tr s. records_with (reached tr (targets_of s)) s }

-- after some turns over the records `first`, s are the records of the targets ts: the address bytes and flags are theirs, and all else is
-- as it was at first
pub record Holds (first : List ℕ) (st : Stepped) (s : List ℕ) (ts : List Target) : Type 0 where
  pub targets : targets_of s ≡ ts
  pub stored : s ≡ records_with ts first
  pub same_size : length s ≡ length first
