-- What holds of the records and the controller in the run, turn after turn.
use Rattle.std.specs.Prelude.{ℕ, ◌≡◌, List, length}
use Rattle.lists.specs.Each.{Bytes}
use Rattle.targets.specs.Records.{targets_of}
use Rattle.targets.specs.Target.{Target}
use Rattle.arp.specs.declared.state.Stepped.{Stepped}
use Rattle.rule.specs.AnyBus.{WorldOver, run_over}
use Rattle.bus.specs.RecordsBus.{records_bus}
use Rattle.bus.specs.Turn.{Fit, Reaches, world_of}

-- the command that is out is the state's, and it reaches one of the targets
abbrev pub Fine : Stepped → List Target → Type 0
Fine x ts = (x.state.last ≡ x.command) × Reaches x.command ts

-- the same over the records
pub record Going (st : Stepped) (s : List ℕ) : Type 0 where
  pub handed : st.state.last ≡ st.command
  pub reaches : Reaches st.command (targets_of s)

-- what holds of the records and the controller after some turns of a run from w over the records `first`, m of 300 left
pub record Running (w : WorldOver (List ℕ)) (first : List ℕ) (m : ℕ) (st : Stepped) (s : List ℕ) : Type 0 where
  pub bytes : Bytes s
  pub fit : Fit s
  pub going : Going st s
  pub leads : run_over records_bus 300 w ≡ run_over records_bus m (world_of st s)
  pub same_size : length s ≡ length first
