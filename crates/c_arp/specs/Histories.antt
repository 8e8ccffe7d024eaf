-- A pass as the history of a start and a list of entries: traces, issues, declines and reports.
use Rattle.std.specs.Prelude.{◌≡◌, List, [], ◌∷◌, ℕ}
use Rattle.pool.specs.declared.Pool.{Pool}
use Rattle.arp.specs.History.{Event, Start, run}
use Rattle.arp.specs.Replay.{answered}
use Rattle.arp.specs.declared.state.Stepped.{Stepped}

-- events, and then the entries of a list; events stand with the latest first
unfoldable pub since : List Event → List Event → List Event
since es [] = es
since es (x ∷ xs) = since (x ∷ es) xs

-- a start and then the entries of a list
abbrev pub events_of : List Event → List Event
events_of xs = since (Start ∷ []) xs

-- the state of a pass and what it answers last are those of a history
pub record IsHistory (occupied : Pool) (last : ℕ) (es : List Event) (st : Stepped) : Type 0 where
  pub state : st.state ≡ run occupied last es
  pub command : st.command ≡ answered occupied last es
