-- The search for the winner: what it carries along.
use Rattle.std.specs.Prelude.{ℕ, ◌≡◌, Option, Some, None, List}
use Rattle.targets.specs.Records.{udid_of}
use Rattle.targets.specs.declared.winner.Best.{Best}

abbrev pub place_of : Option Best → Option ℕ
place_of None = None
place_of (Some b) = Some b.place

-- the identifier beside the best so far is its own
abbrev pub Holds : List ℕ → Option Best → Type 0
Holds s None = Unit
Holds s (Some b) = b.udid ≡ udid_of s b.place
