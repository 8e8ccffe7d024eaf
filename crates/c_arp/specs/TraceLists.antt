-- The entries of a list as bytes for a pass, all as pairs: of a trace, the number of its symbols and its symbols, and before them FFFEh where it
-- is for the first half of a step; of a report, FFFFh and the address; FFFDh is an issue and FFFCh a decline.
use Rattle.std.specs.Prelude.{ℕ, ◌/◌, ◌%◌, ◌<◌, false, List, [], ◌∷◌, ◌++◌, ◌≡◌, length}
use Rattle.arp.specs.History.{Event, Start, Received, Gone, Issue, Decline, Step, Choose}
use Rattle.pairs.specs.Pairs.{pairs_of}
use Rattle.c_arp.specs.Pass.{is_whole}

-- what can stand in a list: issues, declines, reports, and traces of fewer than 65,532 symbols; no start
abbrev pub Listed : List Event → Type 0
Listed [] = Unit
Listed (Start ∷ es) = ⊥
Listed (Received w tr ∷ es) = (length tr < 65532) × Listed es
Listed (Gone a ∷ es) = Listed es
Listed (Issue ∷ es) = Listed es
Listed (Decline ∷ es) = Listed es

-- their bytes; a start has none
unfoldable pub list_bytes : List Event → List ℕ
list_bytes [] = []
list_bytes (Start ∷ es) = list_bytes es
list_bytes (Received Step tr ∷ es) = length tr % 256 ∷ length tr / 256 ∷ (pairs_of tr ++ list_bytes es)
list_bytes (Received Choose tr ∷ es) = 0xFE ∷ 0xFF ∷ length tr % 256 ∷ length tr / 256 ∷ (pairs_of tr ++ list_bytes es)
list_bytes (Gone a ∷ es) = 0xFF ∷ 0xFF ∷ a % 256 ∷ a / 256 ∷ list_bytes es
list_bytes (Issue ∷ es) = 0xFD ∷ 0xFF ∷ list_bytes es
list_bytes (Decline ∷ es) = 0xFC ∷ 0xFF ∷ list_bytes es

-- bytes that hold no whole entry at their front: TraceListLaws tells it in numbers
abbrev pub Cut : List ℕ → Type 0
Cut rest = is_whole rest ≡ false
