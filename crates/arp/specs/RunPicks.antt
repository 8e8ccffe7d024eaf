-- The picks of a run, told from the traces received and the commands handed out, each with the pool that it was picked from. Nothing here
-- cites how an address is chosen.
use Rattle.std.specs.Prelude.{ℕ, ◌/◌, Bool, List, [], ◌∷◌, ◌++◌, eqb, get_or}
use Rattle.lists.specs.Choice.{pick, or, not}
use Rattle.pool.specs.Picks.{Pick}
use Rattle.pool.specs.declared.Pool.{Pool}
use Rattle.commands.specs.declared.command.Command.TheVariants.{Prepare, GetUdid, Assign}
use Rattle.commands.specs.declared.command.Handed.{Handed}
use Rattle.commands.specs.declared.command.Handed.TheVariants.{Send, Wait}
use Rattle.arp.specs.Choosing.{sending}
use Rattle.arp.specs.History.{Event, Start, Received, Gone, Issue, Decline, heard, run}

-- an address was picked, and is not the target's own: the reply's address byte is FFh, which is no address, or has another one
abbrev pub is_picked : ℕ → ℕ → Bool
is_picked b a = or (eqb b 0xFF) (not (eqb a (b / 2)))

-- the pick of a step: an Assign is handed out, or chosen, on a reply, whose trace has the address byte at place 42. p is the pool that it was picked from
abbrev pub pick_in : List ℕ → Pool → Handed → List Pick
pick_in tr p (Send (Assign u a)) = pick (is_picked (get_or tr 42 0) a.0) (record { pool = p; at = a.0 } ∷ []) []
pick_in tr p (Send Prepare) = []
pick_in tr p (Send GetUdid) = []
pick_in tr p (Wait e) = []

-- the picks over events, the latest event first and the earliest pick first. An address is picked with the choice, whatever becomes of it
unfoldable pub picks_of : Pool → ℕ → List Event → List Pick
picks_of occupied last [] = []
picks_of occupied last (Start ∷ es) = picks_of occupied last es
picks_of occupied last (Received w tr ∷ es) =
    picks_of occupied last es ++ pick_in tr (heard w (run occupied last es) tr).state.pool (sending (heard w (run occupied last es) tr).command)
picks_of occupied last (Gone a ∷ es) = picks_of occupied last es
picks_of occupied last (Issue ∷ es) = picks_of occupied last es
picks_of occupied last (Decline ∷ es) = picks_of occupied last es

-- the last pick after a step that was handed this trace, and hands this out
abbrev pub picked_then : ℕ → List ℕ → Handed → ℕ
picked_then last tr (Send (Assign u a)) = pick (is_picked (get_or tr 42 0) a.0) a.0 last
picked_then last tr (Send Prepare) = last
picked_then last tr (Send GetUdid) = last
picked_then last tr (Wait e) = last
