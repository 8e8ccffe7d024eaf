-- The controller by its history: the story of the events alone, in which no state of a controller is cited, and what it says of the state
-- and of the next step.
use Rattle.std.specs.Prelude.{ℕ, ◌+◌, ◌<◌, ◌≡◌, true, get_or, List, [], ◌∷◌, ◌++◌, ◌↔◌, Option, Some, None}
use Rattle.lists.specs.Choice.{or}
use Rattle.pool.specs.Pools.{member}
use Rattle.pool.specs.Start.{barred_pool}
use Rattle.pool.specs.declared.Pool.{Pool}
use Rattle.udid.specs.Bytes.{udid_bytes}
use Rattle.udid.specs.Udids.{Fits, is_fixed}
use Rattle.udid.specs.declared.Udid.{Udid}
use Rattle.slots.specs.Slots.{held_at}
use Rattle.picking.specs.Picking.{reason_of}
use Rattle.commands.specs.Choices.{choice_in}
use Rattle.arp.specs.Controller.{last_pick}
use Rattle.arp.specs.History.{By, Step, Choose, Event, Start, Received, Gone, Issue, Decline, heard, run, one_get}
use Rattle.arp.specs.Lookup.{looked_up}
use Rattle.arp.specs.Numbers.{command_number, lookup_number, unless21}
use Rattle.commands.specs.CommandTraces.{reply_trace}
use Rattle.arp.specs.Replay.{Replied, Assigned, Pulled, Table, is_bound_or_claimed, released, read_as, number_of, NoneToPick, next_command, emptied, after, handed_out}
use Rattle.arp.specs.RunPicks.{is_picked, picked_then}
use Rattle.hearing.specs.Told.{no_command}
use Rattle.commands.specs.declared.command.Command.TheVariants.{Prepare, GetUdid, Assign}
use Rattle.commands.specs.declared.command.End.TheVariants.{Nothing, Abandoned, Chosen}
use Rattle.commands.specs.declared.command.Handed.{Handed}
use Rattle.commands.specs.declared.command.Handed.TheVariants.{Send, Wait}
use Rattle.wire.specs.declared.address.Address.{Address}

-- the table, how many Get UDIDs were handed out in this pass, what was handed out last (a choice that waits among it), and the last pick
pub record Story : Type 0 where
  pub known : Table
  pub gets : ℕ
  pub command : Handed
  pub picked : ℕ

-- an Assign waits as a choice, where t says what each address is known for after the reply: it is claimed by two if the address is barred, or a
-- target is bound there, or two claim it
abbrev pub withheld : Pool → Table → List ℕ → Handed → Handed
withheld occupied t tr (Send Prepare) = Send Prepare
withheld occupied t tr (Send GetUdid) = Send GetUdid
withheld occupied t tr (Send (Assign u a)) =
    Wait (Chosen u a (reason_of (or (member (barred_pool occupied) a.0) (is_bound_or_claimed (t.held a.0))) (is_picked (get_or tr 42 0) a.0) (is_fixed u)))
withheld occupied t tr (Wait e) = Wait e

-- what the whole step hands out, and what its first half does
abbrev pub next_by : By → Pool → Table → ℕ → ℕ → Handed → List ℕ → Handed
next_by Step occupied t last n k tr = next_command occupied t last n k tr
next_by Choose occupied t last n k tr = withheld occupied (after occupied (read_as k tr) t) tr (next_command occupied t last n k tr)

-- with no choice, what was handed out last stays so
abbrev pub issued_then : Handed → Option (Udid × Address) → Handed
issued_then k (Some (u, a)) = Send (Assign u a)
issued_then k None = k

abbrev pub declined_then : Handed → Option (Udid × Address) → Handed
declined_then k (Some (u, a)) = Wait Abandoned
declined_then k None = k

-- after one event more
abbrev pub onward : Pool → Event → Story → Story
onward occupied Start w = record { known = emptied occupied; gets = 0; command = Send Prepare; picked = w.picked }
onward occupied (Received by tr) w =
    record {
      known = after occupied (read_as w.command tr) w.known;
      gets = w.gets + one_get (next_by by occupied w.known w.picked w.gets w.command tr);
      command = unless21 (next_by by occupied w.known w.picked w.gets w.command tr) w.command;
      picked = picked_then w.picked tr (next_command occupied w.known w.picked w.gets w.command tr);
    }
onward occupied (Gone a) w = record { known = after occupied (Pulled a) w.known; gets = w.gets; command = w.command; picked = w.picked }
onward occupied Issue w = record { known = w.known; gets = w.gets; command = issued_then w.command (choice_in w.command); picked = w.picked }
onward occupied Decline w = record { known = w.known; gets = w.gets; command = declined_then w.command (choice_in w.command); picked = w.picked }

-- after events, the latest first, of a controller that was made with these addresses occupied and this last pick
unfoldable pub story : Pool → ℕ → List Event → Story
story occupied last [] = record { known = emptied occupied; gets = 0; command = Wait Nothing; picked = last_pick last }
story occupied last (e ∷ es) = onward occupied e (story occupied last es)

-- what each address is known for, what the pool has, how many Get UDIDs were handed out, what was handed out last, and the last pick: the
-- events alone give them
pub record Told (occupied : Pool) (last : ℕ) (es : List Event) : Type 0 where
  pub held : (a : ℕ) → held_at (run occupied last es).slots a ≡ (story occupied last es).known.held a
  pub pool : (a : ℕ) → member (run occupied last es).pool a ≡ (story occupied last es).known.used a
  pub gets : (run occupied last es).gets ≡ (story occupied last es).gets
  pub command : handed_out occupied last es ≡ (story occupied last es).command
  pub picked : (run occupied last es).picked ≡ (story occupied last es).picked

-- 13 with u is due: Get UDID is outstanding, the trace is a reply with u, and with what u was bound to freed there is no address to pick
abbrev pub Full : Pool → ℕ → List Event → List ℕ → Udid → Type 0
Full occupied last es tr u =
    ((story occupied last es).command ≡ Send GetUdid)
    × ((b : ℕ) × (b < 256) × (tr ≡ reply_trace (udid_bytes u ++ b ∷ [])) × NoneToPick (released occupied u (story occupied last es).known).used u b)

-- ---- THE CONTROLLER BY ITS HISTORY: from any new controller, over any starts, traces, reports, issues and declines, the latest first

pub record ByHistory (occupied : Pool) (last : ℕ) (es : List Event) : Type 0 where
  -- what each address is known for, what the pool has, how many Get UDIDs were handed out in this pass, what was handed out last and the last
  -- pick are what the events alone give, in the scope's sentences
  pub told : Told occupied last es
  -- lookup answers 0 with the identifier, 15, 16 or 20 as the events give it, and 1 for a number above 127
  pub lookup : (a : ℕ) → a < 128 → lookup_number (looked_up (run occupied last es) a) ≡ number_of ((story occupied last es).known.held a)
  pub no_address : (a : ℕ) → 127 < a → lookup_number (looked_up (run occupied last es) a) ≡ (1, [])
  -- each command, choice or end that the next step or its first half hands out is the one that the events give
  pub next : (by : By) (tr : List ℕ) → (heard by (run occupied last es) tr).command ≡ next_by by occupied (story occupied last es).known (story occupied last es).picked (story occupied last es).gets (story occupied last es).command tr
  -- either gives 21 exactly if no command was handed out last
  pub refused : (by : By) (tr : List ℕ) → (command_number (heard by (run occupied last es) tr).command ≡ (21, []) ∷ []) ↔ (no_command (story occupied last es).command ≡ true)
  -- and 13 with an identifier exactly at its reply to Get UDID, if the pool is full with what it was bound to freed, and the byte is FFh or the
  -- target is movable with its own address in the pool
  pub full : (by : By) (tr : List ℕ) (u : Udid) → Fits u → (command_number (heard by (run occupied last es) tr).command ≡ (13, u ∷ []) ∷ []) ↔ Full occupied last es tr u
  -- a trace leaves a binding as it is, but for a reply with its identifier, or a complete Assign of its address
  pub stays : (by : By) (tr : List ℕ) (a : ℕ) (u : Udid) → lookup_number (looked_up (run occupied last es) a) ≡ (0, u ∷ []) → (read_as (story occupied last es).command tr ≡ Replied u → ⊥)
      → ((w : Udid) → read_as (story occupied last es).command tr ≡ Assigned w a → ⊥) → lookup_number (looked_up (run occupied last (Received by tr ∷ es)) a) ≡ (0, u ∷ [])
