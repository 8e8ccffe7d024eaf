-- THE ACCOUNT of the addresses in use, over a run since its latest start: binds to addresses then free, removals, and unbindings of repeated
-- identifiers. Events are counted. Each is told by its symbols, by what was handed out before it, and by what was known just before it. Both
-- are given: the account holds with what the state knows, and with what the story of the events alone says.
use Rattle.std.specs.Prelude.{ℕ, ◌+◌, ◌*◌, Bool, false, List, [], ◌∷◌, ◌++◌, ltb, get_or}
use Rattle.lists.specs.Choice.{and, not}
use Rattle.pool.specs.Counts.{one, count}
use Rattle.pool.specs.declared.Pool.{Pool}
use Rattle.udid.specs.Bytes.{udid_bytes}
use Rattle.slots.specs.declared.Binding.{Binding}
use Rattle.slots.specs.declared.Binding.TheVariants.{Open, Bound, Claimed, Left}
use Rattle.commands.specs.CommandTraces.{reply_trace, assign_trace}
use Rattle.commands.specs.SameTrace.{same}
use Rattle.commands.specs.declared.command.Command.TheVariants.{Prepare, GetUdid, Assign}
use Rattle.commands.specs.declared.command.Handed.{Handed}
use Rattle.commands.specs.declared.command.Handed.TheVariants.{Send, Wait}
use Rattle.arp.specs.History.{Event, Start, Received, Gone, Issue, Decline, run}
use Rattle.arp.specs.Replay.{Table, view, is_bound}

-- a bind: the trace is the Assign that was handed out last, every byte acknowledged, and its address was not in the pool
abbrev pub bind_in : Table → Handed → List ℕ → ℕ
bind_in t (Send (Assign u a)) tr = one (and (same tr (assign_trace (udid_bytes u) (2 * a.0))) (not (t.used a.0)))
bind_in t (Send Prepare) tr = 0
bind_in t (Send GetUdid) tr = 0
bind_in t (Wait e) tr = 0

-- the trace is a reply of the target that is bound there; the address byte of a reply stands at place 42
abbrev pub replies_from : List ℕ → Binding → Bool
replies_from tr Open = false
replies_from tr (Bound u) = and (ltb (get_or tr 42 0) 256) (same tr (reply_trace (udid_bytes u ++ get_or tr 42 0 ∷ [])))
replies_from tr Claimed = false
replies_from tr Left = false

-- an unbinding: Get UDID was handed out last, and the target replies that is bound to an address outside the starting pool
abbrev pub unbind_in : (ℕ → Bool) → Table → Handed → List ℕ → ℕ
unbind_in starting t (Send GetUdid) tr = count (λ a. and (not (starting a)) (replies_from tr (t.held a))) 128
unbind_in starting t (Send Prepare) tr = 0
unbind_in starting t (Send (Assign u a)) tr = 0
unbind_in starting t (Wait e) tr = 0

-- a removal: a report of an address outside the starting pool to which a target is bound
abbrev pub remove_in : (ℕ → Bool) → Table → ℕ → ℕ
remove_in starting t a = one (and (not (starting a)) (is_bound (t.held a)))

-- what the state knows after events: what each address is known for, and which are in use
abbrev pub known_in : Pool → ℕ → List Event → Table
known_in occupied last es = view (run occupied last es)

-- how many of each; `known` says what was known after the events before it, `handed` what was handed out last
unfoldable pub binds : (List Event → Table) → (List Event → Handed) → List Event → ℕ
binds known handed [] = 0
binds known handed (Start ∷ es) = 0
binds known handed (Received w tr ∷ es) = binds known handed es + bind_in (known es) (handed es) tr
binds known handed (Gone a ∷ es) = binds known handed es
binds known handed (Issue ∷ es) = binds known handed es
binds known handed (Decline ∷ es) = binds known handed es

unfoldable pub unbindings : (ℕ → Bool) → (List Event → Table) → (List Event → Handed) → List Event → ℕ
unbindings starting known handed [] = 0
unbindings starting known handed (Start ∷ es) = 0
unbindings starting known handed (Received w tr ∷ es) = unbindings starting known handed es + unbind_in starting (known es) (handed es) tr
unbindings starting known handed (Gone a ∷ es) = unbindings starting known handed es
unbindings starting known handed (Issue ∷ es) = unbindings starting known handed es
unbindings starting known handed (Decline ∷ es) = unbindings starting known handed es

unfoldable pub removals : (ℕ → Bool) → (List Event → Table) → List Event → ℕ
removals starting known [] = 0
removals starting known (Start ∷ es) = 0
removals starting known (Received w tr ∷ es) = removals starting known es
removals starting known (Gone a ∷ es) = removals starting known es + remove_in starting (known es) a
removals starting known (Issue ∷ es) = removals starting known es
removals starting known (Decline ∷ es) = removals starting known es
