-- A pass of the controller over a list of traces, issues, declines and reports given as bytes, and the lookup after it.
use Rattle.std.specs.Prelude.{ℕ, zero, suc, ◌≡◌, ◌+◌, ◌*◌, ◌/◌, Bool, true, List, [], ◌∷◌, ltb, leb, eqb, length, drop, get_or}
use Rattle.lists.specs.Choice.{pick, and}
use Rattle.pool.specs.declared.Pool.{Pool}
use Rattle.udid.specs.declared.Udid.{Udid}
use Rattle.arp.specs.Choosing.{issuing, declining}
use Rattle.arp.specs.Controller.{new_controller, started}
use Rattle.arp.specs.Gone.{reported}
use Rattle.arp.specs.History.{Event, Start, Received, Gone, Issue, Decline, Step, Choose, heard}
use Rattle.arp.specs.Lookup.{looked_up}
use Rattle.arp.specs.Numbers.{lookup_number}
use Rattle.arp.specs.declared.lookup.Found.{Found}
use Rattle.arp.specs.declared.state.Stepped.{Stepped}
use Rattle.report.specs.Report.{first_of, no_udid}
use Rattle.c_arp.specs.Commands.{said_of, told_command}
use Rattle.c_arp.specs.declared.entry.Entry.{Entry}
use Rattle.c_arp.specs.declared.entry.Entry.TheVariants as entry
use Rattle.c_arp.specs.declared.entry.Head.{Head}
use Rattle.c_arp.specs.declared.entry.Head.TheVariants as head
use Rattle.c_arp.specs.declared.kinds.HbCommand.{HbCommand}
use Rattle.c_arp.specs.declared.pass.HbFound.{HbFound}
use Rattle.pairs.specs.Pairs.{symbols_in}
use Rattle.c_arp.specs.Parts.{told_udid}

-- the number that the first pair of bytes says
abbrev pub said : List ℕ → ℕ
said l = get_or l 0 0 + 256 * get_or l 1 0

-- what an entry is, by its first pair: FFFFh begins a report that a module is gone, FFFEh the first half of a step, FFFDh an issue and FFFCh a
-- decline of the choice that waits. Any other number is that of a trace's symbols
abbrev pub head_of : ℕ → Head
head_of n = pick (eqb n 65535) head.Gone (pick (eqb n 65534) head.Choose (pick (eqb n 65533) head.Issue (pick (eqb n 65532) head.Decline head.Count)))

-- the bytes of a first half, with so many symbols; no trace has more than 65,531
abbrev pub half_size : ℕ → ℕ
half_size m = pick (ltb 65531 m) 0 (4 + 2 * m)

-- the bytes that an entry takes, by its first pair and the second: a report has one pair more, a trace as many as it has symbols, and a first half
-- its count before them. 0 is for none
abbrev pub size_by : Head → ℕ → ℕ → ℕ
size_by head.Count n m = 2 + 2 * n
size_by head.Gone n m = 4
size_by head.Choose n m = half_size m
size_by head.Issue n m = 2
size_by head.Decline n m = 2

abbrev pub size_for : ℕ → ℕ → ℕ
size_for n m = size_by (head_of n) n m

-- the bytes that the entry takes with which bytes begin
abbrev pub size_of : List ℕ → ℕ
size_of l = size_for (said l) (said (drop 2 l))

-- whether the bytes begin an entry, and hold the whole of it
abbrev pub is_whole : List ℕ → Bool
is_whole l = and (ltb 0 (size_of l)) (leb (size_of l) (length l))

-- the entry that bytes begin with: a trace for a step or for its first half, the report of an address, an issue, or a decline
abbrev pub entry_by : Head → List ℕ → Event
entry_by head.Count l = Received Step (symbols_in (said l) (drop 2 l))
entry_by head.Gone l = Gone (said (drop 2 l))
entry_by head.Choose l = Received Choose (symbols_in (said (drop 2 l)) (drop 4 l))
entry_by head.Issue l = Issue
entry_by head.Decline l = Decline

abbrev pub entry_of : List ℕ → Event
entry_of l = entry_by (head_of (said l)) l

-- the entries that bytes hold, at most k of them
unfoldable pub entries_in : ℕ → List ℕ → List Event
entries_in zero l = []
entries_in (suc k) l = pick (is_whole l) (entry_of l ∷ entries_in k (drop (size_of l) l)) []

-- after a start, a step, half of one, an issue or a decline, its state and what it answers; a report changes the state, and what was answered
-- last stays
abbrev pub after_event : Stepped → Event → Stepped
after_event st Start = started st.state
after_event st (Received w tr) = heard w st.state tr
after_event st (Gone a) = record { state = (reported st.state a).state; command = st.command }
after_event st Issue = issuing st.state
after_event st Decline = declining st.state

-- one event after the other
unfoldable pub steps_over : Stepped → List Event → Stepped
steps_over st [] = st
steps_over st (e ∷ es) = steps_over (after_event st e) es

-- a pass from its start, of a controller made with these addresses occupied and this last pick; bytes hold no more entries than they are
abbrev pub pass_over : Pool → ℕ → List ℕ → Stepped
pass_over occupied last l = steps_over (started (new_controller occupied last)) (entries_in (length l) l)

-- what a pass answered last, the Get UDIDs, and the last pick
abbrev pub told_pass : Stepped → HbCommand
told_pass st = told_command st.command st.state.gets st.state.picked

-- 1 where the last pick given is above 127: no command is outstanding, and all else is zero
abbrev pub refused_pass : HbCommand
refused_pass = said_of 6 1 no_udid 0 0 0

unfoldable pub pass_command : Pool → ℕ → List ℕ → HbCommand
pass_command occupied last l = pick (ltb 127 last) refused_pass (told_pass (pass_over occupied last l))

-- for the code: an entry as it is read, with the bytes of its trace
abbrev pub event_of : Entry → Event
event_of (entry.Step t) = Received Step (symbols_in (length t.now / 2) t.now)
event_of (entry.Choose t) = Received Choose (symbols_in (length t.now / 2) t.now)
event_of (entry.Gone a) = Gone a
event_of entry.Issue = Issue
event_of entry.Decline = Decline

-- for the code: the bytes begin with a whole entry, which is this one, and these follow it
pub record Begins (l : List ℕ) (e : Event) (rest : List ℕ) : Type 0 where
  pub whole : is_whole l ≡ true
  pub entry : e ≡ entry_of l
  pub rest_is : rest ≡ drop (size_of l) l

-- the lookup's answer
abbrev pub found_of : ℕ → Udid → HbFound
found_of n u = record { answer = n; udid = told_udid u }

abbrev pub told_found : Found → HbFound
told_found f = found_of (lookup_number f).0 (first_of (lookup_number f).1)

unfoldable pub pass_found : Pool → ℕ → List ℕ → ℕ → HbFound
pass_found occupied last l a = pick (ltb 127 last) (found_of 1 no_udid) (told_found (looked_up (pass_over occupied last l).state a))
