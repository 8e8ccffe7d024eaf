-- What a model run answers of the end of its pass, or of a refusal, and what it leaves in the binding buffer.
use Rattle.std.specs.Prelude.{ℕ, List, [], ◌∷◌, ◌++◌, length, drop, ltb, Option, Some, None}
use Rattle.lists.specs.Choice.{pick}
use Rattle.pool.specs.Free.{used}
use Rattle.pool.specs.Start.{empty_pool}
use Rattle.udid.specs.declared.Udid.{Udid}
use Rattle.slots.specs.Finding.{bound_in}
use Rattle.arp.specs.Numbers.{command_number}
use Rattle.slots.specs.Slots.{held_at}
use Rattle.slots.specs.declared.Binding.{Binding}
use Rattle.slots.specs.declared.Slots.{Slots}
use Rattle.arp.specs.declared.state.Stepped.{Stepped}
use Rattle.bindings.specs.Entries.{buffer_of, bound_set}
use Rattle.bindings.specs.declared.answer.ModelAnswer.{ModelAnswer}

abbrev pub no_udid : Udid
no_udid = record { high = 0; low = 0 }

-- ---- the end of the pass, in the scope's numbers. A command to send is no end and has none, nor has a choice that waits: they would
-- read as 0, but no pass stops at one (demand_3)

abbrev pub number_in : List (ℕ × List Udid) → ℕ
number_in [] = 0
number_in (n ∷ ns) = n.0

abbrev pub first_of : List Udid → Udid
first_of [] = no_udid
first_of (u ∷ us) = u

abbrev pub udid_in : List (ℕ × List Udid) → Udid
udid_in [] = no_udid
udid_in (n ∷ ns) = first_of n.1

-- ---- the bindings

-- an address that two claim holds no identifier
abbrev pub entry_for : List Udid → Option Udid
entry_for [] = None
entry_for (u ∷ us) = Some u

abbrev pub entry_of : Binding → Option Udid
entry_of h = entry_for (bound_in h)

abbrev pub entry_at : Slots → ℕ → Option Udid
entry_at slots a = entry_of (held_at slots a)

-- ---- the answer

-- the scope's number, and the record that comes with it
abbrev pub model_number : ModelAnswer → ℕ × ℕ
model_number r = (r.answer, r.place)

-- a refusal: its number and the record, and all else zero
abbrev pub refused_answer : ℕ → ℕ → ModelAnswer
refused_answer n i = record { answer = n; place = i; udid = no_udid; bound = empty_pool; count = 0; gets = 0; picked = 0 }

-- a pass: its number, the identifier that asked, the bound addresses and how many they are, the Get UDIDs, and the last pick
abbrev pub reported : Stepped → ModelAnswer
reported last = record {
  answer = number_in (command_number last.command);
  place = 0;
  udid = udid_in (command_number last.command);
  bound = bound_set (entry_at last.state.slots);
  count = used (bound_set (entry_at last.state.slots));
  gets = last.state.gets;
  picked = last.state.picked;
}

-- the bindings in the first 2,048 bytes; a shorter buffer keeps what it has
unfoldable pub with_bindings : Slots → List ℕ → List ℕ
with_bindings slots b = pick (ltb (length b) 2048) b (buffer_of (entry_at slots) ++ drop 2048 b)
