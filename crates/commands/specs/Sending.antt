-- What put_command answers and writes: the trace of a command that is sent, what is not sent, and each case of an Assign.
use Rattle.std.specs.Prelude.{ℕ, ◌*◌, ◌≤◌, ◌<◌, ◌≡◌, List, ◌++◌, length, get_or, drop}
use Rattle.lists.specs.Onto.{onto}
use Rattle.encode.specs.Encode.{encode_number}
use Rattle.encode.specs.Encode.{Encoded}
use Rattle.std.specs.Prelude.{Ok}
use Rattle.udid.specs.Bytes.{udid_bytes}
use Rattle.udid.specs.declared.Udid.{Udid}
use Rattle.commands.specs.CommandTraces.{assign_trace}
use Rattle.commands.specs.Requests.{trace_of}
use Rattle.commands.specs.declared.command.Command.TheVariants.{Prepare, GetUdid, Assign}
use Rattle.commands.specs.declared.command.Handed.{Handed}
use Rattle.commands.specs.declared.command.Handed.TheVariants.{Send, Wait}

-- what was written is the trace of the command
abbrev pub Sent : Handed → List ℕ → List ℕ → Encoded → List ℕ → Type 0
Sent k reply before r after = (r ≡ Ok (length (trace_of k reply))) × (after ≡ onto (trace_of k reply) before)

-- what is not sent: a reply of more than 255 bytes, an Assign of a number above 127, and what is no command
abbrev pub Unsendable : Handed → List ℕ → Type 0
Unsendable (Send Prepare) reply = ⊥
Unsendable (Send GetUdid) reply = 255 < length reply
Unsendable (Send (Assign u a)) reply = 127 < a.0
Unsendable (Wait e) reply = Unit

-- what put_command answers for an Assign, and the output after it
pub record AssignWritten (u : Udid) (a : ℕ) (before : List ℕ) (r : Encoded) (after : List ℕ) : Type 0 where
  pub above_127 : 127 < a → (encode_number r ≡ (1, 0)) × (after ≡ before)
  pub too_short : a ≤ 127 → length before < 44 → (encode_number r ≡ (2, 0)) × (after ≡ before)
  pub written : a ≤ 127 → 44 ≤ length before → (encode_number r ≡ (0, 44)) × (after ≡ assign_trace (udid_bytes u) (2 * a) ++ drop 44 before)
  -- the 17th byte of the data stands at place 39
  pub address_byte : a ≤ 127 → 44 ≤ length before → get_or after 39 0 ≡ 2 * a
