-- The commands on the wire, symbol by symbol: the trace of each command is that of specs/CommandTraces.antt.
use Rattle.std.specs.Prelude.{ℕ, ◌*◌, ◌<◌, ◌≡◌, List, [], ◌∷◌, ◌++◌, length}
use Rattle.pec.specs.Pec.{pec_of}
use Rattle.wire.specs.declared.address.Address.{Address}
use Rattle.trace.specs.Trace.{acked}
use Rattle.udid.specs.Bytes.{udid_bytes}
use Rattle.udid.specs.declared.Udid.{Udid}
use Rattle.commands.specs.CommandTraces.{assign_trace, prepare_trace}
use Rattle.commands.specs.Requests.{trace_of}
use Rattle.commands.specs.declared.command.Command.TheVariants.{Prepare, GetUdid, Assign}
use Rattle.commands.specs.declared.command.Handed.TheVariants.{Send}

pub record CommandRows : Type 0 where
  -- Prepare To ARP: S C2 A 01 A PEC A P, the marked case M2, whatever is given as a reply
  pub prepare : (reply : List ℕ) → trace_of (Send Prepare) reply ≡ prepare_trace
  -- Get UDID with the 17 bytes of a reply: S C2 A 03 A S C3 A 11 A, each byte with A, PEC N P
  pub get : (xs : List ℕ) → length xs ≡ 17 → trace_of (Send GetUdid) xs
      ≡ 256 ∷ 194 ∷ 258 ∷ 3 ∷ 258 ∷ 256 ∷ 195 ∷ 258 ∷ 17 ∷ 258 ∷ (acked xs ++ pec_of (194 ∷ 3 ∷ 195 ∷ 17 ∷ xs) ∷ 259 ∷ 257 ∷ [])
  -- Assign Address: S C2 A 04 A 11 A, each byte of the identifier with A, twice the address A, PEC A P
  pub assign : (u : Udid) (a : Address) → a.0 < 128 → trace_of (Send (Assign u a)) [] ≡ assign_trace (udid_bytes u) (2 * a.0)
