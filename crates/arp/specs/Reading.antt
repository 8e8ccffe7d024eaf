-- How a trace is read where the controller is told by its events (specs/Replay.antt): by what decode answers for it, and as symbols.
use Rattle.std.specs.Prelude.{ℕ, ◌*◌, ◌≤◌, ◌<◌, ◌≡◌, true, ◌↔◌, List, length}
use Rattle.wire.specs.declared.address.Address.{Address}
use Rattle.scan.specs.Decoded.{Decoded}
use Rattle.decode.specs.Outcome.{Outcome}
use Rattle.pool.specs.declared.Pool.{Pool}
use Rattle.udid.specs.Bytes.{udid_bytes}
use Rattle.udid.specs.Udids.{Fits}
use Rattle.udid.specs.declared.Udid.{Udid}
use Rattle.commands.specs.CommandTraces.{assign_trace, ReplyOf}
use Rattle.arp.specs.Replay.{Happened, Started, Replied, Assigned, Pulled, Other, Table, reply_in, assign_in, read_as, next_prepare, next_reply, next_command}
use Rattle.commands.specs.declared.command.Command.TheVariants.{Prepare, GetUdid, Assign}
use Rattle.commands.specs.declared.command.Handed.{Handed}
use Rattle.commands.specs.declared.command.Handed.TheVariants.{Send}

-- what a trace is read as: it is no start and no report
abbrev pub OfTrace : Happened → Type 0
OfTrace Started = ⊥
OfTrace (Replied u) = Unit
OfTrace (Assigned u a) = Unit
OfTrace (Pulled a) = ⊥
OfTrace Other = Unit

pub record Reading (tr : List ℕ) : Type 0 where
  -- by what decode answers for it, for every call with PEC and two buffers of at least 255 bytes: for Block Read, with the data received, where
  -- a reply is due; for Block Write, with the data sent, where an Assign is outstanding; for Send Byte after Prepare
  pub reply : (sent₀ received₀ : List ℕ) (d : Decoded) (sent received : List ℕ) → 255 ≤ length sent₀ → 255 ≤ length received₀
      → Outcome 9 true tr sent₀ received₀ d sent received
      → (read_as (Send GetUdid) tr ≡ reply_in d received) × ((o : Pool) (t : Table) (l n : ℕ) → next_command o t l n (Send GetUdid) tr ≡ next_reply o t l n d received)
  pub assign : (sent₀ received₀ : List ℕ) (d : Decoded) (sent received : List ℕ) → 255 ≤ length sent₀ → 255 ≤ length received₀
      → Outcome 8 true tr sent₀ received₀ d sent received → (u : Udid) (a : Address) → read_as (Send (Assign u a)) tr ≡ assign_in u a.0 d sent
  pub prepare : (sent₀ received₀ : List ℕ) (d : Decoded) (sent received : List ℕ) → 255 ≤ length sent₀ → 255 ≤ length received₀
      → Outcome 1 true tr sent₀ received₀ d sent received → (o : Pool) (t : Table) (l n : ℕ) → next_command o t l n (Send Prepare) tr ≡ next_prepare n d sent
  -- as symbols: a reply, exactly if Get UDID is outstanding and the trace is Get UDID with 17 bytes, the identifier's first
  pub replied : (k : Handed) (u : Udid) → Fits u → (read_as k tr ≡ Replied u) ↔ ((k ≡ Send GetUdid) × ReplyOf u tr)
  -- a complete Assign, exactly if it is outstanding and the trace is that Assign, acknowledged whole
  pub assigned : (k : Handed) (u : Udid) (a : Address) → Fits u → a.0 < 128 → (read_as k tr ≡ Assigned u a.0) ↔ ((k ≡ Send (Assign u a)) × (tr ≡ assign_trace (udid_bytes u) (2 * a.0)))
  -- and no trace is a start or a report
  pub of_trace : (k : Handed) → OfTrace (read_as k tr)
