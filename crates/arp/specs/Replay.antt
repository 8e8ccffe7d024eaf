-- What is bound, claimed and left, and what the pool has, told by the events alone, in the scope's sentences. The table does not cite the
-- controller's own definitions of freeing, binding or stepping: an event is read from the command that was handed out last and from what
-- decode answers for the trace (specs/Reading.antt).
use Rattle.std.specs.Prelude.{ℕ, zero, suc, ◌*◌, ◌/◌, ◌%◌, ◌<◌, ◌≡◌, Bool, true, false, List, [], ◌∷◌, ◌⊎◌, ltb, leb, eqb, get_or, Option, Some, None, Ok, Err}
use Rattle.lists.specs.Choice.{pick, or, and}
use Rattle.scan.specs.Numbers.{is_nack}
use Rattle.scan.specs.Decoded.{Decoded}
use Rattle.pool.specs.Pools.{member}
use Rattle.pool.specs.Start.{starting_pool, barred_pool}
use Rattle.pool.specs.declared.Pool.{Pool}
use Rattle.udid.specs.Bytes.{udid_at}
use Rattle.udid.specs.Udids.{same_udid, is_fixed}
use Rattle.udid.specs.declared.Udid.{Udid}
use Rattle.slots.specs.Slots.{held_at}
use Rattle.arp.specs.Choosing.{issuing, declining}
use Rattle.arp.specs.Controller.{started}
use Rattle.hearing.specs.Heard.{answer, sent_in, received_in}
use Rattle.arp.specs.History.{Event, Start, Received, Gone, Issue, Decline, heard, run}
use Rattle.arp.specs.Numbers.{unless21}
use Rattle.commands.specs.declared.command.Command.TheVariants.{Prepare, GetUdid, Assign}
use Rattle.commands.specs.declared.command.End.TheVariants.{Nothing, Ended, NoneFree, Abandoned, NotOutstanding}
use Rattle.commands.specs.declared.command.Handed.{Handed}
use Rattle.commands.specs.declared.command.Handed.TheVariants.{Send, Wait}
use Rattle.slots.specs.declared.Binding.{Binding}
use Rattle.slots.specs.declared.Binding.TheVariants.{Open, Bound, Claimed, Left}
use Rattle.arp.specs.declared.state.Controller.{Controller}
use Rattle.wire.specs.declared.address.Address.{Address}

-- ---- what happens, and the table that it changes

pub data Happened : Type 0 where
  -- a pass was started
  Started : Happened
  -- a target replied with this identifier
  Replied : Udid → Happened
  -- an Assign of the address to the identifier was complete
  Assigned : Udid → ℕ → Happened
  -- the module at the address was reported gone
  Pulled : ℕ → Happened
  Other : Happened

-- what each address is known for, and which addresses the pool has
pub record Table : Type 0 where
  pub held : ℕ → Binding
  pub used : ℕ → Bool

-- what a state says of each address
abbrev pub view : Controller → Table
view s = record { held = held_at s.slots; used = member s.pool }

abbrev pub holds : Udid → Binding → Bool
holds u Open = false
holds u (Bound v) = same_udid v u
holds u Claimed = false
holds u Left = false

-- a target is bound there
abbrev pub is_bound : Binding → Bool
is_bound Open = false
is_bound (Bound u) = true
is_bound Claimed = false
is_bound Left = false

-- a target is bound there, or two claim it: a word of its own, so that this telling does not rest on the code's `is_held`
abbrev pub is_bound_or_claimed : Binding → Bool
is_bound_or_claimed Open = false
is_bound_or_claimed (Bound u) = true
is_bound_or_claimed Claimed = true
is_bound_or_claimed Left = false

-- nothing bound, claimed or left, and the starting pool
abbrev pub emptied : Pool → Table
emptied occupied = record { held = λ a. Open; used = member (starting_pool occupied) }

-- u is bound nowhere; the address that it was bound to is open, and out of the pool unless the starting pool has it
abbrev pub released : Pool → Udid → Table → Table
released occupied u t =
    record {
      held = λ a. pick (holds u (t.held a)) Open (t.held a);
      used = λ a. pick (holds u (t.held a)) (and (member (starting_pool occupied) a) (t.used a)) (t.used a);
    }

-- by the occupied addresses
abbrev pub after : Pool → Happened → Table → Table
-- a start empties all bindings, claims and what is left, and sets the pool back to the starting pool
after occupied Started t = emptied occupied
-- a reply with an identifier that is bound makes its address open and takes it out of the pool, unless the starting pool has it
after occupied (Replied u) t = released occupied u t
-- a complete Assign binds its address and adds it to the pool; if the address is barred, or a target was bound there, or it was claimed, it is claimed
after occupied (Assigned u b) t =
    record {
      held = λ a. pick (eqb a b) (pick (or (member (barred_pool occupied) b) (is_bound_or_claimed (t.held b))) Claimed (Bound u)) (t.held a);
      used = λ a. pick (eqb a b) true (t.used a);
    }
-- a report of an address to which a target is bound: it is left, and out of the pool unless the starting pool has it
after occupied (Pulled b) t =
    record {
      held = λ a. pick (and (eqb a b) (is_bound (t.held a))) Left (t.held a);
      used = λ a. pick (and (eqb a b) (is_bound (t.held a))) (and (member (starting_pool occupied) a) (t.used a)) (t.used a);
    }
-- nothing else changes any of them
after occupied Other t = t

-- ---- how a trace is read

-- where a reply is due: answer 0 for Block Read (protocol 9), from 61h with command 03h, of 17 bytes: the identifier in the first 16
abbrev pub reply_in : Decoded → List ℕ → Happened
reply_in (Ok t) received = pick (and (eqb t.address.0 0x61) (eqb t.command 0x03)) (pick (eqb t.received 17) (Replied (udid_at received 0)) Other) Other
reply_in (Err e) received = Other

-- the bytes of Assign Address: u, and a in the upper seven bits of the last byte, bit 0 zero
abbrev pub assigns : Udid → ℕ → List ℕ → Bool
assigns u a sent = and (same_udid (udid_at sent 0) u) (eqb (get_or sent 16 0) (2 * a))

-- where an Assign of a to u is outstanding: answer 0 for Block Write (protocol 8), to 61h with command 04h, of 17 bytes, those bytes
abbrev pub assign_in : Udid → ℕ → Decoded → List ℕ → Happened
assign_in u a (Ok t) sent =
    pick (and (and (eqb t.address.0 0x61) (eqb t.command 0x04)) (and (eqb t.sent 17) (assigns u a sent))) (Assigned u a) Other
assign_in u a (Err e) sent = Other

-- by the command that is outstanding; a trace where none is, or where Prepare is, changes nothing
abbrev pub read_as : Handed → List ℕ → Happened
read_as (Send GetUdid) tr = reply_in (answer 9 tr) (received_in 9 tr)
read_as (Send (Assign u a)) tr = assign_in u a.0 (answer 8 tr) (sent_in 8 tr)
read_as (Send Prepare) tr = Other
read_as (Wait e) tr = Other

-- ---- the events of a history

-- what was handed out last; nothing before the first start. A report, and what is answered with 21, hands out nothing
unfoldable pub handed_out : Pool → ℕ → List Event → Handed
handed_out occupied last [] = Wait Nothing
handed_out occupied last (Start ∷ es) = (started (run occupied last es)).command
handed_out occupied last (Received w tr ∷ es) = unless21 (heard w (run occupied last es) tr).command (handed_out occupied last es)
handed_out occupied last (Gone a ∷ es) = handed_out occupied last es
handed_out occupied last (Issue ∷ es) = unless21 (issuing (run occupied last es)).command (handed_out occupied last es)
handed_out occupied last (Decline ∷ es) = unless21 (declining (run occupied last es)).command (handed_out occupied last es)

-- what was answered last, 21 included; a report has an answer of its own
unfoldable pub answered : Pool → ℕ → List Event → Handed
answered occupied last [] = Wait Nothing
answered occupied last (Start ∷ es) = (started (run occupied last es)).command
answered occupied last (Received w tr ∷ es) = (heard w (run occupied last es) tr).command
answered occupied last (Gone a ∷ es) = answered occupied last es
answered occupied last (Issue ∷ es) = (issuing (run occupied last es)).command
answered occupied last (Decline ∷ es) = (declining (run occupied last es)).command

-- an issue and a decline change no address
abbrev pub happened : Pool → ℕ → List Event → Event → Happened
happened occupied last es Start = Started
happened occupied last es (Received w tr) = read_as (handed_out occupied last es) tr
happened occupied last es (Gone a) = Pulled a
happened occupied last es Issue = Other
happened occupied last es Decline = Other

-- the table after events, the latest first
unfoldable pub table : Pool → ℕ → List Event → Table
table occupied last [] = emptied occupied
table occupied last (e ∷ es) = after occupied (happened occupied last es e) (table occupied last es)

-- the scope's number of a lookup for what an address is known for
abbrev pub number_of : Binding → ℕ × List Udid
number_of (Bound u) = (0, u ∷ [])
number_of Open = (15, [])
number_of Claimed = (16, [])
number_of Left = (20, [])

-- ---- what is handed out next, from the table, the last pick, the count of Get UDIDs handed out in this pass, and the command outstanding

-- Get UDID; when it would be the 129th of the pass: 14
abbrev pub again : ℕ → Handed
again n = pick (leb 128 n) (Wait Abandoned) (Send GetUdid)

-- the first address that is not in the pool, of the n from a on, going from 7Fh round to 00h
unfoldable pub first_free : (ℕ → Bool) → ℕ → ℕ → Option Address
first_free used zero a = None
first_free used (suc n) a = pick (used (a % 128)) (first_free used n (suc a)) (Some (record { 0 = a % 128 }))

-- all the way round after the last pick
abbrev pub free_after : (ℕ → Bool) → ℕ → Option Address
free_after used last = first_free used 128 (suc last)

-- FFh: the first free address after the last pick. Else fixed: its own. Else movable: its own if not in the pool, otherwise the first free one
abbrev pub given_to : (ℕ → Bool) → ℕ → Udid → ℕ → Option Address
given_to used last u b =
    pick (eqb b 0xFF) (free_after used last)
    (pick (is_fixed u) (Some (record { 0 = b / 2 }))
    (pick (used (b / 2)) (free_after used last) (Some (record { 0 = b / 2 }))))

-- no address to pick: the pool is full, and the byte is FFh or the target is movable with its own address in the pool
abbrev pub NoneToPick : (ℕ → Bool) → Udid → ℕ → Type 0
NoneToPick used u b = ((c : ℕ) → c < 128 → used c ≡ true) × ((b ≡ 0xFF) ⊎ ((is_fixed u ≡ false) × (used (b / 2) ≡ true)))

-- Assign Address; none free: 13
abbrev pub assigning : Udid → Option Address → Handed
assigning u (Some a) = Send (Assign u a)
assigning u None = Wait (NoneFree u)

-- Prepare accepted (answer 0 for Send Byte, protocol 1, to 61h, of the byte 01h): Get UDID. Answer 6: the pass ends. Any other: 14
abbrev pub next_prepare : ℕ → Decoded → List ℕ → Handed
next_prepare n (Ok t) sent = pick (and (eqb t.address.0 0x61) (eqb (get_or sent 0 0) 0x01)) (again n) (Wait Abandoned)
next_prepare n (Err e) sent = pick (is_nack e.why) (Wait Ended) (Wait Abandoned)

-- a reply of 17 bytes: an address is assigned, from the pool with what the identifier was bound to freed. A complete reply of another
-- count, or answer 6 at byte 0, 1 or 2: the pass ends. Another address or command, or any other refusal: Get UDID again
abbrev pub next_reply : Pool → Table → ℕ → ℕ → Decoded → List ℕ → Handed
next_reply occupied t last n (Ok x) received =
    pick (and (eqb x.address.0 0x61) (eqb x.command 0x03))
    (pick (eqb x.received 17) (assigning (udid_at received 0) (given_to (released occupied (udid_at received 0) t).used last (udid_at received 0) (get_or received 16 0))) (Wait Ended))
    (again n)
next_reply occupied t last n (Err e) received = pick (and (is_nack e.why) (ltb e.place 3)) (Wait Ended) (again n)

-- after an Assign, complete or not: Get UDID. With no command of a pass outstanding: 21
abbrev pub next_command : Pool → Table → ℕ → ℕ → Handed → List ℕ → Handed
next_command occupied t last n (Send Prepare) tr = next_prepare n (answer 1 tr) (sent_in 1 tr)
next_command occupied t last n (Send GetUdid) tr = next_reply occupied t last n (answer 9 tr) (received_in 9 tr)
next_command occupied t last n (Send (Assign u a)) tr = again n
next_command occupied t last n (Wait e) tr = Wait NotOutstanding
