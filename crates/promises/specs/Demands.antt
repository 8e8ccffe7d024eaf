-- THE PAGE OF PROMISES: statements only. Each record has one inhabitant, and so its proof: in DemandsLaws, CatchesLaws, ChoosingLaws, ModulesLaws or MarkedLaws.
-- ≡ is 'equal', ↔ 'if and only if', × 'and', ⊎ 'or', P → ⊥ 'not P', (x : A) × P 'there is an x with P'; get_or l i 0 is number i of the list l.
-- A parameter such as (contract : Wrote ..) is what a function's `ensures` says, word for word. It need not be believed: the code meets it.
-- CONTRACTS: Leaves, Outcome, Wrote, declining, first_half, issuing, looked_up, loses, message_of, model_end, new_controller, next_free, powered, protocol_for, receives, refreshed, reported, resumed, silent_in, started, starts, stepped, stops, supplies, trace_of.
-- BELIEVED: 1154 lines, without imports, comments and blanks. Crate/file, then the lines of each definition; src is a type of the code. tests/programs/believed.rs counts them.
-- lists/Choice: and 3, not 3, or 3, pick 3; lists/Each: Any 3, Bytes 3, Each 3; lists/Passing: passing 3; wire/AddressTable: Bit 4, Covers 2, covers 3, lets 4, table17 25; wire/Addresses: is_from_to 2, is_listed 2,
-- is_preassigned 2, is_reserved 2; wire/Symbols: ACK 2, NACK 2, START 2, STOP 2; wire/src: Address 1; pec/Pec: bit_step 2, pec_from 3, pec_of 2, pec_step 2; pec/PecDivision: polynomial 2, polynomial_from 3, times_g 2;
-- catches/Changes: Came 5, FirstAndLast 2, Flipped 2, RightPec 2, TwoBits 5, Within 7, bit_of 2, how_many 2, is_flipped 2, power 2; trace/Rows: message 2; trace/Table: InTable 2, Line 6, Row 22, TraceOf 2, last_protocol 2,
-- line 2, symbols 2; trace/Trace: Message 6, ack_of 3, acked 3, in_place 2, nacked 3; trace/src: Transaction 8; encode/Encode: Encoded 2, encode_number 4; encode/src: EncodeError 4; misfit/Cases: IsMisaddressed 2, IsMiscounted 2,
-- IsOther 2, IsSwapped 2; scan/Answers: summary 3; scan/Because: AfterStart 2; scan/BytesIn: bytes_in 3; scan/Decoded: Decoded 2; scan/Fitting: BitSwapped 4, Breaks 4, CountTooHigh 4, CutAt 9, Fits 2, FitsNext 2, Member 2,
-- OtherPec 3, ToHost 2, Whole 2, Wrong 2; scan/Numbers: decode_number 3, refusal_number 12; scan/src: Refusal 13, Refused 4; decode/Outcome: Entered 2; garbled/Places: Changed 3, MayDiffer 3, sent_from 2; pool/Counts: count 3,
-- one 2; pool/Digits: digit 2, plus 2; pool/Free: used 2; pool/NextFree: Next 4; pool/Picks: FreeAtEach 3, Pick 3, Picked 3, Picks 3, latest_of 3; pool/Pools: member 2, union_of 2, with_address 4; pool/Start: barred_pool 2,
-- empty_pool 2, listed_pool 2, reserved_pool 2, starting_pool 2; pool/src: Pool 4; udid/Bytes: bytes_from 3, bytes_of 3, number 2, number_from 3, udid_at 2, udid_bytes 2; udid/Udids: Fits 3, is_fixed 2, same_udid 2, value 2;
-- udid/src: Udid 4; slots/Slots: held_at 2, kept_udid 2, zero_udid 2; slots/src: Binding 6, Slots 6; module/Acknowledges: acked 3, get_order 2; module/Obeys: assign_order 2, directed_reset 2, heard_all 3, packet 2,
-- prepare_order 2, reset_order 2; module/Packets: Begins 2, Known 7, PecDue 6, PowersOn 7, Reachable 2, Resets 7, kind_of 2; module/Receive: for_read 2, for_write 2; module/Reset: having 2; module/Resume: AsRecorded 9,
-- resumed_number 4; module/Says: after_asking 3, asked 2, reply_to 2, says 3, sent 2; module/Supply: address_byte 2, byte_out 2; module/src: Lasting 8, Module 7, RecordError 4; commands/Choices: choice_in 3, in_end 7;
-- commands/CommandTraces: ReplyOf 2, assign_trace 2, prepare_trace 2, reply_trace 3; commands/SameTrace: same 5; commands/src: Command 5, End 8, Handed 4, Reason 6; arp/Account: bind_in 5, binds 7, known_in 2, removals 7,
-- remove_in 2, replies_from 5, unbind_in 5, unbindings 7; arp/Choosing: carried_for 3, carried_on 2, halves_over 3, sending 2, sending_for 3, steps_over 3; arp/History: By 3, Event 6, NoStart 7, heard 3, run 7;
-- arp/Numbers: command_number 3, end_number 7, is21 3, is21_end 7, lookup_number 6, unless21 2; arp/OneStep: Asks 3, Binds 8, BoundAt 3, Chooses 5, Continues 2, EndsWith 2, Hands 5, Keeps 4, Removes 5, Replies 4, Rest 5, Same 2,
-- Unbinds 5; arp/Reasons: Contested 2, MustPick 2, Reasons 7; arp/Replay: Table 3, handed_out 7, is_bound 5, view 2; arp/RunPicks: is_picked 2, pick_in 5, picks_of 8; arp/SinceStart: BoundSince 9, Completes 2, LeftSince 7,
-- Removed 2, RepliedBy 2, Untaken 3; arp/State: with_last 2; arp/Waits: Waits 2; arp/src: Controller 8, Found 7, Reported 4, Stepped 4; arbitration/Among: Among 3; arbitration/Bits: bits 3, byte_bits 3, bytes_read 3, number_of 3;
-- arbitration/Wire: heard 3, later 3, level 3, next 3, staying 3; targets/ByteCases: EvenOrFlag 2, FixedAt 2, FixedOnTaken 2, SameAsEarlier 2, address_at 2; targets/Cases: FirstOf 4, LengthIsBad 2, NoneOf 2;
-- targets/Records: address_byte 2, flag_of 2, record_count 2, target_at 2, targets_from 3, targets_of 2, udid_of 2; targets/Reply: OnWire 3, covered_bytes 2, on_wire 3, reply_bytes 2, reply_data 2, reply_pec 2, sends 2,
-- waiting 3; targets/Target: Target 4, is_resolved 2, map_targets 3; bindings/src: ModelAnswer 9; report/Report: model_number 2; rule/Acknowledge: acknowledges 4, afterwards 2, answered 4, asking 2, assigning_bytes 2, begins 4,
-- getting_bytes 2, on_bus 2, preparing_bytes 2, received 3, sent_part 5, somebody 3, standing 3; rule/AllBound: left_free 2, movable 3, with_fixed 3; rule/AnyBus: Bus 3, WorldOver 3, beginning_over 2, pass_of 2, run_over 3,
-- took_over 3, turn_over 2; rule/Bus: model_bus 2, pass 2; rule/Effect: address_in 2, effect 5, is_for_me 2; rule/Halves: run_by_halves 3, took_by_halves 3; rule/PlainRule: Distinct 3, Ending 3, Given 3, Ruled 4, ascending 3,
-- held 2, insert 3, is_picked_for 2, next 5, pick_after 2, plain_choice 2, rule 3, ruled 2; rule/Reading: OnePerUdid 3, RecordOf 2; rule/Sent: gets_among 3, gets_on_bus 2, gets_over 2, heard_after 4, history_on_bus 2, one_in 2,
-- traces_over 3; exchange/Exchange: Fitting 2, Left 3, Sender 4, after 3, after_byte 2, after_bytes 3, any_ack 3, asked 2, block_length 2, byte_on 2, bytes_on 3, exchange 2, hearing 2, line 3, put 2, reading 5, record_of 2,
-- records_of 2, rest 5, seen 3, sees 5, stop_all 2, walk 6; exchange/Pass: Bench 2, gets_on 2, pass_on 2, run_on 3, stands_on 2, took_on 3, traces_on 3, turn_on 2; exchange/Sending: asked_all 2, started_again 2;
-- bus/Run: ModelEnd 4; promises/MarkedWords: Shows 2, holding 2, identifier 2, windows 3.
use Rattle.std.specs.Prelude.{◌≡◌, Bool, true, false, List, [], ◌∷◌, ◌++◌, ◌⊎◌, ◌↔◌, ℕ, suc, ◌+◌, ◌-◌, ◌*◌, ◌/◌, ◌%◌, ◌^◌, ◌≤◌, ◌<◌, length, take, drop, get_or, replicate, Some, None, Ok, is_some}
use Rattle.std.specs.Int.Bits.{bit_xor}
use Rattle.promises.specs.Words.{Each, Any, Bytes, is_reserved, is_preassigned, is_listed, table17, Covers, pec_of, Address, last_protocol, TraceOf, Message, message, encode_number, Wrote, Encoded}
use Rattle.promises.specs.Words.{summary, Member, Fits, Breaks, Wrong, AfterStart, FitsNext, ToHost, IsSwapped, IsMisaddressed, IsMiscounted, IsOther, BitSwapped, CountTooHigh, CutAt, OtherPec, decode_number, Decoded, Entered, Outcome}
use Rattle.promises.specs.Words.{member, empty_pool, starting_pool, barred_pool, Pool, udid_bytes, In128, Udid, held_at, prepare_trace, reply_trace, assign_trace, new_controller, started, stepped, reported, By, Event, Received, NoStart, run, looked_up, command_number, lookup_number}
use Rattle.promises.specs.Words.{used, count, not, Completes, BoundSince, LeftSince, binds, unbindings, removals, known_in, handed_out, Removes, Rest, Reported, Left}
use Rattle.promises.specs.Words.{Asks, Binds, Continues, EndsWith, Replies, protocol_for, message_of, trace_of, Handed, Send, Wait, Nothing, Prepare, GetUdid, Assign, Ended, Abandoned, NotOutstanding, Open, Bound, Claimed, Controller, Stepped}
use Rattle.promises.specs.Words.{EvenOrFlag, SameAsEarlier, FixedOnTaken, LengthIsBad, FirstOf, targets_of, movable, left_free, pass, Given, Ending, served, none_free, Distinct, ruled, RecordOf, OnePerUdid, gets_on_bus, history_on_bus, model_number, Leaves, model_end, ModelAnswer, next_free, Next, Pick, Picks, latest_of, picks_of, FreeAtEach, Picked, identifier, holding, Shows, NoneOf}
use Rattle.promises.specs.Words.{Module, silent_in, starts, stops, loses, receives, supplies, byte_out, powered, refreshed, resumed, resumed_number, AsRecorded, having, heard_all, acked, prepare_order, reset_order, directed_reset, assign_order, get_order, Begins, Reachable, Known, Resets, PowersOn, PecDue, says, after_asking, asked, reply_to}
use Rattle.promises.specs.Words.{first_half, issuing, declining, steps_over, halves_over, run_by_halves, Step, Choose, Gone, Issue, Decline, Chosen, Reason, ByTwo, Reasons, Waits, with_last}
use Rattle.promises.specs.Words.{times_g, polynomial, bytes_in, Whole, RightPec, Came, Within, TwoBits, FirstAndLast, how_many, MayDiffer, Changed, sent_from}
use Rattle.promises.specs.Words.{on_bus, effect, map_targets, Among, beginning_over, run_over, model_bus, exchange, records_of, Fitting, after_bytes, asked_all, run_on, pass_on, gets_on}

-- ---- THE ADDRESSES: TABLE 17 OF SMBus 3.3.1, Appendix C
pub record Addresses : Type 0 where
  -- an address is listed if and only if a row of the table covers its byte on the wire, for a write or for a read. 35 are, and 93 are left to pick from
  pub listed : (a : ℕ) → (is_listed a ≡ true) ↔ ((a < 128) × Any (Covers a) table17)
  pub counts : (count is_listed 128 ≡ 35) × (count (λ a. not (is_listed a)) 128 ≡ 93)
  -- the 21 that are reserved: not even a fixed target may stand there
  pub reserved : (a : ℕ) → (is_reserved a ≡ true) ↔ ((a ≤ 0x08) ⊎ ((a ≡ 0x0C) ⊎ ((a ≡ 0x28) ⊎ ((a ≡ 0x37) ⊎ ((a ≡ 0x61) ⊎ ((0x78 ≤ a) × (a ≤ 0x7F)))))))
  -- the other 14, which are pre-assigned: a fixed target may stand there
  pub preassigned : (a : ℕ) → (is_preassigned a ≡ true) ↔ ((is_listed a ≡ true) × (is_reserved a ≡ false))
  -- THE STARTING POOL, from which nothing is picked: the listed and the occupied ones. THE BARRED ADDRESSES, where not even a fixed target may stand: the reserved and the occupied ones
  pub starting_pool_lem : (occupied : Pool) (a : ℕ) → (member (starting_pool occupied) a ≡ true) ↔ ((is_listed a ≡ true) ⊎ (member occupied a ≡ true))
  pub barred : (occupied : Pool) (a : ℕ) → (member (barred_pool occupied) a ≡ true) ↔ ((is_reserved a ≡ true) ⊎ (member occupied a ≡ true))

-- ---- DEMAND 1: EACH NUMBER, IF AND ONLY IF ITS CASE; A REFUSAL CHANGES NOTHING THAT WAS LENT
-- a message as the encoder's types have it: its command and its data are bytes
abbrev pub OfBytes : Message → Type 0
OfBytes m = (m.command < 256) × Bytes m.sent × Bytes m.received

-- encode of the message m, into an output that holds `before`: the answer r, and what the output holds after
pub record Encodes (protocol : ℕ) (pec : Bool) (m : Message) (bytes : OfBytes m) (before : List ℕ) (r : Encoded) (after : List ℕ) (contract : Wrote protocol pec m before r after) : Type 0 where
  pub encode_0 : (n : ℕ) → (encode_number r ≡ (0, n)) ↔ ((tr : List ℕ) × TraceOf protocol pec m tr × (length tr ≡ n) × (n ≤ length before))
  -- 1: no row of the table has such a message: protocol, address, direction, a field that is lacking, a length or a count is not as it has to be
  pub encode_1 : (encode_number r ≡ (1, 0)) ↔ ((tr : List ℕ) → TraceOf protocol pec m tr → ⊥)
  pub encode_2 : (encode_number r ≡ (2, 0)) ↔ ((tr : List ℕ) × TraceOf protocol pec m tr × (length before < length tr))
  -- with 0 the trace stands at the front, and the rest is as it was
  pub written : (encode_number r).0 ≡ 0 → (tr : List ℕ) → TraceOf protocol pec m tr → after ≡ tr ++ drop (length tr) before
  pub untouched : ((encode_number r).0 ≡ 0 → ⊥) → after ≡ before

-- decode of the trace tr, with two buffers that hold sent₀ and received₀: the answer a, and what they hold after. k is a place, b a byte's number, take k tr
-- what stands before k. Member: a whole trace, with any byte in PEC's place, or one that the target cut short with NACK and STOP. Fits: the beginning of one
pub record Decodes (protocol : ℕ) (pec : Bool) (tr sent₀ received₀ : List ℕ) (a : Decoded) (sent received : List ℕ) (contract : Outcome protocol pec tr sent₀ received₀ a sent received) : Type 0 where
  pub decode_0 : (decode_number a ≡ (0, 0)) ↔ (Entered protocol pec sent₀ received₀ × ((m : Message) × TraceOf protocol pec m tr))
  pub decode_1 : (decode_number a ≡ (1, 0)) ↔ ((last_protocol < protocol) ⊎ ((protocol ≡ 0) × (pec ≡ true)))
  pub decode_2 : (decode_number a ≡ (2, 0)) ↔ ((protocol ≤ last_protocol) × (protocol ≡ 0 → pec ≡ false) × ((length sent₀ < 255) ⊎ (length received₀ < 255)))
  pub decode_3 : (k : ℕ) → (decode_number a ≡ (3, k)) ↔ (Entered protocol pec sent₀ received₀ × (Breaks protocol pec tr k × (259 < get_or tr k 0)))
  pub decode_4 : (n : ℕ) → (decode_number a ≡ (4, n)) ↔ (Entered protocol pec sent₀ received₀ × (Fits protocol pec tr × (Member protocol pec tr → ⊥) × (n ≡ length tr)))
  pub decode_5 : (k : ℕ) → (decode_number a ≡ (5, k)) ↔ (Entered protocol pec sent₀ received₀ × (Wrong protocol pec tr k × IsOther (FitsNext protocol pec tr k) (AfterStart tr k) (ToHost protocol) (get_or tr k 0)))
  pub decode_6 : (b : ℕ) → (decode_number a ≡ (6, b)) ↔ (Entered protocol pec sent₀ received₀ × CutAt protocol pec tr b)
  pub decode_7 : (k : ℕ) → (decode_number a ≡ (7, k)) ↔ (Entered protocol pec sent₀ received₀ × OtherPec protocol pec tr k)
  pub decode_8 : (k : ℕ) → (decode_number a ≡ (8, k)) ↔ (Entered protocol pec sent₀ received₀ × ((k < length tr) × Member protocol pec (take k tr) × (get_or tr k 0 ≤ 259)))
  -- the kinds of a wrong symbol: 17 ACK for NACK or NACK for ACK, 18 a byte right after START, 19 a byte elsewhere for which another would have fitted; else 5. Worked out over the table: bits, counts
  pub decode_17 : (k : ℕ) → (decode_number a ≡ (17, k)) ↔ (Entered protocol pec sent₀ received₀ × (Wrong protocol pec tr k × IsSwapped (FitsNext protocol pec tr k) (get_or tr k 0)))
  pub decode_18 : (k : ℕ) → (decode_number a ≡ (18, k)) ↔ (Entered protocol pec sent₀ received₀ × (Wrong protocol pec tr k × IsMisaddressed (AfterStart tr k) (ToHost protocol) (get_or tr k 0)))
  pub decode_19 : (k : ℕ) → (decode_number a ≡ (19, k)) ↔ (Entered protocol pec sent₀ received₀ × (Wrong protocol pec tr k × IsMiscounted (FitsNext protocol pec tr k) (AfterStart tr k) (ToHost protocol) (get_or tr k 0)))
  pub bits : (k : ℕ) → (decode_number a ≡ (17, k)) ↔ (Entered protocol pec sent₀ received₀ × BitSwapped protocol pec tr k)
  pub counts : (k : ℕ) → (decode_number a ≡ (19, k)) ↔ (Entered protocol pec sent₀ received₀ × CountTooHigh protocol tr k)
  pub wrong : (k : ℕ) → ((decode_number a ≡ (5, k)) ⊎ ((decode_number a ≡ (17, k)) ⊎ ((decode_number a ≡ (18, k)) ⊎ (decode_number a ≡ (19, k))))) ↔ (Entered protocol pec sent₀ received₀ × Wrong protocol pec tr k)
  -- with 0 the message is handed over: its fields, and its data at the fronts of the buffers, which are as they were behind
  pub handed : Entered protocol pec sent₀ received₀ → (m : Message) → TraceOf protocol pec m tr → (a ≡ Ok (summary protocol m)) × (sent ≡ m.sent ++ drop (length m.sent) sent₀) × (received ≡ m.received ++ drop (length m.received) received₀)
  pub untouched : ((decode_number a).0 ≡ 0 → ⊥) → (sent ≡ sent₀) × (received ≡ received₀)

-- put_command: 1 if and only if Bad, else the trace tr, as encode writes it
pub record Puts (Bad : Type 0) (tr before : List ℕ) (r : Encoded) (after : List ℕ) : Type 0 where
  pub put_0 : (n : ℕ) → (encode_number r ≡ (0, n)) ↔ ((Bad → ⊥) × (n ≡ length tr) × (n ≤ length before))
  pub put_1 : (encode_number r ≡ (1, 0)) ↔ Bad
  pub put_2 : (encode_number r ≡ (2, 0)) ↔ ((Bad → ⊥) × (length before < length tr))
  pub written : (encode_number r).0 ≡ 0 → after ≡ tr ++ drop (length tr) before
  pub untouched : ((encode_number r).0 ≡ 0 → ⊥) → after ≡ before

pub record Commands (reply before : List ℕ) (r : Encoded) (after : List ℕ) : Type 0 where
  -- the commands' traces are lines of the table, with their PEC, to 61h; trace_of gives them
  pub lines : TraceOf 1 true (message 0x61 0 0 (0x01 ∷ []) []) prepare_trace × (Bytes reply → length reply ≤ 255 → TraceOf 9 true (message 0x61 0 0x03 [] reply) (reply_trace reply))
      × ((u : Udid) (a : ℕ) → a < 128 → TraceOf 8 true (message 0x61 0 0x04 (udid_bytes u ++ 2 * a ∷ []) []) (assign_trace (udid_bytes u) (2 * a)))
  pub traces : (trace_of (Send Prepare) reply ≡ prepare_trace) × (trace_of (Send GetUdid) reply ≡ reply_trace reply) × ((u : Udid) (a : Address) → a.0 < 128 → trace_of (Send (Assign u a)) [] ≡ assign_trace (udid_bytes u) (2 * a.0))
  pub prepare : Wrote (protocol_for (Send Prepare)) true (message_of (Send Prepare) reply) before r after → Puts ⊥ prepare_trace before r after
  pub get : Wrote (protocol_for (Send GetUdid)) true (message_of (Send GetUdid) reply) before r after → Puts (255 < length reply) (reply_trace reply) before r after
  pub assign : (u : Udid) (a : Address) → Wrote (protocol_for (Send (Assign u a))) true (message_of (Send (Assign u a)) reply) before r after → Puts (127 < a.0) (assign_trace (udid_bytes u) (2 * a.0)) before r after
  -- what is no command is refused
  pub none : (k : Handed) → (k ≡ Send Prepare → ⊥) → (k ≡ Send GetUdid → ⊥) → ((u : Udid) (a : Address) → k ≡ Send (Assign u a) → ⊥) → Wrote (protocol_for k) true (message_of k reply) before r after → Puts Unit [] before r after

-- lookup of the address a in the state s
pub record LooksUp (s : Controller) (a : ℕ) : Type 0 where
  pub lookup_0 : (u : Udid) → (lookup_number (looked_up s a) ≡ (0, u ∷ [])) ↔ ((a < 128) × (held_at s.slots a ≡ Bound u))
  pub lookup_1 : (lookup_number (looked_up s a) ≡ (1, [])) ↔ (127 < a)
  pub lookup_15 : (lookup_number (looked_up s a) ≡ (15, [])) ↔ ((a < 128) × (held_at s.slots a ≡ Open))
  pub lookup_16 : (lookup_number (looked_up s a) ≡ (16, [])) ↔ ((a < 128) × (held_at s.slots a ≡ Claimed))
  pub lookup_20 : (lookup_number (looked_up s a) ≡ (20, [])) ↔ ((a < 128) × (held_at s.slots a ≡ Left))

-- run_model with the last pick `last`, 127 if none ever was, over the records s and the binding buffer b, which hold s' and b' after. i is a record
abbrev pub Refused : ModelAnswer → Type 0
Refused r = (1 ≤ r.answer) × (r.answer ≤ 12)

pub record Checks (occupied : Pool) (last : ℕ) (s b : List ℕ) (bytes : Bytes s) (r : ModelAnswer) (s' b' : List ℕ) (contract : Leaves (model_end occupied last s b) r s' b') : Type 0 where
  pub model_1 : (model_number r ≡ (1, 0)) ↔ (127 < last)
  pub model_2 : (model_number r ≡ (2, 0)) ↔ ((last < 128) × (length b < 2048))
  pub model_9 : (model_number r ≡ (9, 0)) ↔ ((last < 128) × ((2048 ≤ length b) × LengthIsBad s))
  pub model_10 : (i : ℕ) → (model_number r ≡ (10, i)) ↔ ((last < 128) × ((2048 ≤ length b) × ((LengthIsBad s → ⊥) × FirstOf (EvenOrFlag s) (length s / 18) i)))
  pub model_11 : (i : ℕ) → (model_number r ≡ (11, i)) ↔ ((last < 128) × ((2048 ≤ length b) × ((LengthIsBad s → ⊥) × NoneOf (EvenOrFlag s) (length s / 18) × FirstOf (SameAsEarlier s) (length s / 18) i)))
  pub model_12 : (i : ℕ) → (model_number r ≡ (12, i)) ↔ ((last < 128) × ((2048 ≤ length b) × ((LengthIsBad s → ⊥) × NoneOf (EvenOrFlag s) (length s / 18) × NoneOf (SameAsEarlier s) (length s / 18) × FirstOf (FixedOnTaken (barred_pool occupied) s) (length s / 18) i)))
  pub untouched : Refused r → (s' ≡ s) × (b' ≡ b) × (r.udid ≡ record { high = 0; low = 0 }) × (r.bound ≡ empty_pool) × (r.count ≡ 0) × (r.gets ≡ 0) × (r.picked ≡ 0)

-- ---- DEMAND 2: THE DECODER READS WHAT THE ENCODER WRITES, AND NOTHING ELSE
pub record Demand2 (protocol : ℕ) (pec : Bool) : Type 0 where
  -- what a call of the encoder wrote, a call of the decoder reads
  pub there : (m : Message) (before : List ℕ) (r : Encoded) (after : List ℕ) → OfBytes m → Wrote protocol pec m before r after → (n : ℕ) → encode_number r ≡ (0, n)
      → (sent₀ received₀ : List ℕ) (a : Decoded) (sent received : List ℕ) → 255 ≤ length sent₀ → 255 ≤ length received₀ → Outcome protocol pec (take n after) sent₀ received₀ a sent received
      → (a ≡ Ok (summary protocol m)) × (sent ≡ m.sent ++ drop (length m.sent) sent₀) × (received ≡ m.received ++ drop (length m.received) received₀)
  -- what the decoder answers with 0 is the trace that the encoder writes for the message handed over, into any output that has room
  pub back : (tr sent₀ received₀ : List ℕ) (a : Decoded) (sent received : List ℕ) → Outcome protocol pec tr sent₀ received₀ a sent received → decode_number a ≡ (0, 0)
      → (m : Message) × OfBytes m × (a ≡ Ok (summary protocol m)) × ((before : List ℕ) (r : Encoded) (after : List ℕ) → length tr ≤ length before
      → Wrote protocol pec m before r after → (encode_number r ≡ (0, length tr)) × (take (length tr) after ≡ tr))
  -- and a trace is that of one message alone
  pub one : (m t : Message) (tr : List ℕ) → TraceOf protocol pec m tr → TraceOf protocol pec t tr → m ≡ t

-- ---- WHAT THE PEC CATCHES. A message is all its bytes, the PEC among them, which is the last. Bits go as on the wire, without the ACKs: bit j of byte i, both from 0, the highest bit of a byte first, has
-- the place 8 * i + j among all. Came xs ys: xs was sent with its right PEC, and ys came, as many bytes. Within 8: at least one bit is flipped, and all that are lie among eight consecutive ones. TwoBits i j k l: bit j
-- of byte i is flipped, after it bit l of byte k, and no other. FirstAndLast: bit 0 of byte 0, and bit 7 of byte 15. how_many: how many bits are flipped
pub record Catches : Type 0 where
  -- a PEC is right if and only if all bytes, as a polynomial, are a multiple of x^8+x^2+x+1; so a change is not caught if and only if what it flips is a multiple
  pub right : (xs : List ℕ) → Bytes xs → 0 < length xs → RightPec xs ↔ ((q : ℕ) × (polynomial xs ≡ times_g q))
  pub escapes : (xs ys : List ℕ) → Came xs ys → RightPec ys ↔ ((q : ℕ) × (bit_xor (polynomial xs) (polynomial ys) ≡ times_g q))
  -- caught: any change within eight consecutive bits, at any length. Any odd number of bits, at any length. Any two bits of up to 15 bytes in all
  pub eight_bits : (xs ys : List ℕ) → Came xs ys → Within 8 xs ys → RightPec ys → ⊥
  pub odd : (xs ys : List ℕ) → Came xs ys → how_many xs ys % 2 ≡ 1 → RightPec ys → ⊥
  pub two_bits : (xs ys : List ℕ) → Came xs ys → (i j k l : ℕ) → TwoBits xs ys i j k l → length xs ≤ 15 → RightPec ys → ⊥
  -- of 16 bytes in all one pair escapes, and no other; and there are such messages. At any length a pair escapes if and only if its distance is a multiple of 127 bits
  pub sixteen : (xs ys : List ℕ) → Came xs ys → (i j k l : ℕ) → TwoBits xs ys i j k l → length xs ≡ 16 → RightPec ys ↔ FirstAndLast i j k l
  pub sixteen_is : (xs : List ℕ) × (ys : List ℕ) × Came xs ys × (length xs ≡ 16) × TwoBits xs ys 0 0 15 7 × RightPec ys
  pub pairs : (xs ys : List ℕ) → Came xs ys → (i j k l : ℕ) → TwoBits xs ys i j k l → RightPec ys ↔ (((8 * k + l) - (8 * i + j)) % 127 ≡ 0)
  -- nine bits are not: of two bytes there are four bits, among nine, that escape
  pub nine_bits : (xs : List ℕ) × (ys : List ℕ) × Came xs ys × (length xs ≡ 2) × Within 9 xs ys × (how_many xs ys ≡ 4) × RightPec ys
  -- any bit of any message can be flipped, and any two bits
  pub any_bit : (xs : List ℕ) → Bytes xs → RightPec xs → (i j : ℕ) → i < length xs → j < 8 → (ys : List ℕ) × Came xs ys × Within 8 xs ys
  pub any_two : (xs : List ℕ) → Bytes xs → RightPec xs → (i j k l : ℕ) → j < 8 → l < 8 → 8 * i + j < 8 * k + l → k < length xs → (ys : List ℕ) × Came xs ys × TwoBits xs ys i j k l × (how_many xs ys ≡ 2)

-- the decoder on a changed trace: 7 at PEC's place, and both buffers as they were
abbrev pub Seven : List ℕ → List ℕ → List ℕ → Decoded → List ℕ → List ℕ → Type 0
Seven tr sent₀ received₀ a sent received = (decode_number a ≡ (7, length tr - 3)) × (sent ≡ sent₀) × (received ≡ received₀)

-- tr was sent with PEC, and tr' came, with as many bytes. It still is a whole trace of the protocol, with any byte in PEC's place; Stays says when
pub record Garbled (protocol : ℕ) (m : Message) (tr tr' sent₀ received₀ : List ℕ) (a : Decoded) (sent received : List ℕ) (sends : TraceOf protocol true m tr) (whole : Whole protocol true tr')
    (as_many : length (bytes_in tr') ≡ length (bytes_in tr)) (entered : Entered protocol true sent₀ received₀) (contract : Outcome protocol true tr' sent₀ received₀ a sent received) : Type 0 where
  -- the verdict is the PEC's, on all bytes that stood on the wire
  pub verdict_0 : (decode_number a ≡ (0, 0)) ↔ RightPec (bytes_in tr')
  pub verdict_7 : (decode_number a ≡ (7, length tr' - 3)) ↔ (RightPec (bytes_in tr') → ⊥)
  pub came : Came (bytes_in tr) (bytes_in tr')
  -- so what is caught is 7
  pub eight_bits : Within 8 (bytes_in tr) (bytes_in tr') → Seven tr' sent₀ received₀ a sent received
  pub odd : how_many (bytes_in tr) (bytes_in tr') % 2 ≡ 1 → Seven tr' sent₀ received₀ a sent received
  pub two_bits : (i j k l : ℕ) → TwoBits (bytes_in tr) (bytes_in tr') i j k l → length (bytes_in tr) ≤ 15 → Seven tr' sent₀ received₀ a sent received
  pub sixteen : (i j k l : ℕ) → TwoBits (bytes_in tr) (bytes_in tr') i j k l → length (bytes_in tr) ≡ 16 → (FirstAndLast i j k l → ⊥) → Seven tr' sent₀ received₀ a sent received

-- Changed tr tr': as many symbols, at each place the same, or a byte where tr has its command, its data or its PEC
pub record Stays (protocol : ℕ) (m : Message) (tr : List ℕ) (sends : TraceOf protocol true m tr) : Type 0 where
  pub stays : (tr' : List ℕ) → Changed protocol m tr tr' → Whole protocol true tr' × (length (bytes_in tr') ≡ length (bytes_in tr))
  -- so a change of these alone, within eight bits, or of two bits of up to 15 bytes, is 7
  pub seven : (tr' : List ℕ) → Changed protocol m tr tr' → (Within 8 (bytes_in tr) (bytes_in tr') ⊎ ((i : ℕ) × (j : ℕ) × (k : ℕ) × (l : ℕ) × TwoBits (bytes_in tr) (bytes_in tr') i j k l × (length (bytes_in tr) ≤ 15)))
      → (sent₀ received₀ : List ℕ) (a : Decoded) (sent received : List ℕ) → Entered protocol true sent₀ received₀ → Outcome protocol true tr' sent₀ received₀ a sent received → Seven tr sent₀ received₀ a sent received
  -- and these are the places of all of them: the command, data byte i sent, data byte i received, the PEC
  pub command : 2 < protocol → MayDiffer protocol m (length tr) 3 × (get_or tr 3 0 ≡ m.command)
  pub sent : (i : ℕ) → i < length m.sent → MayDiffer protocol m (length tr) (sent_from protocol + 2 * i) × (get_or tr (sent_from protocol + 2 * i) 0 ≡ get_or m.sent i 0)
  pub received : (i k : ℕ) → i < length m.received → k + 3 + 2 * (length m.received - i) ≡ length tr → MayDiffer protocol m (length tr) k × (get_or tr k 0 ≡ get_or m.received i 0)
  pub pec : MayDiffer protocol m (length tr) (length tr - 3)

-- ---- DEMAND 3: THE RUN OVER THE BUS, BIT BY BIT, ENDS AS THE PLAIN RULE DOES
-- `given` are the bindings of the plain rule over the targets of the records s, `ending` is its end, `picked` its last pick
pub record Meets (occupied : Pool) (last : ℕ) (s b : List ℕ) (given : List Given) (ending : Ending) (picked : ℕ) (r : ModelAnswer) (s' b' : List ℕ) : Type 0 where
  -- the answer: 0, or 13 with the identifier that asked; it is the number of the last command of the pass over the bus
  pub answer_0 : ending ≡ served → (r.answer ≡ 0) × (r.udid ≡ record { high = 0; low = 0 }) × (command_number (pass occupied last (targets_of s)).now.command ≡ (0, []) ∷ [])
  pub answer_13 : (u : Udid) → ending ≡ none_free u → (r.answer ≡ 13) × (r.udid ≡ u) × (command_number (pass occupied last (targets_of s)).now.command ≡ (13, u ∷ []) ∷ [])
  -- no record; how many are bound; the Get UDIDs that stood on the bus: one more than are bound, none on an empty bus
  pub counted : (r.place ≡ 0) × (r.count ≡ length given)
  pub gets : (r.gets ≡ gets_on_bus occupied last (targets_of s)) × (0 < length s → r.gets ≡ suc r.count) × (length s ≡ 0 → r.gets ≡ 0)
  -- who is bound: targets of the records, no two to one address, each identifier once. None is on a reserved or an occupied address, and no movable one (its first byte is
  -- 64 or more) on a listed one
  pub who : Each (λ (g : Given). (i : ℕ) × (i < length s / 18) × RecordOf s i g) given
  pub assignable : Each (λ (g : Given). (g.address < 128) × (is_reserved g.address ≡ false) × (member occupied g.address ≡ false)
      × (64 ≤ get_or (udid_bytes g.who.udid) 0 0 → is_listed g.address ≡ false)) given
  pub distinct : Distinct given × OnePerUdid given
  pub bound : (a : ℕ) → a < 128 → (member r.bound a ≡ true) ↔ Any (λ (g : Given). g.address ≡ a) given
  -- the binding buffer: who is bound stands at 16 times the address, zeros where nobody is, and all after 2,048 bytes as it was
  pub bound_bytes : Each (λ (g : Given). take 16 (drop (16 * g.address) b') ≡ udid_bytes g.who.udid) given
  pub free_bytes : (a : ℕ) → a < 128 → (Any (λ (g : Given). g.address ≡ a) given → ⊥) → take 16 (drop (16 * a) b') ≡ replicate 16 0
  pub rest : drop 2048 b' ≡ drop 2048 b
  -- the records: a bound one has twice its address plus 1 and flag 1, any other its address byte as it was and flag 0; no other byte changes
  pub same_length : length s' ≡ length s
  pub bound_record : (i : ℕ) → i < length s / 18 → Each (λ (g : Given). RecordOf s i g → (get_or s' (18 * i + 16) 0 ≡ 2 * g.address + 1) × (get_or s' (18 * i + 17) 0 ≡ 1)) given
  pub unbound_record : (i : ℕ) → i < length s / 18 → (Any (RecordOf s i) given → ⊥) → (get_or s' (18 * i + 16) 0 ≡ get_or s (18 * i + 16) 0) × (get_or s' (18 * i + 17) 0 ≡ 0)
  pub others : (j : ℕ) → j % 18 < 16 → get_or s' j 0 ≡ get_or s j 0
  -- all are bound if and only if the movable targets do not outnumber the addresses that the fixed ones leave free
  pub all_bound : (r.count ≡ length (targets_of s)) ↔ (movable (targets_of s) ≤ left_free (starting_pool occupied) (targets_of s))
  -- the last pick is the rule's, and the controller's at the end of the pass, whose history is a start and the traces that stood on the bus
  pub last_pick : (r.picked ≡ picked) × (r.picked ≡ (pass occupied last (targets_of s)).now.state.picked)
  pub history : (pass occupied last (targets_of s)).now.state ≡ run occupied last (history_on_bus occupied last (targets_of s))
  -- and this is the end of the pass, which runs the delivered start and steps against the targets, trace by trace: its targets, and whom its controller has bound
  pub of_pass : (targets_of s' ≡ (pass occupied last (targets_of s)).targets) × ((a : ℕ) (u : Udid) → a < 128 → held_at (pass occupied last (targets_of s)).now.state.slots a ≡ Bound u → take 16 (drop (16 * a) b') ≡ udid_bytes u)

pub record Demand3 (occupied : Pool) (last : ℕ) (s b : List ℕ) (bytes : Bytes s) (r : ModelAnswer) (s' b' : List ℕ) (contract : Leaves (model_end occupied last s b) r s' b') : Type 0 where
  pub meets : last < 128 → 2048 ≤ length b → (LengthIsBad s → ⊥) → NoneOf (EvenOrFlag s) (length s / 18) → NoneOf (SameAsEarlier s) (length s / 18) → NoneOf (FixedOnTaken (barred_pool occupied) s) (length s / 18)
      → let q = ruled (starting_pool occupied) last (targets_of s) in Meets occupied last s b q.given q.ending q.picked r s' b'

-- ---- THE CONTROLLER
-- no command of a pass is outstanding
abbrev pub Idle : Controller → Type 0
Idle s = (s.last ≡ Send Prepare → ⊥) × (s.last ≡ Send GetUdid → ⊥) × ((u : Udid) (a : Address) → s.last ≡ Send (Assign u a) → ⊥)

-- the trace is no complete reply
abbrev pub NoReply : List ℕ → Type 0
NoReply tr = (xs : List ℕ) → Bytes xs → length xs ≤ 255 → tr ≡ reply_trace xs → ⊥

-- answer 6 at byte 0, 1 or 2 of Get UDID: nobody is left to answer
abbrev pub NobodyLeft : List ℕ → Type 0
NobodyLeft tr = (b : ℕ) × (b < 3) × CutAt 9 true tr b

-- A STEP, sentence by sentence: r is what comes of the state s and the trace tr
pub record Steps (s : Controller) (tr : List ℕ) (r : Stepped) : Type 0 where
  -- Prepare accepted: Get UDID. Answer 6: the pass ends, nobody there. Any other: 14
  pub prepare_accepted : s.last ≡ Send Prepare → tr ≡ prepare_trace → Continues s r
  pub prepare_nobody : s.last ≡ Send Prepare → (b : ℕ) → CutAt 1 true tr b → EndsWith s r (Wait Ended)
  pub prepare_other : s.last ≡ Send Prepare → (tr ≡ prepare_trace → ⊥) → ((b : ℕ) → CutAt 1 true tr b → ⊥) → EndsWith s r (Wait Abandoned)
  -- Get UDID: a reply of 17 bytes is served. Another count, or answer 6 at byte 0, 1 or 2: the pass ends. Any other: Get UDID again
  pub get_reply : s.last ≡ Send GetUdid → (u : Udid) (b : ℕ) → In128 u → b < 256 → tr ≡ reply_trace (udid_bytes u ++ b ∷ []) → Replies s u b r
  pub get_count : s.last ≡ Send GetUdid → (xs : List ℕ) → Bytes xs → length xs ≤ 255 → (length xs ≡ 17 → ⊥) → tr ≡ reply_trace xs → EndsWith s r (Wait Ended)
  pub get_nobody : s.last ≡ Send GetUdid → NobodyLeft tr → EndsWith s r (Wait Ended)
  pub get_again : s.last ≡ Send GetUdid → NoReply tr → (NobodyLeft tr → ⊥) → Continues s r
  -- Assign complete: bind, or claim, and add to the pool. Any other: no binding. Get UDID comes next; a number above 127 is no address
  pub assign_whole : (u : Udid) (a : Address) → s.last ≡ Send (Assign u a) → In128 u → a.0 < 128 → tr ≡ assign_trace (udid_bytes u) (2 * a.0) → Asks s r × Binds u a.0 s r.state
  pub assign_other : (u : Udid) (a : Address) → s.last ≡ Send (Assign u a) → (a.0 < 128 → tr ≡ assign_trace (udid_bytes u) (2 * a.0) → ⊥) → Continues s r
  -- no command outstanding: 21, and the state stays as it is
  pub none_outstanding : Idle s → (r.state ≡ s) × (r.command ≡ Wait NotOutstanding)

-- the numbers of a step, each if and only if its case; command_number gives a list, empty for a command to send and for a choice that waits. 13: one has to be picked (the reply has FFh, or the
-- target is movable, its first byte 64 or more, and its own address b / 2 is in the pool), and with its old address freed all 128 are in the pool
pub record StepNumbers (s : Controller) (tr : List ℕ) (r : Stepped) : Type 0 where
  pub step_0 : (command_number r.command ≡ (0, []) ∷ []) ↔ (((s.last ≡ Send Prepare) × ((b : ℕ) × CutAt 1 true tr b))
      ⊎ ((s.last ≡ Send GetUdid) × (NobodyLeft tr ⊎ ((xs : List ℕ) × Bytes xs × (length xs ≤ 255) × (length xs ≡ 17 → ⊥) × (tr ≡ reply_trace xs)))))
  pub step_13 : (u : Udid) → (command_number r.command ≡ (13, u ∷ []) ∷ []) ↔ ((s.last ≡ Send GetUdid) × ((b : ℕ) × In128 u × (b < 256) × (tr ≡ reply_trace (udid_bytes u ++ b ∷ []))
      × ((b ≡ 0xFF) ⊎ ((64 ≤ get_or (udid_bytes u) 0 0) × (member r.state.pool (b / 2) ≡ true))) × ((a : ℕ) → a < 128 → member r.state.pool a ≡ true)))
  pub step_14 : (command_number r.command ≡ (14, []) ∷ []) ↔ (((s.last ≡ Send Prepare) × (tr ≡ prepare_trace → ⊥) × ((b : ℕ) → CutAt 1 true tr b → ⊥)) ⊎ ((128 ≤ s.gets)
      × (((s.last ≡ Send Prepare) × (tr ≡ prepare_trace)) ⊎ (((s.last ≡ Send GetUdid) × NoReply tr × (NobodyLeft tr → ⊥)) ⊎ ((u : Udid) × (a : Address) × (s.last ≡ Send (Assign u a)))))))
  pub step_21 : (command_number r.command ≡ (21, []) ∷ []) ↔ Idle s

-- a state has a slot for each address, the identifier of an outstanding Assign has 128 bits, and the last pick is up to 127
abbrev pub Sound : Controller → Type 0
Sound s = (length s.slots.udids ≡ 128) × ((u : Udid) (a : Address) → s.last ≡ Send (Assign u a) → In128 u) × (s.picked < 128)

-- what holds in every state that starts, traces, reports, issues and declines reach
pub record Reached (occupied : Pool) (s : Controller) : Type 0 where
  pub sound : Sound s
  -- the pool is the starting pool and the addresses that are bound or claimed. So an address of the starting pool is always in the pool, and one that is left is in the pool
  -- exactly if the starting pool has it
  pub occupies : s.occupied ≡ occupied
  pub pool : (a : ℕ) → (member s.pool a ≡ true) ↔ ((member (starting_pool occupied) a ≡ true) ⊎ ((held_at s.slots a ≡ Open → ⊥) × (held_at s.slots a ≡ Left → ⊥)))
  -- nobody is bound to a barred address; whoever is bound to a listed one is a fixed target
  pub unbarred : (a : ℕ) (u : Udid) → held_at s.slots a ≡ Bound u → member (barred_pool occupied) a ≡ false
  pub fixed : (a : ℕ) (u : Udid) → held_at s.slots a ≡ Bound u → is_listed a ≡ true → get_or (udid_bytes u) 0 0 < 64
  -- no identifier is bound twice; an address holds one, or is claimed, or left, or open: that is the form of a slot
  pub once : (a b : ℕ) (u : Udid) → held_at s.slots a ≡ Bound u → held_at s.slots b ≡ Bound u → a ≡ b
  pub gets : s.gets ≤ 128

pub record Control : Type 0 where
  -- a new controller has the starting pool, and nothing bound, claimed, left or outstanding; a start, at any time, makes it so again and drops a choice that waits, but the last pick stays. A last pick
  -- above 127 counts as 127, never picked
  pub new : (occupied : Pool) (last : ℕ) → let c = new_controller occupied last in (c.occupied ≡ occupied) × (c.pool ≡ starting_pool occupied)
      × (c.last ≡ Wait Nothing) × (c.gets ≡ 0) × ((a : ℕ) → held_at c.slots a ≡ Open) × (last < 128 → c.picked ≡ last) × (127 < last → c.picked ≡ 127)
  pub start : (s : Controller) → ((started s).command ≡ Send Prepare) × ((started s).state.last ≡ Send Prepare) × ((started s).state.gets ≡ 0)
      × ((started s).state.pool ≡ starting_pool s.occupied) × ((started s).state.occupied ≡ s.occupied) × ((a : ℕ) → held_at (started s).state.slots a ≡ Open) × ((started s).state.picked ≡ s.picked)
  -- every step is as the sentences say, and its number is given in its case alone; the sentences leave one result
  pub step : (s : Controller) (tr : List ℕ) → Sound s → Steps s tr (stepped s tr) × StepNumbers s tr (stepped s tr)
  pub one_step : (s : Controller) (tr : List ℕ) (r q : Stepped) → Sound s → Steps s tr r → Steps s tr q
      → (r.command ≡ q.command) × (r.state.last ≡ q.state.last) × (r.state.gets ≡ q.state.gets) × (r.state.occupied ≡ q.state.occupied) × (r.state.picked ≡ q.state.picked)
      × ((a : ℕ) → (held_at r.state.slots a ≡ held_at q.state.slots a) × (member r.state.pool a ≡ member q.state.pool a))
  -- over any starts, traces, reports, issues and declines, the latest first; a trace may be taken by the whole step or by its first half
  pub reached : (occupied : Pool) (last : ℕ) (es : List Event) → Reached occupied (run occupied last es)
  -- a state keeps what was handed out last, be it a command, a choice or an end; a report, and what is answered with 21, hands out nothing
  pub kept_last : (occupied : Pool) (last : ℕ) (es : List Event) → (run occupied last es).last ≡ handed_out occupied last es
  -- lookup's 0 with u: an Assign of a to u completed while a was not barred, bound or claimed, and since then no start, no report of a that was answered 0, no reply of u, and no
  -- other Assign of a that completed. Its 20: a report of a was answered 0, and since then no start, and no Assign of a that completed
  pub bound_since : (occupied : Pool) (last : ℕ) (es : List Event) (u : Udid) (a : ℕ) → (lookup_number (looked_up (run occupied last es) a) ≡ (0, u ∷ [])) ↔ BoundSince occupied last es u a
  pub left_since : (occupied : Pool) (last : ℕ) (es : List Event) (a : ℕ) → (lookup_number (looked_up (run occupied last es) a) ≡ (20, [])) ↔ LeftSince occupied last es a
  -- an Assign of a to u that completes leaves a claim exactly if a is barred, or another was bound there just before, or two claimed it already
  pub claims : (occupied : Pool) (last : ℕ) (es : List Event) (by : By) (tr : List ℕ) (u : Udid) (a : ℕ) → Completes occupied last es tr u a → (held_at (run occupied last (Received by tr ∷ es)).slots a ≡ Claimed)
      ↔ ((member (barred_pool occupied) a ≡ true) ⊎ (((w : Udid) × (w ≡ u → ⊥) × (held_at (run occupied last es).slots a ≡ Bound w)) ⊎ (held_at (run occupied last es).slots a ≡ Claimed)))
  -- a claim stays for the rest of the pass, whatever is received, reported, issued and declined later
  pub claim_stays : (occupied : Pool) (last : ℕ) (es later : List Event) → NoStart later → (a : ℕ) → held_at (run occupied last es).slots a ≡ Claimed → held_at (run occupied last (later ++ es)).slots a ≡ Claimed

-- THE MODULE AT THE ADDRESS a IS REPORTED GONE in the state s; r is what comes of it. Its answer has lookup's number
pub record Reports (s : Controller) (a : ℕ) (r : Reported) : Type 0 where
  pub gone_0 : (u : Udid) → (lookup_number r.found ≡ (0, u ∷ [])) ↔ ((a < 128) × (held_at s.slots a ≡ Bound u))
  pub gone_1 : (lookup_number r.found ≡ (1, [])) ↔ (127 < a)
  pub gone_15 : (lookup_number r.found ≡ (15, [])) ↔ ((a < 128) × (held_at s.slots a ≡ Open))
  pub gone_16 : (lookup_number r.found ≡ (16, [])) ↔ ((a < 128) × (held_at s.slots a ≡ Claimed))
  pub gone_20 : (lookup_number r.found ≡ (20, [])) ↔ ((a < 128) × (held_at s.slots a ≡ Left))
  -- with 0 the address is left and out of the pool, unless the starting pool has it, and nothing else changes; with any other number nothing does
  pub removes : (lookup_number r.found).0 ≡ 0 → Removes a s r.state × Rest s r.state
  pub untouched : ((lookup_number r.found).0 ≡ 0 → ⊥) → r.state ≡ s

pub record TakingBack : Type 0 where
  pub report : (s : Controller) (a : ℕ) → Sound s → Reports s a (reported s a)
  -- THE ACCOUNT, since the latest start: the addresses in use number the starting pool plus the binds to addresses then free, minus the removals and the unbindings of
  -- repeated identifiers, each of an address outside the starting pool. Whether an address was free, and who was bound there, is read off the state just before an event
  pub account : (occupied : Pool) (last : ℕ) (es : List Event) → let starting = member (starting_pool occupied) in let known = known_in occupied last in let handed = handed_out occupied last in
      used (run occupied last es).pool + (removals starting known es + unbindings starting known handed es) ≡ used (starting_pool occupied) + binds known handed es

-- CHOOSING APART FROM SENDING. The first half of a step does what the single step does, but an Assign of a to u waits as a choice, Wait (Chosen u a x), x being the reason. It is
-- issued or declined. Waits s: a choice waits in the state s. with_last s k is s with k as what was handed out last, all else as it was
pub record Halves (s : Controller) (tr : List ℕ) : Type 0 where
  -- a choice is handed out exactly if the single step sends the Assign. The state is the single step's then, but for what was handed out last; and issued it gives the single step
  pub chosen : (u : Udid) (a : Address) → ((stepped s tr).command ≡ Send (Assign u a)) ↔ ((x : Reason) × ((first_half s tr).command ≡ Wait (Chosen u a x)))
  pub waits : (u : Udid) (a : Address) (x : Reason) → (first_half s tr).command ≡ Wait (Chosen u a x) → ((first_half s tr).state ≡ with_last (stepped s tr).state (Wait (Chosen u a x))) × (issuing (first_half s tr).state ≡ stepped s tr)
  -- where none is handed out the first half is the single step; and its numbers are the single step's, 13 among them
  pub alone : ((u : Udid) (a : Address) (x : Reason) → (first_half s tr).command ≡ Wait (Chosen u a x) → ⊥) → first_half s tr ≡ stepped s tr
  pub numbers : command_number (first_half s tr).command ≡ command_number (stepped s tr).command

pub record Settling (s : Controller) : Type 0 where
  -- issue: the Assign goes out. Decline: the pass ends with 14. Nothing else changes
  pub issue : (u : Udid) (a : Address) (x : Reason) → s.last ≡ Wait (Chosen u a x) → ((issuing s).command ≡ Send (Assign u a)) × ((issuing s).state ≡ with_last s (Send (Assign u a)))
  pub decline : (u : Udid) (a : Address) (x : Reason) → s.last ≡ Wait (Chosen u a x) → (command_number (declining s).command ≡ (14, []) ∷ []) × ((declining s).command ≡ Wait Abandoned) × ((declining s).state ≡ with_last s (Wait Abandoned))
  -- 21 if and only if no choice waits, and then nothing changes
  pub issue_21 : (command_number (issuing s).command ≡ (21, []) ∷ []) ↔ (Waits s → ⊥)
  pub decline_21 : (command_number (declining s).command ≡ (21, []) ∷ []) ↔ (Waits s → ⊥)
  pub untouched : (Waits s → ⊥) → ((issuing s).state ≡ s) × ((declining s).state ≡ s)
  -- while a choice waits a trace is 21, and nothing changes
  pub waiting : Waits s → (tr : List ℕ) → (first_half s tr ≡ record { state = s; command = Wait NotOutstanding }) × (stepped s tr ≡ record { state = s; command = Wait NotOutstanding })

pub record Choosing : Type 0 where
  pub halves : (s : Controller) (tr : List ℕ) → Halves s tr
  pub settling : (s : Controller) → Settling s
  -- choosing and always issuing has the single step's states and commands throughout: over any list of traces, and in the pass of demand 3, after any number of turns
  pub throughout : (s : Controller) (trs : List (List ℕ)) → halves_over s trs ≡ steps_over s trs
  pub in_a_pass : (occupied : Pool) (last : ℕ) (s : List ℕ) (n : ℕ) → run_by_halves model_bus n (beginning_over occupied last (targets_of s)) ≡ run_over model_bus n (beginning_over occupied last (targets_of s))
  -- and in any run: where no choice waits, a first half and then an issue leave the state that the step leaves; and a report before an issue may as well come after it
  pub in_a_run : (occupied : Pool) (last : ℕ) (es : List Event) (tr : List ℕ) → (Waits (run occupied last es) → ⊥) → run occupied last (Issue ∷ Received Choose tr ∷ es) ≡ run occupied last (Received Step tr ∷ es)
  pub report_between : (occupied : Pool) (last : ℕ) (es : List Event) (a : ℕ) → run occupied last (Issue ∷ Gone a ∷ es) ≡ run occupied last (Gone a ∷ Issue ∷ es)
  -- WHY: an address is chosen on a reply alone, for the target that replies; the four reasons are each given exactly in its case, and the address is by its rule
  pub reasons : (s : Controller) (tr : List ℕ) → Sound s → (u : Udid) (a : Address) (x : Reason) → (first_half s tr).command ≡ Wait (Chosen u a x)
      → (s.last ≡ Send GetUdid) × ((b : ℕ) × In128 u × (b < 256) × (tr ≡ reply_trace (udid_bytes u ++ b ∷ [])) × Reasons s (first_half s tr).state u b a.0 x)
  -- in every run: claimed by two exactly if the Assign, issued and completed at once, makes lookup answer 16; and only for a fixed target's own address
  pub marks : (occupied : Pool) (last : ℕ) (es : List Event) (tr : List ℕ) → (run occupied last es).last ≡ Send GetUdid → (u : Udid) (b : ℕ) → In128 u → b < 256 → tr ≡ reply_trace (udid_bytes u ++ b ∷ []) → (a : Address) (x : Reason)
      → (first_half (run occupied last es) tr).command ≡ Wait (Chosen u a x)
      → ((x ≡ ByTwo) ↔ (lookup_number (looked_up (run occupied last (Received Step (assign_trace (udid_bytes u) (2 * a.0)) ∷ Issue ∷ Received Choose tr ∷ es)) a.0) ≡ (16, []))) × (x ≡ ByTwo → (get_or (udid_bytes u) 0 0 < 64) × (b ≡ 0xFF → ⊥))
  -- the identifier is bound nowhere while its choice waits. A decline ends the pass, and leaves it bound nowhere, until the next start, whatever comes before that
  pub unbound : (occupied : Pool) (last : ℕ) (es : List Event) (u : Udid) (a : Address) (x : Reason) → (run occupied last es).last ≡ Wait (Chosen u a x) → (i : ℕ) → held_at (run occupied last es).slots i ≡ Bound u → ⊥
  pub declined : (occupied : Pool) (last : ℕ) (es : List Event) (u : Udid) (a : Address) (x : Reason) → (run occupied last es).last ≡ Wait (Chosen u a x) → (later : List Event) → NoStart later
      → ((run occupied last (later ++ Decline ∷ es)).last ≡ Wait Abandoned) × ((i : ℕ) → held_at (run occupied last (later ++ Decline ∷ es)).slots i ≡ Bound u → ⊥)

-- PICKS
pub record Picking : Type 0 where
  -- the pick from the pool p after l: the free address at the least distance (a + 127 − l) mod 128; none exactly if all 128 are used; after 127 the lowest; l itself
  -- only if no other is free
  pub pick : (p : Pool) (l a : ℕ) → l < 128 → (next_free p l ≡ Some (record { 0 = a })) ↔ Next p l a
  pub none : (p : Pool) (l : ℕ) → (next_free p l ≡ None) ↔ ((a : ℕ) → a < 128 → member p a ≡ true)
  pub first : (p : Pool) (a : ℕ) → (next_free p 127 ≡ Some (record { 0 = a })) ↔ ((a < 128) × (member p a ≡ false) × ((b : ℕ) → b < a → member p b ≡ true))
  pub again : (p : Pool) (l : ℕ) → next_free p l ≡ Some (record { 0 = l }) → (b : ℕ) → b < 128 → (b ≡ l → ⊥) → member p b ≡ true
  -- picks_of has the picks of a controller over any of these events, a pick with its choice, told by the traces and the commands handed out, each with its pool. Each is the pick after the one
  -- before it, and the first is the pick after what the controller was made with. The state's last pick is the latest of them; with none, what the controller was made with
  pub each : (occupied : Pool) (last : ℕ) (es : List Event) → Picks (new_controller occupied last).picked (picks_of occupied last es)
  pub latest : (occupied : Pool) (last : ℕ) (es : List Event) → (run occupied last es).picked ≡ latest_of (new_controller occupied last).picked (picks_of occupied last es)
  -- picks of controllers and model runs that hand the last pick on are one run of picks
  pub joined : (l : ℕ) (xs ys : List Pick) → Picks l xs → Picks (latest_of l xs) ys → Picks l (xs ++ ys)
  -- in any run of picks: an address that was picked, x, is not picked again, y, before every other one that was free at each pick since then has been picked
  pub not_again : (l : ℕ) (before : List Pick) (x : Pick) (between : List Pick) (y : Pick) (rest : List Pick) → Picks l (before ++ (x ∷ (between ++ (y ∷ rest)))) → y.at ≡ x.at
      → (b : ℕ) → b < 128 → (b ≡ x.at → ⊥) → FreeAtEach b (between ++ (y ∷ [])) → Picked b between

-- ---- THE MODULE'S END OF THE BUS, SMBus 3.3.1, 6.6.3. The own part of a module outlasts a packet: identifier, Address Valid (AV), address, Address Resolved (AR), the address
-- that it is fixed at, and the fresh bytes of its next reset. silent_in o is the module with the own part o after STOP, after it has lost, and after a NACK. heard_all (starts m) bs is
-- the module m after START and the bytes bs; acked says that each of them gets ACK, and says n has the bytes that it supplies when it is asked for n. having o u v a r is
-- o with the identifier u, AV v, the address a and AR r, all else as it was
pub record Listens (m : Module) (fits : In128 m.own.udid) (four : m.own.fresh < 2 ^ 32) : Type 0 where
  -- A WHOLE COMMAND WITH ITS RIGHT PEC takes effect with the PEC, whatever the module stood in before the START and whatever follows
  pub prepare : (rest : List ℕ) → (heard_all (starts m) (prepare_order ++ rest)).own ≡ having m.own m.own.udid m.own.valid m.own.address false
  pub reset : (rest : List ℕ) → Resets m.own (heard_all (starts m) (reset_order ++ rest)).own
  pub directed_reset_lem : (rest : List ℕ) → Reachable m.own → Resets m.own (heard_all (starts m) (directed_reset m.own.address ++ rest)).own
  pub assign : (x : ℕ) (rest : List ℕ) → (heard_all (starts m) (assign_order m.own.udid x ++ rest)).own ≡ having m.own m.own.udid true (x / 2) true
  -- and nothing else changes the own part: no other bytes, and no byte that it supplies
  pub no_other : (bs : List ℕ) → (Begins prepare_order bs → ⊥) → (Begins reset_order bs → ⊥) → (Reachable m.own → Begins (directed_reset m.own.address) bs → ⊥)
      → ((x : ℕ) → Begins (assign_order m.own.udid x) bs → ⊥) → (heard_all (starts m) bs).own ≡ m.own
  pub supplying : (supplies m).after.own ≡ m.own
  -- ACK for all bytes after a START, exactly if they are the beginning of a command that it knows: said of a START out of silence, and by `anew` of any. A NACK changes nothing, and silence follows
  pub acks : (bs : List ℕ) → (acked (starts (silent_in m.own)) bs ≡ true) ↔ Known m.own bs
  pub nack : (b : ℕ) → (receives m b).ack ≡ false → (receives m b).after ≡ silent_in m.own
  -- a PEC b that differs from that of the bytes xs before it gets NACK, and nothing changes, whatever follows
  pub wrong_pec : (xs : List ℕ) (b : ℕ) → PecDue m.own xs → (b ≡ pec_of xs → ⊥) → (acked (starts m) xs ≡ true) × ((receives (heard_all (starts m) xs) b).ack ≡ false)
      × ((rest : List ℕ) → heard_all (starts m) (xs ++ b ∷ rest) ≡ silent_in m.own)
  -- A START begins a new packet, unless C3h follows. That gets ACK exactly right after C2h and a Get UDID: the general one while AR is clear, the one directed to it in any case
  pub anew : (b : ℕ) (bs : List ℕ) → (b ≡ 0xC3 → ⊥) → (heard_all (starts m) (b ∷ bs) ≡ heard_all (starts (silent_in m.own)) (b ∷ bs)) × (acked (starts m) (b ∷ bs) ≡ acked (starts (silent_in m.own)) (b ∷ bs))
  pub read : (bs : List ℕ) → ((receives (starts (heard_all (starts m) bs)) 0xC3).ack ≡ true) ↔ (((bs ≡ get_order 0x03) × (m.own.resolved ≡ false)) ⊎ (Reachable m.own × (bs ≡ get_order (2 * m.own.address + 1))))
  pub after_read_lem : (b : ℕ) → (receives (receives (starts m) 0xC3).after b).ack ≡ false
  -- WHAT IT SUPPLIES: the count, its identifier, its address byte, the PEC over the whole packet, and nothing after them: it is silent then. And nothing in any other place
  pub general : m.own.resolved ≡ false → (n : ℕ) → (says (19 + n) (asked m 0x03) ≡ reply_to m.own 0x03) × (after_asking (19 + n) (asked m 0x03) ≡ silent_in m.own)
  pub directed : Reachable m.own → let k = 2 * m.own.address + 1 in (n : ℕ) → (says (19 + n) (asked m k) ≡ reply_to m.own k) × (after_asking (19 + n) (asked m k) ≡ silent_in m.own)
  pub nothing_else : (bs : List ℕ) (n : ℕ) → (bs ≡ 0xC3 ∷ [] → (receives (starts m) 0xC3).ack ≡ false) → says n (heard_all (starts m) bs) ≡ []
  -- asked for a byte where it has none, it stays as it was, and FFh stands for the byte. In a reply no byte gets ACK, and after its last byte it is silent. A START then, or right after a START, begins a new packet, before C3h too
  pub released : is_some (supplies m).byte ≡ false → ((supplies m).after ≡ m) × (byte_out (supplies m).byte ≡ 0xFF)
  pub replying : is_some (supplies m).byte ≡ true → (starts m ≡ starts (silent_in m.own)) × ((b : ℕ) → (receives m b).ack ≡ false)
      × (is_some (supplies (supplies m).after).byte ≡ false → (supplies m).after ≡ silent_in m.own)
  pub twice : starts (starts m) ≡ starts (silent_in m.own)
  -- LOST, STOPPED OR AFTER A NACK, up to the next START: no byte gets ACK, and no bit is driven
  pub told : (loses m ≡ silent_in m.own) × (stops m ≡ silent_in m.own)
  pub silent : (b : ℕ) → ((receives (silent_in m.own) b).ack ≡ false) × ((receives (silent_in m.own) b).after ≡ silent_in m.own) × (is_some (supplies (silent_in m.own)).byte ≡ false)

pub record Modules : Type 0 where
  pub listens : (m : Module) (fits : In128 m.own.udid) (four : m.own.fresh < 2 ^ 32) → Listens m fits four
  -- power on, by the kind; other fresh bytes, and nothing else
  pub power_on : (u : Udid) (a f : ℕ) → In128 u → f < 2 ^ 32 → (powered u a f ≡ silent_in (powered u a f).own) × PowersOn u a f (powered u a f).own
  pub refresh : (m : Module) (f : ℕ) → ((refreshed m f).own ≡ record { udid = m.own.udid; valid = m.own.valid; address = m.own.address; resolved = m.own.resolved; home = m.own.home; fresh = f })
      × ((refreshed m f).phase ≡ m.phase) × ((refreshed m f).place ≡ m.place) × ((refreshed m f).pec ≡ m.pec) × ((refreshed m f).given ≡ m.given)
  -- from a record of the model, with the identifier u, the address byte b and the flag g: 10 for an even byte or a flag above 1, 12 for a fixed one (its first byte below 64) with FFh
  pub resume_0 : (u : Udid) (b g f : ℕ) → In128 u → (resumed_number (resumed u b g f) ≡ 0) ↔ ((((b % 2 ≡ 0) ⊎ (1 < g)) → ⊥) × (((get_or (udid_bytes u) 0 0 < 64) × (b ≡ 0xFF)) → ⊥))
  pub resume_10 : (u : Udid) (b g f : ℕ) → In128 u → (resumed_number (resumed u b g f) ≡ 10) ↔ ((b % 2 ≡ 0) ⊎ (1 < g))
  pub resume_12 : (u : Udid) (b g f : ℕ) → In128 u → (resumed_number (resumed u b g f) ≡ 12) ↔ ((((b % 2 ≡ 0) ⊎ (1 < g)) → ⊥) × ((get_or (udid_bytes u) 0 0 < 64) × (b ≡ 0xFF)))
  pub recorded : (u : Udid) (b g f : ℕ) → In128 u → b < 256 → (m : Module) → resumed u b g f ≡ Ok m → AsRecorded u b g f m

-- A BUS OF MODULES, bit by bit: START, each byte and STOP are given to every module, an ACK stands where one or more give it, a zero beats a one, and who gives a one and sees a zero is told
-- there and then. records_of ms are their records: the identifier, twice the address plus 1 or FFh where AV is clear, AR
pub record ModuleBus : Type 0 where
  -- one command, any modules in any states: the trace is that on the model's bus over their records, and what it does to the records is its effect there
  pub trace : (k : Handed) (ms : List Module) → ((u : Udid) (a : Address) → k ≡ Send (Assign u a) → In128 u) → Each Fitting ms → (exchange k ms).trace ≡ on_bus k (records_of ms)
  pub effects : (k : Handed) (ms : List Module) → ((u : Udid) (a : Address) → k ≡ Send (Assign u a) → In128 u) → Each Fitting ms
      → records_of (exchange k ms).modules ≡ map_targets (effect (exchange k ms).trace) (records_of ms)
  -- any number of commands of a pass: the controller is the same, and the records are the model's targets
  pub states : (occupied : Pool) (last : ℕ) (ms : List Module) → Each Fitting ms → (n : ℕ) → ((run_on n (beginning_over occupied last ms)).now ≡ (run_over model_bus n (beginning_over occupied last (records_of ms))).now)
      × (records_of (run_on n (beginning_over occupied last ms)).targets ≡ (run_over model_bus n (beginning_over occupied last (records_of ms))).targets)
  pub gets : (occupied : Pool) (last : ℕ) (ms : List Module) → Each Fitting ms → gets_on occupied last ms ≡ gets_on_bus occupied last (records_of ms)
  -- of a list that is not refused, the pass ends as a run of the model over the same records, and so as Demand3 says: its controller, and the records
  pub rule : (occupied : Pool) (last : ℕ) (s b : List ℕ) (bytes : Bytes s) (r : ModelAnswer) (s' b' : List ℕ) → Leaves (model_end occupied last s b) r s' b' → last < 128 → 2048 ≤ length b
      → (LengthIsBad s → ⊥) → NoneOf (EvenOrFlag s) (length s / 18) → NoneOf (SameAsEarlier s) (length s / 18) → NoneOf (FixedOnTaken (barred_pool occupied) s) (length s / 18)
      → (ms : List Module) → Each Fitting ms → records_of ms ≡ targets_of s → ((pass_on occupied last ms).now ≡ (pass occupied last (targets_of s)).now) × (records_of (pass_on occupied last ms).targets ≡ targets_of s')
  -- of modules that answer a Get UDID together, any two that still have a byte to send after the identifier have the same identifier
  pub never_two : (ms : List Module) → Each Fitting ms → (m n : Module) → Among m (after_bytes 17 (asked_all ms)) → Among n (after_bytes 17 (asked_all ms)) → is_some (supplies m).byte ≡ true → is_some (supplies n).byte ≡ true
      → m.own.udid ≡ n.own.udid

-- ---- THE MARKED CASES, whatever binding buffer of at least 2,048 bytes is lent
pub record Marked (b : List ℕ) (room : 2048 ≤ length b) : Type 0 where
  pub m1 : (pec_of [] ≡ 0x00) × (pec_of (0x01 ∷ []) ≡ 0x07) × (pec_of (0x80 ∷ []) ≡ 0x89)
  pub m2 : trace_of (Send Prepare) [] ≡ 256 ∷ 194 ∷ 258 ∷ 1 ∷ 258 ∷ 192 ∷ 258 ∷ 257 ∷ []
  pub m3 : TraceOf 2 true (message 0x0C 0 0 [] (0x4F ∷ [])) (256 ∷ 25 ∷ 258 ∷ 79 ∷ 258 ∷ 0 ∷ 259 ∷ 257 ∷ [])
  pub m4 : pec_of (0xC2 ∷ 0x02 ∷ []) ≡ 0xC9
  pub m5 : TraceOf 9 false (message 0x10 0 0x07 [] []) (256 ∷ 32 ∷ 258 ∷ 7 ∷ 258 ∷ 256 ∷ 33 ∷ 258 ∷ 0 ∷ 259 ∷ 257 ∷ [])
  pub m6 : (before : List ℕ) (r : Encoded) (after : List ℕ) → length before ≡ 525 → (Wrote 10 false (message 0x10 0 7 (replicate 200 0) (replicate 55 0)) before r after → encode_number r ≡ (0, 523))
      × (Wrote 10 true (message 0x10 0 7 (replicate 200 0) (replicate 55 0)) before r after → encode_number r ≡ (0, 525))
      × ((pec : Bool) → Wrote 10 pec (message 0x10 0 7 (replicate 200 0) (replicate 56 0)) before r after → encode_number r ≡ (1, 0))
  pub m7 : (protocol : ℕ) (pec : Bool) (sent₀ received₀ : List ℕ) (a : Decoded) (sent received : List ℕ) → Entered protocol pec sent₀ received₀ → Outcome protocol pec [] sent₀ received₀ a sent received → decode_number a ≡ (4, 0)
  -- 80h.. with FFh, 00h.. fixed at 09h, 40h.. holding 20h, nothing occupied, never picked: 09h fixed, 20h kept, 0Dh picked for 80h..; four Get UDIDs
  pub m8 : Shows (model_end empty_pool 127 (holding 0x80 0xFF 0 ++ holding 0x00 0x13 0 ++ holding 0x40 0x41 0) b)
      (record { answer = 0; place = 0; udid = record { high = 0; low = 0 }; bound = record { low = 2 ^ 0x09 + 2 ^ 0x0D + 2 ^ 0x20; high = 0 }; count = 3; gets = 4; picked = 0x0D })
      (holding 0x80 0x1B 1 ++ holding 0x00 0x13 1 ++ holding 0x40 0x41 1) (0x09 ∷ 0x0A ∷ 0x0D ∷ 0x20 ∷ []) (identifier 0x00 ++ replicate 16 0 ++ identifier 0x80 ++ identifier 0x40)
  -- two movable targets, the smaller with none, the larger holding 09h: 0Dh and 0Eh
  pub m9 : Shows (model_end empty_pool 127 (holding 0x40 0xFF 0 ++ holding 0x80 0x13 0) b)
      (record { answer = 0; place = 0; udid = record { high = 0; low = 0 }; bound = record { low = 2 ^ 0x0D + 2 ^ 0x0E; high = 0 }; count = 2; gets = 3; picked = 0x0E })
      (holding 0x40 0x1B 1 ++ holding 0x80 0x1D 1) (0x09 ∷ 0x0D ∷ 0x0E ∷ []) (replicate 16 0 ++ identifier 0x40 ++ identifier 0x80)
  -- all 128 occupied, one movable target: 13, none bound, one Get UDID
  pub m10 : Shows (model_end (record { low = 18446744073709551615; high = 18446744073709551615 }) 127 (holding 0x80 0x41 1) b)
      (record { answer = 13; place = 0; udid = record { high = 0x80 * 2 ^ 56; low = 1 }; bound = empty_pool; count = 0; gets = 1; picked = 127 }) (holding 0x80 0x41 0) (0x09 ∷ 0x20 ∷ []) (replicate 32 0)
  -- two that are no cases of the scope. 0Dh was picked last, and is free again: the newcomer gets 0Eh. After 77h the way goes round, to 0Dh
  pub vacated : Shows (model_end empty_pool 0x0D (holding 0x80 0xFF 0) b)
      (record { answer = 0; place = 0; udid = record { high = 0; low = 0 }; bound = record { low = 2 ^ 0x0E; high = 0 }; count = 1; gets = 2; picked = 0x0E }) (holding 0x80 0x1D 1) (0x0D ∷ 0x0E ∷ []) (replicate 16 0 ++ identifier 0x80)
  pub round : Shows (model_end empty_pool 0x77 (holding 0x80 0xFF 0) b)
      (record { answer = 0; place = 0; udid = record { high = 0; low = 0 }; bound = record { low = 2 ^ 0x0D; high = 0 }; count = 1; gets = 2; picked = 0x0D }) (holding 0x80 0x1B 1) (0x0D ∷ 0x0E ∷ []) (identifier 0x80 ++ replicate 16 0)
