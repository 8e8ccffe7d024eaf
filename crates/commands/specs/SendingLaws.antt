-- put_command: it answers 1 exactly for what is not sent, and where there is room it writes the trace of the command. For an Assign every case
-- is said in literals.
use Rattle.std.specs.Prelude.{ℕ, ◌≤◌, ◌<◌, ◌*◌, ◌≡◌, refl, Bool, true, false, List, [], ◌∷◌, ◌++◌, ◌↔◌, length, get_or, drop, ltb}
use Rattle.std.proofs.Common.{ap, ◌∙◌, subst, sym, ap₂, append_assoc, arith, le-leb, le-ltb, ltb-true, lt-ltb}
use Rattle.std.proofs.Math.Decide.{dec_lt}
use Rattle.std.proofs.lemmas.List.{get_or_at}
use Rattle.lists.specs.AbsurdLaws.{zero_is_one}
use Rattle.lists.specs.Choice.{pick}
use Rattle.lists.specs.Each.{Bytes}
use Rattle.lists.specs.Onto.{onto}
use Rattle.pec.specs.Pec.{pec_of}
use Rattle.wire.specs.declared.address.Address.{Address}
use Rattle.trace.specs.Shapes.{protocols, shape_of}
use Rattle.trace.specs.Trace.{Valid, Message, acked}
use Rattle.trace.specs.DataFits.{DataFits}
use Rattle.trace.proofs.DataFitsLaws.{listed_lengths_fit, fitting_lengths_listed}
use Rattle.trace.proofs.FieldLaws.{lengths_exactly}
use Rattle.trace.proofs.LengthLaws.{length_acked}
use Rattle.encode.specs.Encode.{symbols_of, Wrote, encode_number}
use Rattle.encode.specs.EncodeLaws.{written_valid, one_outcome, answer_1, answer_2, refusal_untouched}
use Rattle.encode.specs.Listed.{Listed, unknown_protocol, address_above_127, direction_above_1, quick_with_pec, lacking_command, lacking_direction, forbidden_length}
use Rattle.encode.specs.Encode.{Encoded}
use Rattle.std.specs.Prelude.{Ok}
use Rattle.udid.specs.Bytes.{udid_bytes}
use Rattle.udid.proofs.UdidLaws.{length_udid}
use Rattle.udid.specs.declared.Udid.{Udid}
use Rattle.commands.specs.RequestLaws.{valid_prepare, valid_get, assign_data_has_17_bytes, assign_has_44_symbols, valid_assign, assign_symbols_small}
use Rattle.commands.specs.Sending.{Sent, Unsendable, AssignWritten}
use Rattle.commands.specs.Codes.{block_write}
use Rattle.commands.specs.Requests.{protocol_of, protocol_for, message_of, trace_of}
use Rattle.commands.specs.CommandTraces.{assign_trace}
use Rattle.commands.specs.declared.command.Command.TheVariants.{Prepare, GetUdid, Assign}
use Rattle.commands.specs.declared.command.Handed.{Handed}
use Rattle.commands.specs.declared.command.Handed.TheVariants.{Send, Wait}

-- ---- each command that is sent

module _ (k : Handed) (reply before : List ℕ) (r : Encoded) (after : List ℕ) (w : Wrote (protocol_of k) true (message_of k reply) before r after) (room : length (trace_of k reply) ≤ length before) where
  written : protocol_of k < protocols → (protocol_of k ≡ 0 → true ≡ false) → (message_of k reply).command < 256 → Valid (shape_of (protocol_of k)) (message_of k reply) → Sent k reply before r after
  written h z c v =
      let e : r ≡ Ok (length (trace_of k reply))
      = w.answer ∙ (written_valid (protocol_of k) true (message_of k reply) (length before) (length (trace_of k reply)) c v.sent_bytes v.received_bytes).1 (h, z, v, refl, room) in
      (e, w.output ∙ ap (λ (x : Encoded). onto (symbols_of x (trace_of k reply)) before) e)

pub prepare_sent : (reply before : List ℕ) (r : Encoded) (after : List ℕ) → Wrote (protocol_for (Send Prepare)) true (message_of (Send Prepare) reply) before r after
    → length (trace_of (Send Prepare) reply) ≤ length before → Sent (Send Prepare) reply before r after
prepare_sent reply before r after w room = written (Send Prepare) reply before r after w room (omega arith) (λ e. absurd (omega arith)) (omega arith) valid_prepare

pub get_sent : (reply before : List ℕ) (r : Encoded) (after : List ℕ) → Bytes reply → length reply ≤ 255 → Wrote (protocol_for (Send GetUdid)) true (message_of (Send GetUdid) reply) before r after
    → length (trace_of (Send GetUdid) reply) ≤ length before → Sent (Send GetUdid) reply before r after
get_sent reply before r after h l w room = written (Send GetUdid) reply before r after w room (omega arith) (λ e. absurd (omega arith)) (omega arith) (valid_get reply h l)

-- an Assign of a 7-bit address
pub small_address_protocol : (u : Udid) (a : Address) → a.0 < 128 → protocol_for (Send (Assign u a)) ≡ protocol_of (Send (Assign u a))
small_address_protocol u a h = ap (λ (b : Bool). pick b 255 block_write) (le-ltb 127 a.0 (omega arith))

pub assign_sent : (u : Udid) (a : Address) (reply before : List ℕ) (r : Encoded) (after : List ℕ) → a.0 < 128 → Wrote (protocol_for (Send (Assign u a))) true (message_of (Send (Assign u a)) reply) before r after
    → length (trace_of (Send (Assign u a)) reply) ≤ length before → Sent (Send (Assign u a)) reply before r after
assign_sent u a reply before r after h w room =
    written (Send (Assign u a)) reply before r after (subst (λ (p : ℕ). Wrote p true (message_of (Send (Assign u a)) reply) before r after) (small_address_protocol u a h) w) room
    (omega arith) (λ e. absurd (omega arith)) (omega arith) (valid_assign u a)

-- one answer and one output alone
pub sending_is_unique : (k : Handed) (reply before : List ℕ) (r q : Encoded) (after later : List ℕ) → Wrote (protocol_for k) true (message_of k reply) before r after
    → Wrote (protocol_for k) true (message_of k reply) before q later → (r ≡ q) × (after ≡ later)
sending_is_unique k reply before r q after later w v = one_outcome (protocol_for k) true (message_of k reply) before r q after later w v

-- ---- number 1

-- a message of a protocol with PEC is in no listed case of refusal 1 if its fields and its data fit
unlisted : (protocol : ℕ) (t : Message) → 1 ≤ protocol → protocol < protocols → t.address ≤ 127 → t.direction ≡ 0 → (protocol ≤ 2 → t.command ≡ 0)
    → DataFits protocol (length t.sent) (length t.received) → Listed protocol true t → ⊥
unlisted protocol t l h a d c f (unknown_protocol q) = omega arith
unlisted protocol t l h a d c f (address_above_127 q) = omega arith
unlisted protocol t l h a d c f (direction_above_1 q) = omega arith
unlisted protocol t l h a d c f (quick_with_pec q e) = omega arith
unlisted protocol t l h a d c f (lacking_command q n) = n (c q)
unlisted protocol t l h a d c f (lacking_direction q n) = n d
unlisted protocol t l h a d c f (forbidden_length n) = n f

prepare_listed : (reply : List ℕ) → Listed (protocol_for (Send Prepare)) true (message_of (Send Prepare) reply) → ⊥
prepare_listed reply = unlisted 1 (message_of (Send Prepare) reply) (omega arith) (omega arith) (omega arith) refl (λ q. refl) (fitting_lengths_listed 1 (omega arith) 1 0 ((lengths_exactly (shape_of 1) 1 0).1 (refl, refl, omega arith)))

-- a Block Read of more than 255 bytes does not fit
too_many : (n : ℕ) → 255 < n → DataFits 9 0 n → ⊥
too_many n h d = let l = (lengths_exactly (shape_of 9) 0 n).0 (listed_lengths_fit 9 0 n d) in omega (arith, l.2)

get_listed : (reply : List ℕ) → Listed (protocol_for (Send GetUdid)) true (message_of (Send GetUdid) reply) ↔ (255 < length reply)
get_listed reply = (λ l. go l (dec_lt 255 (length reply)), λ h. forbidden_length (too_many (length reply) h))
  where
    go : Listed 9 true (message_of (Send GetUdid) reply) → Dec (255 < length reply) → 255 < length reply
    go l (yes h) = h
    go l (no h) =
        absurd
        (unlisted 9 (message_of (Send GetUdid) reply) (omega arith) (omega arith) (omega arith) refl (λ q. absurd (omega arith)) (fitting_lengths_listed 9 (omega arith) 0 (length reply) ((lengths_exactly (shape_of 9) 0 (length reply)).1 (refl, le-leb 0 (length reply) (omega arith), omega arith))) l)

small_unlisted : (u : Udid) (a : Address) (reply : List ℕ) → Listed 8 true (message_of (Send (Assign u a)) reply) → ⊥
small_unlisted u a reply =
    let n : ℕ = length (message_of (Send (Assign u a)) reply).sent in
    unlisted 8 (message_of (Send (Assign u a)) reply) (omega arith) (omega arith) (omega arith) refl (λ q. absurd (omega arith))
    (fitting_lengths_listed 8 (omega arith) n 0 ((lengths_exactly (shape_of 8) n 0).1 (le-leb 0 n (omega arith), refl, omega (arith, assign_data_has_17_bytes u a.0))))

assign_listed : (u : Udid) (a : Address) (reply : List ℕ) → Listed (protocol_for (Send (Assign u a))) true (message_of (Send (Assign u a)) reply) ↔ (127 < a.0)
assign_listed u a reply = (go (ltb 127 a.0) refl, λ h. unknown_protocol (rw (lt-ltb 127 a.0 h) (omega arith)))
  where
    go : (b : Bool) → ltb 127 a.0 ≡ b → Listed (pick b 255 block_write) true (message_of (Send (Assign u a)) reply) → 127 < a.0
    go true e l = ltb-true 127 a.0 e
    go false e l = absurd (small_unlisted u a reply l)

no_protocol_lem : (t : Message) → Listed 255 true t
no_protocol_lem t = unknown_protocol (omega arith)

-- the listed cases of refusal 1 are these
pub listed_exactly : (k : Handed) (reply : List ℕ) → Listed (protocol_for k) true (message_of k reply) ↔ Unsendable k reply
listed_exactly (Send Prepare) reply = (prepare_listed reply, λ h. absurd h)
listed_exactly (Send GetUdid) reply = get_listed reply
listed_exactly (Send (Assign u a)) reply = assign_listed u a reply
listed_exactly (Wait e) reply = (λ l. tt, λ h. no_protocol_lem (message_of (Wait e) reply))

module _ (k : Handed) (reply before : List ℕ) (r : Encoded) (after : List ℕ) (w : Wrote (protocol_for k) true (message_of k reply) before r after) where
  -- PUT_COMMAND ANSWERS 1 EXACTLY for what is not sent
  pub refused_exactly : (encode_number r ≡ (1, 0)) ↔ Unsendable k reply
  refused_exactly =
      let a = answer_1 (protocol_for k) true (message_of k reply) before r after w in
      let l = listed_exactly k reply in
      (λ e. l.0 (a.0 e), λ h. a.1 (l.1 h))

  -- and leaves the output as it was
  pub refused_untouched : Unsendable k reply → after ≡ before
  refused_untouched h =
      refusal_untouched (protocol_for k) true (message_of k reply) before r after w
      (λ e. zero_is_one (sym e ∙ ap (λ (x : ℕ × ℕ). x.0) (refused_exactly.1 h)))

-- ---- an Assign, in every case

place_39 : (u : Udid) (a : ℕ) (rest : List ℕ) → get_or (assign_trace (udid_bytes u) (2 * a) ++ rest) 39 0 ≡ 2 * a
place_39 u a rest =
    let e : length (acked (udid_bytes u)) ≡ 32 = length_acked (udid_bytes u) ∙ omega (arith, length_udid u) in
    ap (λ (l : List ℕ). get_or l 32 0) (append_assoc (acked (udid_bytes u)) (2 * a ∷ 258 ∷ pec_of (194 ∷ 4 ∷ 17 ∷ (udid_bytes u ++ 2 * a ∷ [])) ∷ 258 ∷ 257 ∷ []) rest)
    ∙ get_or_at (acked (udid_bytes u)) (2 * a) _ 0 32 e

module _ (u : Udid) (a : Address) (reply before : List ℕ) (r : Encoded) (after : List ℕ) (w : Wrote (protocol_for (Send (Assign u a))) true (message_of (Send (Assign u a)) reply) before r after) where
  as_block_write : a.0 ≤ 127 → Wrote 8 true (message_of (Send (Assign u a)) reply) before r after
  as_block_write h = subst (λ (p : ℕ). Wrote p true (message_of (Send (Assign u a)) reply) before r after) (small_address_protocol u a (omega arith)) w

  short : a.0 ≤ 127 → length before < 44 → encode_number r ≡ (2, 0)
  short h l =
      (answer_2 8 true (message_of (Send (Assign u a)) reply) before r after (as_block_write h)).1
      (small_unlisted u a reply, omega (arith, assign_has_44_symbols u a))

  whole : a.0 ≤ 127 → 44 ≤ length before → (encode_number r ≡ (0, 44)) × (after ≡ assign_trace (udid_bytes u) (2 * a.0) ++ drop 44 before)
  whole h l =
      let k = assign_has_44_symbols u a in
      let s = assign_sent u a reply before r after (omega arith) w (omega (arith, k)) in (
        ap encode_number s.0 ∙ ap (λ (n : ℕ). (0, n)) k,
        s.1 ∙ ap₂ (λ (x : List ℕ) (n : ℕ). x ++ drop n before) (assign_symbols_small u a (omega arith)) k,
      )

  -- PUT_COMMAND REFUSES AN ASSIGN OF A NUMBER ABOVE 127, and of any other the byte on the wire is twice the address
  pub assign_written : AssignWritten u a.0 before r after
  assign_written = record {
    above_127 = λ h. ((refused_exactly (Send (Assign u a)) reply before r after w).1 h, refused_untouched (Send (Assign u a)) reply before r after w h);
    too_short = λ h l. (short h l, refusal_untouched (protocol_for (Send (Assign u a))) true (message_of (Send (Assign u a)) reply) before r after w (not_zero (short h l)));
    written = whole;
    address_byte = λ h l. ap (λ (x : List ℕ). get_or x 39 0) (whole h l).1 ∙ place_39 u a.0 (drop 44 before);
  }
    where
      not_zero : encode_number r ≡ (2, 0) → (encode_number r).0 ≡ 0 → ⊥
      not_zero e z = let q : ◌≡◌ {A = ℕ} 0 2 = sym z ∙ ap (λ (x : ℕ × ℕ). x.0) e in omega arith
