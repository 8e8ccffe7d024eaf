-- What the controller hears of a trace is what decode answers for it: for every call of decode with two buffers of at least 255 bytes, the
-- answer, the data at the fronts of the buffers, and what specs/Replay.antt reads from them.
use Rattle.std.specs.Prelude.{ℕ, zero, suc, ◌+◌, ◌*◌, ◌≤◌, ◌<◌, ◌≡◌, refl, Bool, true, false, List, ◌∷◌, ◌↔◌, eqb, length, get_or, drop, replicate, Ok, Err}
use Rattle.std.proofs.Common.{sym, ap, ap₂, ◌∙◌, arith, le-ltb, eqb-true}
use Rattle.std.proofs.lemmas.List.{length-replicate}
use Rattle.std.proofs.Math.ListN.{get_or-append}
use Rattle.lists.specs.Choice.{pick, and}
use Rattle.lists.specs.Onto.{onto}
use Rattle.wire.specs.declared.address.Address.{Address}
use Rattle.trace.proofs.ShapeLaws.{sane}
use Rattle.trace.specs.Shapes.{shape_of, forbidden}
use Rattle.scan.proofs.DataLaws.{length_lows}
use Rattle.scan.specs.declared.answer.Refusal.TheVariants.{NotAcknowledged}
use Rattle.scan.proofs.AnswersLaws as step
use Rattle.scan.specs.Answers.{CutAt}
use Rattle.scan.specs.Handed.{sent_data, received_data}
use Rattle.scan.specs.Numbers.{decode_number}
use Rattle.scan.specs.Decoded.{Decoded}
use Rattle.decode.specs.OutcomeLaws.{answer_by_trace}
use Rattle.decode.specs.Outcome.{short, answered_by, answered, Outcome}
use Rattle.pool.specs.declared.Pool.{Pool}
use Rattle.udid.specs.Bytes.{number, bytes_from, udid_at}
use Rattle.udid.specs.Udids.{same_udid}
use Rattle.udid.specs.declared.Udid.{Udid}
use Rattle.hearing.specs.Heard.{answer, sent_in, received_in}
use Rattle.arp.specs.OneStep.{Gives}
use Rattle.arp.specs.Replay.{Happened, Replied, Assigned, Other, Table, released, reply_in, assigns, assign_in, read_as, again, given_to, assigning, next_prepare, next_reply, next_command}
use Rattle.commands.specs.declared.command.Command.TheVariants.{Prepare, GetUdid, Assign}
use Rattle.commands.specs.declared.command.End.TheVariants.{Ended, Abandoned}
use Rattle.commands.specs.declared.command.Handed.{Handed}
use Rattle.commands.specs.declared.command.Handed.TheVariants.{Send, Wait}

-- ---- the answer, and the buffers

module _ (protocol : ℕ) (tr sent₀ received₀ : List ℕ) (d : Decoded) (sent received : List ℕ) (f : forbidden protocol true ≡ false) (l : 255 ≤ length sent₀) (m : 255 ≤ length received₀) (o : Outcome protocol true tr sent₀ received₀ d sent received) where
  long : short (length sent₀) (length received₀) ≡ false
  long = rw (le-ltb (length sent₀) 255 l, le-ltb (length received₀) 255 m)

  -- the answer is the one that is heard
  pub answer_is_heard : d ≡ answer protocol tr
  answer_is_heard = answer_by_trace protocol true tr sent₀ received₀ d sent received o f long

  -- and the data stand at the fronts of the buffers
  pub sent_is_heard : sent ≡ onto (sent_in protocol tr) sent₀
  sent_is_heard = o.data_sent ∙ ap (λ (x : Decoded). onto (sent_data (shape_of protocol) tr x) sent₀) answer_is_heard

  pub received_is_heard : received ≡ onto (received_in protocol tr) received₀
  received_is_heard = o.data_received ∙ ap (λ (x : Decoded). onto (received_data true tr x) received₀) answer_is_heard

-- ---- the numbers

abbrev zeros : List ℕ
zeros = replicate 255 0

answered_long : (protocol : ℕ) (tr : List ℕ) → forbidden protocol true ≡ false → answer protocol tr ≡ answered protocol true tr (length zeros) (length zeros)
unfolding answered_by
answered_long protocol tr f = rw f

-- decode gives a number for a trace exactly if it is that of the answer heard
pub gives_exactly : (protocol : ℕ) (tr : List ℕ) (n v : ℕ) → forbidden protocol true ≡ false → Gives protocol tr n v ↔ (decode_number (answer protocol tr) ≡ (n, v))
gives_exactly protocol tr n v f = (
  λ g. ap decode_number (sym (answer_is_heard protocol tr g.sent₀ g.received₀ g.answer g.sent g.received f g.room_sent g.room_received g.outcome)) ∙ g.number,
  λ e. record {
    sent₀ = zeros;
    received₀ = zeros;
    room_sent = omega (arith, length-replicate {A = ℕ} 255 0);
    room_received = omega (arith, length-replicate {A = ℕ} 255 0);
    answer = answer protocol tr;
    sent = onto (sent_in protocol tr) zeros;
    received = onto (received_in protocol tr) zeros;
    outcome = record { answer = answered_long protocol tr f; data_sent = refl; data_received = refl };
    number = e;
  },
)

-- 6, exactly if the trace is cut at that byte: the target's NACK where its ACK is due, then STOP
pub six_exactly : (protocol : ℕ) (tr : List ℕ) (b : ℕ) → forbidden protocol true ≡ false → Gives protocol tr 6 b ↔ CutAt (shape_of protocol) true tr b
six_exactly protocol tr b f =
    let g = gives_exactly protocol tr 6 b f in
    let c = step.refused_exactly protocol (shape_of protocol) (sane protocol) true tr NotAcknowledged b in
    (λ h. c.0 (g.0 h), λ h. g.1 (c.1 h))

-- ---- the front of a buffer reads as the data

front_at : (xs l : List ℕ) (i : ℕ) → i < length xs → get_or (onto xs l) i 0 ≡ get_or xs i 0
front_at xs l i h = get_or-append xs (drop (length xs) l) 0 i h

front_bytes : (xs l : List ℕ) (i n : ℕ) → i + n ≤ length xs → bytes_from (onto xs l) i n ≡ bytes_from xs i n
unfolding bytes_from
front_bytes xs l i zero h = refl
front_bytes xs l i (suc n) h = ap₂ (λ (b : ℕ) (bs : List ℕ). b ∷ bs) (front_at xs l i (omega arith)) (front_bytes xs l (suc i) n (omega arith))

front_udid : (xs l : List ℕ) → length xs ≡ 17 → udid_at (onto xs l) 0 ≡ udid_at xs 0
unfolding udid_at
front_udid xs l h = λ i. record { high = number (front_bytes xs l 0 8 (omega arith) i); low = number (front_bytes xs l (0 + 8) 8 (omega arith) i) }

-- ---- what is read from an answer and a buffer

-- decode's answer and its two buffers, in one place of each
module _ (tr l : List ℕ) where
  reply_front : (d : Decoded) → reply_in d (onto (received_data true tr d) l) ≡ reply_in d (received_data true tr d)
  reply_front (Ok t) = go (eqb t.received 17) refl
    where
      go : (q : Bool) → eqb t.received 17 ≡ q
          → pick (and (eqb t.address.0 0x61) (eqb t.command 0x03)) (pick (eqb t.received 17) (Replied (udid_at (onto (received_data true tr (Ok t)) l) 0)) Other) Other
          ≡ pick (and (eqb t.address.0 0x61) (eqb t.command 0x03)) (pick (eqb t.received 17) (Replied (udid_at (received_data true tr (Ok t)) 0)) Other) Other
      go true e =
          ap (λ (u : Udid). pick (and (eqb t.address.0 0x61) (eqb t.command 0x03)) (pick (eqb t.received 17) (Replied u) Other) Other)
          (front_udid (received_data true tr (Ok t)) l (length_lows t.received _ ∙ eqb-true t.received 17 e))
      go false e = rw e
  reply_front (Err e) = refl

  module _ (u : Udid) (a : ℕ) where
    assign_front : (d : Decoded) → assign_in u a d (onto (sent_data (shape_of 8) tr d) l) ≡ assign_in u a d (sent_data (shape_of 8) tr d)
    assign_front (Ok t) = go (eqb t.sent 17) refl
      where
        result : Bool → Happened
        result q = pick (and (and (eqb t.address.0 0x61) (eqb t.command 0x04)) q) (Assigned u a) Other

        go : (q : Bool) → eqb t.sent 17 ≡ q
            → result (and (eqb t.sent 17) (assigns u a (onto (sent_data (shape_of 8) tr (Ok t)) l)))
            ≡ result (and (eqb t.sent 17) (assigns u a (sent_data (shape_of 8) tr (Ok t))))
        go true e =
            let n : length (sent_data (shape_of 8) tr (Ok t)) ≡ 17 = length_lows t.sent _ ∙ eqb-true t.sent 17 e in
            ap₂ (λ (v : Udid) (b : ℕ). result (and (eqb t.sent 17) (and (same_udid v u) (eqb b (2 * a)))))
            (front_udid (sent_data (shape_of 8) tr (Ok t)) l n) (front_at (sent_data (shape_of 8) tr (Ok t)) l 16 (omega arith))
        go false e = rw e
    assign_front (Err e) = refl

  next_reply_front : (occupied : Pool) (t : Table) (last n : ℕ) (d : Decoded) → next_reply occupied t last n d (onto (received_data true tr d) l) ≡ next_reply occupied t last n d (received_data true tr d)
  next_reply_front occupied t last n (Ok x) = go (eqb x.received 17) refl
    where
      result : Udid → ℕ → Handed
      result u b =
          pick (and (eqb x.address.0 0x61) (eqb x.command 0x03))
          (pick (eqb x.received 17) (assigning u (given_to (released occupied u t).used last u b)) (Wait Ended))
          (again n)

      go : (q : Bool) → eqb x.received 17 ≡ q
          → result (udid_at (onto (received_data true tr (Ok x)) l) 0) (get_or (onto (received_data true tr (Ok x)) l) 16 0)
          ≡ result (udid_at (received_data true tr (Ok x)) 0) (get_or (received_data true tr (Ok x)) 16 0)
      go true e =
          let k : length (received_data true tr (Ok x)) ≡ 17 = length_lows x.received _ ∙ eqb-true x.received 17 e in
          ap₂ result (front_udid (received_data true tr (Ok x)) l k) (front_at (received_data true tr (Ok x)) l 16 (omega arith))
      go false e = rw e
  next_reply_front occupied t last n (Err e) = refl

  -- a complete Send Byte has one byte
  next_prepare_front : (n : ℕ) (d : Decoded) → answer 1 tr ≡ d → next_prepare n d (onto (sent_data (shape_of 1) tr d) l) ≡ next_prepare n d (sent_data (shape_of 1) tr d)
  next_prepare_front n (Ok t) e =
      let c = (step.answer_exactly 1 (shape_of 1) (sane 1) true tr (Ok t)).0 e in
      let k : length (sent_data (shape_of 1) tr (Ok t)) ≡ 1 = ap length c.data_sent ∙ c.valid.sent_length_lem in
      ap (λ (b : ℕ). pick (and (eqb t.address.0 0x61) (eqb b 0x01)) (again n) (Wait Abandoned)) (front_at (sent_data (shape_of 1) tr (Ok t)) l 0 (omega arith))
  next_prepare_front n (Err r) e = refl

-- THE EVENTS' READING IS DECODE'S: for every call of decode with buffers of at least 255 bytes
module _ (tr sent₀ received₀ : List ℕ) (d : Decoded) (sent received : List ℕ) (l : 255 ≤ length sent₀) (m : 255 ≤ length received₀) where
  -- where a reply is due: its answer for Block Read, and the data received
  pub reply_is_decode : Outcome 9 true tr sent₀ received₀ d sent received → read_as (Send GetUdid) tr ≡ reply_in d received
  reply_is_decode o =
      ap (λ (x : Decoded). reply_in x (received_data true tr x)) (sym (answer_is_heard 9 tr sent₀ received₀ d sent received refl l m o))
      ∙ sym (reply_front tr received₀ d)
      ∙ ap (reply_in d) (sym o.data_received)

  -- where an Assign is outstanding: its answer for Block Write, and the data sent
  pub assign_is_decode : Outcome 8 true tr sent₀ received₀ d sent received → (u : Udid) (a : Address) → read_as (Send (Assign u a)) tr ≡ assign_in u a.0 d sent
  assign_is_decode o u a =
      ap (λ (x : Decoded). assign_in u a.0 x (sent_data (shape_of 8) tr x)) (sym (answer_is_heard 8 tr sent₀ received₀ d sent received refl l m o))
      ∙ sym (assign_front tr sent₀ u a.0 d)
      ∙ ap (assign_in u a.0 d) (sym o.data_sent)

  -- what is handed out next: by its answer for Send Byte after Prepare, and for Block Read after Get UDID
  pub next_prepare_is_decode : Outcome 1 true tr sent₀ received₀ d sent received → (occupied : Pool) (t : Table) (last n : ℕ) → next_command occupied t last n (Send Prepare) tr ≡ next_prepare n d sent
  next_prepare_is_decode o occupied t last n =
      let e : d ≡ answer 1 tr = answer_is_heard 1 tr sent₀ received₀ d sent received refl l m o in
      ap (λ (x : Decoded). next_prepare n x (sent_data (shape_of 1) tr x)) (sym e)
      ∙ sym (next_prepare_front tr sent₀ n d (sym e))
      ∙ ap (next_prepare n d) (sym o.data_sent)

  pub next_reply_is_decode : Outcome 9 true tr sent₀ received₀ d sent received → (occupied : Pool) (t : Table) (last n : ℕ) → next_command occupied t last n (Send GetUdid) tr ≡ next_reply occupied t last n d received
  next_reply_is_decode o occupied t last n =
      ap (λ (x : Decoded). next_reply occupied t last n x (received_data true tr x)) (sym (answer_is_heard 9 tr sent₀ received₀ d sent received refl l m o))
      ∙ sym (next_reply_front tr received₀ occupied t last n d)
      ∙ ap (next_reply occupied t last n d) (sym o.data_received)
