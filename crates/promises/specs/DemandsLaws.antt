-- THE PROOFS of the page (Demands): one inhabitant of each record, put together from the laws of the crates whose definitions they are about.
use Rattle.std.specs.Prelude.{◌≡◌, refl, Bool, true, false, List, [], ◌∷◌, ◌++◌, ◌⊎◌, ◌↔◌, ℕ, ◌*◌, ◌/◌, ◌%◌, ◌≤◌, ◌<◌, length, take, drop, Ok}
use Rattle.std.proofs.Common.{sym, ap, ◌∙◌, subst, inl, inr, mod-eq_of_lt, arith, take_at}
use Rattle.std.proofs.Math.Decide.{dec_lt}
use Rattle.lists.specs.AbsurdLaws.{zero_is_one}
use Rattle.lists.specs.Choice.{pick, or, not}
use Rattle.lists.specs.ChoiceLaws.{false_not_true}
use Rattle.lists.specs.Each.{Bytes}
use Rattle.wire.specs.Addresses.{is_reserved, is_preassigned, is_listed}
use Rattle.wire.proofs.AddressLaws.{reserved_is, preassigned_exactly}
use Rattle.wire.proofs.AddressTableLaws.{listed_is}
use Rattle.wire.specs.declared.address.Address.{Address}
use Rattle.trace.proofs.ShapeLaws.{sane, known_to_last}
use Rattle.trace.specs.Shapes.{shape_of}
use Rattle.trace.specs.Table.{TraceOf}
use Rattle.trace.specs.Rows.{message}
use Rattle.trace.proofs.TableLaws.{listed_trace, trace_listed, quick_plain}
use Rattle.trace.specs.Trace.{Message, trace}
use Rattle.encode.specs.Encode.{encode_number, Wrote}
use Rattle.encode.specs.EncodeLaws.{answer_0, answer_1, answer_2, refusal_untouched}
use Rattle.encode.specs.NumberLaws as encode
use Rattle.encode.specs.Listed.{Listed}
use Rattle.encode.specs.Encode.{Encoded}
use Rattle.std.specs.Prelude.{Ok, Err}
use Rattle.encode.specs.declared.EncodeError.TheVariants.{Forbidden, OutputTooShort}
use Rattle.scan.specs.Answers.{summary}
use Rattle.scan.proofs.AnswersLaws.{one_message}
use Rattle.scan.specs.Numbers.{decode_number}
use Rattle.scan.specs.Decoded.{Decoded}
use Rattle.scan.specs.declared.answer.Refusal.TheVariants.{NoSymbol, EndsEarly, Unexpected, NotAcknowledged, PecDiffers, AfterStop, WrongAck, WrongAddress, WrongCount}
use Rattle.decode.specs.NumberLaws as decode
use Rattle.decode.specs.Outcome.{Outcome}
use Rattle.pool.specs.Pools.{member}
use Rattle.pool.specs.Start.{starting_pool, barred_pool}
use Rattle.pool.proofs.StartLaws.{member_starting, member_barred}
use Rattle.pool.specs.Counts.{count}
use Rattle.pool.specs.declared.Pool.{Pool}
use Rattle.udid.proofs.UdidLaws.{fixed_first}
use Rattle.udid.specs.Bytes.{udid_bytes}
use Rattle.udid.specs.declared.Udid.{Udid}
use Rattle.arp.specs.BindingLaws.{unheld_is_open_or_left}
use Rattle.slots.specs.Slots.{held_at}
use Rattle.arp.specs.Numbers.{command_number, lookup_number}
use Rattle.arp.proofs.AccountLaws.{account}
use Rattle.arp.specs.Gone.{reported}
use Rattle.arp.proofs.GoneLaws.{which_bound, nothing_reported, report_rest, report_removes, answered_0}
use Rattle.arp.specs.Replay.{is_bound}
use Rattle.arp.specs.OneStep.{Removes}
use Rattle.arp.proofs.OutstandingLaws.{last_is_handed_out}
use Rattle.arp.proofs.SinceStartLaws.{lookup_0_since, lookup_20_since, claims_exactly, claim_stays}
use Rattle.commands.specs.CommandTraces.{prepare_trace, reply_trace, assign_trace}
use Rattle.pool.specs.FreeLaws.{lowest_is}
use Rattle.pool.specs.NextFreeLaws.{next_is, next_none, next_above, again_only_if}
use Rattle.arp.proofs.RunPicksLaws.{last_is_latest, run_picks}
use Rattle.pool.specs.PickLaws.{picks_on, rotation}
use Rattle.arp.proofs.HistoryLaws.{reached_good, reached_pool, reached_invariant, new_controller_is_new}
use Rattle.arp.proofs.LookupLaws as arp
use Rattle.commands.specs.RequestLaws.{valid_prepare, valid_get, valid_assign, prepare_symbols, reply_symbols, assign_symbols_small}
use Rattle.commands.specs.Requests.{assign_data, protocol_for, message_of}
use Rattle.commands.specs.SendingLaws.{refused_exactly, small_address_protocol}
use Rattle.slots.specs.Slots.{Sized128}
use Rattle.arp.specs.Sound.{PendingIn}
use Rattle.slots.proofs.SlotsLaws.{open_all}
use Rattle.arp.specs.Controller.{stepped}
use Rattle.picking.specs.Claims.{is_held}
use Rattle.arp.specs.History.{Event, run}
use Rattle.commands.specs.declared.command.Command.TheVariants.{Prepare, GetUdid, Assign}
use Rattle.commands.specs.declared.command.Handed.{Handed}
use Rattle.commands.specs.declared.command.Handed.TheVariants.{Send, Wait}
use Rattle.slots.specs.declared.Binding.{Binding}
use Rattle.slots.specs.declared.Binding.TheVariants.{Open, Bound, Left}
use Rattle.arp.specs.declared.state.Controller.{Controller}
use Rattle.targets.specs.ByteCases.{EvenOrFlag, SameAsEarlier, FixedOnTaken}
use Rattle.targets.specs.ByteCasesLaws.{given_by_bytes}
use Rattle.targets.specs.Cases.{LengthIsBad, NoneOf}
use Rattle.targets.specs.RefusalLaws.{given_exactly}
use Rattle.targets.specs.Refusals.{checked_list}
use Rattle.bus.specs.BindingsEndLaws.{given_in_records, given_assignable, given_distinct, given_once, bound_exactly, bytes_of_bound, bytes_of_free, bytes_after_kept}
use Rattle.targets.specs.Records.{targets_of}
use Rattle.rule.specs.PassHistoryLaws.{pass_is_history}
use Rattle.rule.specs.EndAnswer.{number_of, asker_of}
use Rattle.rule.specs.PassEnd.{last_command}
use Rattle.rule.specs.PlainRule.{Ending}
use Rattle.bus.specs.EndLaws.{answer_of_rule, asker_of_rule, command_of_rule, targets_of_pass, picked_of_rule, place_zero, count_of_rule, gets_on_bus_lem, gets_are, all_counted}
use Rattle.bus.specs.PassLaws.{bindings_of_pass, picked_of_pass}
use Rattle.bus.specs.RecordsEndLaws.{records_length, record_of_bound, record_of_unbound, other_bytes_kept}
use Rattle.bus.specs.RefusalLaws as bus
use Rattle.bus.specs.Run.{Leaves, model_end}
use Rattle.bindings.specs.declared.answer.ModelAnswer.{ModelAnswer}
use Rattle.promises.specs.Demands.{Addresses, OfBytes, Encodes, Decodes, Puts, Commands, LooksUp, Checks, Demand2, Demand3, Sound, Reached, Control, Reports, TakingBack, Picking}
use Rattle.promises.specs.StepsLaws.{sentences, one_step, each_number_exactly}

-- ---- demand 1

pub encodes : (protocol : ℕ) (pec : Bool) (m : Message) (bytes : OfBytes m) (before : List ℕ) (r : Encoded) (after : List ℕ) (contract : Wrote protocol pec m before r after)
    → Encodes protocol pec m bytes before r after contract
encodes protocol pec m (c, s, v) before r after w = record {
  encode_0 = encode.encode_0 protocol pec m c s v before r after w;
  encode_1 = encode.encode_1 protocol pec m c s v before r after w;
  encode_2 = encode.encode_2 protocol pec m c s v before r after w;
  written = encode.encode_writes protocol pec m c s v before r after w;
  untouched = refusal_untouched protocol pec m before r after w;
}

pub decodes : (protocol : ℕ) (pec : Bool) (tr sent₀ received₀ : List ℕ) (a : Decoded) (sent received : List ℕ) (contract : Outcome protocol pec tr sent₀ received₀ a sent received)
    → Decodes protocol pec tr sent₀ received₀ a sent received contract
decodes protocol pec tr sent₀ received₀ a sent received o = record {
  decode_0 = decode.decode_0 protocol pec tr sent₀ received₀ a sent received o;
  decode_1 = decode.decode_1 protocol pec tr sent₀ received₀ a sent received o;
  decode_2 = decode.decode_2 protocol pec tr sent₀ received₀ a sent received o;
  decode_3 = λ k. decode.decode_refused protocol pec tr sent₀ received₀ a sent received o NoSymbol k (omega arith);
  decode_4 = λ k. decode.decode_refused protocol pec tr sent₀ received₀ a sent received o EndsEarly k (omega arith);
  decode_5 = λ k. decode.decode_refused protocol pec tr sent₀ received₀ a sent received o Unexpected k (omega arith);
  decode_6 = λ k. decode.decode_refused protocol pec tr sent₀ received₀ a sent received o NotAcknowledged k (omega arith);
  decode_7 = λ k. decode.decode_refused protocol pec tr sent₀ received₀ a sent received o PecDiffers k (omega arith);
  decode_8 = λ k. decode.decode_refused protocol pec tr sent₀ received₀ a sent received o AfterStop k (omega arith);
  decode_17 = λ k. decode.decode_refused protocol pec tr sent₀ received₀ a sent received o WrongAck k (omega arith);
  decode_18 = λ k. decode.decode_refused protocol pec tr sent₀ received₀ a sent received o WrongAddress k (omega arith);
  decode_19 = λ k. decode.decode_refused protocol pec tr sent₀ received₀ a sent received o WrongCount k (omega arith);
  bits = decode.decode_bit protocol pec tr sent₀ received₀ a sent received o;
  counts = decode.decode_count protocol pec tr sent₀ received₀ a sent received o;
  wrong = decode.decode_wrong protocol pec tr sent₀ received₀ a sent received o;
  handed = decode.decode_hands_over protocol pec tr sent₀ received₀ a sent received o;
  untouched = decode.decode_refusal protocol pec tr sent₀ received₀ a sent received o;
}

-- what put_command writes for a command whose trace is tr, and which is refused in the case Bad
written_trace : (protocol : ℕ) (pec : Bool) (t : Message) (before : List ℕ) (r : Encoded) (after : List ℕ) → Wrote protocol pec t before r after → (encode_number r).0 ≡ 0
    → after ≡ trace (shape_of protocol) pec t ++ drop (length (trace (shape_of protocol) pec t)) before
written_trace protocol pec t before (Ok n) after w e = w.output
written_trace protocol pec t before (Err Forbidden) after w e = absurd (omega (arith, e))
written_trace protocol pec t before (Err OutputTooShort) after w e = absurd (omega (arith, e))

module _ (k : Handed) (reply tr before : List ℕ) (r : Encoded) (after : List ℕ) (Bad : Type 0) (w : Wrote (protocol_for k) true (message_of k reply) before r after)
    (one : (encode_number r ≡ (1, 0)) ↔ Bad) (same : (Bad → ⊥) → trace (shape_of (protocol_for k)) true (message_of k reply) ≡ tr) where
  -- refused with 1 exactly in the listed cases, which are Bad
  good : (Listed (protocol_for k) true (message_of k reply) → ⊥) ↔ (Bad → ⊥)
  good =
      let l = answer_1 (protocol_for k) true (message_of k reply) before r after w in
      (λ n b. n (l.0 (one.1 b)), λ n q. n (one.0 (l.1 q)))

  done_good : (encode_number r).0 ≡ 0 → Bad → ⊥
  done_good e b = zero_is_one (sym e ∙ ap (λ (x : ℕ × ℕ). x.0) (one.1 b))

  puts : Puts Bad tr before r after
  puts =
      let z = answer_0 (protocol_for k) true (message_of k reply) before r after w in
      let s = answer_2 (protocol_for k) true (message_of k reply) before r after w in
      record {
        put_0 = λ n. (
          λ e. (let q = (z n).0 e in let b : Bad → ⊥ = good.0 q.0 in (b, q.1 ∙ ap length (same b), q.2)),
          λ h. (z n).1 (good.1 h.0, h.1 ∙ sym (ap length (same h.0)), h.2),
        );
        put_1 = one;
        put_2 = (
          λ e. (let q = s.0 e in let b : Bad → ⊥ = good.0 q.0 in (b, subst (λ (x : List ℕ). length before < length x) (same b) q.1)),
          λ h. s.1 (good.1 h.0, subst (λ (x : List ℕ). length before < length x) (sym (same h.0)) h.1),
        );
        written = λ e.
            written_trace (protocol_for k) true (message_of k reply) before r after w e ∙ ap (λ (x : List ℕ). x ++ drop (length x) before) (same (done_good e));
        untouched = refusal_untouched (protocol_for k) true (message_of k reply) before r after w;
      }

-- what is no command is always refused
abbrev Always : Type 0
Always = Unit

no_command_lem : (reply before : List ℕ) (r : Encoded) (after : List ℕ) (k : Handed) → (k ≡ Send Prepare → ⊥) → (k ≡ Send GetUdid → ⊥) → ((u : Udid) (a : Address) → k ≡ Send (Assign u a) → ⊥) → Wrote (protocol_for k) true (message_of k reply) before r after
    → (encode_number r ≡ (1, 0)) ↔ Always
no_command_lem reply before r after (Send Prepare) p g a w = absurd (p refl)
no_command_lem reply before r after (Send GetUdid) p g a w = absurd (g refl)
no_command_lem reply before r after (Send (Assign u x)) p g a w = absurd (a u x refl)
no_command_lem reply before r after (Wait e) p g a w = refused_exactly (Wait e) reply before r after w

pub commands : (reply before : List ℕ) (r : Encoded) (after : List ℕ) → Commands reply before r after
commands reply before r after = record {
  lines = (
    trace_listed 1 true (message_of (Send Prepare) []) prepare_trace (omega arith) (λ e. absurd (omega (arith, e))) valid_prepare (sym (prepare_symbols [])),
    λ b k. trace_listed 9 true (message_of (Send GetUdid) reply) (reply_trace reply) (omega arith) (λ e. absurd (omega (arith, e))) (valid_get reply b k) (sym (reply_symbols reply)),
    assign_line,
  );
  traces = (prepare_symbols reply, reply_symbols reply, assign_symbols_small);
  prepare = λ w. puts (Send Prepare) reply prepare_trace before r after ⊥ w (refused_exactly (Send Prepare) reply before r after w) (λ b. prepare_symbols reply);
  get = λ w. puts (Send GetUdid) reply (reply_trace reply) before r after (255 < length reply) w (refused_exactly (Send GetUdid) reply before r after w) (λ b. reply_symbols reply);
  assign = λ u a w.
      puts (Send (Assign u a)) reply (assign_trace (udid_bytes u) (2 * a.0)) before r after (127 < a.0) w (refused_exactly (Send (Assign u a)) reply before r after w)
      (λ b. assigned u a b (dec_lt a.0 128));
  none = λ k p g a w. puts k reply [] before r after Unit w (no_command_lem reply before r after k p g a w) (λ b. absurd (b tt));
}
  where
    assign_line : (u : Udid) (a : ℕ) → a < 128 → TraceOf 8 true (message 0x61 0 0x04 (udid_bytes u ++ 2 * a ∷ []) []) (assign_trace (udid_bytes u) (2 * a))
    assign_line u a h =
        let k : Address = record { 0 = a } in
        let d : assign_data u a ≡ udid_bytes u ++ 2 * a ∷ [] = ap (λ (n : ℕ). udid_bytes u ++ 2 * n ∷ []) (mod-eq_of_lt h) in
        subst (λ (l : List ℕ). TraceOf 8 true (message 0x61 0 0x04 l []) (assign_trace (udid_bytes u) (2 * a))) d
        (trace_listed 8 true (message_of (Send (Assign u k)) []) (assign_trace (udid_bytes u) (2 * a)) (omega arith) (λ e. absurd (omega (arith, e))) (valid_assign u k)
        (sym (assign_symbols_small u k h)))

    assigned : (u : Udid) (a : Address) → (127 < a.0 → ⊥) → Dec (a.0 < 128) → trace (shape_of (protocol_for (Send (Assign u a)))) true (message_of (Send (Assign u a)) reply) ≡ assign_trace (udid_bytes u) (2 * a.0)
    assigned u a b (yes l) = ap (λ (p : ℕ). trace (shape_of p) true (message_of (Send (Assign u a)) reply)) (small_address_protocol u a l) ∙ assign_symbols_small u a l
    assigned u a b (no l) = absurd (b (omega arith))

pub looks_up : (s : Controller) (a : ℕ) → LooksUp s a
looks_up s a = record { lookup_0 = arp.lookup_0 s a; lookup_1 = arp.lookup_1 s a; lookup_15 = arp.lookup_15 s a; lookup_16 = arp.lookup_16 s a; lookup_20 = arp.lookup_20 s a }

pub checks : (occupied : Pool) (last : ℕ) (s b : List ℕ) (bytes : Bytes s) (r : ModelAnswer) (s' b' : List ℕ) (contract : Leaves (model_end occupied last s b) r s' b')
    → Checks occupied last s b bytes r s' b' contract
checks occupied last s b bytes r s' b' l = record {
  model_1 = bus.model_1 occupied last s b r s' b' l;
  model_2 = bus.model_2 occupied last s b r s' b' l;
  model_9 = bus.model_9 occupied last s b r s' b' l bytes;
  model_10 = bus.model_10 occupied last s b r s' b' l bytes;
  model_11 = bus.model_11 occupied last s b r s' b' l bytes;
  model_12 = bus.model_12 occupied last s b r s' b' l bytes;
  untouched = λ h. (let u = bus.model_untouched occupied last s b r s' b' l h in (
    u.0,
    u.1,
    ap (λ (x : ModelAnswer). x.udid) u.2,
    ap (λ (x : ModelAnswer). x.bound) u.2,
    ap (λ (x : ModelAnswer). x.count) u.2,
    ap (λ (x : ModelAnswer). x.gets) u.2,
    ap (λ (x : ModelAnswer). x.picked) u.2,
  ));
}

-- ---- demand 2

command_byte : (b o : Bool) (c : ℕ) → pick b ((c < 256) × pick o (c % 2 ≡ 0) Unit) (c ≡ 0) → c < 256
command_byte true o c h = h.0
command_byte false o c h = let e : c ≡ 0 = h in omega arith

-- a message of the table is one of bytes
pub of_bytes : (protocol : ℕ) (pec : Bool) (m : Message) (tr : List ℕ) → TraceOf protocol pec m tr → OfBytes m
of_bytes protocol pec m tr w =
    let v = (listed_trace protocol pec m tr w).1 in
    (command_byte (shape_of protocol).command (shape_of protocol).tohost m.command v.command, v.sent_bytes, v.received_bytes)

pub demand_2 : (protocol : ℕ) (pec : Bool) → Demand2 protocol pec
demand_2 protocol pec = record { there = there; back = back; one = one }
  where
    there : (m : Message) (before : List ℕ) (r : Encoded) (after : List ℕ) → OfBytes m → Wrote protocol pec m before r after → (n : ℕ) → encode_number r ≡ (0, n)
        → (sent₀ received₀ : List ℕ) (a : Decoded) (sent received : List ℕ) → 255 ≤ length sent₀ → 255 ≤ length received₀ → Outcome protocol pec (take n after) sent₀ received₀ a sent received
        → (a ≡ Ok (summary protocol m)) × (sent ≡ m.sent ++ drop (length m.sent) sent₀) × (received ≡ m.received ++ drop (length m.received) received₀)
    there m before r after (c, s, v) w n e sent₀ received₀ a sent received hs hr o =
        let k = (encode.encode_0 protocol pec m c s v before r after w n).0 e in
        let x = k.0 in
        let t = k.1 in
        let f : take n after ≡ x = ap (take n) (encode.encode_writes protocol pec m c s v before r after w (ap (λ (q : ℕ × ℕ). q.0) e) x t) ∙ take_at x (drop (length x) before) n k.2 in
        decode.decode_hands_over protocol pec (take n after) sent₀ received₀ a sent received o
        (known_to_last protocol (listed_trace protocol pec m x t).0, λ z. quick_plain pec _ t.0 t.1 (t.2 ∙ z), hs, hr) m (subst (TraceOf protocol pec m) (sym f) t)

    back : (tr sent₀ received₀ : List ℕ) (a : Decoded) (sent received : List ℕ) → Outcome protocol pec tr sent₀ received₀ a sent received → decode_number a ≡ (0, 0)
        → (m : Message) × OfBytes m × (a ≡ Ok (summary protocol m)) × ((before : List ℕ) (r : Encoded) (after : List ℕ) → length tr ≤ length before
        → Wrote protocol pec m before r after → (encode_number r ≡ (0, length tr)) × (take (length tr) after ≡ tr))
    back tr sent₀ received₀ a sent received o e =
        let k = (decode.decode_0 protocol pec tr sent₀ received₀ a sent received o).0 e in
        let m = k.1.0 in
        let t = k.1.1 in
        let b = of_bytes protocol pec m tr t in (
          m,
          b,
          (decode.decode_hands_over protocol pec tr sent₀ received₀ a sent received o k.0 m t).0,
          λ before r after room w. (
              let z = (encode.encode_0 protocol pec m b.0 b.1 b.2 before r after w (length tr)).1 (tr, t, refl, room) in (
                z,
                ap (take (length tr)) (encode.encode_writes protocol pec m b.0 b.1 b.2 before r after w (ap (λ (q : ℕ × ℕ). q.0) z) tr t)
                    ∙ take_at tr (drop (length tr) before) (length tr) refl,
              )),
        )

    one : (m t : Message) (tr : List ℕ) → TraceOf protocol pec m tr → TraceOf protocol pec t tr → m ≡ t
    one m t tr x y =
        let v = listed_trace protocol pec m tr x in
        let w = listed_trace protocol pec t tr y in
        one_message protocol (shape_of protocol) (sane protocol) pec m t v.1 w.1 (sym v.2 ∙ w.2)

-- ---- demand 3

-- a list in none of the cases of 9 to 12 is admitted
pub admitted : (occupied : Pool) (s : List ℕ) → Bytes s → (LengthIsBad s → ⊥) → NoneOf (EvenOrFlag s) (length s / 18) → NoneOf (SameAsEarlier s) (length s / 18)
    → NoneOf (FixedOnTaken (barred_pool occupied) s) (length s / 18) → checked_list (barred_pool occupied) s ≡ Ok tt
admitted occupied s bytes n m k f =
    sym ((given_exactly (barred_pool occupied) s (Ok tt)).1 ((given_by_bytes (barred_pool occupied) s bytes (Ok tt)).1 (n, m, k, f)))

pub demand_3 : (occupied : Pool) (last : ℕ) (s b : List ℕ) (bytes : Bytes s) (r : ModelAnswer) (s' b' : List ℕ) (contract : Leaves (model_end occupied last s b) r s' b')
    → Demand3 occupied last s b bytes r s' b' contract
demand_3 occupied last s b bytes r s' b' l = record {
  meets = λ small long n m k f. (let e = admitted occupied s bytes n m k f in record {
    answer_0 = λ q. (
      answer_of_rule occupied last small s b bytes long e r s' b' l ∙ ap number_of q,
      asker_of_rule occupied last small s b bytes long e r s' b' l ∙ ap asker_of q,
      command_of_rule occupied last small s b bytes long e r s' b' l ∙ ap (λ (x : Ending). command_number (last_command x)) q,
    );
    answer_13 = λ u q. (
      answer_of_rule occupied last small s b bytes long e r s' b' l ∙ ap number_of q,
      asker_of_rule occupied last small s b bytes long e r s' b' l ∙ ap asker_of q,
      command_of_rule occupied last small s b bytes long e r s' b' l ∙ ap (λ (x : Ending). command_number (last_command x)) q,
    );
    counted = (place_zero occupied last small s b bytes long e r s' b' l, count_of_rule occupied last small s b bytes long e r s' b' l);
    gets = (
      gets_on_bus_lem occupied last small s b bytes long e r s' b' l,
      (gets_are occupied last small s b bytes long e r s' b' l).0,
      λ z. ((gets_are occupied last small s b bytes long e r s' b' l).1 z).0,
    );
    who = given_in_records occupied last s bytes e;
    assignable = given_assignable occupied last s bytes e;
    distinct = (given_distinct occupied last s bytes e, given_once occupied last s bytes e);
    bound = bound_exactly occupied last small s b bytes long e r s' b' l;
    bound_bytes = bytes_of_bound occupied last small s b bytes long e r s' b' l;
    free_bytes = bytes_of_free occupied last small s b bytes long e r s' b' l;
    rest = bytes_after_kept occupied last small s b bytes long e r s' b' l;
    same_length = records_length occupied last small s b bytes long e r s' b' l;
    bound_record = record_of_bound occupied last small s b bytes long e r s' b' l;
    unbound_record = record_of_unbound occupied last small s b bytes long e r s' b' l;
    others = other_bytes_kept occupied last small s b bytes long e r s' b' l;
    all_bound = all_counted occupied last small s b bytes long e r s' b' l;
    last_pick = (picked_of_rule occupied last small s b bytes long e r s' b' l, picked_of_pass occupied last small s b long e r s' b' l);
    history = pass_is_history occupied last (targets_of s);
    of_pass = (targets_of_pass occupied last small s b bytes long e r s' b' l, bindings_of_pass occupied last small s b long e r s' b' l);
  });
}

-- ---- the controller

-- the pool of a reached state
pool_exactly : (x y : Bool) (h : Binding) → y ≡ or x (is_held h) → (y ≡ true) ↔ ((x ≡ true) ⊎ ((h ≡ Open → ⊥) × (h ≡ Left → ⊥)))
pool_exactly true y h e = (λ q. inl refl, λ q. e)
pool_exactly false y h e = go (is_held h) refl
  where
    go : (b : Bool) → is_held h ≡ b → (y ≡ true) ↔ ((false ≡ true) ⊎ ((h ≡ Open → ⊥) × (h ≡ Left → ⊥)))
    go true k = (λ q. inr (λ z. false_not_true (sym (ap is_held z) ∙ k), λ z. false_not_true (sym (ap is_held z) ∙ k)), λ q. e ∙ k)
    go false k = (λ q. false_not_true (sym (e ∙ k) ∙ q), back)
      where
        neither : (h ≡ Open → ⊥) × (h ≡ Left → ⊥) → (h ≡ Open) ⊎ (h ≡ Left) → y ≡ true
        neither n (inl z) = absurd (n.0 z)
        neither n (inr z) = absurd (n.1 z)

        back : (false ≡ true) ⊎ ((h ≡ Open → ⊥) × (h ≡ Left → ⊥)) → y ≡ true
        back (inl z) = false_not_true z
        back (inr n) = neither n (unheld_is_open_or_left h k)

either_true : (x y z : Bool) → x ≡ or y z → (x ≡ true) ↔ ((y ≡ true) ⊎ (z ≡ true))
either_true x true z e = (λ h. inl refl, λ h. e)
either_true x false z e = (λ h. inr (sym e ∙ h), back)
  where
    back : (false ≡ true) ⊎ (z ≡ true) → x ≡ true
    back (inl q) = false_not_true q
    back (inr q) = e ∙ q

pub reached : (occupied : Pool) (last : ℕ) (es : List Event) → Reached occupied (run occupied last es)
reached occupied last es =
    let g = reached_good occupied last es in
    record {
      sound = (g.0.sound.size.udids, λ u a e. (subst (PendingIn (run occupied last es)) e g.1).fits, g.0.picked);
      occupies = g.0.occupies;
      pool = λ a. pool_exactly (member (starting_pool occupied) a) (member (run occupied last es).pool a) (held_at (run occupied last es).slots a) (reached_pool occupied last es a);
      unbarred = (reached_invariant occupied last es).bound_unbarred;
      fixed = λ a u e m. (fixed_first u (g.0.sound.fits a u e)).0 ((reached_invariant occupied last es).starting_fixed a u e ((either_true (member (starting_pool occupied) a) (is_listed a) (member occupied a) (member_starting occupied a)).1 (inl m)));
      once = g.0.sound.once;
      gets = g.0.gets;
    }

pub control : Control
control = record {
  new = λ occupied last. (let n = new_controller_is_new occupied last in (n.occupies, n.pool, n.last, n.gets, n.held, n.picked, n.never));
  start = λ s. (refl, refl, refl, refl, refl, open_all, refl);
  step = λ s tr f. let n : Sized128 s.slots = record { udids = f.0 } in (sentences s tr n f.2, each_number_exactly s tr f.1 f.2 (stepped s tr) (sentences s tr n f.2));
  one_step = λ s tr r q f h g. (let a = one_step s tr r q f.1 f.2 h g in (a.command, a.last, a.gets, a.occupied, a.picked, a.same));
  reached = reached;
  kept_last = last_is_handed_out;
  bound_since = lookup_0_since;
  left_since = lookup_20_since;
  claims = claims_exactly;
  claim_stays = claim_stays;
}

-- ---- the addresses

listed_and_left : (count is_listed 128 ≡ 35) × (count (λ a. not (is_listed a)) 128 ≡ 93)
unfolding count is_reserved is_preassigned is_listed
listed_and_left = (refl, refl)

pub addresses : Addresses
addresses = record {
  listed = listed_is;
  counts = listed_and_left;
  reserved = reserved_is;
  preassigned = preassigned_exactly;
  starting_pool_lem = λ occupied a. either_true (member (starting_pool occupied) a) (is_listed a) (member occupied a) (member_starting occupied a);
  barred = λ occupied a. either_true (member (barred_pool occupied) a) (is_reserved a) (member occupied a) (member_barred occupied a);
}

-- ---- taking back

reports : (s : Controller) (a : ℕ) → Sound s → Reports s a (reported s a)
unfolding reported
reports s a f = record {
  gone_0 = arp.lookup_0 s a;
  gone_1 = arp.lookup_1 s a;
  gone_15 = arp.lookup_15 s a;
  gone_16 = arp.lookup_16 s a;
  gone_20 = arp.lookup_20 s a;
  removes = λ e. (left (which_bound (held_at s.slots a) ((answered_0 s a).0 e)), report_rest s a);
  untouched = λ n. nothing_reported s a (unbound (is_bound (held_at s.slots a)) refl n);
}
  where
    left : (u : Udid) × (held_at s.slots a ≡ Bound u) → Removes a s (reported s a).state
    left (u, e) = report_removes s a u (record { udids = f.0 }) e

    unbound : (b : Bool) → is_bound (held_at s.slots a) ≡ b → ((lookup_number (reported s a).found).0 ≡ 0 → ⊥) → is_bound (held_at s.slots a) ≡ false
    unbound true e n = absurd (n ((answered_0 s a).1 e))
    unbound false e n = e

pub taking_back : TakingBack
taking_back = record { report = reports; account = account }

-- ---- picks

pub picking : Picking
picking = record {
  pick = λ p l a h. next_is p l a h;
  none = next_none;
  first = λ p a. (
    λ e. (let w = (lowest_is p a).0 (sym (next_above p 127 (omega arith)) ∙ e) in (w.small, w.free, w.below)),
    λ w. next_above p 127 (omega arith) ∙ (lowest_is p a).1 (record { small = w.0; free = w.1; below = w.2 }),
  );
  again = again_only_if;
  each = run_picks;
  latest = last_is_latest;
  joined = picks_on;
  not_again = rotation;
}
