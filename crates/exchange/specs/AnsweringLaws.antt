-- The modules when the read address of a Get UDID has come: those with AR clear reply, and on the wire stands what stands there when their
-- records answer together.
use Rattle.std.specs.Prelude.{ℕ, suc, ◌≡◌, refl, Bool, true, false, List, [], ◌∷◌, ◌++◌, map, eqb, is_some, unwrap_or}
use Rattle.std.proofs.Common.{sym, ap, ap₂, ◌∙◌, append_assoc}
use Rattle.lists.specs.Choice.{pick, or, not}
use Rattle.lists.specs.ChoiceLaws.{false_not_true, not_both}
use Rattle.lists.specs.Each.{Each}
use Rattle.pec.specs.Pec.{pec_from}
use Rattle.wire.specs.Symbols.{STOP}
use Rattle.trace.specs.Trace.{nacked}
use Rattle.udid.specs.Bytes.{udid_bytes}
use Rattle.arbitration.specs.Bits.{bits, byte_bits, number_of, bytes_read}
use Rattle.arbitration.specs.BitLaws.{length_bits, number_bits}
use Rattle.arbitration.specs.Wire.{heard}
use Rattle.targets.specs.Target.{Target, is_resolved}
use Rattle.targets.specs.Reply.{reply_data, covered_bytes, reply_pec, reply_bytes, sends, waiting, OnWire, shown, on_wire}
use Rattle.rule.specs.Acknowledge as model
use Rattle.rule.specs.Acknowledge.{acknowledges, somebody}
use Rattle.rule.specs.TraceLaws.{get_read}
use Rattle.module.specs.declared.state.Lasting.{Lasting}
use Rattle.module.specs.declared.state.Module.{Module}
use Rattle.module.specs.declared.state.Phase.TheVariants.{Reply}
use Rattle.module.specs.State.{at, silent_in}
use Rattle.module.specs.Supply.{address_byte, reply_byte, supplies}
use Rattle.module.specs.Says.{says, reply, asked_pec}
use Rattle.module.proofs.SupplyLaws.{reply_says}
use Rattle.exchange.specs.AlikeLaws.{Says, some, seen_alike}
use Rattle.exchange.specs.Exchange.{record_of, records_of, asked, seen, byte_on, bytes_on, after_bytes, reading}
use Rattle.exchange.specs.KeptLaws.{bytes_records}
use Rattle.exchange.specs.ReadLaws.{Talks, quiet, speaks, silent_drives, reply_drives, wires, bytes_same}
use Rattle.exchange.specs.WalkLaws.{Same, records_silenced}

-- the one or the other, by its flag AR
abbrev pub replying : Bool → Lasting → Module
replying resolved o = pick resolved (silent_in o) (at o Reply 0 (asked_pec 0x03) 0)

abbrev pub answering : Module → Module
answering m = replying m.own.resolved m.own

pub answering_talks : (ms : List Module) → Each (Talks 19) (map answering ms)
answering_talks [] = tt
answering_talks (m ∷ ms) = (go m.own.resolved, answering_talks ms)
  where
    go : (b : Bool) → Talks 19 (replying b m.own)
    go true = quiet m.own
    go false = speaks {n = 19} m.own (asked_pec 0x03) 0 refl

reply_first : (o : Lasting) (c : ℕ) → unwrap_or (supplies (at o Reply 0 c 0)).byte 0xFF ≡ 17
unfolding supplies reply_byte
reply_first o c = refl

pub answering_drives : (m : Module) → is_some (supplies (answering m)).byte ≡ not m.own.resolved
answering_drives m = go m.own.resolved
  where
    go : (b : Bool) → is_some (supplies (replying b m.own)).byte ≡ not b
    go true = silent_drives m.own
    go false = reply_drives m.own 0 (asked_pec 0x03)

-- S C2 03 S C3: all that is sent before the reply. A record acknowledges the last of it where it is not resolved
abbrev pub asking : List ℕ
asking = 256 ∷ 194 ∷ 3 ∷ 256 ∷ 195 ∷ []

pub get_ack : (m : Module) → acknowledges asking (record_of m) ≡ not m.own.resolved
get_ack m = get_read (record_of m) ∙ go m.own.resolved
  where
    go : (b : Bool) → pick (eqb (pick b 1 0) 1) false true ≡ not b
    go true = refl
    go false = refl

pub some_same : (ms : List Module) → some (map asked (map answering ms)) ≡ somebody (acknowledges asking) (records_of ms)
unfolding some somebody
some_same [] = refl
some_same (m ∷ ms) = ap₂ or (answering_drives m ∙ sym (get_ack m)) (some_same ms)

answering_says : (ms : List Module) → Each (Says (bits 8 17)) (map asked (map answering ms))
answering_says [] = tt
answering_says (m ∷ ms) = (go m.own.resolved, answering_says ms)
  where
    go : (b : Bool) → is_some (supplies (replying b m.own)).byte ≡ true
        → bits 8 (unwrap_or (supplies (replying b m.own)).byte 0xFF) ≡ bits 8 17
    go true e = not_both (silent_drives m.own) e
    go false e = ap (bits 8) (reply_first m.own (asked_pec 0x03))

-- the count is 17
count_is : (ms : List Module) → somebody (acknowledges asking) (records_of ms) ≡ true → byte_on (map answering ms) ≡ 17
count_is ms e =
    let l = length_bits 8 17 in
    ap (λ (n : ℕ). number_of (seen n (map asked (map answering ms)))) (sym l)
    ∙ ap number_of (seen_alike (bits 8 17) (map asked (map answering ms)) (answering_says ms) (some_same ms ∙ e))
    ∙ number_bits 8 17

-- what they put on the wire is what the model's targets put there
reply_same : (m : Module) → reply m.own (asked_pec 0x03) ≡ reply_bytes (record_of m)
unfolding reply_bytes reply_data reply_pec covered_bytes pec_from
reply_same m =
    let us : List ℕ = udid_bytes m.own.udid in
    let a : List ℕ = address_byte m.own ∷ [] in
    ap (◌∷◌ 17) (sym (append_assoc us a (pec_from (asked_pec 0x03) (17 ∷ (us ++ a)) ∷ [])))

bits_same : (m : Module) → byte_bits (says 19 (at m.own Reply 0 (asked_pec 0x03) 0)) ≡ sends (record_of m)
unfolding sends
bits_same m = ap byte_bits (reply_says m.own (asked_pec 0x03) ∙ reply_same m)

wires_same : (ms : List Module) → wires 19 (map answering ms) ≡ waiting (records_of ms)
unfolding wires
wires_same [] = refl
wires_same (m ∷ ms) = go m.own.resolved (wires_same ms)
  where
    go : (b : Bool) → wires 19 (map answering ms) ≡ waiting (records_of ms)
        → pick (is_some (supplies (replying b m.own)).byte)
        (byte_bits (says 19 (replying b m.own)) ∷ wires 19 (map answering ms)) (wires 19 (map answering ms))
        ≡ pick (eqb (pick b 1 0) 1) (waiting (records_of ms)) (sends (record_of m) ∷ waiting (records_of ms))
    go true r = rw (silent_drives m.own) r
    go false r = rw (reply_drives m.own 0 (asked_pec 0x03)) (ap₂ ◌∷◌ (bits_same m) r)

-- somebody answers: the wire shows 19 bytes
waiting_some : (ts : List Target) → somebody (acknowledges asking) ts ≡ true → on_wire (waiting ts) ≡ shown (bytes_read 19 (heard 152 (waiting ts)))
unfolding somebody
waiting_some [] e = false_not_true e
waiting_some (t ∷ ts) e = go (is_resolved t) (ap (λ (b : Bool). or b (somebody (acknowledges asking) ts)) (sym (get_read t)) ∙ e) (λ f. waiting_some ts f)
  where
    go : (b : Bool) → or (pick b false true) (somebody (acknowledges asking) ts) ≡ true
        → (somebody (acknowledges asking) ts ≡ true → on_wire (waiting ts) ≡ shown (bytes_read 19 (heard 152 (waiting ts))))
        → on_wire (pick b (waiting ts) (sends t ∷ waiting ts)) ≡ shown (bytes_read 19 (heard 152 (pick b (waiting ts) (sends t ∷ waiting ts))))
    go true f r = r f
    go false f r = refl

pub answering_records : (ms : List Module) → records_of (map answering ms) ≡ records_of ms
answering_records [] = refl
answering_records (m ∷ ms) = ap₂ ◌∷◌ (go m.own.resolved) (answering_records ms)
  where
    go : (b : Bool) → record_of (replying b m.own) ≡ record_of m
    go true = refl
    go false = refl

-- THE READ: what stands on the wire, and no record changes
abbrev pub shows : List Module → List ℕ
shows ms = model.received (on_wire (waiting (records_of ms))) ++ STOP ∷ []

pub read_same : (ms : List Module) → somebody (acknowledges asking) (records_of ms) ≡ true → Same (reading (map answering ms)) (shows ms) (records_of ms)
read_same ms e =
    let ns : List Module = map answering ms in
    let n : suc (suc (byte_on ns)) ≡ 19 = ap (λ (x : ℕ). suc (suc x)) (count_is ms e) in
    let b : bytes_on (suc (suc (byte_on ns))) ns ≡ bytes_read 19 (heard 152 (waiting (records_of ms))) =
    ap (λ (x : ℕ). bytes_on x ns) n ∙ bytes_same 19 ns (answering_talks ms) ∙ ap (λ (x : List (List Bool)). bytes_read 19 (heard 152 x)) (wires_same ms) in
    record {
      trace = ap (λ (x : List ℕ). nacked x ++ STOP ∷ []) b ∙ ap (λ (w : OnWire). model.received w ++ STOP ∷ []) (sym (waiting_some (records_of ms) e));
      records = records_silenced (after_bytes (suc (suc (byte_on ns))) ns) ∙ bytes_records (suc (suc (byte_on ns))) ns ∙ answering_records ms;
    }
