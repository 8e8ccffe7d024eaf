-- The controller's steps on the traces of the bus: the only place that cites what the decoder makes of them.
use Rattle.std.specs.Prelude.{ℕ, zero, suc, ◌+◌, ◌<◌, ◌≡◌, refl, true, List, [], ◌∷◌, get_or}
use Rattle.std.proofs.Common.{ap, ap₂, ◌∙◌, arith, le-ltb}
use Rattle.std.proofs.lemmas.List.{get_or_at}
use Rattle.std.proofs.lemmas.Bool.{lt-leb}
use Rattle.wire.specs.Symbols.{START, STOP, ACK, NACK}
use Rattle.wire.specs.declared.address.Address.{Address}
use Rattle.trace.specs.Shapes.{shape_of}
use Rattle.scan.specs.Answers.{CutAt}
use Rattle.pool.specs.Pools.{with_address}
use Rattle.pool.specs.declared.Pool.{Pool}
use Rattle.udid.specs.Bytes.{udid_bytes, udid_at}
use Rattle.udid.proofs.UdidLaws.{length_udid, udid_back}
use Rattle.udid.specs.Udids.{Fits}
use Rattle.udid.specs.declared.Udid.{Udid}
use Rattle.targets.specs.Target.{Target, Sized}
use Rattle.targets.specs.Reply.{reply_data}
use Rattle.targets.specs.ReplyLaws.{length_reply_data, bytes_reply_data}
use Rattle.arp.specs.Bindings.{freed, bound}
use Rattle.picking.specs.Claims.{makes_claim, binding_for}
use Rattle.slots.specs.Finding.{find_from}
use Rattle.arp.specs.Controller.{handed, asked, issued, replied, stepped}
use Rattle.picking.specs.Picking.{has_to_pick, chosen}
use Rattle.commands.specs.Codes.{send_byte, block_read}
use Rattle.commands.specs.RequestLaws.{valid_prepare, valid_get}
use Rattle.commands.specs.Requests.{message_of, trace_of}
use Rattle.arp.proofs.ChangedLaws.{told_is_changed}
use Rattle.hearing.specs.TraceLaws.{prepare_accepted, prepare_nobody, get_reply, get_nobody, assign_whole}
use Rattle.slots.specs.Slots.{held_at, with_binding}
use Rattle.commands.specs.declared.command.Command.TheVariants.{Prepare, GetUdid, Assign}
use Rattle.commands.specs.declared.command.End.TheVariants.{Ended}
use Rattle.commands.specs.declared.command.Handed.{Handed}
use Rattle.commands.specs.declared.command.Handed.TheVariants.{Send, Wait}
use Rattle.arp.specs.declared.state.Controller.{Controller}
use Rattle.slots.specs.declared.Slots.{Slots}
use Rattle.hearing.specs.declared.told.Told.TheVariants.{Again, Over, Reply, Took}
use Rattle.arp.specs.State.{state_of}
use Rattle.rule.specs.PassEnd.{out}
use Rattle.rule.specs.Serving.{Unbound}

-- ---- Prepare To ARP

-- accepted: the first Get UDID
pub prepare_asks_first : (l : ℕ) (b p : Pool) (s : Slots) → stepped (state_of l b p s 0 (Send Prepare)) (trace_of (Send Prepare) []) ≡ out l b p s 1 (Send GetUdid)
unfolding asked
prepare_asks_first l b p s = told_is_changed (state_of l b p s 0 (Send Prepare)) (trace_of (Send Prepare) []) (Send Prepare) Again refl (prepare_accepted (trace_of (Send Prepare) []) refl)

-- S C2 N P: byte 0 was not acknowledged
cut_prepare : CutAt (shape_of send_byte) true (START ∷ 0xC2 ∷ NACK ∷ STOP ∷ []) 0
cut_prepare = record {
  message = message_of (Send Prepare) [];
  pec = 0;
  valid = valid_prepare;
  byte = (omega arith, tt);
  before = START ∷ 0xC2 ∷ [];
  after = 0x01 ∷ ACK ∷ 0 ∷ ACK ∷ [];
  ack = refl;
  is = refl;
  number = refl;
}

-- nobody there: the pass ends
pub prepare_unheard : (c : Controller) → c.last ≡ Send Prepare → stepped c (START ∷ 0xC2 ∷ NACK ∷ STOP ∷ []) ≡ handed c (Wait Ended)
prepare_unheard c e = told_is_changed c (START ∷ 0xC2 ∷ NACK ∷ STOP ∷ []) (Send Prepare) Over e (prepare_nobody (START ∷ 0xC2 ∷ NACK ∷ STOP ∷ []) 0 cut_prepare)

pub prepare_silence_ends : (l : ℕ) (b p : Pool) (s : Slots) → stepped (state_of l b p s 0 (Send Prepare)) (START ∷ 0xC2 ∷ NACK ∷ STOP ∷ []) ≡ out l b p s 0 (Wait Ended)
prepare_silence_ends l b p s = prepare_unheard (state_of l b p s 0 (Send Prepare)) refl

-- ---- Get UDID

cut_get : CutAt (shape_of block_read) true (START ∷ 0xC2 ∷ ACK ∷ 0x03 ∷ ACK ∷ START ∷ 0xC3 ∷ NACK ∷ STOP ∷ []) 2
cut_get = record {
  message = message_of (Send GetUdid) [];
  pec = 0;
  valid = valid_get [] tt (omega arith);
  byte = (omega arith, tt);
  before = START ∷ 0xC2 ∷ ACK ∷ 0x03 ∷ ACK ∷ START ∷ 0xC3 ∷ [];
  after = [];
  ack = refl;
  is = refl;
  number = refl;
}

-- nobody is left: the pass ends
pub get_unheard : (c : Controller) → c.last ≡ Send GetUdid → stepped c (START ∷ 0xC2 ∷ ACK ∷ 0x03 ∷ ACK ∷ START ∷ 0xC3 ∷ NACK ∷ STOP ∷ []) ≡ handed c (Wait Ended)
get_unheard c e =
    let tr : List ℕ = START ∷ 0xC2 ∷ ACK ∷ 0x03 ∷ ACK ∷ START ∷ 0xC3 ∷ NACK ∷ STOP ∷ [] in
    told_is_changed c tr (Send GetUdid) Over e (get_nobody tr 2 cut_get (omega arith))

pub get_silence_ends : (l : ℕ) (b p : Pool) (s : Slots) (n : ℕ)
    → stepped (state_of l b p s n (Send GetUdid)) (START ∷ 0xC2 ∷ ACK ∷ 0x03 ∷ ACK ∷ START ∷ 0xC3 ∷ NACK ∷ STOP ∷ []) ≡ out l b p s n (Wait Ended)
get_silence_ends l b p s n = get_unheard (state_of l b p s n (Send GetUdid)) refl

-- a reply is read as its target's identifier and address byte
pub get_replied : (c : Controller) (t : Target) → c.last ≡ Send GetUdid → Sized t → stepped c (trace_of (Send GetUdid) (reply_data t)) ≡ replied c t.udid t.address_byte
unfolding reply_data
get_replied c t e z =
    let i : udid_at (reply_data t) 0 ≡ t.udid = udid_back [] (t.address_byte ∷ []) 0 t.udid z.udid refl in
    let a : get_or (reply_data t) 16 0 ≡ t.address_byte = get_or_at (udid_bytes t.udid) t.address_byte [] 0 16 (length_udid t.udid) in
    told_is_changed c (trace_of (Send GetUdid) (reply_data t)) (Send GetUdid) (Reply (udid_at (reply_data t) 0) (get_or (reply_data t) 16 0)) e
    (get_reply (trace_of (Send GetUdid) (reply_data t)) (reply_data t) (bytes_reply_data t z.address_byte) (omega (arith, length_reply_data t)) refl (length_reply_data t))
    ∙ ap₂ (replied c) i a

unbound_not_found : (u : Udid) (s : Slots) → Unbound u s → (n a : ℕ) → find_from u s n a ≡ 128
unfolding find_from
unbound_not_found u s h zero a = refl
unbound_not_found u s h (suc n) a = rw (h a) (unbound_not_found u s h n (suc a))

unbound_frees_nothing : (l : ℕ) (b p : Pool) (s : Slots) (n : ℕ) (k : Handed) (u : Udid) → Unbound u s → freed (state_of l b p s n k) u ≡ state_of l b p s n k
unfolding freed
unbound_frees_nothing l b p s n k u h = rw (unbound_not_found u s h 128 0)

-- who is not bound yet is issued the address chosen
pub get_issued : (l : ℕ) (b p : Pool) (s : Slots) (n : ℕ) (t : Target) → Sized t → Unbound t.udid s
    → stepped (state_of l b p s n (Send GetUdid)) (trace_of (Send GetUdid) (reply_data t)) ≡ issued (state_of l b p s n (Send GetUdid)) t.udid (has_to_pick p t.udid t.address_byte) (chosen p l t.udid t.address_byte)
unfolding replied
get_issued l b p s n t z h =
    get_replied (state_of l b p s n (Send GetUdid)) t refl z
    ∙ ap (λ (c : Controller). issued c t.udid (has_to_pick c.pool t.udid t.address_byte) (chosen c.pool c.picked t.udid t.address_byte)) (unbound_frees_nothing l b p s n (Send GetUdid) t.udid h)

-- ---- Assign Address

-- complete: bound, or claimed where the address was taken, and the next Get UDID
pub assign_bound : (l : ℕ) (b p : Pool) (s : Slots) (n : ℕ) (u : Udid) (a : Address) → n < 128 → Fits u → a.0 < 128
    → stepped (state_of l b p s n (Send (Assign u a))) (trace_of (Send (Assign u a)) []) ≡ out l b (with_address p a.0) (with_binding s a.0 (binding_for (makes_claim b (held_at s a.0) a.0) u)) (n + 1) (Send GetUdid)
unfolding asked bound
assign_bound l b p s n u a h f m =
    told_is_changed (state_of l b p s n (Send (Assign u a))) (trace_of (Send (Assign u a)) []) (Send (Assign u a)) (Took u a) refl (assign_whole u a (trace_of (Send (Assign u a)) []) f refl)
    ∙ rw (le-ltb 127 a.0 (omega arith), lt-leb 128 n h)
