-- What stands on the bus: the encoder's trace where the targets acknowledge, and where nobody does the trace cut there.
use Rattle.std.specs.Prelude.{ℕ, zero, suc, ◌*◌, ◌%◌, ◌≤◌, ◌<◌, ◌≡◌, Bool, true, false, List, [], ◌∷◌, ◌++◌, length, get_or}
use Rattle.std.proofs.Math.Path.{refl}
use Rattle.std.proofs.Common.{sym, ap, ap₂, ◌∙◌, inl, inr, append_assoc, append-nil, arith, length-append, eq-eqb, ne_eqb}
use Rattle.std.proofs.Math.Decide.{dec_lt}
use Rattle.std.proofs.lemmas.List.{get_or_at}
use Rattle.lists.specs.Choice.{pick, or}
use Rattle.lists.specs.ChoiceLaws.{or_last}
use Rattle.lists.specs.Each.{Bytes}
use Rattle.lists.specs.EachLaws.{append_bytes}
use Rattle.pec.specs.Pec.{bit_step, pec_step, pec_from, pec_of}
use Rattle.pec.proofs.PecLaws.{pec_byte}
use Rattle.wire.specs.Symbols.{START, STOP, ACK, NACK}
use Rattle.arbitration.specs.Among.{Among}
use Rattle.trace.specs.Trace.{acked}
use Rattle.udid.specs.Bytes.{udid_bytes}
use Rattle.udid.proofs.UdidLaws.{length_udid, udid_bytes_lem}
use Rattle.udid.specs.declared.Udid.{Udid}
use Rattle.wire.specs.declared.address.Address.{Address}
use Rattle.targets.specs.Target.{Target, is_resolved}
use Rattle.targets.specs.Reply.{reply_data, OnWire}
use Rattle.targets.specs.Members.{Least}
use Rattle.targets.specs.ReplyLaws.{least_on_wire}
use Rattle.targets.specs.TraceLaws.{reply_trace_lem}
use Rattle.commands.specs.Requests.{trace_of}
use Rattle.commands.specs.declared.command.Command.TheVariants.{Prepare, GetUdid, Assign}
use Rattle.commands.specs.declared.command.Handed.TheVariants.{Send}
use Rattle.rule.specs.Acknowledge.{begins, assigning_bytes, acknowledges, somebody, answered, received, asking, standing, sent_part, on_bus}
use Rattle.rule.specs.AcknowledgeLaws.{assign_by_target, assign_stop}
use Rattle.commands.specs.SameTrace.{same}

-- ---- who acknowledges

-- one who does is enough
pub one_acknowledges : (f : Target → Bool) (ts : List Target) (t : Target) → Among t ts → f t ≡ true → somebody f ts ≡ true
unfolding somebody
one_acknowledges f [] t x'' e = elim x'' [ ]
one_acknowledges f (x ∷ ts) t (inl m) e =
    let g : f x ≡ true = ap f m ∙ e in
    rw g
one_acknowledges f (x ∷ ts) t (inr m) e = go (f x) (one_acknowledges f ts t m e)
  where
    go : (b : Bool) → somebody f ts ≡ true → or b (somebody f ts) ≡ true
    go true h = refl
    go false h = h

pub none_acknowledges : (f : Target → Bool) (ts : List Target) → ((t : Target) → Among t ts → f t ≡ false) → somebody f ts ≡ false
unfolding somebody
none_acknowledges f [] h = refl
none_acknowledges f (t ∷ ts) h =
    let g : f t ≡ false = h t (inl refl) in
    rw g (none_acknowledges f ts (λ x m. h x (inr m)))

-- ---- Prepare To ARP

pub prepare_whole : (t : Target) (ts : List Target) → on_bus (Send Prepare) (t ∷ ts) ≡ trace_of (Send Prepare) []
unfolding on_bus standing answered somebody acknowledges begins same pec_from pec_step bit_step
prepare_whole t ts = refl

-- with no target: the first byte is not acknowledged
pub prepare_cut : on_bus (Send Prepare) [] ≡ START ∷ 0xC2 ∷ NACK ∷ STOP ∷ []
unfolding on_bus standing answered somebody
prepare_cut = refl

-- ---- Get UDID

module _ (ts : List Target) (t : Target) (m : Among t ts) where
  -- whoever is there acknowledges the address and the command
  get_first : somebody (acknowledges (256 ∷ 194 ∷ [])) ts ≡ true
  unfolding acknowledges begins
  get_first = one_acknowledges (acknowledges (256 ∷ 194 ∷ [])) ts t m refl

  get_second : somebody (acknowledges (256 ∷ 194 ∷ 3 ∷ [])) ts ≡ true
  unfolding acknowledges begins
  get_second = one_acknowledges (acknowledges (256 ∷ 194 ∷ 3 ∷ [])) ts t m refl

-- the read address whoever is not resolved
pub get_read : (t : Target) → acknowledges (256 ∷ 194 ∷ 3 ∷ 256 ∷ 195 ∷ []) t ≡ pick (is_resolved t) false true
unfolding acknowledges begins
get_read t = go (is_resolved t)
  where
    go : (b : Bool) → or (begins (256 ∷ 194 ∷ 3 ∷ 256 ∷ 195 ∷ []) (256 ∷ 194 ∷ 3 ∷ pick b [] (256 ∷ 195 ∷ []))) false ≡ pick b false true
    go true = refl
    go false = refl

-- the unresolved answer: the trace is that of the reply with the least identifier
pub get_whole : (ts : List Target) (r : Target) → Least ts r → on_bus (Send GetUdid) ts ≡ trace_of (Send GetUdid) (reply_data r)
unfolding on_bus standing answered same
get_whole ts r l =
    let c : somebody (acknowledges (256 ∷ 194 ∷ 3 ∷ 256 ∷ 195 ∷ [])) ts ≡ true =
    one_acknowledges (acknowledges (256 ∷ 194 ∷ 3 ∷ 256 ∷ 195 ∷ [])) ts r l.among (get_read r ∙ ap (λ (b : Bool). pick b false true) l.unresolved) in
    rw (get_first ts r l.among, get_second ts r l.among, c)
    (ap (λ (w : OnWire). asking ++ (received w ++ STOP ∷ [])) (least_on_wire ts r l) ∙ sym (reply_trace_lem r))

-- all are resolved: the read address is not acknowledged
pub get_cut : (t : Target) (ts : List Target) → ((x : Target) → Among x (t ∷ ts) → is_resolved x ≡ true)
    → on_bus (Send GetUdid) (t ∷ ts) ≡ START ∷ 0xC2 ∷ ACK ∷ 0x03 ∷ ACK ∷ START ∷ 0xC3 ∷ NACK ∷ STOP ∷ []
unfolding on_bus standing answered
get_cut t ts h =
    let c : somebody (acknowledges (256 ∷ 194 ∷ 3 ∷ 256 ∷ 195 ∷ [])) (t ∷ ts) ≡ false =
    none_acknowledges (acknowledges (256 ∷ 194 ∷ 3 ∷ 256 ∷ 195 ∷ [])) (t ∷ ts) (λ x m. get_read x ∙ ap (λ (b : Bool). pick b false true) (h x m)) in
    rw (get_first (t ∷ ts) t (inl refl), get_second (t ∷ ts) t (inl refl), c)

-- ---- Assign Address

-- what is sent, byte by byte
acked_two : (xs : List ℕ) (b p : ℕ) → acked (xs ++ b ∷ []) ++ p ∷ 258 ∷ [] ≡ acked (xs ++ b ∷ p ∷ [])
acked_two [] b p = refl
acked_two (x ∷ xs) b p = ap (λ (l : List ℕ). x ∷ 258 ∷ l) (acked_two xs b p)

abbrev pub assigned : Udid → ℕ → List ℕ
assigned u b = 194 ∷ 4 ∷ 17 ∷ (udid_bytes u ++ b ∷ pec_of (194 ∷ 4 ∷ 17 ∷ (udid_bytes u ++ b ∷ [])) ∷ [])

pub assign_sends_bytes : (u : Udid) (a : Address) → sent_part (Send (Assign u a)) ≡ 256 ∷ acked (assigned u (2 * (a.0 % 128)))
assign_sends_bytes u a =
    let d : List ℕ = udid_bytes u ++ 2 * (a.0 % 128) ∷ [] in
    let e : length (udid_bytes u ++ 2 * (a.0 % 128) ∷ []) ≡ 17 = length-append (udid_bytes u) (2 * (a.0 % 128) ∷ []) ∙ omega (arith, length_udid u) in
    assign_by_target u a
    ∙ ap₂ (λ (n : ℕ) (l : List ℕ). 256 ∷ 194 ∷ 258 ∷ 4 ∷ 258 ∷ n ∷ 258 ∷ (acked d ++ pec_of (194 ∷ 4 ∷ n ∷ l) ∷ 258 ∷ [])) e (append-nil d)
    ∙ ap (λ (l : List ℕ). 256 ∷ 194 ∷ 258 ∷ 4 ∷ 258 ∷ 17 ∷ 258 ∷ l) (acked_two (udid_bytes u) (2 * (a.0 % 128)) (pec_of (194 ∷ 4 ∷ 17 ∷ d)))

pub bytes_assigned : (u : Udid) (b : ℕ) → b < 256 → Bytes (assigned u b)
bytes_assigned u b h =
    let p = pec_byte 0 (194 ∷ 4 ∷ 17 ∷ (udid_bytes u ++ b ∷ [])) (omega arith) (omega arith, (omega arith, (omega arith, append_bytes (udid_bytes u) (b ∷ []) (udid_bytes_lem u) (h, tt)))) in
    (omega arith, (omega arith, (omega arith, append_bytes (udid_bytes u) (b ∷ _ ∷ []) (udid_bytes_lem u) (h, (p, tt)))))

-- each of the bytes is acknowledged, after what was sent before it
abbrev AckAll : (List ℕ → Bool) → List ℕ → List ℕ → Type 0
AckAll ack sent [] = Unit
AckAll ack sent (b ∷ bs) = (ack (sent ++ b ∷ []) ≡ true) × AckAll ack (sent ++ b ∷ []) bs

ack_all : (ack : List ℕ → Bool) (whole : List ℕ) → ((p q : List ℕ) → p ++ q ≡ whole → ack p ≡ true) → (sent bs : List ℕ) → sent ++ bs ≡ whole → AckAll ack sent bs
ack_all ack whole h sent [] e = tt
ack_all ack whole h sent (b ∷ bs) e =
    let f : (sent ++ b ∷ []) ++ bs ≡ whole = append_assoc sent (b ∷ []) bs ∙ e in
    (h (sent ++ b ∷ []) bs f, ack_all ack whole h (sent ++ b ∷ []) bs f)

answered_acked : (ack : List ℕ → Bool) (sent bs rest : List ℕ) → Bytes bs → AckAll ack sent bs → answered ack sent (acked bs) rest ≡ acked bs ++ rest
unfolding answered
answered_acked ack sent [] rest h g = refl
answered_acked ack sent (b ∷ bs) rest h g =
    rw (ne_eqb b 258 (byte b h.0), g.0) (ap (λ (l : List ℕ). b ∷ 258 ∷ l) (answered_acked ack (sent ++ b ∷ []) bs rest h.1 g.1))
  where
    byte : (b : ℕ) → b < 256 → b ≡ 258 → ⊥
    byte b l e = omega arith

-- a beginning of a list, and one that ends before some of it
pub begins_own : (p q : List ℕ) → begins p (p ++ q) ≡ true
unfolding begins
begins_own [] q = refl
begins_own (x ∷ p) q = rw (eq-eqb x x refl) (begins_own p q)

begins_front : (p q front l m : List ℕ) → p ++ q ≡ front ++ l → length p ≤ length front → begins p (front ++ m) ≡ true
unfolding begins
begins_front [] q front l m e h = refl
begins_front (x ∷ p) q [] l m e h = absurd (omega arith)
begins_front (x ∷ p) q (y ∷ front) l m e h =
    let a : x ≡ y = cc e in
    let b : p ++ q ≡ front ++ l = cc e in
    rw (eq-eqb x y a) (begins_front p q front l m b (omega arith))

get_d_front : (p q : List ℕ) (n : ℕ) → n < length p → get_or (p ++ q) n 0 ≡ get_or p n 0
get_d_front [] q n h = absurd (omega arith)
get_d_front (x ∷ p) q zero h = refl
get_d_front (x ∷ p) q (suc n) h = get_d_front p q n (omega arith)

-- the target with that identifier acknowledges every byte
own_begins : (u : Udid) (b : ℕ) (p q : List ℕ) → p ++ q ≡ 256 ∷ assigned u b → begins p (assigning_bytes (udid_bytes u) (get_or p 20 0)) ≡ true
own_begins u b p q e = go (dec_lt 20 (length p))
  where
    front : List ℕ
    front = 256 ∷ 194 ∷ 4 ∷ 17 ∷ udid_bytes u

    pec : ℕ → ℕ
    pec c = pec_of (194 ∷ 4 ∷ 17 ∷ (udid_bytes u ++ c ∷ []))

    go : Dec (20 < length p) → begins p (assigning_bytes (udid_bytes u) (get_or p 20 0)) ≡ true
    go (no h) = begins_front p q front (b ∷ pec b ∷ []) (get_or p 20 0 ∷ pec (get_or p 20 0) ∷ []) e (omega (arith, length_udid u))
    go (yes h) =
        let f : get_or p 20 0 ≡ b = sym (get_d_front p q 20 h) ∙ ap (λ (l : List ℕ). get_or l 20 0) e ∙ get_or_at front b (pec b ∷ []) 0 20 (omega (arith, length_udid u)) in
        ap (λ (c : ℕ). begins p (assigning_bytes (udid_bytes u) c)) f ∙ ap (begins p) (sym e) ∙ begins_own p q

pub own_acknowledges : (u : Udid) (b : ℕ) (t : Target) → t.udid ≡ u → (p q : List ℕ) → p ++ q ≡ 256 ∷ assigned u b → acknowledges p t ≡ true
unfolding acknowledges
own_acknowledges u b t e p q f =
    let h : begins p (assigning_bytes (udid_bytes t.udid) (get_or p 20 0)) ≡ true = ap (λ (v : Udid). begins p (assigning_bytes (udid_bytes v) (get_or p 20 0))) e ∙ own_begins u b p q f in
    rw h (last (begins p (256 ∷ 194 ∷ 1 ∷ 192 ∷ [])) (begins p (256 ∷ 194 ∷ 3 ∷ pick (is_resolved t) [] (256 ∷ 195 ∷ []))))
  where
    last : (x y : Bool) → or x (or y true) ≡ true
    last x y = ap (or x) (or_last y) ∙ or_last x

pub assign_whole : (ts : List Target) (u : Udid) (a : Address) (t : Target) → Among t ts → t.udid ≡ u → on_bus (Send (Assign u a)) ts ≡ trace_of (Send (Assign u a)) []
unfolding on_bus standing answered same
assign_whole ts u a t m e =
    let b : ℕ = 2 * (a.0 % 128) in
    let ack : List ℕ → Bool = λ (sent : List ℕ). somebody (acknowledges sent) ts in
    ap (λ (l : List ℕ). standing l ts) (assign_sends_bytes u a)
    ∙ ap (λ (l : List ℕ). 256 ∷ l)
    (answered_acked ack (256 ∷ []) (assigned u b) (STOP ∷ []) (bytes_assigned u b (omega arith))
    (ack_all ack (256 ∷ assigned u b) (λ p q f. one_acknowledges (acknowledges p) ts t m (own_acknowledges u b t e p q f)) (256 ∷ []) (assigned u b) refl))
    ∙ ap (λ (l : List ℕ). l ++ STOP ∷ []) (sym (assign_sends_bytes u a))
    ∙ assign_stop u a
