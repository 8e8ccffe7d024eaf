-- How a trace is read where the controller is told by its events: by what decode answers for it; as a reply, exactly if it is Get UDID with 17
-- bytes; as a complete Assign, exactly if it is the Assign outstanding, acknowledged whole; and never as a start.
use Rattle.std.specs.Prelude.{ℕ, ◌*◌, ◌<◌, ◌≡◌, refl, Bool, true, false, List, [], ◌∷◌, ◌++◌, ◌⊎◌, ◌↔◌, eqb, length, get_or, Ok, Err}
use Rattle.std.proofs.Common.{sym, ap, ap₂, ◌∙◌, inl, inr, mod-eq_of_lt, arith, length-append, eq-eqb, eqb-true}
use Rattle.std.proofs.lemmas.List.{get_or_at}
use Rattle.lists.specs.AbsurdLaws.{zero_is_one}
use Rattle.lists.specs.Choice.{pick, and}
use Rattle.lists.specs.Each.{Bytes}
use Rattle.lists.specs.EachLaws.{append_bytes}
use Rattle.wire.specs.declared.address.Address.{Address}
use Rattle.trace.specs.declared.transaction.Transaction.{Transaction}
use Rattle.scan.proofs.DataLaws.{length_lows}
use Rattle.scan.specs.Answers.{summary}
use Rattle.scan.specs.Handed.{received_length}
use Rattle.scan.specs.Decoded.{Decoded}
use Rattle.udid.specs.Bytes.{udid_at, udid_bytes}
use Rattle.udid.proofs.UdidLaws.{length_udid, udid_bytes_lem, udid_back}
use Rattle.udid.specs.Udids.{Fits, same_udid}
use Rattle.udid.specs.declared.Udid.{Udid}
use Rattle.arp.proofs.HeardLaws.{reply_is_decode, assign_is_decode, next_prepare_is_decode, next_reply_is_decode}
use Rattle.hearing.specs.ToldLaws.{received_are_bytes}
use Rattle.commands.specs.RequestLaws.{valid_get, valid_assign, seventeen_bytes_are_udid_and_byte, reply_symbols, assign_symbols_small}
use Rattle.hearing.specs.TraceLaws.{decoded_back, complete_get_is_its_trace, assign_data_is_assign, complete_assign_is_its_trace}
use Rattle.hearing.specs.Heard.{answer, sent_in, received_in, is_get, is_assign}
use Rattle.commands.specs.Codes.{block_read, block_write}
use Rattle.arp.specs.Replay.{Happened, Replied, Assigned, Other, reply_in, assigns, assign_in, read_as}
use Rattle.commands.specs.Requests.{assign_data, message_of, trace_of}
use Rattle.commands.specs.CommandTraces.{reply_trace, assign_trace, ReplyOf}
use Rattle.arp.specs.Reading.{OfTrace, Reading}
use Rattle.commands.specs.declared.command.Command.TheVariants.{Prepare, GetUdid, Assign}
use Rattle.commands.specs.declared.command.Handed.{Handed}
use Rattle.commands.specs.declared.command.Handed.TheVariants.{Send, Wait}

-- the byte that is sent: the address has seven bits
pub is_assign_below_128 : (u : Udid) (n : ℕ) → n < 128 → (t : Transaction) (xs : List ℕ)
    → is_assign u n t xs ≡ and (and (eqb t.address.0 0x61) (eqb t.command 0x04)) (and (eqb t.sent 17) (assigns u n xs))
is_assign_below_128 u n h t xs =
    ap (λ (x : ℕ). and (and (eqb t.address.0 0x61) (eqb t.command 0x04)) (and (eqb t.sent 17) (and (same_udid (udid_at xs 0) u) (eqb (get_or xs 16 0) (2 * x)))))
    (mod-eq_of_lt h)

-- ---- the readings are those of the traces on the wire

-- an Assign outstanding: exactly its own trace, acknowledged whole, is read as complete
pub reads_assign_exactly : (u : Udid) (a : Address) (tr : List ℕ) → Fits u → a.0 < 128
    → (read_as (Send (Assign u a)) tr ≡ Assigned u a.0) ↔ (tr ≡ trace_of (Send (Assign u a)) [])
reads_assign_exactly u a tr f h = (λ e. only (answer 8 tr) refl e, λ e. ap (read_as (Send (Assign u a))) e ∙ whole)
  where
    whole : read_as (Send (Assign u a)) (trace_of (Send (Assign u a)) []) ≡ Assigned u a.0
    whole =
        let b = decoded_back block_write (message_of (Send (Assign u a)) []) (valid_assign u a) in
        ap₂ (assign_in u a.0) b.0 b.1
        ∙ ap (λ (q : Bool). pick q (Assigned u a.0) Other)
        (sym (is_assign_below_128 u a.0 h (summary block_write (message_of (Send (Assign u a)) [])) (assign_data u a.0)) ∙ assign_data_is_assign u a f)

    differ : Other ≡ Assigned u a.0 → ⊥
    differ k = zero_is_one (cc k)

    done : (t : Transaction) → answer 8 tr ≡ Ok t → (q : Bool) → is_assign u a.0 t (sent_in 8 tr) ≡ q → pick q (Assigned u a.0) Other ≡ Assigned u a.0
        → tr ≡ trace_of (Send (Assign u a)) []
    done t e true k g = complete_assign_is_its_trace u a tr t e k
    done t e false k g = absurd (differ g)

    only : (d : Decoded) → answer 8 tr ≡ d → assign_in u a.0 d (sent_in 8 tr) ≡ Assigned u a.0 → tr ≡ trace_of (Send (Assign u a)) []
    only (Ok t) e g =
        done t e (is_assign u a.0 t (sent_in 8 tr)) refl (ap (λ (q : Bool). pick q (Assigned u a.0) Other) (is_assign_below_128 u a.0 h t (sent_in 8 tr)) ∙ g)
    only (Err r) e g = absurd (differ g)

-- Get UDID outstanding: a whole trace of it with 17 bytes is read as a reply with the identifier of its first 16
pub reads_reply : (xs : List ℕ) → Bytes xs → length xs ≡ 17 → read_as (Send GetUdid) (trace_of (Send GetUdid) xs) ≡ Replied (udid_at xs 0)
reads_reply xs h l =
    let b = decoded_back block_read (message_of (Send GetUdid) xs) (valid_get xs h (omega arith)) in
    ap₂ reply_in b.0 b.2 ∙ ap (λ (q : Bool). pick q (Replied (udid_at xs 0)) Other) (eq-eqb (length xs) 17 l)

-- and no other trace is
pub read_as_reply_is_get_udid : (tr : List ℕ) (u : Udid) → read_as (Send GetUdid) tr ≡ Replied u
    → (tr ≡ trace_of (Send GetUdid) (received_in 9 tr)) × (udid_at (received_in 9 tr) 0 ≡ u) × (length (received_in 9 tr) ≡ 17)
read_as_reply_is_get_udid tr u e = only (answer 9 tr) refl e
  where
    differ : Other ≡ Replied u → ⊥
    differ k = zero_is_one (cc k)

    same : {w : Udid} → Replied w ≡ Replied u → w ≡ u
    same k = cc k

    count : (t : Transaction) → answer 9 tr ≡ Ok t → t.received ≡ 17 → length (received_in 9 tr) ≡ 17
    count t k h = length_lows (received_length (answer 9 tr)) _ ∙ ap received_length k ∙ h

    done : (t : Transaction) → answer 9 tr ≡ Ok t → (p : Bool) → is_get t ≡ p → (q : Bool) → eqb t.received 17 ≡ q
        → pick p (pick q (Replied (udid_at (received_in 9 tr) 0)) Other) Other ≡ Replied u
        → (tr ≡ trace_of (Send GetUdid) (received_in 9 tr)) × (udid_at (received_in 9 tr) 0 ≡ u) × (length (received_in 9 tr) ≡ 17)
    done t k true g true n m = (complete_get_is_its_trace tr t k g, same m, count t k (eqb-true t.received 17 n))
    done t k true g false n m = absurd (differ m)
    done t k false g q n m = absurd (differ m)

    only : (d : Decoded) → answer 9 tr ≡ d → reply_in d (received_in 9 tr) ≡ Replied u
        → (tr ≡ trace_of (Send GetUdid) (received_in 9 tr)) × (udid_at (received_in 9 tr) 0 ≡ u) × (length (received_in 9 tr) ≡ 17)
    only (Ok t) k g = done t k (is_get t) refl (eqb t.received 17) refl g
    only (Err e) k g = absurd (differ g)

-- ---- no trace is a start or a report

reply_of_trace : (d : Decoded) (xs : List ℕ) → OfTrace (reply_in d xs)
reply_of_trace (Ok t) xs = go (and (eqb t.address.0 0x61) (eqb t.command 0x03)) (eqb t.received 17)
  where
    go : (p q : Bool) → OfTrace (pick p (pick q (Replied (udid_at xs 0)) Other) Other)
    go true true = tt
    go true false = tt
    go false q = tt
reply_of_trace (Err e) xs = tt

assign_of_trace : (u : Udid) (a : ℕ) (d : Decoded) (xs : List ℕ) → OfTrace (assign_in u a d xs)
assign_of_trace u a (Ok t) xs = go (and (and (eqb t.address.0 0x61) (eqb t.command 0x04)) (and (eqb t.sent 17) (assigns u a xs)))
  where
    go : (p : Bool) → OfTrace (pick p (Assigned u a) Other)
    go true = tt
    go false = tt
assign_of_trace u a (Err e) xs = tt

pub read_of_trace : (k : Handed) (tr : List ℕ) → OfTrace (read_as k tr)
read_of_trace (Send GetUdid) tr = reply_of_trace (answer 9 tr) (received_in 9 tr)
read_of_trace (Send (Assign u a)) tr = assign_of_trace u a.0 (answer 8 tr) (sent_in 8 tr)
read_of_trace (Send Prepare) tr = tt
read_of_trace (Wait i) tr = tt

-- ---- which traces are read as what

-- 17 bytes: those of an identifier, and one more
module _ (u : Udid) (b : ℕ) (f : Fits u) (h : b < 256) where
  reply_bytes : Bytes (udid_bytes u ++ b ∷ [])
  reply_bytes = append_bytes (udid_bytes u) (b ∷ []) (udid_bytes_lem u) (h, tt)

  reply_length : length (udid_bytes u ++ b ∷ []) ≡ 17
  reply_length = omega (arith, length-append (udid_bytes u) (b ∷ []), length_udid u)

  reply_read : read_as (Send GetUdid) (reply_trace (udid_bytes u ++ b ∷ [])) ≡ Replied u
  reply_read =
      ap (read_as (Send GetUdid)) (sym (reply_symbols (udid_bytes u ++ b ∷ [])))
      ∙ reads_reply (udid_bytes u ++ b ∷ []) reply_bytes reply_length
      ∙ ap Replied (udid_back [] (b ∷ []) 0 u f refl)

  -- the byte is the one that is received
  pub reply_byte_received : get_or (received_in 9 (reply_trace (udid_bytes u ++ b ∷ []))) 16 0 ≡ b
  reply_byte_received =
      ap (λ (l : List ℕ). get_or (received_in 9 l) 16 0) (sym (reply_symbols (udid_bytes u ++ b ∷ [])))
      ∙ ap (λ (l : List ℕ). get_or l 16 0) (decoded_back 9 (message_of (Send GetUdid) (udid_bytes u ++ b ∷ [])) (valid_get (udid_bytes u ++ b ∷ []) reply_bytes (omega (arith, reply_length)))).2
      ∙ get_or_at (udid_bytes u) b [] 0 16 (length_udid u)

reply_only : (tr : List ℕ) (u : Udid) → read_as (Send GetUdid) tr ≡ Replied u → ReplyOf u tr
reply_only tr u e =
    let r = read_as_reply_is_get_udid tr u e in
    let w = seventeen_bytes_are_udid_and_byte (received_in 9 tr) (received_are_bytes 9 tr) r.2 in (
      get_or (received_in 9 tr) 16 0,
      w.1,
      r.0 ∙ reply_symbols (received_in 9 tr) ∙ ap reply_trace (w.2 ∙ ap (λ (v : Udid). udid_bytes v ++ get_or (received_in 9 tr) 16 0 ∷ []) r.1),
    )

-- each trace is read as a reply or as nothing, as complete or as nothing
pub reply_cases : (d : Decoded) (xs : List ℕ) → (reply_in d xs ≡ Other) ⊎ (reply_in d xs ≡ Replied (udid_at xs 0))
reply_cases (Ok t) xs = go (and (eqb t.address.0 0x61) (eqb t.command 0x03)) (eqb t.received 17)
  where
    go : (p q : Bool) → (pick p (pick q (Replied (udid_at xs 0)) Other) Other ≡ Other) ⊎ (pick p (pick q (Replied (udid_at xs 0)) Other) Other ≡ Replied (udid_at xs 0))
    go true true = inr refl
    go true false = inl refl
    go false q = inl refl
reply_cases (Err e) xs = inl refl

pub assign_cases : (v : Udid) (n : ℕ) (d : Decoded) (xs : List ℕ) → (assign_in v n d xs ≡ Other) ⊎ (assign_in v n d xs ≡ Assigned v n)
assign_cases v n (Ok t) xs = go (and (and (eqb t.address.0 0x61) (eqb t.command 0x04)) (and (eqb t.sent 17) (assigns v n xs)))
  where
    go : (q : Bool) → (pick q (Assigned v n) Other ≡ Other) ⊎ (pick q (Assigned v n) Other ≡ Assigned v n)
    go true = inr refl
    go false = inl refl
assign_cases v n (Err e) xs = inl refl

-- A REPLY: Get UDID is outstanding, and the trace is Get UDID with 17 bytes, the identifier's first
pub replied_exactly : (k : Handed) (tr : List ℕ) (u : Udid) → Fits u → (read_as k tr ≡ Replied u) ↔ ((k ≡ Send GetUdid) × ReplyOf u tr)
replied_exactly k tr u f = (there k, λ w. ap (λ (x : Handed). read_as x tr) w.0 ∙ ap (read_as (Send GetUdid)) w.1.2 ∙ reply_read u w.1.0 f w.1.1)
  where
    differ : Other ≡ Replied u → ⊥
    differ e = zero_is_one (cc e)

    assigned : (v : Udid) (n : ℕ) (x : Happened) → (x ≡ Other) ⊎ (x ≡ Assigned v n) → x ≡ Replied u → ⊥
    assigned v n x (inl q) e = differ (sym q ∙ e)
    assigned v n x (inr q) e = let m : Assigned v n ≡ Replied u = sym q ∙ e in zero_is_one (cc m)

    there : (k : Handed) → read_as k tr ≡ Replied u → (k ≡ Send GetUdid) × ReplyOf u tr
    there (Send GetUdid) e = (refl, reply_only tr u e)
    there (Send (Assign v a)) e = absurd (assigned v a.0 (read_as (Send (Assign v a)) tr) (assign_cases v a.0 (answer 8 tr) (sent_in 8 tr)) e)
    there (Send Prepare) e = absurd (differ e)
    there (Wait i) e = absurd (differ e)

-- what is read as a complete Assign is the one that is outstanding
pub read_assign_is_outstanding : (k : Handed) (tr : List ℕ) (u : Udid) (a : ℕ) → read_as k tr ≡ Assigned u a → k ≡ Send (Assign u (record { 0 = a }))
read_assign_is_outstanding k tr u a = there k
  where
    differ : Other ≡ Assigned u a → ⊥
    differ e = zero_is_one (cc e)

    replied : (v : Udid) (x : Happened) → (x ≡ Other) ⊎ (x ≡ Replied v) → x ≡ Assigned u a → ⊥
    replied v x (inl q) e = differ (sym q ∙ e)
    replied v x (inr q) e = let m : Replied v ≡ Assigned u a = sym q ∙ e in zero_is_one (cc m)

    same : (v : Udid) (c : Address) → Assigned v c.0 ≡ Assigned u a → (Send (Assign v c)) ≡ Send (Assign u (record { 0 = a }))
    same v c e =
        let p : v ≡ u = cc e in
        let q : c.0 ≡ a = cc e in
        λ i. (Send (Assign (p i) (record { 0 = q i })))

    own : (v : Udid) (c : Address) (x : Happened) → (x ≡ Other) ⊎ (x ≡ Assigned v c.0) → x ≡ Assigned u a → (Send (Assign v c)) ≡ Send (Assign u (record { 0 = a }))
    own v c x (inl q) e = absurd (differ (sym q ∙ e))
    own v c x (inr q) e = same v c (sym q ∙ e)

    there : (k : Handed) → read_as k tr ≡ Assigned u a → k ≡ Send (Assign u (record { 0 = a }))
    there (Send GetUdid) e = absurd (replied (udid_at (received_in 9 tr) 0) (read_as (Send GetUdid) tr) (reply_cases (answer 9 tr) (received_in 9 tr)) e)
    there (Send (Assign v c)) e = own v c (read_as (Send (Assign v c)) tr) (assign_cases v c.0 (answer 8 tr) (sent_in 8 tr)) e
    there (Send Prepare) e = absurd (differ e)
    there (Wait i) e = absurd (differ e)

-- A COMPLETE ASSIGN: it is outstanding, and the trace is that Assign, acknowledged whole
pub assigned_exactly : (k : Handed) (tr : List ℕ) (u : Udid) (a : Address) → Fits u → a.0 < 128 → (read_as k tr ≡ Assigned u a.0) ↔ ((k ≡ Send (Assign u a)) × (tr ≡ assign_trace (udid_bytes u) (2 * a.0)))
assigned_exactly k tr u a f h = (
  λ e. (
      let m : k ≡ Send (Assign u a) = read_assign_is_outstanding k tr u a.0 e in
      (m, (reads_assign_exactly u a tr f h).0 (ap (λ (x : Handed). read_as x tr) (sym m) ∙ e) ∙ assign_symbols_small u a h)
      ),
  λ w. ap (λ (x : Handed). read_as x tr) w.0 ∙ (reads_assign_exactly u a tr f h).1 (w.1 ∙ sym (assign_symbols_small u a h)),
)

-- ---- ALL OF IT

pub reading_is_decode : (tr : List ℕ) → Reading tr
reading_is_decode tr = record {
  reply = λ sent₀ received₀ d sent received l m o. (reply_is_decode tr sent₀ received₀ d sent received l m o, next_reply_is_decode tr sent₀ received₀ d sent received l m o);
  assign = λ sent₀ received₀ d sent received l m o. assign_is_decode tr sent₀ received₀ d sent received l m o;
  prepare = λ sent₀ received₀ d sent received l m o. next_prepare_is_decode tr sent₀ received₀ d sent received l m o;
  replied = λ k u f. replied_exactly k tr u f;
  assigned = λ k u a f h. assigned_exactly k tr u a f h;
  of_trace = λ k. read_of_trace k tr;
}
