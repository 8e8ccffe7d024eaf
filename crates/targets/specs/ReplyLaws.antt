-- What stands on the wire when the unresolved targets answer together: the reply of the one with the least identifier. Every other one
-- leaves at its drop-out bit, after the eight bits of the count.
use Rattle.std.specs.Prelude.{ℕ, suc, ◌+◌, ◌<◌, ◌≤◌, ◌≡◌, refl, Bool, true, false, ◌⊎◌, List, [], ◌∷◌, ◌++◌, length}
use Rattle.std.proofs.Common.{sym, ap, ◌∙◌, inl, inr, append_assoc, arith, length-append, lt-ltb}
use Rattle.lists.specs.Choice.{pick}
use Rattle.lists.specs.EachLaws.{append_bytes}
use Rattle.lists.specs.Each.{Each, Bytes}
use Rattle.pec.proofs.PecLaws.{pec_byte}
use Rattle.udid.specs.Bytes.{udid_bytes}
use Rattle.udid.specs.Udids.{Fits, value, is_below}
use Rattle.udid.proofs.UdidLaws.{length_udid, udid_bytes_lem}
use Rattle.arbitration.specs.Among.{Among}
use Rattle.arbitration.specs.Bits.{bits, udid_bits, byte_bits, bytes_read, sent}
use Rattle.arbitration.specs.BitLaws.{length_bits, length_byte_bits, byte_bits_append, read_bytes_lem, udid_bits_lem}
use Rattle.arbitration.specs.Wire.{heard, sending}
use Rattle.arbitration.specs.DropOut.{shared, no_later, sharing, Stays}
use Rattle.arbitration.proofs.OrderLaws.{no_later_refl}
use Rattle.arbitration.proofs.WinLaws.{drop_out_within}
use Rattle.arbitration.proofs.WireLaws.{heard_who_stays, sending_who_share}
use Rattle.arbitration.proofs.PairLaws.{sent_order}
use Rattle.targets.specs.Target.{Target, is_resolved, Sized}
use Rattle.targets.specs.Reply.{reply_data, covered_bytes, reply_pec, reply_bytes, sends, waiting, silence, shown, on_wire}
use Rattle.targets.specs.Members.{Least}

-- ---- the bytes

pub length_reply_data : (t : Target) → length (reply_data t) ≡ 17
unfolding reply_data
length_reply_data t = length-append (udid_bytes t.udid) (t.address_byte ∷ []) ∙ omega (arith, length_udid t.udid)

pub length_reply : (t : Target) → length (reply_bytes t) ≡ 19
unfolding reply_bytes
length_reply t = ap suc (length-append (reply_data t) (reply_pec t ∷ []) ∙ omega (arith, length_reply_data t))

pub bytes_reply_data : (t : Target) → t.address_byte < 256 → Bytes (reply_data t)
unfolding reply_data
bytes_reply_data t h = append_bytes (udid_bytes t.udid) (t.address_byte ∷ []) (udid_bytes_lem t.udid) (h, tt)

bytes_covered : (t : Target) → t.address_byte < 256 → Bytes (covered_bytes t)
unfolding covered_bytes
bytes_covered t h = (omega arith, (omega arith, (omega arith, (omega arith, bytes_reply_data t h))))

pub bytes_reply : (t : Target) → t.address_byte < 256 → Bytes (reply_bytes t)
unfolding reply_bytes reply_pec
bytes_reply t h =
    let p : reply_pec t < 256 = pec_byte 0 (covered_bytes t) (omega arith) (bytes_covered t h) in
    (omega arith, append_bytes (reply_data t) (reply_pec t ∷ []) (bytes_reply_data t h) (p, tt))

-- ---- the bits

pub length_sends : (t : Target) → length (sends t) ≡ 152
unfolding sends
length_sends t = length_byte_bits (reply_bytes t) ∙ omega (arith, length_reply t)

-- what was sent is read
pub read_sends : (t : Target) → t.address_byte < 256 → bytes_read 19 (sends t) ≡ reply_bytes t
unfolding sends
read_sends t h = ap (λ (n : ℕ). bytes_read n (byte_bits (reply_bytes t))) (sym (length_reply t)) ∙ read_bytes_lem (reply_bytes t) (bytes_reply t h)

-- what follows the identifier: the address byte and PEC
after : Target → List Bool
after t = byte_bits (t.address_byte ∷ reply_pec t ∷ [])

-- all send the count first, then each its identifier
sends_count_udid_rest : (t : Target) → sends t ≡ sent (bits 8 17) t.udid (after t)
unfolding sends reply_bytes reply_data after
sends_count_udid_rest t =
    ap (λ (x : List Bool). bits 8 17 ++ x)
    (ap byte_bits (append_assoc (udid_bytes t.udid) (t.address_byte ∷ []) (reply_pec t ∷ []))
    ∙ byte_bits_append (udid_bytes t.udid) (t.address_byte ∷ reply_pec t ∷ [])
    ∙ ap (λ (x : List Bool). x ++ byte_bits (t.address_byte ∷ reply_pec t ∷ [])) (sym (udid_bits_lem t.udid)))

module _ (r t : Target) (f : Fits r.udid) (g : Fits t.udid) (n : r.udid ≡ t.udid → ⊥) where
  -- of two targets the one with the lower identifier stays on the wire
  pub sends_order : no_later (sends r) (sends t) ≡ is_below r.udid t.udid
  sends_order = rw (sends_count_udid_rest r, sends_count_udid_rest t) (sent_order r.udid t.udid f g (bits 8 17) (after r) (after t) n)

  -- THE DROP-OUT BIT OF A REPLY is that of the identifiers, after the eight bits of the count
  pub sends_drop_out : shared (sends r) (sends t) ≡ 8 + shared (udid_bits r.udid) (udid_bits t.udid)
  sends_drop_out =
      rw (sends_count_udid_rest r, sends_count_udid_rest t)
      (drop_out_within r.udid t.udid f g (bits 8 17) (after r) (after t) n
      ∙ ap (λ (k : ℕ). k + shared (udid_bits r.udid) (udid_bits t.udid)) (length_bits 8 17))

-- ---- who answers

each_waiting : (P : List Bool → Type 0) (ts : List Target) → ((t : Target) → Among t ts → is_resolved t ≡ false → P (sends t)) → Each P (waiting ts)
each_waiting P [] h = tt
each_waiting P (t ∷ ts) h = go (is_resolved t) refl (each_waiting P ts (λ x m e. h x (inr m) e))
  where
    go : (b : Bool) → is_resolved t ≡ b → Each P (waiting ts) → Each P (pick b (waiting ts) (sends t ∷ waiting ts))
    go true e r = r
    go false e r = (h t (inl refl) e, r)

among_waiting : (ts : List Target) (r : Target) → Among r ts → is_resolved r ≡ false → Among (sends r) (waiting ts)
among_waiting [] r x'' e = elim x'' [ ]
among_waiting (t ∷ ts) r (inl m) e =
    let f : is_resolved t ≡ false = ap is_resolved m ∙ e in
    rw f (inl (ap sends m))
among_waiting (t ∷ ts) r (inr m) e = go (is_resolved t) (among_waiting ts r m e)
  where
    go : (b : Bool) → Among (sends r) (waiting ts) → Among (sends r) (pick b (waiting ts) (sends t ∷ waiting ts))
    go true h = h
    go false h = inr h

none_waiting : (ts : List Target) → ((t : Target) → Among t ts → is_resolved t ≡ false → ⊥) → waiting ts ≡ []
none_waiting [] h = refl
none_waiting (t ∷ ts) h = go (is_resolved t) refl (none_waiting ts (λ x m e. h x (inr m) e))
  where
    go : (b : Bool) → is_resolved t ≡ b → waiting ts ≡ [] → pick b (waiting ts) (sends t ∷ waiting ts) ≡ []
    go true e r = r
    go false e r = absurd (h t (inl refl) e)

-- all are resolved: nobody answers
pub nobody_on_wire : (ts : List Target) → ((t : Target) → Among t ts → is_resolved t ≡ false → ⊥) → on_wire (waiting ts) ≡ silence
nobody_on_wire ts h = ap on_wire (none_waiting ts h)

module _ (ts : List Target) (r : Target) (l : Least ts r) where
  stays : Each (Stays (sends r)) (waiting ts)
  stays = each_waiting (Stays (sends r)) ts (λ t k f. at t (l.below t k f))
    where
      differ : (t : Target) → value r.udid < value t.udid → r.udid ≡ t.udid → ⊥
      differ t h e = let v : value r.udid ≡ value t.udid = ap value e in omega arith

      at : (t : Target) → (r ≡ t) ⊎ (Sized t × (value r.udid < value t.udid)) → Stays (sends r) (sends t)
      at t (inl q) = (ap (λ (x : Target). no_later (sends r) (sends x)) (sym q) ∙ no_later_refl (sends r), length_sends t ∙ sym (length_sends r))
      at t (inr q) = (
        sends_order r t l.sized.udid q.0.udid (differ t q.1) ∙ lt-ltb (value r.udid) (value t.udid) q.1,
        length_sends t ∙ sym (length_sends r),
      )

  -- THE WIRE SHOWS ITS REPLY, all 19 bytes of it
  pub least_on_wire : on_wire (waiting ts) ≡ shown (reply_bytes r)
  least_on_wire = go (waiting ts) stays (among_waiting ts r l.among l.unresolved)
    where
      go : (ss : List (List Bool)) → Each (Stays (sends r)) ss → Among (sends r) ss → on_wire ss ≡ shown (reply_bytes r)
      go [] k a = elim a [ ]
      go (s ∷ ss) k a =
          let q : heard 152 (s ∷ ss) ≡ sends r = ap (λ (n : ℕ). heard n (s ∷ ss)) (sym (length_sends r)) ∙ heard_who_stays (sends r) (s ∷ ss) k a in
          ap shown (ap (bytes_read 19) q ∙ read_sends r l.sized.address_byte)

  -- and after n bits those still send that share n bits with it
  pub least_sending : (n : ℕ) → n ≤ 152 → sending n (waiting ts) ≡ sharing n (sends r) (waiting ts)
  least_sending n h = sending_who_share n (sends r) (waiting ts) stays (among_waiting ts r l.among l.unresolved) (omega (arith, length_sends r))
