-- The step held against traces: which traces are taken for the command that is outstanding, and what each of them leads to.
-- For every trace one of the lines applies, and no line speaks of how the decoder works. specs/OneStepLaws.antt says them of the step itself.
use Rattle.std.specs.Prelude.{ℕ, ◌*◌, ◌%◌, ◌≤◌, ◌<◌, ◌≡◌, refl, Bool, true, false, List, [], ◌∷◌, ◌++◌, ltb, eqb, length, get_or, drop, Ok, Err}
use Rattle.std.proofs.Common.{sym, ap, ap₂, ◌∙◌, subst, arith, length-drop, ltb-true, lt-ltb, eqb-true, eq-eqb, ne_eqb}
use Rattle.std.proofs.lemmas.List.{get_or_at}
use Rattle.std.proofs.Math.Seq.{split_at}
use Rattle.lists.specs.LengthLaws.{empty_of_length}
use Rattle.lists.specs.Choice.{pick, and}
use Rattle.lists.specs.Each.{Bytes}
use Rattle.wire.specs.Addresses.{default_address}
use Rattle.wire.specs.declared.address.Address.{Address}
use Rattle.lists.specs.ChoiceLaws.{both_true}
use Rattle.trace.proofs.ShapeLaws.{sane}
use Rattle.trace.specs.Shapes.{shape_of}
use Rattle.trace.specs.Trace.{Message, trace, Valid}
use Rattle.trace.specs.declared.transaction.Transaction.{Transaction}
use Rattle.scan.proofs.AnswersLaws as step
use Rattle.scan.specs.Answers.{CutAt, Carries, summary}
use Rattle.scan.specs.Handed.{sent_data, received_data}
use Rattle.scan.specs.NumberLaws.{nack_is}
use Rattle.scan.specs.Numbers.{is_nack}
use Rattle.scan.specs.Decoded.{Decoded, refused}
use Rattle.scan.specs.declared.answer.Refusal.{Refusal}
use Rattle.scan.specs.declared.answer.Refusal.TheVariants.{NotAcknowledged}
use Rattle.udid.specs.Bytes.{udid_bytes, udid_at}
use Rattle.udid.proofs.UdidLaws.{length_udid, udid_back, bytes_back, same_equal, same_refl}
use Rattle.udid.specs.Udids.{Fits, same_udid}
use Rattle.udid.specs.declared.Udid.{Udid}
use Rattle.commands.specs.RequestLaws.{valid_prepare, valid_get, assign_data_has_17_bytes, valid_assign}
use Rattle.hearing.specs.Heard.{answer, sent_in, received_in, is_command, is_prepare, is_get, names, is_assign}
use Rattle.commands.specs.Codes.{send_byte, block_read, block_write}
use Rattle.commands.specs.Requests.{assign_data, message_of, trace_of}
use Rattle.hearing.specs.Told.{told_prepare, told_get, told_assign, tells}
use Rattle.commands.specs.declared.command.Command.TheVariants.{Prepare, GetUdid, Assign}
use Rattle.commands.specs.declared.command.Handed.TheVariants.{Send}
use Rattle.hearing.specs.declared.told.Told.TheVariants.{Again, Over, GivenUp, Reply, Took}

-- ---- what the decoder says of them

module _ (protocol : ℕ) (m : Message) (v : Valid (shape_of protocol) m) where
  pub decoded_back : (answer protocol (trace (shape_of protocol) true m) ≡ Ok (summary protocol m))
      × (sent_in protocol (trace (shape_of protocol) true m) ≡ m.sent)
      × (received_in protocol (trace (shape_of protocol) true m) ≡ m.received)
  decoded_back = step.round_trip protocol (shape_of protocol) (sane protocol) true m v

-- a complete trace is that of a message, with its data
complete : (protocol : ℕ) (tr : List ℕ) (t : Transaction) → answer protocol tr ≡ Ok t → Carries protocol (shape_of protocol) true tr t (sent_in protocol tr) (received_in protocol tr)
complete protocol tr t e =
    subst (λ (x : Decoded). Carries protocol (shape_of protocol) true tr t (sent_data (shape_of protocol) tr x) (received_data true tr x)) (sym e)
    ((step.answer_exactly protocol (shape_of protocol) (sane protocol) true tr (Ok t)).0 e)

cut : (protocol : ℕ) (tr : List ℕ) (b : ℕ) → CutAt (shape_of protocol) true tr b → answer protocol tr ≡ refused NotAcknowledged b
cut protocol tr b h = (step.answer_exactly protocol (shape_of protocol) (sane protocol) true tr (refused NotAcknowledged b)).1 (h, refl, refl)

cut_back : (protocol : ℕ) (tr : List ℕ) (w : Refusal) (b : ℕ) → answer protocol tr ≡ refused w b → is_nack w ≡ true → CutAt (shape_of protocol) true tr b
cut_back protocol tr w b e h =
    ((step.answer_exactly protocol (shape_of protocol) (sane protocol) true tr (refused NotAcknowledged b)).0 (e ∙ ap (λ (v : Refusal). refused v b) (nack_is w h))).0

-- two messages with the same fields
message_is : (m n : Message) → m.address ≡ n.address → m.direction ≡ n.direction → m.command ≡ n.command → m.sent ≡ n.sent → m.received ≡ n.received → m ≡ n
message_is m n a d c s r = λ i. record { address = a i; direction = d i; command = c i; sent = s i; received = r i }

-- ---- Prepare To ARP

module _ (tr : List ℕ) where
  -- a complete trace that is Prepare To ARP is its trace
  prepare_only : (t : Transaction) → answer send_byte tr ≡ Ok t → is_prepare t (sent_in send_byte tr) ≡ true → tr ≡ trace_of (Send Prepare) []
  prepare_only t e h =
      let c = complete send_byte tr t e in
      let b = both_true (eqb t.address.0 default_address) (eqb (get_or (sent_in send_byte tr) 0 0) 0x01) h in
      let a : c.message.address ≡ default_address = sym (ap (λ (x : Transaction). x.address.0) c.fields) ∙ eqb-true t.address.0 default_address b.0 in
      let d : get_or c.message.sent 0 0 ≡ 0x01 = ap (λ (x : List ℕ). get_or x 0 0) (sym c.data_sent) ∙ eqb-true (get_or (sent_in send_byte tr) 0 0) 0x01 b.1 in
      c.is
      ∙ ap (trace (shape_of send_byte) true)
      (message_is c.message (message_of (Send Prepare) []) a c.valid.direction c.valid.command (byte c.message.sent c.valid.sent_length_lem d)
      (empty_of_length c.message.received c.valid.received_length_lem))
    where
      byte : (xs : List ℕ) → length xs ≡ 1 → get_or xs 0 0 ≡ 0x01 → xs ≡ 0x01 ∷ []
      byte [] l d = absurd (omega arith)
      byte (x ∷ []) l d = ap (λ (y : ℕ). y ∷ []) d
      byte (x ∷ y ∷ xs) l d = absurd (omega arith)

  -- accepted: Get UDID
  pub prepare_accepted : tr ≡ trace_of (Send Prepare) [] → tells (Send Prepare) tr ≡ Again
  prepare_accepted e =
      let b = decoded_back send_byte (message_of (Send Prepare) []) valid_prepare in
      ap (λ (x : List ℕ). told_prepare (answer send_byte x) (sent_in send_byte x)) e
      ∙ ap₂ told_prepare b.0 b.1

  -- answer 6: the pass ends
  pub prepare_nobody : (b : ℕ) → CutAt (shape_of send_byte) true tr b → tells (Send Prepare) tr ≡ Over
  prepare_nobody b h = ap (λ (x : Decoded). told_prepare x (sent_in send_byte tr)) (cut send_byte tr b h)

  -- any other: 14
  pub prepare_other : (tr ≡ trace_of (Send Prepare) [] → ⊥) → ((b : ℕ) → CutAt (shape_of send_byte) true tr b → ⊥) → tells (Send Prepare) tr ≡ GivenUp
  prepare_other n k = go (answer send_byte tr) refl
    where
      done : (t : Transaction) → answer send_byte tr ≡ Ok t → (b : Bool) → is_prepare t (sent_in send_byte tr) ≡ b → pick b Again GivenUp ≡ GivenUp
      done t e true h = absurd (n (prepare_only t e h))
      done t e false h = refl

      nack : (w : Refusal) (b : ℕ) → answer send_byte tr ≡ refused w b → (p : Bool) → is_nack w ≡ p → pick p Over GivenUp ≡ GivenUp
      nack w b e true g = absurd (k b (cut_back send_byte tr w b e g))
      nack w b e false g = refl

      go : (x : Decoded) → answer send_byte tr ≡ x → told_prepare x (sent_in send_byte tr) ≡ GivenUp
      go (Ok t) e = done t e (is_prepare t (sent_in send_byte tr)) refl
      go (Err r) e = nack r.why r.place e (is_nack r.why) refl

-- ---- Get UDID

module _ (tr : List ℕ) where
  -- a complete trace that is Get UDID is its trace, with some reply
  pub complete_get_is_its_trace : (t : Transaction) → answer block_read tr ≡ Ok t → is_get t ≡ true → tr ≡ trace_of (Send GetUdid) (received_in block_read tr)
  complete_get_is_its_trace t e h =
      let c = complete block_read tr t e in
      let b = both_true (eqb t.address.0 default_address) (eqb t.command 0x03) h in
      let a : c.message.address ≡ default_address = sym (ap (λ (x : Transaction). x.address.0) c.fields) ∙ eqb-true t.address.0 default_address b.0 in
      let d : c.message.command ≡ 0x03 = sym (ap (λ (x : Transaction). x.command) c.fields) ∙ eqb-true t.command 0x03 b.1 in
      c.is
      ∙ ap (trace (shape_of block_read) true)
      (message_is c.message (message_of (Send GetUdid) (received_in block_read tr)) a c.valid.direction d (empty_of_length c.message.sent c.valid.sent_length_lem) (sym c.data_received))

  -- the data of a complete Block Read are at most 255 bytes
  pub complete_get_data_fits : (t : Transaction) → answer block_read tr ≡ Ok t → Bytes (received_in block_read tr) × (length (received_in block_read tr) ≤ 255)
  complete_get_data_fits t e =
      let c = complete block_read tr t e in
      (subst Bytes (sym c.data_received) c.valid.received_bytes, omega (arith, ap length c.data_received, c.valid.counts))

  -- the decoder's answer for Get UDID with a reply
  module _ (xs : List ℕ) (h : Bytes xs) (l : length xs ≤ 255) (e : tr ≡ trace_of (Send GetUdid) xs) where
    get_is : tells (Send GetUdid) tr ≡ pick (eqb (length xs) 17) (Reply (udid_at xs 0) (get_or xs 16 0)) Over
    get_is =
        let b = decoded_back block_read (message_of (Send GetUdid) xs) (valid_get xs h l) in
        ap (λ (x : List ℕ). told_get (answer block_read x) (received_in block_read x)) e
        ∙ ap₂ told_get b.0 b.2

    -- a count that is not 17: the pass ends
    pub get_count : (length xs ≡ 17 → ⊥) → tells (Send GetUdid) tr ≡ Over
    get_count n = get_is ∙ ap (λ (b : Bool). pick b (Reply (udid_at xs 0) (get_or xs 16 0)) Over) (ne_eqb (length xs) 17 n)

    -- 17 bytes: the identifier and the address byte
    pub get_reply : length xs ≡ 17 → tells (Send GetUdid) tr ≡ Reply (udid_at xs 0) (get_or xs 16 0)
    get_reply n = get_is ∙ ap (λ (b : Bool). pick b (Reply (udid_at xs 0) (get_or xs 16 0)) Over) (eq-eqb (length xs) 17 n)

  -- answer 6 at byte 0, 1 or 2: the pass ends
  pub get_nobody : (b : ℕ) → CutAt (shape_of block_read) true tr b → b < 3 → tells (Send GetUdid) tr ≡ Over
  get_nobody b h l = ap (λ (x : Decoded). told_get x (received_in block_read tr)) (cut block_read tr b h) ∙ ap (λ (q : Bool). pick q Over Again) (lt-ltb b 3 l)

  -- any other: Get UDID again
  pub get_again : ((xs : List ℕ) → Bytes xs → length xs ≤ 255 → tr ≡ trace_of (Send GetUdid) xs → ⊥) → ((b : ℕ) → CutAt (shape_of block_read) true tr b → b < 3 → ⊥) → tells (Send GetUdid) tr ≡ Again
  get_again n k = go (answer block_read tr) refl
    where
      done : (t : Transaction) → answer block_read tr ≡ Ok t → (b : Bool) → is_get t ≡ b
          → pick b (pick (eqb t.received 17) (Reply (udid_at (received_in block_read tr) 0) (get_or (received_in block_read tr) 16 0)) Over) Again ≡ Again
      done t e true h = let d = complete_get_data_fits t e in absurd (n (received_in block_read tr) d.0 d.1 (complete_get_is_its_trace t e h))
      done t e false h = refl

      nack : (w : Refusal) (b : ℕ) → answer block_read tr ≡ refused w b → (p : Bool) → is_nack w ≡ p → (q : Bool) → ltb b 3 ≡ q → pick (and p q) Over Again ≡ Again
      nack w b e true g true h = absurd (k b (cut_back block_read tr w b e g) (ltb-true b 3 h))
      nack w b e true g false h = refl
      nack w b e false g q h = refl

      go : (x : Decoded) → answer block_read tr ≡ x → told_get x (received_in block_read tr) ≡ Again
      go (Ok t) e = done t e (is_get t) refl
      go (Err r) e = nack r.why r.place e (is_nack r.why) refl (ltb r.place 3) refl

-- ---- Assign Address

-- 17 bytes that name an identifier and an address are that command's data
named : (u : Udid) (a : ℕ) (xs : List ℕ) → Bytes xs → length xs ≡ 17 → udid_at xs 0 ≡ u → get_or xs 16 0 ≡ 2 * (a % 128) → xs ≡ assign_data u a
named u a xs h l e f =
    split_at xs 16 0 (omega arith)
    ∙ ap₂ (λ (p q : List ℕ). p ++ q) (sym (bytes_back xs 0 h (omega arith)) ∙ ap udid_bytes e) (ap₂ (λ (x : ℕ) (q : List ℕ). x ∷ q) f (empty_of_length (drop 17 xs) (length-drop 17 xs ∙ omega arith)))

-- the command's own data are told as the Assign that was sent
pub assign_data_is_assign : (u : Udid) (a : Address) → Fits u → is_assign u a.0 (summary block_write (message_of (Send (Assign u a)) [])) (assign_data u a.0) ≡ true
assign_data_is_assign u a f =
    let i = udid_back [] (2 * (a.0 % 128) ∷ []) 0 u f refl in
    let n : same_udid (udid_at (assign_data u a.0) 0) u ≡ true = ap (λ (z : Udid). same_udid z u) i ∙ same_refl u in
    let g : get_or (assign_data u a.0) 16 0 ≡ 2 * (a.0 % 128) = get_or_at (udid_bytes u) (2 * (a.0 % 128)) [] 0 16 (length_udid u) in
    rw (eq-eqb (length (assign_data u a.0)) 17 (assign_data_has_17_bytes u a.0), n, eq-eqb (get_or (assign_data u a.0) 16 0) (2 * (a.0 % 128)) g)

module _ (u : Udid) (a : Address) (tr : List ℕ) where
  -- a complete trace that is the Assign which was sent is its trace
  pub complete_assign_is_its_trace : (t : Transaction) → answer block_write tr ≡ Ok t → is_assign u a.0 t (sent_in block_write tr) ≡ true → tr ≡ trace_of (Send (Assign u a)) []
  complete_assign_is_its_trace t e h =
      let c = complete block_write tr t e in
      let xs : List ℕ = sent_in block_write tr in
      let p = both_true (is_command 0x04 t) _ h in
      let q = both_true (eqb t.address.0 default_address) (eqb t.command 0x04) p.0 in
      let r = both_true (eqb t.sent 17) (names u a.0 (sent_in block_write tr)) p.1 in
      let n = both_true (same_udid (udid_at (sent_in block_write tr) 0) u) (eqb (get_or (sent_in block_write tr) 16 0) (2 * (a.0 % 128))) r.1 in
      let x : c.message.address ≡ default_address = sym (ap (λ (y : Transaction). y.address.0) c.fields) ∙ eqb-true t.address.0 default_address q.0 in
      let y : c.message.command ≡ 0x04 = sym (ap (λ (y : Transaction). y.command) c.fields) ∙ eqb-true t.command 0x04 q.1 in
      let l : length c.message.sent ≡ 17 = sym (ap (λ (y : Transaction). y.sent) c.fields) ∙ eqb-true t.sent 17 r.0 in
      let v : udid_at c.message.sent 0 ≡ u = ap (λ (z : List ℕ). udid_at z 0) (sym c.data_sent) ∙ same_equal (udid_at (sent_in block_write tr) 0) u n.0 in
      let w : get_or c.message.sent 16 0 ≡ 2 * (a.0 % 128) = ap (λ (z : List ℕ). get_or z 16 0) (sym c.data_sent) ∙ eqb-true (get_or (sent_in block_write tr) 16 0) (2 * (a.0 % 128)) n.1 in
      c.is
      ∙ ap (trace (shape_of block_write) true)
      (message_is c.message (message_of (Send (Assign u a)) []) x c.valid.direction y (named u a.0 c.message.sent c.valid.sent_bytes l v w) (empty_of_length c.message.received c.valid.received_length_lem))

  -- complete: the target took it
  pub assign_whole : Fits u → tr ≡ trace_of (Send (Assign u a)) [] → tells (Send (Assign u a)) tr ≡ Took u a
  assign_whole f e =
      let b = decoded_back block_write (message_of (Send (Assign u a)) []) (valid_assign u a) in
      ap (λ (x : List ℕ). told_assign u a (answer block_write x) (sent_in block_write x)) e
      ∙ ap₂ (told_assign u a) b.0 b.1
      ∙ ap (λ (q : Bool). pick q (Took u a) Again) (assign_data_is_assign u a f)

  -- any other: Get UDID again
  pub assign_other : (tr ≡ trace_of (Send (Assign u a)) [] → ⊥) → tells (Send (Assign u a)) tr ≡ Again
  assign_other n = go (answer block_write tr) refl
    where
      done : (t : Transaction) → answer block_write tr ≡ Ok t → (b : Bool) → is_assign u a.0 t (sent_in block_write tr) ≡ b → pick b (Took u a) Again ≡ Again
      done t e true h = absurd (n (complete_assign_is_its_trace t e h))
      done t e false h = refl

      go : (x : Decoded) → answer block_write tr ≡ x → told_assign u a x (sent_in block_write tr) ≡ Again
      go (Ok t) e = done t e (is_assign u a.0 t (sent_in block_write tr)) refl
      go (Err r) e = refl
