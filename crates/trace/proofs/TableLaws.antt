-- The table says what the one definition over shapes says: a line of the table is a valid message with its symbols, and every valid message
-- of a protocol is a line.
use Rattle.std.specs.Prelude.{◌≡◌, refl, Bool, true, false, List, [], ◌∷◌, ◌++◌, map, ◌↔◌, ℕ, ◌+◌, ◌*◌, ◌<◌, length}
use Rattle.std.proofs.Common.{sym, ap, ap₂, ◌∙◌, subst, append-nil, arith}
use Rattle.lists.specs.LengthLaws.{empty_of_length}
use Rattle.lists.specs.AbsurdLaws.{zero_is_one}
use Rattle.lists.specs.Each.{Bytes}
use Rattle.trace.specs.Rows.{message}
use Rattle.trace.specs.Shaped.{Shaped}
use Rattle.trace.proofs.ShapeLaws.{by_row}
use Rattle.trace.specs.Shapes.{shapes, protocols, shape_of, writes, reads}
use Rattle.trace.specs.Table.{Line, line, Row, quick, send_byte, receive_byte, write_byte, write_word, read_byte, read_word, process_call, block_write, block_read, block_process_call, TraceOf}
use Rattle.trace.specs.Trace.{Message, acked, by_target, by_controller, bytes, in_place, pec_of, trace_at, trace, Valid}
use Rattle.trace.specs.declared.shape.Shape.{Shape}
use Rattle.pec.specs.Pec as Pec

-- ---- a line of the table is a valid message with its symbols

pub row_means : (q : List ℕ) (x : Line) → Row q x → Shaped q x
row_means q x (quick a b ha hb hq e) =
    subst (Shaped q) (sym e)
    (record {
      known = omega arith;
      plain = λ z. hq;
      valid = record { address = ha; direction = hb; command = refl; sent_length_lem = refl; sent_bytes = tt; received_length_lem = refl; received_bytes = tt; counts = omega arith };
      covers = refl;
      target = ap (λ (l : List ℕ). 256 ∷ (2 * a + b) ∷ 258 ∷ acked l) (sym hq);
      controller = refl;
    })
row_means q x (send_byte a d ha hd e) =
    subst (Shaped q) (sym e)
    (record {
      known = omega arith;
      plain = λ z. absurd (omega (arith, z));
      valid = record { address = ha; direction = refl; command = refl; sent_length_lem = refl; sent_bytes = (hd, tt); received_length_lem = refl; received_bytes = tt; counts = omega arith };
      covers = refl;
      target = refl;
      controller = refl;
    })
row_means q x (receive_byte a r ha hr e) =
    subst (Shaped q) (sym e)
    (record {
      known = omega arith;
      plain = λ z. absurd (omega (arith, z));
      valid = record { address = ha; direction = refl; command = refl; sent_length_lem = refl; sent_bytes = tt; received_length_lem = refl; received_bytes = (hr, tt); counts = omega arith };
      covers = refl;
      target = refl;
      controller = refl;
    })
row_means q x (write_byte a c d ha hc hd e) =
    subst (Shaped q) (sym e)
    (record {
      known = omega arith;
      plain = λ z. absurd (omega (arith, z));
      valid = record { address = ha; direction = refl; command = (hc, tt); sent_length_lem = refl; sent_bytes = (hd, tt); received_length_lem = refl; received_bytes = tt; counts = omega arith };
      covers = refl;
      target = refl;
      controller = refl;
    })
row_means q x (write_word a c l h ha hc hl hh e) =
    subst (Shaped q) (sym e)
    (record {
      known = omega arith;
      plain = λ z. absurd (omega (arith, z));
      valid = record { address = ha; direction = refl; command = (hc, tt); sent_length_lem = refl; sent_bytes = (hl, (hh, tt)); received_length_lem = refl; received_bytes = tt; counts = omega arith };
      covers = refl;
      target = refl;
      controller = refl;
    })
row_means q x (read_byte a c r ha hc hr e) =
    subst (Shaped q) (sym e)
    (record {
      known = omega arith;
      plain = λ z. absurd (omega (arith, z));
      valid = record { address = ha; direction = refl; command = (hc, tt); sent_length_lem = refl; sent_bytes = tt; received_length_lem = refl; received_bytes = (hr, tt); counts = omega arith };
      covers = refl;
      target = refl;
      controller = refl;
    })
row_means q x (read_word a c l h ha hc hl hh e) =
    subst (Shaped q) (sym e)
    (record {
      known = omega arith;
      plain = λ z. absurd (omega (arith, z));
      valid = record { address = ha; direction = refl; command = (hc, tt); sent_length_lem = refl; sent_bytes = tt; received_length_lem = refl; received_bytes = (hl, (hh, tt)); counts = omega arith };
      covers = refl;
      target = refl;
      controller = refl;
    })
row_means q x (process_call a c l h m n ha hc hl hh hm hn e) =
    subst (Shaped q) (sym e)
    (record {
      known = omega arith;
      plain = λ z. absurd (omega (arith, z));
      valid = record { address = ha; direction = refl; command = (hc, tt); sent_length_lem = refl; sent_bytes = (hl, (hh, tt)); received_length_lem = refl; received_bytes = (hm, (hn, tt)); counts = omega arith };
      covers = refl;
      target = refl;
      controller = refl;
    })
row_means q x (block_write a c d ha hc hd hl e) =
    subst (Shaped q) (sym e)
    (record {
      known = omega arith;
      plain = λ z. absurd (omega (arith, z));
      valid = record { address = ha; direction = refl; command = (hc, tt); sent_length_lem = omega arith; sent_bytes = hd; received_length_lem = refl; received_bytes = tt; counts = omega arith };
      covers = ap (λ (l : List ℕ). 2 * a ∷ c ∷ length d ∷ l) (sym (append-nil d));
      target = refl;
      controller = refl;
    })
row_means q x (block_read a c r ha hc hr hl e) =
    subst (Shaped q) (sym e)
    (record {
      known = omega arith;
      plain = λ z. absurd (omega (arith, z));
      valid = record { address = ha; direction = refl; command = (hc, tt); sent_length_lem = refl; sent_bytes = tt; received_length_lem = omega arith; received_bytes = hr; counts = omega arith };
      covers = refl;
      target = refl;
      controller = refl;
    })
row_means q x (block_process_call a c d r ha hc hd hr hl e) =
    subst (Shaped q) (sym e)
    (record {
      known = omega arith;
      plain = λ z. absurd (omega (arith, z));
      valid = record { address = ha; direction = refl; command = (hc, tt); sent_length_lem = omega arith; sent_bytes = hd; received_length_lem = omega arith; received_bytes = hr; counts = omega arith };
      covers = refl;
      target = refl;
      controller = refl;
    })

-- ---- a valid message is a line of the table

one_of_length : (l : List ℕ) → length l ≡ 1 → (x : ℕ) × (l ≡ x ∷ [])
one_of_length [] h = absurd (omega arith)
one_of_length (x ∷ []) h = (x, refl)
one_of_length (x ∷ y ∷ l) h = absurd (omega arith)

two_of_length : (l : List ℕ) → length l ≡ 2 → (x : ℕ) × (y : ℕ) × (l ≡ x ∷ y ∷ [])
two_of_length [] h = absurd (omega arith)
two_of_length (x ∷ []) h = absurd (omega arith)
two_of_length (x ∷ y ∷ []) h = (x, y, refl)
two_of_length (x ∷ y ∷ z ∷ l) h = absurd (omega arith)

abbrev line_of : ℕ → Message → List ℕ → Line
line_of p t q = line p t (bytes (shape_of p) t) (by_target (shape_of p) t q) (by_controller (shape_of p) t q)

-- the line of a message by its fields
by_fields : (p : ℕ) (t : Message) (q : List ℕ) (b c : ℕ) (s r : List ℕ) → t.direction ≡ b → t.command ≡ c → t.sent ≡ s → t.received ≡ r
    → Row q (line_of p (message t.address b c s r) q) → Row q (line_of p t q)
by_fields p t q b c s r eb ec es er row =
    let e : t ≡ message t.address b c s r = λ i. record { address = t.address; direction = eb i; command = ec i; sent = es i; received = er i } in
    subst (λ (m : Message). Row q (line_of p m q)) (sym e) row

-- every valid message of a protocol is a line of it, with a PEC or none in PEC's place, but Quick with none
abbrev InRow : ℕ → Type 0
InRow p = (t : Message) (q : List ℕ) → (p ≡ 0 → q ≡ []) → Valid (shape_of p) t → Row q (line_of p t q)

in_quick : InRow 0
in_quick t q z v =
    by_fields 0 t q t.direction 0 [] [] refl v.command (empty_of_length _ v.sent_length_lem) (empty_of_length _ v.received_length_lem)
    (quick t.address t.direction v.address v.direction (z refl)
    (ap (λ (l : List ℕ). line 0 (message t.address t.direction 0 [] []) ((2 * t.address + t.direction) ∷ []) (256 ∷ (2 * t.address + t.direction) ∷ 258 ∷ acked l) (257 ∷ [])) (z refl)))

in_send_byte : InRow 1
in_send_byte t q z v =
    let d = one_of_length t.sent v.sent_length_lem in
    by_fields 1 t q 0 0 (d.0 ∷ []) [] v.direction v.command d.1 (empty_of_length _ v.received_length_lem)
    (send_byte t.address d.0 v.address (subst Bytes d.1 v.sent_bytes).0 refl)

in_receive_byte : InRow 2
in_receive_byte t q z v =
    let r = one_of_length t.received v.received_length_lem in
    by_fields 2 t q 0 0 [] (r.0 ∷ []) v.direction v.command (empty_of_length _ v.sent_length_lem) r.1
    (receive_byte t.address r.0 v.address (subst Bytes r.1 v.received_bytes).0 refl)

in_write_byte : InRow 3
in_write_byte t q z v =
    let d = one_of_length t.sent v.sent_length_lem in
    by_fields 3 t q 0 t.command (d.0 ∷ []) [] v.direction refl d.1 (empty_of_length _ v.received_length_lem)
    (write_byte t.address t.command d.0 v.address v.command.0 (subst Bytes d.1 v.sent_bytes).0 refl)

in_write_word : InRow 4
in_write_word t q z v =
    let d = two_of_length t.sent v.sent_length_lem in
    let k = subst Bytes d.2 v.sent_bytes in
    by_fields 4 t q 0 t.command (d.0 ∷ d.1 ∷ []) [] v.direction refl d.2 (empty_of_length _ v.received_length_lem)
    (write_word t.address t.command d.0 d.1 v.address v.command.0 k.0 k.1.0 refl)

in_read_byte : InRow 5
in_read_byte t q z v =
    let r = one_of_length t.received v.received_length_lem in
    by_fields 5 t q 0 t.command [] (r.0 ∷ []) v.direction refl (empty_of_length _ v.sent_length_lem) r.1
    (read_byte t.address t.command r.0 v.address v.command.0 (subst Bytes r.1 v.received_bytes).0 refl)

in_read_word : InRow 6
in_read_word t q z v =
    let r = two_of_length t.received v.received_length_lem in
    let k = subst Bytes r.2 v.received_bytes in
    by_fields 6 t q 0 t.command [] (r.0 ∷ r.1 ∷ []) v.direction refl (empty_of_length _ v.sent_length_lem) r.2
    (read_word t.address t.command r.0 r.1 v.address v.command.0 k.0 k.1.0 refl)

in_process_call : InRow 7
in_process_call t q z v =
    let d = two_of_length t.sent v.sent_length_lem in
    let r = two_of_length t.received v.received_length_lem in
    let k = subst Bytes d.2 v.sent_bytes in
    let j = subst Bytes r.2 v.received_bytes in
    by_fields 7 t q 0 t.command (d.0 ∷ d.1 ∷ []) (r.0 ∷ r.1 ∷ []) v.direction refl d.2 r.2
    (process_call t.address t.command d.0 d.1 r.0 r.1 v.address v.command.0 k.0 k.1.0 j.0 j.1.0 refl)

in_block_write : InRow 8
in_block_write t q z v =
    let u : Message = message t.address 0 t.command t.sent [] in
    by_fields 8 t q 0 t.command t.sent [] v.direction refl refl (empty_of_length _ v.received_length_lem)
    (block_write t.address t.command t.sent v.address v.command.0 v.sent_bytes (omega (arith, v.counts))
    (ap (λ (l : List ℕ). line 8 u (2 * t.address ∷ t.command ∷ length t.sent ∷ l) (by_target (shape_of 8) u q) (by_controller (shape_of 8) u q)) (append-nil t.sent)))

in_block_read : InRow 9
in_block_read t q z v =
    by_fields 9 t q 0 t.command [] t.received v.direction refl (empty_of_length _ v.sent_length_lem) refl
    (block_read t.address t.command t.received v.address v.command.0 v.received_bytes (omega (arith, v.counts)) refl)

in_block_process_call : InRow 10
in_block_process_call t q z v =
    by_fields 10 t q 0 t.command t.sent t.received v.direction refl refl refl
    (block_process_call t.address t.command t.sent t.received v.address v.command.0 v.sent_bytes v.received_bytes v.counts refl)

pub row_of : (p : ℕ) → p < protocols → InRow p
row_of = by_row InRow (in_quick, (in_send_byte, (in_receive_byte, (in_write_byte, (in_write_word, (in_read_byte, (in_read_word, (in_process_call, (in_block_write, (in_block_read, (in_block_process_call, tt)))))))))))

-- so the valid messages of a protocol are those of its lines, and no others
pub valid_exactly : (p : ℕ) → p < protocols → (t : Message) → Valid (shape_of p) t ↔ ((x : Line) × Row [] x × (x.protocol ≡ p) × (x.message ≡ t))
valid_exactly p h t = (λ v. (line_of p t [], row_of p h t [] (λ e. refl) v, refl, refl), back)
  where
    back : (x : Line) × Row [] x × (x.protocol ≡ p) × (x.message ≡ t) → Valid (shape_of p) t
    back (x, r, e, f) = subst (Valid (shape_of p)) f (subst (λ (n : ℕ). Valid (shape_of n) x.message) e (row_means [] x r).valid)

-- ---- the traces of the table are those of the one definition

module _ (p : ℕ) (pec : Bool) (t : Message) (tr : List ℕ) where
  -- a trace of the table is that of a valid message
  pub listed_trace : TraceOf p pec t tr → (p < protocols) × Valid (shape_of p) t × (tr ≡ trace (shape_of p) pec t)
  listed_trace (x, r, e, f, s) =
      let m = row_means (in_place pec (Pec.pec_of x.covered)) x r in
      let k : shape_of x.protocol ≡ shape_of p = ap shape_of e in
      let g : in_place pec (Pec.pec_of x.covered) ≡ in_place pec (pec_of (shape_of x.protocol) x.message) = ap (λ (l : List ℕ). in_place pec (Pec.pec_of l)) m.covers in (
        subst (λ (n : ℕ). n < protocols) e m.known,
        subst (Valid (shape_of p)) f (subst (λ (sh : Shape). Valid sh x.message) k m.valid),
        s ∙ ap₂ (λ (a b : List ℕ). a ++ b) m.target m.controller
            ∙ ap (λ (q : List ℕ). trace_at (shape_of x.protocol) x.message q) g
            ∙ ap₂ (λ (n : ℕ) (u : Message). trace (shape_of n) pec u) e f,
      )

  -- and the trace of a valid message is in the table
  pub trace_listed : p < protocols → (p ≡ 0 → pec ≡ false) → Valid (shape_of p) t → tr ≡ trace (shape_of p) pec t → TraceOf p pec t tr
  trace_listed k z v s =
      (line_of p t (in_place pec (pec_of (shape_of p) t)), row_of p k t (in_place pec (pec_of (shape_of p) t)) (λ e. rw (z e)) v, refl, refl, s)

-- Quick has no PEC
pub quick_plain : (pec : Bool) (y : ℕ) (x : Line) → Row (in_place pec y) x → x.protocol ≡ 0 → pec ≡ false
quick_plain false y x r e = refl
quick_plain true y x r e = zero_is_one (sym (ap length ((row_means (y ∷ []) x r).plain e)))

-- ---- which protocols have a write phase, and which a read phase

pub which_write : map writes shapes ≡ false ∷ true ∷ false ∷ true ∷ true ∷ true ∷ true ∷ true ∷ true ∷ true ∷ true ∷ []
which_write = refl

pub which_read : map reads shapes ≡ false ∷ false ∷ true ∷ false ∷ false ∷ true ∷ true ∷ true ∷ false ∷ true ∷ true ∷ []
which_read = refl
