-- What fits over the table is what fits over the shapes: for a protocol of the table, and Quick without PEC, each word of Fitting holds if and
-- only if the word of the same name in Answers does.
use Rattle.std.specs.Prelude.{◌≡◌, Bool, true, ◌↔◌, ℕ, suc, ◌<◌, take}
use Rattle.std.proofs.Math.Path.{refl}
use Rattle.std.proofs.Common.{sym, ap, ap₂, ◌∙◌, subst, inl, inr, arith}
use Rattle.std.proofs.Math.Bool.{false}
use mathlib.Core.List.{List, [], ◌∷◌, ◌++◌}
use Rattle.lists.specs.Choice.{pick}
use Rattle.lists.specs.Each.{Bytes}
use Rattle.wire.specs.Addresses.{host_address}
use Rattle.pec.specs.Pec as Pec
use Rattle.trace.specs.Shapes.{protocols, shape_of}
use Rattle.trace.proofs.ShapeLaws.{sane, none_to_host}
use Rattle.trace.specs.Table.{Line, Row, line, InTable}
use Rattle.trace.proofs.TableLaws.{row_means, row_of}
use Rattle.trace.specs.Trace.{Message, in_place, bytes, by_target, by_controller, trace_at, Valid}
use Rattle.trace.specs.declared.shape.Shape.{Shape}
use Rattle.step.specs.State.{fresh}
use Rattle.scan.specs.Answers as shaped
use Rattle.scan.proofs.MemberLaws.{fits_back}
use Rattle.scan.specs.Run.{run}
use Rattle.scan.proofs.SwapLaws.{SwappedAt}
use Rattle.scan.specs.BecauseLaws.{Agree}
use Rattle.scan.specs.Fitting.{Whole, CutAt, Member, Fits, Breaks, OtherPec, ToHost, BitSwapped, table_cases}

-- what a line of the table is, by its own protocol
record Known (p : ℕ) (pec : Bool) (y : ℕ) (x : Line) : Type 0 where
  valid : Valid (shape_of p) x.message
  byte : Bytes (in_place pec y)
  covers : x.covered ≡ bytes (shape_of p) x.message
  target : x.by_target ≡ by_target (shape_of p) x.message (in_place pec y)
  controller : x.by_controller ≡ by_controller (shape_of p) x.message (in_place pec y)

one_byte : (pec : Bool) (y : ℕ) → y < 256 → Bytes (in_place pec y)
one_byte true y h = (h, tt)
one_byte false y h = tt

known : (p : ℕ) (pec : Bool) (y : ℕ) (x : Line) → InTable p pec y x → Known p pec y x
known p pec y x (r, e, h) =
    let m = row_means (in_place pec y) x r in
    let k : shape_of x.protocol ≡ shape_of p = ap shape_of e in
    record {
      valid = subst (λ (sh : Shape). Valid sh x.message) k m.valid;
      byte = one_byte pec y h;
      covers = m.covers ∙ ap (λ (sh : Shape). bytes sh x.message) k;
      target = m.target ∙ ap (λ (sh : Shape). by_target sh x.message (in_place pec y)) k;
      controller = m.controller ∙ ap (λ (sh : Shape). by_controller sh x.message (in_place pec y)) k;
    }

-- the line of a valid message, with a byte in PEC's place; without PEC that byte is none, and 0 is taken for it
abbrev placed : Bool → ℕ → ℕ
placed true y = y
placed false y = 0

placed_same : (pec : Bool) (y : ℕ) → in_place pec (placed pec y) ≡ in_place pec y
placed_same true y = refl
placed_same false y = refl

placed_byte : (pec : Bool) (y : ℕ) → Bytes (in_place pec y) → placed pec y < 256
placed_byte true y h = h.0
placed_byte false y h = omega arith

module _ (p : ℕ) (pec : Bool) (k : p < protocols) (z : p ≡ 0 → pec ≡ false) where
  abbrev sh : Shape
  sh = shape_of p

  abbrev line_of : Message → ℕ → Line
  line_of t y = line p t (bytes sh t) (by_target sh t (in_place pec y)) (by_controller sh t (in_place pec y))

  in_table : (t : Message) (y : ℕ) → Valid sh t → Bytes (in_place pec y) → InTable p pec (placed pec y) (line_of t (placed pec y))
  in_table t y v h = (row_of p k t (in_place pec (placed pec y)) (λ e. rw (z e)) v, refl, placed_byte pec y h)

  pub whole_shaped : (tr : List ℕ) → Whole p pec tr ↔ shaped.Whole sh pec tr
  whole_shaped tr = (there, back)
    where
      there : Whole p pec tr → shaped.Whole sh pec tr
      there (y, x, i, e) =
          let w = known p pec y x i in
          record { message = x.message; pec = y; valid = w.valid; byte = w.byte; is = e ∙ ap₂ (λ (a b : List ℕ). a ++ b) w.target w.controller }

      back : shaped.Whole sh pec tr → Whole p pec tr
      back w = (
        placed pec w.pec,
        line_of w.message (placed pec w.pec),
        in_table w.message w.pec w.valid w.byte,
        w.is ∙ ap (λ (q : List ℕ). trace_at sh w.message q) (sym (placed_same pec w.pec)),
      )

  pub cut_shaped : (tr : List ℕ) (b : ℕ) → CutAt p pec tr b ↔ shaped.CutAt sh pec tr b
  cut_shaped tr b = (there, back)
    where
      there : CutAt p pec tr b → shaped.CutAt sh pec tr b
      there c =
          let w = known p pec c.y c.row c.listed in
          record {
            message = c.row.message;
            pec = c.y;
            valid = w.valid;
            byte = w.byte;
            before = c.before;
            after = c.after;
            ack = sym w.target ∙ c.ack;
            is = c.is;
            number = c.number;
          }

      back : shaped.CutAt sh pec tr b → CutAt p pec tr b
      back c =
          record {
            y = placed pec c.pec;
            row = line_of c.message (placed pec c.pec);
            listed = in_table c.message c.pec c.valid c.byte;
            before = c.before;
            after = c.after;
            ack = ap (λ (q : List ℕ). by_target sh c.message q) (placed_same pec c.pec) ∙ c.ack;
            is = c.is;
            number = c.number;
          }

  pub member_shaped : (tr : List ℕ) → Member p pec tr ↔ shaped.Member sh pec tr
  member_shaped tr = (there, back)
    where
      there : Member p pec tr → shaped.Member sh pec tr
      there (inl w) = inl ((whole_shaped tr).0 w)
      there (inr (b, c)) = inr (b, (cut_shaped tr b).0 c)

      back : shaped.Member sh pec tr → Member p pec tr
      back (inl w) = inl ((whole_shaped tr).1 w)
      back (inr (b, c)) = inr (b, (cut_shaped tr b).1 c)

  pub fits_shaped : (tr : List ℕ) → Fits p pec tr ↔ shaped.Fits sh pec tr
  fits_shaped tr = (λ f. (f.0, (member_shaped (tr ++ f.0)).0 f.1), λ f. (f.0, (member_shaped (tr ++ f.0)).1 f.1))

  pub breaks_shaped : (tr : List ℕ) (n : ℕ) → Breaks p pec tr n ↔ shaped.Breaks sh pec tr n
  breaks_shaped tr n = (
    λ b. record { inside = b.inside; before = (fits_shaped (take n tr)).0 b.before; here = λ f. b.here ((fits_shaped (take (suc n) tr)).1 f) },
    λ b. record { inside = b.inside; before = (fits_shaped (take n tr)).1 b.before; here = λ f. b.here ((fits_shaped (take (suc n) tr)).0 f) },
  )

  pub other_pec_shaped : (tr : List ℕ) (n : ℕ) → OtherPec p pec tr n ↔ shaped.OtherPec sh pec tr n
  other_pec_shaped tr n = (there, back)
    where
      there : OtherPec p pec tr n → shaped.OtherPec sh pec tr n
      there (u, (y, x, i, e, d), l) =
          let w = known p pec y x i in
          record {
            used = u;
            message = x.message;
            pec = y;
            valid = w.valid;
            byte = i.2;
            is = e ∙ ap₂ (λ (a b : List ℕ). a ++ b) w.target w.controller ∙ ap (λ (q : Bool). trace_at sh x.message (in_place q y)) u;
            differs = λ s. d (s ∙ sym (ap Pec.pec_of w.covers));
            place = l;
          }

      back : shaped.OtherPec sh pec tr n → OtherPec p pec tr n
      back o =
          let j : in_place pec o.pec ≡ o.pec ∷ [] = ap (λ (q : Bool). in_place q o.pec) o.used in
          let s : placed pec o.pec ≡ o.pec = ap (λ (q : Bool). placed q o.pec) o.used in (
            o.used,
            (
              placed pec o.pec,
              line_of o.message (placed pec o.pec),
              in_table o.message o.pec o.valid (subst Bytes (sym j) (o.byte, tt)),
              o.is ∙ ap (λ (q : List ℕ). trace_at sh o.message q) (sym j ∙ sym (placed_same pec o.pec)),
              λ e. o.differs (sym s ∙ e),
            ),
            o.place,
          )

  -- with the same byte in PEC's place
  pub other_pec_byte : (tr : List ℕ) (n : ℕ) (q : OtherPec p pec tr n) → ((other_pec_shaped tr n).0 q).pec ≡ q.1.0
  unfolding other_pec_shaped
  other_pec_byte tr n q = refl

  pub bit_shaped : (tr : List ℕ) (n : ℕ) → BitSwapped p pec tr n ↔ SwappedAt sh pec tr n
  bit_shaped tr n = (there, back)
    where
      there : BitSwapped p pec tr n → SwappedAt sh pec tr n
      there (h, (y, x, u, s, v, i, o, g, e)) =
          let w = known p pec y x i in
          record {
            message = x.message;
            pec = y;
            valid = w.valid;
            byte = w.byte;
            before = u;
            bit = s;
            after = v;
            own = sym w.controller ∙ o;
            is = g ∙ ap (λ (l : List ℕ). l ++ u) w.target;
            inside = h;
            other = e;
          }

      back : SwappedAt sh pec tr n → BitSwapped p pec tr n
      back c =
          let same = placed_same pec c.pec in (
            c.inside,
            (
              placed pec c.pec,
              line_of c.message (placed pec c.pec),
              c.before,
              c.bit,
              c.after,
              in_table c.message c.pec c.valid c.byte,
              ap (λ (q : List ℕ). by_controller sh c.message q) same ∙ c.own,
              c.is ∙ ap (λ (q : List ℕ). by_target sh c.message q ++ c.before) (sym same),
              c.other,
            ),
          )

  -- the address 0 is one of a protocol that does not go to the host alone
  other_address : sh.tohost ≡ false → ToHost p → ⊥
  unfolding run
  other_address h f =
      let m = fitting_message in
      let t : Message = record { address = 0; direction = m.0.direction; command = m.0.command; sent = m.0.sent; received = m.0.received } in
      let v : Valid sh t = record {
        address = rw h (omega arith);
        direction = m.1.direction;
        command = m.1.command;
        sent_length_lem = m.1.sent_length_lem;
        sent_bytes = m.1.sent_bytes;
        received_length_lem = m.1.received_length_lem;
        received_bytes = m.1.received_bytes;
        counts = m.1.counts;
      } in
      let e = f (in_place false 0) (line p t (bytes sh t) (by_target sh t []) (by_controller sh t [])) (row_of p k t [] (λ q. refl) v) refl in
      omega (arith, e)
    where
      fitting_message : (m : Message) × Valid sh m
      fitting_message = go (fits_back sh (sane p) pec [] fresh refl).1
        where
          go : {tr : List ℕ} → shaped.Member sh pec tr → (m : Message) × Valid sh m
          go (inl w) = (w.message, w.valid)
          go (inr (b, c)) = (c.message, c.valid)

  -- so none of the table goes to the host alone
  pub none_to_host_alone : ToHost p → ⊥
  none_to_host_alone = other_address (none_to_host p)

  pub to_host_shaped : ToHost p ↔ (sh.tohost ≡ true)
  to_host_shaped = (λ f. there sh.tohost refl f, λ h q x r e. at_host h q x r e)
    where
      there : (b : Bool) → sh.tohost ≡ b → ToHost p → b ≡ true
      there true h f = refl
      there false h f = absurd (other_address h f)

      at_host : sh.tohost ≡ true → (q : List ℕ) (x : Line) → Row q x → x.protocol ≡ p → x.message.address ≡ 0x08
      at_host h q x r e =
          let v = subst (λ (n : ℕ). Valid (shape_of n) x.message) e (row_means q x r).valid in
          subst (λ (b : Bool). pick b (x.message.address ≡ host_address) (x.message.address < 128)) h v.address

  -- so a trace is refused for the same reasons
  pub cases_shaped : (tr : List ℕ) → Agree (table_cases p pec tr) (shaped.shape_cases sh pec tr)
  cases_shaped tr = record {
    fits = fits_shaped tr;
    member = member_shaped tr;
    member_to = λ n. member_shaped (take n tr);
    breaks = breaks_shaped tr;
    cut = cut_shaped tr;
    other_pec = other_pec_shaped tr;
    next = λ n y. fits_shaped (take n tr ++ y ∷ []);
    to_host = to_host_shaped;
  }
