-- THE SHAPE STAYS: a trace that differs from that of a message in its command, its data and its PEC alone is whole, and has as many bytes.
use Rattle.std.specs.Prelude.{◌≡◌, refl, Bool, true, false, List, [], ◌∷◌, ◌++◌, ◌⊎◌, ℕ, zero, suc, ◌+◌, ◌-◌, ◌*◌, ◌%◌, ◌≤◌, ◌<◌, length, get_or, set, take, drop}
use Rattle.std.proofs.Common.{sym, ap, ap₂, ◌∙◌, subst, append_assoc, append-nil, inl, inr, arith, length-set, length-append, length-drop, drop_of_length-le, drop-cons, length-take-le, take_all, take-suc, lt-ltb}
use Rattle.std.proofs.lemmas.List.{get_or_at, set_at, set-get_or}
use Rattle.lists.specs.Choice.{pick}
use Rattle.lists.specs.ChoiceLaws.{false_not_true}
use Rattle.lists.specs.EachLaws.{set_bytes}
use Rattle.trace.proofs.LengthLaws.{laid_length}
use Rattle.trace.specs.Sane.{Sane}
use Rattle.trace.proofs.ShapeLaws.{by_row, row_is, sane, none_to_host}
use Rattle.trace.specs.Shapes.{protocols, shape_of, some, is_counted, count_in, writes, reads}
use Rattle.trace.specs.Table.{TraceOf}
use Rattle.trace.proofs.TableLaws.{listed_trace, quick_plain}
use Rattle.trace.specs.Trace.{Message, laid, first_byte, front, bytes, trace_at, LengthOf, counted, Valid}
use Rattle.trace.specs.declared.shape.Part.{Part}
use Rattle.trace.specs.declared.shape.Part.TheVariants.{Nothing, Fixed, Counted}
use Rattle.trace.specs.declared.shape.Shape.{Shape}
use Rattle.scan.specs.BytesIn.{bytes_in}
use Rattle.scan.specs.Fitting.{Whole}
use Rattle.scan.proofs.FittingLaws.{whole_shaped}
use Rattle.scan.proofs.PecByteLaws.{pec_lt}
use Rattle.garbled.specs.Places.{sent_from, MayDiffer, Changed}
use Rattle.garbled.specs.SetLaws.{same_length_of}
use Rattle.garbled.specs.TraceSetLaws.{with_command, with_sent, with_received, head_bytes, front_length, set_command_byte, set_sent_byte, set_pec, set_received_byte}
use Rattle.garbled.specs.WireBytesLaws.{bytes_of_trace}

-- a whole trace with PEC, of a message with so many bytes sent and received
pub record Framed (sh : Shape) (n m : ℕ) (tr : List ℕ) : Type 0 where
  pub message : Message
  pub pec : ℕ
  pub valid : Valid sh message
  pub byte : pec < 256
  pub is : tr ≡ trace_at sh message (pec ∷ [])
  pub as_many_sent : length message.sent ≡ n
  pub as_many_received : length message.received ≡ m

-- ---- the message stays valid

pub reads_some : (least : ℕ) (a : Part) (s : List ℕ) → LengthOf least a s → 0 < length s → some a ≡ true
reads_some least Nothing s h l = absurd (omega (arith, h, l))
reads_some least (Fixed k) s h l = refl
reads_some least Counted s h l = refl

command_valid : (k o : Bool) (c b : ℕ) → k ≡ true → o ≡ false → b < 256 → pick k ((b < 256) × pick o (b % 2 ≡ 0) Unit) (b ≡ 0)
command_valid true true c b e f h = false_not_true (sym f)
command_valid true false c b e f h = (h, tt)
command_valid false o c b e f h = false_not_true e

module _ (sh : Shape) (t : Message) (v : Valid sh t) (b : ℕ) (h : b < 256) where
  valid_command : sh.command ≡ true → sh.tohost ≡ false → Valid sh (with_command t b)
  valid_command e f = record {
    address = v.address;
    direction = v.direction;
    command = command_valid sh.command sh.tohost t.command b e f h;
    sent_length_lem = v.sent_length_lem;
    sent_bytes = v.sent_bytes;
    received_length_lem = v.received_length_lem;
    received_bytes = v.received_bytes;
    counts = v.counts;
  }

  valid_sent : (i : ℕ) → Valid sh (with_sent t (set t.sent i b))
  valid_sent i =
      let l = length-set t.sent i b in
      record {
        address = v.address;
        direction = v.direction;
        command = v.command;
        sent_length_lem = same_length_of sh.least sh.sent t.sent (set t.sent i b) l v.sent_length_lem;
        sent_bytes = set_bytes t.sent i b v.sent_bytes h;
        received_length_lem = v.received_length_lem;
        received_bytes = v.received_bytes;
        counts = subst (λ (n : ℕ). count_in sh.sent n + counted sh.received t.received ≤ sh.most) (sym l) v.counts;
      }

  valid_received : (i : ℕ) → Valid sh (with_received t (set t.received i b))
  valid_received i =
      let l = length-set t.received i b in
      record {
        address = v.address;
        direction = v.direction;
        command = v.command;
        sent_length_lem = v.sent_length_lem;
        sent_bytes = v.sent_bytes;
        received_length_lem = same_length_of sh.least sh.received t.received (set t.received i b) l v.received_length_lem;
        received_bytes = set_bytes t.received i b v.received_bytes h;
        counts = subst (λ (n : ℕ). counted sh.sent t.sent + count_in sh.received n ≤ sh.most) (sym l) v.counts;
      }

-- ---- the first k symbols of one list, and the others of another

module _ (tr tr' : List ℕ) (k : ℕ) (e : length tr' ≡ length tr) (h : k < length tr) where
  first_length : length (take k tr') ≡ k
  first_length = length-take-le k tr' (omega (arith, e, h))

  mixed_length : length (take k tr' ++ drop k tr) ≡ length tr
  mixed_length = omega (arith, length-append (take k tr') (drop k tr), first_length, length-drop k tr, h)

  mixed_is : take k tr' ++ drop k tr ≡ take k tr' ++ get_or tr k 0 ∷ drop (suc k) tr
  mixed_is = ap (λ (l : List ℕ). take k tr' ++ l) (drop-cons tr k 0 h)

  mixed_at : get_or (take k tr' ++ drop k tr) k 0 ≡ get_or tr k 0
  mixed_at = ap (λ (l : List ℕ). get_or l k 0) mixed_is ∙ get_or_at (take k tr') (get_or tr k 0) (drop (suc k) tr) 0 k first_length

  one_more : take (suc k) tr' ++ drop (suc k) tr ≡ set (take k tr' ++ drop k tr) k (get_or tr' k 0)
  one_more =
      ap (λ (l : List ℕ). l ++ drop (suc k) tr) (take-suc tr' k 0 (omega (arith, e, h)))
      ∙ append_assoc (take k tr') (get_or tr' k 0 ∷ []) (drop (suc k) tr)
      ∙ sym (ap (λ (l : List ℕ). set l k (get_or tr' k 0)) mixed_is ∙ set_at (take k tr') (get_or tr k 0) (drop (suc k) tr) (get_or tr' k 0) k first_length)

-- ---- one byte, and any number of them

-- where a byte may be put in a trace of so many symbols, over a shape
abbrev pub Free : Shape → ℕ → ℕ → ℕ → ℕ → Type 0
Free sh n m symbols k =
    ((sh.command ≡ true) × (k ≡ 3)) ⊎ (((i : ℕ) × (i < n) × (k ≡ 1 + 2 * (head_bytes sh + i))) ⊎ ((i : ℕ) × (i ≤ m) × (k + 3 + 2 * i ≡ symbols)))

module _ (sh : Shape) (o : sh.tohost ≡ false) (n m : ℕ) where
  framed_set : (b : ℕ) → b < 256 → (tr : List ℕ) (k : ℕ) → Framed sh n m tr → Free sh n m (length tr) k → Framed sh n m (set tr k b)
  framed_set b h tr k f (inl (c, e)) =
      let t = f.message in
      record {
        message = with_command t b;
        pec = f.pec;
        valid = valid_command sh t f.valid b h c o;
        byte = f.byte;
        is = ap₂ (λ (l : List ℕ) (i : ℕ). set l i b) f.is e ∙ set_command_byte sh t (f.pec ∷ []) b c;
        as_many_sent = f.as_many_sent;
        as_many_received = f.as_many_received;
      }
  framed_set b h tr k f (inr (inl (i, l, e))) =
      let t = f.message in
      record {
        message = with_sent t (set t.sent i b);
        pec = f.pec;
        valid = valid_sent sh t f.valid b h i;
        byte = f.byte;
        is = ap₂ (λ (l : List ℕ) (i : ℕ). set l i b) f.is e ∙ set_sent_byte sh t (f.pec ∷ []) i b (omega (arith, l, f.as_many_sent));
        as_many_sent = length-set t.sent i b ∙ f.as_many_sent;
        as_many_received = f.as_many_received;
      }
  framed_set b h tr k f (inr (inr (zero, l, e))) =
      let t = f.message in
      record {
        message = t;
        pec = b;
        valid = f.valid;
        byte = h;
        is = ap (λ (l : List ℕ). set l k b) f.is ∙ set_pec sh t f.pec b k (omega (arith, e, ap length f.is));
        as_many_sent = f.as_many_sent;
        as_many_received = f.as_many_received;
      }
  framed_set b h tr k f (inr (inr (suc i, l, e))) =
      let t = f.message in
      let j = length t.received - suc i in
      let p : j < length t.received = omega (arith, l, f.as_many_received) in
      let s : k + 3 + 2 * (length t.received - j) ≡ length (trace_at sh t (f.pec ∷ [])) = omega (arith, e, l, f.as_many_received, ap length f.is) in
      record {
        message = with_received t (set t.received j b);
        pec = f.pec;
        valid = valid_received sh t f.valid b h j;
        byte = f.byte;
        is = ap (λ (l : List ℕ). set l k b) f.is ∙ set_received_byte sh t f.pec j b k (reads_some sh.least sh.received t.received f.valid.received_length_lem (omega (arith, l, f.as_many_received))) p s;
        as_many_sent = f.as_many_sent;
        as_many_received = length-set t.received j b ∙ f.as_many_received;
      }

  -- all of them: the first k symbols have come, and the others are as they were
  framed_mixed : (tr tr' : List ℕ) → length tr' ≡ length tr → Framed sh n m tr
      → ((k : ℕ) → k < length tr → (get_or tr' k 0 ≡ get_or tr k 0) ⊎ (Free sh n m (length tr) k × (get_or tr' k 0 < 256)))
      → (k : ℕ) → k ≤ length tr → Framed sh n m (take k tr' ++ drop k tr)
  framed_mixed tr tr' e f c zero h = f
  framed_mixed tr tr' e f c (suc k) h =
      let r = framed_mixed tr tr' e f c k (omega (arith, h)) in
      subst (Framed sh n m) (sym (one_more tr tr' k e h)) (go r (c k h))
    where
      go : Framed sh n m (take k tr' ++ drop k tr) → (get_or tr' k 0 ≡ get_or tr k 0) ⊎ (Free sh n m (length tr) k × (get_or tr' k 0 < 256)) → Framed sh n m (set (take k tr' ++ drop k tr) k (get_or tr' k 0))
      go r (inl q) = subst (Framed sh n m) (sym (ap (set (take k tr' ++ drop k tr) k) (q ∙ sym (mixed_at tr tr' k e h)) ∙ set-get_or (take k tr' ++ drop k tr) k 0)) r
      go r (inr (p, b)) = framed_set (get_or tr' k 0) b (take k tr' ++ drop k tr) k r (subst (λ (l : ℕ). Free sh n m l k) (sym (mixed_length tr tr' k e h)) p)

-- ---- as many bytes

rest_size : (r w : Bool) (f : ℕ) (xs : List ℕ) → length (pick r (pick w ((f + 1) ∷ []) [] ++ xs) []) ≡ pick r (pick w 1 0 + length xs) 0
rest_size true true f xs = omega arith
rest_size true false f xs = omega arith
rest_size false w f xs = refl

-- the bytes of a framed trace, counted
framed_bytes : (sh : Shape) → Sane sh → (n m : ℕ) (tr : List ℕ) → Framed sh n m tr
    → length (bytes_in tr) ≡ head_bytes sh + n + pick (reads sh) (pick (writes sh) 1 0 + (pick (is_counted sh.received) 1 0 + m)) 0 + 1
framed_bytes sh hs n m tr f =
    let t = f.message in
    ap (λ (l : List ℕ). length (bytes_in l)) f.is
    ∙ ap length (bytes_of_trace sh hs t f.valid f.pec f.byte)
    ∙ length-append (bytes sh t) (f.pec ∷ [])
    ∙ ap (λ (k : ℕ). k + 1)
    (length-append (front sh t) _
    ∙ ap₂ (λ (a b : ℕ). a + b) (front_length sh t ∙ ap (λ (k : ℕ). head_bytes sh + k) f.as_many_sent)
    (rest_size (reads sh) (writes sh) (first_byte sh t) (laid sh.received t.received)
    ∙ ap (λ (k : ℕ). pick (reads sh) (pick (writes sh) 1 0 + k) 0) (laid_length sh.received t.received ∙ ap (λ (k : ℕ). pick (is_counted sh.received) 1 0 + k) f.as_many_received)))

-- ---- over the table

-- where data are sent, they begin where the shape has them
pub sent_from_lem : (protocol : ℕ) → protocol < protocols → some (shape_of protocol).sent ≡ true → sent_from protocol ≡ 1 + 2 * head_bytes (shape_of protocol)
sent_from_lem =
    by_row (λ (p : ℕ). some (shape_of p).sent ≡ true → sent_from p ≡ 1 + 2 * head_bytes (shape_of p))
    (λ e. false_not_true e, (λ e. refl, (λ e. false_not_true e, (λ e. refl, (λ e. refl, (λ e. false_not_true e, (λ e. false_not_true e, (λ e. refl, (λ e. refl, (λ e. false_not_true e, (λ e. refl, tt)))))))))))

module _ (protocol : ℕ) (t : Message) (tr : List ℕ) (w : TraceOf protocol true t tr) where
  abbrev sh : Shape
  sh = shape_of protocol

  known : protocol < protocols
  known = (listed_trace protocol true t tr w).0

  valid : Valid sh t
  valid = (listed_trace protocol true t tr w).1

  -- its own trace is one
  framed : Framed sh (length t.sent) (length t.received) tr
  framed = record {
    message = t;
    pec = _;
    valid = valid;
    byte = pec_lt sh (sane protocol) t valid;
    is = (listed_trace protocol true t tr w).2;
    as_many_sent = refl;
    as_many_received = refl;
  }

  free_place : (k : ℕ) → MayDiffer protocol t (length tr) k → Free sh (length t.sent) (length t.received) (length tr) k
  free_place k (inl (h, e)) = inl ((row_is protocol known).1 ∙ lt-ltb 2 protocol h, e)
  free_place k (inr (inl (i, l, e))) =
      inr (inl (i, l, (let s = sent_from_lem protocol known (reads_some sh.least sh.sent t.sent valid.sent_length_lem (omega (arith, l))) in omega (arith, e, s))))
  free_place k (inr (inr (i, l, e))) = inr (inr (i, omega (arith, l), e))

  -- no Quick has a PEC
  no_quick : protocol ≡ 0 → true ≡ false
  no_quick e = quick_plain true _ w.0 w.1 (w.2 ∙ e)

  pub stays : (tr' : List ℕ) → Changed protocol t tr tr' → Whole protocol true tr' × (length (bytes_in tr') ≡ length (bytes_in tr))
  stays tr' c =
      let f = subst (Framed sh (length t.sent) (length t.received)) all_came
      (framed_mixed sh (none_to_host protocol) (length t.sent) (length t.received) tr tr' c.as_long framed (λ k h. free k (c.places k h)) (length tr) (omega arith)) in (
        (whole_shaped protocol true known no_quick tr').1 (record { message = f.message; pec = f.pec; valid = f.valid; byte = (f.byte, tt); is = f.is }),
        framed_bytes sh (sane protocol) _ _ tr' f ∙ sym (framed_bytes sh (sane protocol) _ _ tr framed),
      )
    where
      all_came : take (length tr) tr' ++ drop (length tr) tr ≡ tr'
      all_came =
          ap₂ (λ (x y : List ℕ). x ++ y) (take_all (length tr) tr' (omega (arith, c.as_long))) (drop_of_length-le tr {i = length tr} (omega arith))
          ∙ append-nil tr'

      free : (k : ℕ) → (get_or tr' k 0 ≡ get_or tr k 0) ⊎ (MayDiffer protocol t (length tr) k × (get_or tr' k 0 < 256))
          → (get_or tr' k 0 ≡ get_or tr k 0) ⊎ (Free sh (length t.sent) (length t.received) (length tr) k × (get_or tr' k 0 < 256))
      free k (inl e) = inl e
      free k (inr (p, b)) = inr (free_place k p, b)
