-- What the decoder reads to the end, the encoder can write: it is the trace of a valid message, with some byte in PEC's place.
-- By the languages of suffixes: Lang d tr says of what form tr is if it leads from the state d to the end.
use Rattle.std.specs.Prelude.{◌≡◌, refl, Bool, true, false, List, [], ◌∷◌, ◌++◌, ℕ, suc, ◌+◌, ◌-◌, ◌*◌, ◌≤◌, ◌<◌, ◌%◌, ◌/◌, length, T, ltb, leb, eqb, Ok, Err}
use Rattle.std.proofs.Common.{sym, ◌∙◌, ap, ap₂, subst, arith, eqb-true, leb-true, ltb-true}
use Rattle.std.proofs.lemmas.Bool.{eqb-false}
use Rattle.lists.specs.Choice.{pick, or}
use Rattle.lists.specs.ChoiceLaws.{false_not_true, both_true}
use Rattle.lists.specs.Each.{Bytes}
use Rattle.wire.specs.Symbols.{START, STOP, ACK, NACK}
use Rattle.trace.specs.declared.shape.Part.{Part}
use Rattle.trace.specs.declared.shape.Part.TheVariants.{Nothing, Fixed, Counted}
use Rattle.trace.specs.declared.shape.Shape.{Shape}
use Rattle.trace.specs.Shapes.{some, writes, reads, least_of}
use Rattle.trace.specs.Trace.{Message, W, R, laid, acked, ack_of, nacked, first_byte, in_place, LengthOf, counted}
use Rattle.trace.specs.Allowed.{address_fits}
use Rattle.trace.specs.Sane.{Sane}
use Rattle.trace.proofs.ValidLaws.{address_back, sender_back}
use Rattle.step.specs.declared.state.Slot.{Slot}
use Rattle.step.specs.declared.state.Slot.TheVariants.{Start, First, Command, Count, Data, Pec, Restart, Second, ReadCount, ReadData, ReadPec, Stop, End}
use Rattle.step.specs.declared.state.Due.{Due}
use Rattle.step.specs.declared.state.Due.TheVariants.{Nobody, Target, Controller, Halted, Cut}
use Rattle.step.specs.declared.state.Decoder.{Decoder}
use Rattle.step.specs.State.{to, fresh}
use Rattle.step.specs.Next.{after_read, to_read_data, to_read, after_write, to_data, to_sent}
use Rattle.step.specs.Fits.{ack_at, first_fits, command_fits, count_fits, fits_slot, fits_due, fits}
use Rattle.step.specs.Move.{move_slot, move_due, move}
use Rattle.scan.specs.Refusal.{why}
use Rattle.scan.specs.Run.{run, direction_of}
use Rattle.scan.specs.Answers.{Whole}
use Rattle.std.proofs.Math.Nat.{mod-eq_of_lt}
use Rattle.scan.specs.Joined.{after, joined}
use Rattle.scan.specs.JoinedLaws.{trace_joined}
use Rattle.scan.proofs.RunLaws.{refused_not_reading, same_state}
use Rattle.scan.proofs.ForwardLaws.{ack_is}

-- the count of a counted part, else what stood there
abbrev count_or : Part → List ℕ → ℕ → ℕ
count_or Nothing s m = m
count_or (Fixed k) s m = m
count_or Counted s m = length s

-- data of k bytes received, PEC, STOP
record BackL (p : Bool) (k : ℕ) (tr : List ℕ) : Type 0 where
  r : List ℕ
  y : ℕ
  len : length r ≡ k
  bytes : Bytes r
  pec : Bytes (in_place p y)
  is : tr ≡ nacked (r ++ in_place p y) ++ STOP ∷ []

-- the same after the address byte of a read
record ReadL (sh : Shape) (p : Bool) (a : Part) (m : ℕ) (tr : List ℕ) : Type 0 where
  r : List ℕ
  y : ℕ
  len : LengthOf sh.least a r
  room : counted a r ≤ sh.most - m
  bytes : Bytes r
  pec : Bytes (in_place p y)
  is : tr ≡ nacked (laid a r ++ in_place p y) ++ STOP ∷ []

record AfterL (sh : Shape) (p : Bool) (a : Part) (w : Bool) (m f : ℕ) (tr : List ℕ) : Type 0 where
  r : List ℕ
  y : ℕ
  len : LengthOf sh.least a r
  room : counted a r ≤ sh.most - m
  bytes : Bytes r
  pec : Bytes (in_place p y)
  is : tr ≡ after a w ((f + 1) % 256) r (in_place p y)

-- data of k bytes sent, and what follows
record OutL (sh : Shape) (p : Bool) (k m f : ℕ) (tr : List ℕ) : Type 0 where
  s : List ℕ
  on : List ℕ
  len : length s ≡ k
  bytes : Bytes s
  is : tr ≡ acked s ++ on
  then : AfterL sh p sh.received (writes sh) m f on

record SentL (sh : Shape) (p : Bool) (a : Part) (m f : ℕ) (tr : List ℕ) : Type 0 where
  s : List ℕ
  on : List ℕ
  len : LengthOf sh.least a s
  small : counted a s ≤ sh.most
  bytes : Bytes s
  is : tr ≡ acked (laid a s) ++ on
  then : AfterL sh p sh.received (writes sh) (count_or a s m) f on

record CommandL (sh : Shape) (p : Bool) (m f : ℕ) (tr : List ℕ) : Type 0 where
  c : ℕ
  on : List ℕ
  fit : command_fits sh c ≡ true
  is : tr ≡ c ∷ ACK ∷ on
  then : SentL sh p sh.sent m f on

record FirstL (sh : Shape) (p : Bool) (m : ℕ) (tr : List ℕ) : Type 0 where
  f : ℕ
  on : List ℕ
  fit : first_fits sh f ≡ true
  is : tr ≡ f ∷ ACK ∷ on
  then : pick sh.command (CommandL sh p m f on) (SentL sh p sh.sent m f on)

record Ahead (x : ℕ) (L : List ℕ → Type 0) (tr : List ℕ) : Type 0 where
  on : List ℕ
  is : tr ≡ x ∷ on
  then : L on

-- a byte, a symbol, STOP
record PecL (w : ℕ) (tr : List ℕ) : Type 0 where
  y : ℕ
  byte : y < 256
  is : tr ≡ y ∷ w ∷ STOP ∷ []

abbrev LangS : Shape → Bool → Slot → ℕ → ℕ → ℕ → List ℕ → Type 0
LangS sh p Start k m f tr = Ahead START (FirstL sh p m) tr
LangS sh p First k m f tr = FirstL sh p m tr
LangS sh p Command k m f tr = CommandL sh p m f tr
LangS sh p Count k m f tr = SentL sh p Counted m f tr
LangS sh p Data k m f tr = OutL sh p (suc k) m f tr
LangS sh p Pec k m f tr = PecL ACK tr
LangS sh p Restart k m f tr = Ahead START (Ahead ((f + 1) % 256) (Ahead ACK (ReadL sh p sh.received m))) tr
LangS sh p Second k m f tr = Ahead ((f + 1) % 256) (Ahead ACK (ReadL sh p sh.received m)) tr
LangS sh p ReadCount k m f tr = ReadL sh p Counted m tr
LangS sh p ReadData k m f tr = BackL p (suc k) tr
LangS sh p ReadPec k m f tr = PecL NACK tr
LangS sh p Stop k m f tr = tr ≡ STOP ∷ []
LangS sh p End k m f tr = tr ≡ []

abbrev LangD : Shape → Bool → Due → Slot → ℕ → ℕ → ℕ → List ℕ → Type 0
LangD sh p Nobody s k m f tr = LangS sh p s k m f tr
LangD sh p Target s k m f tr = Ahead ACK (LangS sh p s k m f) tr
LangD sh p Controller s k m f tr = Ahead (ack_at s) (LangS sh p s k m f) tr
LangD sh p Halted s k m f tr = ⊥
LangD sh p Cut s k m f tr = ⊥

abbrev Lang : Shape → Bool → Decoder → List ℕ → Type 0
Lang sh p d tr = LangD sh p d.due d.slot d.left d.sentcount d.first tr

one_more : (k : ℕ) → (k ≡ 0 → ⊥) → suc (k - 1) ≡ k
one_more k h = omega arith

zero_le : (n : ℕ) → 0 ≤ n
zero_le n = omega arith

-- the aims
back_aim : (sh : Shape) (p : Bool) (k m f : ℕ) (tr : List ℕ) → LangS sh p (to_read_data p k).slot (to_read_data p k).left m f tr → BackL p k tr
back_aim sh p k m f tr = go p (eqb k 0) refl
  where
    go : (p b : Bool) → eqb k 0 ≡ b → LangS sh p (pick b (after_read p) (to ReadData (k - 1))).slot (pick b (after_read p) (to ReadData (k - 1))).left m f tr → BackL p k tr
    go true true e l = record { r = []; y = l.y; len = sym (eqb-true k 0 e); bytes = tt; pec = (l.byte, tt); is = l.is }
    go false true e l = record { r = []; y = 0; len = sym (eqb-true k 0 e); bytes = tt; pec = tt; is = l }
    go true false e l = subst (λ (j : ℕ). BackL true j tr) (one_more k (eqb-false k 0 e)) l
    go false false e l = subst (λ (j : ℕ). BackL false j tr) (one_more k (eqb-false k 0 e)) l

read_aim : (sh : Shape) (p : Bool) (a : Part) (m f : ℕ) (tr : List ℕ) → LangS sh p (to_read a p).slot (to_read a p).left m f tr → ReadL sh p a m tr
read_aim sh true Nothing m f tr l = record { r = []; y = l.y; len = refl; room = zero_le (sh.most - m); bytes = tt; pec = (l.byte, tt); is = l.is }
read_aim sh false Nothing m f tr l = record { r = []; y = 0; len = refl; room = zero_le (sh.most - m); bytes = tt; pec = tt; is = l }
read_aim sh p (Fixed k) m f tr l =
    let b = back_aim sh p k m f tr l in
    record { r = b.r; y = b.y; len = b.len; room = zero_le (sh.most - m); bytes = b.bytes; pec = b.pec; is = b.is }
read_aim sh p Counted m f tr l = l

T_true : (b : Bool) → T b → b ≡ true
T_true true t = refl
T_true false t = absurd t

turned : (sh : Shape) (p : Bool) (a : Part) (m f : ℕ) (tr : List ℕ) → T (some a) → sh.received ≡ a
    → LangS sh p Restart 0 m f tr → AfterL sh p a true m f tr
turned sh p a m f tr so e l =
    let q = subst (λ (b : Part). ReadL sh p b m l.then.then.on) e l.then.then.then in
    record { r = q.r; y = q.y; len = q.len; room = q.room; bytes = q.bytes; pec = q.pec; is = rw (T_true (some a) so) (cc (l.is, l.then.is, l.then.then.is, q.is)) }

plain : (sh : Shape) (p : Bool) (a : Part) (m f : ℕ) (tr : List ℕ) → T (some a) → ReadL sh p a m tr → AfterL sh p a false m f tr
plain sh p a m f tr so l =
    record { r = l.r; y = l.y; len = l.len; room = l.room; bytes = l.bytes; pec = l.pec; is = rw (T_true (some a) so) l.is }

after_aim : (sh : Shape) (p : Bool) (a : Part) (w : Bool) (m f : ℕ) (tr : List ℕ) → sh.received ≡ a
    → LangS sh p (pick (some a) (pick w (to Restart 0) (to_read a p)) (to (pick p Pec Stop) 0)).slot
    (pick (some a) (pick w (to Restart 0) (to_read a p)) (to (pick p Pec Stop) 0)).left m f tr
    → AfterL sh p a w m f tr
after_aim sh true Nothing w m f tr e l = record { r = []; y = l.y; len = refl; room = zero_le (sh.most - m); bytes = tt; pec = (l.byte, tt); is = l.is }
after_aim sh false Nothing w m f tr e l = record { r = []; y = 0; len = refl; room = zero_le (sh.most - m); bytes = tt; pec = tt; is = l }
after_aim sh p (Fixed k) true m f tr e l = turned sh p (Fixed k) m f tr tt e l
after_aim sh p (Fixed k) false m f tr e l = plain sh p (Fixed k) m f tr tt (read_aim sh p (Fixed k) m f tr l)
after_aim sh p Counted true m f tr e l = turned sh p Counted m f tr tt e l
after_aim sh p Counted false m f tr e l = plain sh p Counted m f tr tt (read_aim sh p Counted m f tr l)

data_aim : (sh : Shape) (p : Bool) (k m f : ℕ) (tr : List ℕ) → LangS sh p (to_data sh p k).slot (to_data sh p k).left m f tr → OutL sh p k m f tr
data_aim sh p k m f tr = go (eqb k 0) refl
  where
    go : (b : Bool) → eqb k 0 ≡ b → LangS sh p (pick b (after_write sh p) (to Data (k - 1))).slot (pick b (after_write sh p) (to Data (k - 1))).left m f tr → OutL sh p k m f tr
    go true e l = record { s = []; on = tr; len = sym (eqb-true k 0 e); bytes = tt; is = refl; then = after_aim sh p sh.received (writes sh) m f tr refl l }
    go false e l = subst (λ (j : ℕ). OutL sh p j m f tr) (one_more k (eqb-false k 0 e)) l

sent_aim : (sh : Shape) (p : Bool) (a : Part) (m f : ℕ) (tr : List ℕ) → LangS sh p (to_sent sh p a).slot (to_sent sh p a).left m f tr → SentL sh p a m f tr
sent_aim sh p Nothing m f tr l =
    record { s = []; on = tr; len = refl; small = zero_le sh.most; bytes = tt; is = refl; then = after_aim sh p sh.received (writes sh) m f tr refl l }
sent_aim sh p (Fixed k) m f tr l =
    let o = data_aim sh p k m f tr l in
    record { s = o.s; on = o.on; len = o.len; small = zero_le sh.most; bytes = o.bytes; is = o.is; then = o.then }
sent_aim sh p Counted m f tr l = l

first_aim : (sh : Shape) (p b : Bool) (m f : ℕ) (tr : List ℕ)
    → LangS sh p (pick b (to Command 0) (to_sent sh p sh.sent)).slot (pick b (to Command 0) (to_sent sh p sh.sent)).left m f tr
    → pick b (CommandL sh p m f tr) (SentL sh p sh.sent m f tr)
first_aim sh p true m f tr l = l
first_aim sh p false m f tr l = sent_aim sh p sh.sent m f tr l

-- what the tests say
pub byte_back : {x : ℕ} → ltb x 256 ≡ true → x < 256
byte_back {x} h = ltb-true x 256 h

pub count_back : (sh : Shape) (k x : ℕ) → count_fits sh k x ≡ true → (sh.least ≤ x) × (x ≤ sh.most - k)
count_back sh k x h = let b = both_true (leb sh.least x) _ h in (leb-true sh.least x b.0, leb-true x (sh.most - k) b.1)

-- where a symbol fits at its slot, the low byte that is taken is the symbol
pub slot_low : (sh : Shape) → Sane sh → (p : Bool) (s : Slot) (d : Decoder) (x : ℕ) → fits_slot sh s d x ≡ true → move_slot sh p s d (x % 256) ≡ move_slot sh p s d x
slot_low sh hs p Start d x h = refl
slot_low sh hs p First d x h = ap (move_slot sh p First d) (mod-eq_of_lt (byte_back (both_true (ltb x 256) _ h).0))
slot_low sh hs p Command d x h = ap (move_slot sh p Command d) (mod-eq_of_lt (byte_back (both_true (ltb x 256) _ h).0))
slot_low sh hs p Count d x h = let b = count_back sh _ x h in ap (move_slot sh p Count d) (mod-eq_of_lt (omega (arith, b.1, hs.most_byte)))
slot_low sh hs p Data d x h = ap (move_slot sh p Data d) (mod-eq_of_lt (byte_back h))
slot_low sh hs p Pec d x h = ap (move_slot sh p Pec d) (mod-eq_of_lt (byte_back h))
slot_low sh hs p Restart d x h = refl
slot_low sh hs p Second d x h = let l = eqb-true x ((d.first + 1) % 256) h in ap (move_slot sh p Second d) (omega arith)
slot_low sh hs p ReadCount d x h = let b = count_back sh _ x h in ap (move_slot sh p ReadCount d) (mod-eq_of_lt (omega (arith, b.1, hs.most_byte)))
slot_low sh hs p ReadData d x h = ap (move_slot sh p ReadData d) (mod-eq_of_lt (byte_back h))
slot_low sh hs p ReadPec d x h = ap (move_slot sh p ReadPec d) (mod-eq_of_lt (byte_back h))
slot_low sh hs p Stop d x h = refl
slot_low sh hs p End d x h = refl

-- one symbol back
read_is : (p : Bool) (k : ℕ) (r : List ℕ) (y : ℕ) (xs on : List ℕ) → length r ≡ k → xs ≡ ack_at (to_read_data p k).slot ∷ on
    → on ≡ nacked (r ++ in_place p y) ++ STOP ∷ [] → xs ≡ ack_of (r ++ in_place p y) ∷ (nacked (r ++ in_place p y) ++ STOP ∷ [])
read_is p k r y xs on e h g = rw (ack_is p r y, e, h, g)

at_most : (x n k most : ℕ) → x ≤ most - k → n ≡ x → n ≤ most
at_most x n k most h e = omega arith

at_least : (x n least : ℕ) → least ≤ x → n ≡ x → least ≤ n
at_least x n least h e = omega arith

module _ (sh : Shape) (hs : Sane sh) (p : Bool) (d : Decoder) (x : ℕ) (xs : List ℕ) where
  slot_back : (s : Slot) → fits_slot sh s d x ≡ true → Lang sh p (move_slot sh p s d x) xs → LangS sh p s d.left d.sentcount d.first (x ∷ xs)
  slot_back Start h l = record { on = xs; is = ap (λ (n : ℕ). n ∷ xs) (eqb-true x START h); then = l }
  slot_back First h l = record { f = x; on = l.on; fit = h; is = ap (◌∷◌ x) l.is; then = first_aim sh p sh.command d.sentcount x l.on l.then }
  slot_back Command h l =
      record { c = x; on = l.on; fit = h; is = ap (◌∷◌ x) l.is; then = sent_aim sh p sh.sent d.sentcount d.first l.on l.then }
  slot_back Count h l =
      let o = data_aim sh p x x d.first l.on l.then in
      let b = count_back sh (least_of sh.received sh.least) x h in
      record { s = o.s; on = o.on; len = at_least x (length o.s) sh.least b.0 o.len; small = at_most x (length o.s) _ sh.most b.1 o.len; bytes = o.bytes; is = rw o.len (cc (l.is, o.is)); then = rw o.len o.then }
  slot_back Data h l =
      let o = data_aim sh p d.left d.sentcount d.first l.on l.then in
      record { s = x ∷ o.s; on = o.on; len = ap suc o.len; bytes = (byte_back h, o.bytes); is = cc (l.is, o.is); then = o.then }
  slot_back Pec h l = record { y = x; byte = byte_back h; is = cc (l.is, l.then) }
  slot_back Restart h l = record { on = xs; is = ap (λ (n : ℕ). n ∷ xs) (eqb-true x START h); then = l }
  slot_back Second h l =
      record { on = xs; is = ap (λ (n : ℕ). n ∷ xs) (eqb-true x ((d.first + 1) % 256) h); then = record { on = l.on; is = l.is; then = read_aim sh p sh.received d.sentcount d.first l.on l.then } }
  slot_back ReadCount h l =
      let b = back_aim sh p x d.sentcount d.first l.on l.then in
      let k = count_back sh d.sentcount x h in
      record { r = b.r; y = b.y; len = at_least x (length b.r) sh.least k.0 b.len; room = rw b.len k.1; bytes = b.bytes; pec = b.pec; is = ap₂ ◌∷◌ (sym b.len) (read_is p x b.r b.y xs l.on b.len l.is b.is) }
  slot_back ReadData h l =
      let b = back_aim sh p d.left d.sentcount d.first l.on l.then in
      record { r = x ∷ b.r; y = b.y; len = ap suc b.len; bytes = (byte_back h, b.bytes); pec = b.pec; is = ap (◌∷◌ x) (read_is p d.left b.r b.y xs l.on b.len l.is b.is) }
  slot_back ReadPec h l = record { y = x; byte = byte_back h; is = cc (l.is, l.then) }
  slot_back Stop h l = ap₂ ◌∷◌ (eqb-true x STOP h) l
  slot_back End h l = false_not_true h

  due_back : (a : Due) → fits_due sh a d x ≡ true → Lang sh p (move_due sh p a d x) xs → LangD sh p a d.slot d.left d.sentcount d.first (x ∷ xs)
  due_back Nobody h l = slot_back d.slot h (subst (λ (u : Decoder). Lang sh p u xs) (slot_low sh hs p d.slot d x h) l)
  due_back Target h l = go (eqb x ACK) refl l
    where
      go : (b : Bool) → eqb x ACK ≡ b → LangD sh p (pick b Nobody Halted) d.slot d.left d.sentcount d.first xs → LangD sh p Target d.slot d.left d.sentcount d.first (x ∷ xs)
      go true e l = record { on = xs; is = ap (λ (n : ℕ). n ∷ xs) (eqb-true x ACK e); then = l }
      go false e l = absurd l
  due_back Controller h l = record { on = xs; is = ap (λ (n : ℕ). n ∷ xs) (eqb-true x (ack_at d.slot) h); then = l }
  due_back Halted h l = l
  due_back Cut h l = l

-- a trace that leads to the end is in the state's language
run_in_lang : (sh : Shape) → Sane sh → (p : Bool) (tr : List ℕ) (d e : Decoder) (i : ℕ) → run sh p d i tr ≡ Ok e → e.slot ≡ End → e.due ≡ Nobody → Lang sh p d tr
unfolding run
run_in_lang sh hs p [] d e i q s g = subst (λ (u : Decoder). Lang sh p u []) (sym (same_state q)) (rw (g, s))
run_in_lang sh hs p (x ∷ xs) d e i q s g = go (fits sh d x) refl q (λ k. run_in_lang sh hs p xs (move sh p d x) e (suc i) k s g)
  where
    go : (b : Bool) → fits sh d x ≡ b → pick b (run sh p (move sh p d x) (suc i) xs) (Err (why sh d i x)) ≡ Ok e
        → (run sh p (move sh p d x) (suc i) xs ≡ Ok e → Lang sh p (move sh p d x) xs) → Lang sh p d (x ∷ xs)
    go true h q ih = due_back sh hs p d x xs d.due h (ih q)
    go false h q ih = absurd (refused_not_reading q)

record HeadL (sh : Shape) (p b : Bool) (m f : ℕ) (tr : List ℕ) : Type 0 where
  c : ℕ
  s : List ℕ
  on : List ℕ
  command : pick b ((c < 256) × pick sh.tohost (c % 2 ≡ 0) Unit) (c ≡ 0)
  len : LengthOf sh.least sh.sent s
  small : counted sh.sent s ≤ sh.most
  bytes : Bytes s
  is : tr ≡ acked (pick b (c ∷ []) [] ++ laid sh.sent s) ++ on
  then : AfterL sh p sh.received (writes sh) (count_or sh.sent s m) f on

head_of : (sh : Shape) (p b : Bool) (m f : ℕ) (tr : List ℕ) → pick b (CommandL sh p m f tr) (SentL sh p sh.sent m f tr) → HeadL sh p b m f tr
head_of sh p true m f tr l =
    let s = l.then in
    let b = both_true (ltb l.c 256) _ l.fit in
    record { c = l.c; s = s.s; on = s.on; command = (byte_back b.0, sender_back sh.tohost l.c b.1); len = s.len; small = s.small; bytes = s.bytes; is = cc (l.is, s.is); then = s.then }
head_of sh p false m f tr l = record { c = 0; s = l.s; on = l.on; command = refl; len = l.len; small = l.small; bytes = l.bytes; is = l.is; then = l.then }

count_is : (a : Part) (s : List ℕ) → count_or a s 0 ≡ counted a s
count_is Nothing s = refl
count_is (Fixed k) s = refl
count_is Counted s = refl

-- the address, the direction and the address byte for reading, out of the first byte
first_is : (w r : Bool) (f : ℕ) → pick w (eqb (f % 2) 0) (pick r (eqb (f % 2) 1) true) ≡ true
    → pick w (W (f / 2)) (pick r (R (f / 2)) (2 * (f / 2) + pick w 0 (pick r 0 (f % 2)))) ≡ f
first_is true r f h = let e : f % 2 ≡ 0 = eqb-true (f % 2) 0 h in omega arith
first_is false true f h = let e : f % 2 ≡ 1 = eqb-true (f % 2) 1 h in omega arith
first_is false false f h = omega arith

direction_is_lem : (w r : Bool) (f : ℕ) → pick (or w r) (pick w 0 (pick r 0 (f % 2)) ≡ 0) (pick w 0 (pick r 0 (f % 2)) ≤ 1)
direction_is_lem true r f = refl
direction_is_lem false true f = refl
direction_is_lem false false f = omega arith

second_is : (a : Part) (w r : Bool) (f : ℕ) (b q : List ℕ) → f < 256 → pick w (eqb (f % 2) 0) (pick r (eqb (f % 2) 1) true) ≡ true
    → after a w ((f + 1) % 256) b q ≡ after a w (f + 1) b q
second_is a true r f b q h e =
    let g : f % 2 ≡ 0 = eqb-true (f % 2) 0 e in
    let k : (f + 1) % 256 ≡ f + 1 = omega arith in
    ap (λ (n : ℕ). after a true n b q) k
second_is a false r f b q h e = refl

pub ended_is_whole : (sh : Shape) → Sane sh → (p : Bool) (tr : List ℕ) (e : Decoder) (i : ℕ) → run sh p fresh i tr ≡ Ok e → e.slot ≡ End → e.due ≡ Nobody → Whole sh p tr
ended_is_whole sh hs p tr e i q s g =
    let l = run_in_lang sh hs p tr fresh e i q s g in
    let w = l.then in
    let first = both_true (ltb w.f 256) _ w.fit in
    let ways = both_true (address_fits sh (w.f / 2)) _ first.1 in
    let h = head_of sh p sh.command 0 w.f w.on w.then in
    let a = h.then in
    let t : Message = record { address = w.f / 2; direction = direction_of sh w.f; command = h.c; sent = h.s; received = a.r } in
    let f : first_byte sh t ≡ w.f = first_is (writes sh) (reads sh) w.f ways.1 in
    let room : counted sh.received a.r ≤ sh.most - counted sh.sent h.s = rw count_is at a.room in
    let two : after sh.received (writes sh) ((w.f + 1) % 256) a.r (in_place p a.y) ≡ after sh.received (writes sh) (w.f + 1) a.r (in_place p a.y) =
    second_is sh.received (writes sh) (reads sh) w.f a.r (in_place p a.y) (byte_back first.0) ways.1 in
    let j : tr ≡ joined sh w.f h.c h.s a.r (in_place p a.y) = cc (l.is, w.is, h.is, a.is, two) in
    record {
      message = t;
      pec = a.y;
      valid =
          record {
            address = address_back sh.tohost (w.f / 2) ways.0;
            direction = direction_is_lem (writes sh) (reads sh) w.f;
            command = h.command;
            sent_length_lem = h.len;
            sent_bytes = h.bytes;
            received_length_lem = a.len;
            received_bytes = a.bytes;
            counts = omega (arith, room, h.small);
          };
      byte = a.pec;
      is = j ∙ ap (λ (n : ℕ). joined sh n h.c h.s a.r (in_place p a.y)) (sym f) ∙ sym (trace_joined sh t (in_place p a.y));
    }
