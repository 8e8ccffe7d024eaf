-- What the encoder can write, the decoder reads to the end: every trace of a valid message, with any byte in PEC's place.
use Rattle.std.specs.Prelude.{◌≡◌, Bool, length, ltb, eqb}
use Rattle.std.proofs.Math.Path.{refl, ap, subst}
use Rattle.std.proofs.Common.{sym, ◌∙◌, arith, eq-eqb, lt-ltb, le-leb}
use Rattle.std.proofs.Math.Bool.{true, false}
use mathlib.Core.List.{List, [], ◌∷◌, ◌++◌}
use Prim.Native.Nat.{ℕ, suc, ◌+◌, ◌-◌, ◌*◌, ◌≤◌, ◌<◌, ◌%◌, ◌/◌}
use Rattle.std.proofs.Math.Dec.{eqb-suc-zero}
use Rattle.lists.specs.Choice.{pick, or, and}
use Rattle.lists.specs.ChoiceLaws.{false_not_true}
use Rattle.lists.specs.Each.{Bytes}
use Rattle.wire.specs.Symbols.{START, STOP, ACK, NACK}
use Rattle.pec.specs.Pec.{pec_step, pec_from}
use Rattle.pec.proofs.PecLaws.{pec_append}
use Rattle.trace.specs.declared.shape.Part.{Part}
use Rattle.trace.specs.declared.shape.Part.TheVariants.{Nothing, Fixed, Counted}
use Rattle.trace.specs.declared.shape.Shape.{Shape}
use Rattle.trace.specs.Shapes.{some, writes, reads, least_of}
use Rattle.trace.specs.Trace.{Message, W, R, laid, acked, ack_of, nacked, first_byte, front, by_target, by_controller, in_place, LengthOf, counted, Valid}
use Rattle.trace.specs.Allowed.{address_fits}
use Rattle.trace.specs.Sane.{Sane}
use Rattle.trace.proofs.ValidLaws.{address_below_128, address_there, sender_there}
use Rattle.step.specs.declared.next.Aim.{Aim}
use Rattle.step.specs.declared.state.Slot.TheVariants.{First, Command, Count, Data, Pec, Restart, Second, ReadCount, ReadData, ReadPec, Stop, End}
use Rattle.step.specs.declared.state.Due.TheVariants.{Nobody, Target, Controller}
use Rattle.step.specs.declared.state.Decoder.{Decoder}
use Rattle.step.specs.State.{to, state, fresh}
use Rattle.step.specs.Next.{after_read, to_read_data, to_read, after_write, to_data, to_sent, after_first}
use Rattle.step.specs.Fits.{ack_at, way_fits, first_fits, command_fits, count_fits}
use Rattle.scan.specs.Leads.{Leads, no_controller, no_target, Writes, Reads}
use Rattle.scan.specs.EndState.{turned, ended_at, turn_state, end_state}
use Rattle.scan.proofs.LeadLaws.{leads_nil, leads_cons, leads_append, leads_byte}

pub byte_test : {x : ℕ} → x < 256 → ltb x 256 ≡ true
byte_test {x} h = lt-ltb x 256 h

less_one : (k : ℕ) → suc k - 1 ≡ k
less_one k = omega arith

pub to_data_lem : (sh : Shape) (p : Bool) (k : ℕ) → to_data sh p (suc k) ≡ to Data k
to_data_lem sh p k = rw (eqb-suc-zero, less_one)

pub to_read_data_lem : (p : Bool) (k : ℕ) → to_read_data p (suc k) ≡ to ReadData k
to_read_data_lem p k = rw (eqb-suc-zero, less_one)

-- the ACK or NACK of a byte received
pub ack_is : (p : Bool) (r : List ℕ) (y : ℕ) → ack_of (r ++ in_place p y) ≡ ack_at (to_read_data p (length r)).slot
ack_is true [] y = refl
ack_is false [] y = refl
ack_is p (x ∷ r) y = rw eqb-suc-zero

-- a count that keeps to the limits
pub count_test : (sh : Shape) (k x : ℕ) → sh.least ≤ x → x + k ≤ sh.most → count_fits sh k x ≡ true
count_test sh k x h g = rw (le-leb sh.least x h, le-leb x (sh.most - k) (omega arith))

-- what a part adds to the sum of the counts at the least
least_counted : (least : ℕ) (a : Part) (r : List ℕ) → LengthOf least a r → least_of a least ≤ counted a r
least_counted least Nothing r h = omega arith
least_counted least (Fixed k) r h = omega arith
least_counted least Counted r h = h

module _ (sh : Shape) where
  -- the ACK or NACK that is due
  pub target_ack_leads : (p : Bool) (g : Aim) (z f c m n : ℕ) (ok : Bool) → Writes sh p (state g Target z f c m n ok) (ACK ∷ []) (state g Nobody z f c m n ok)
  unfolding Leads
  target_ack_leads p g z f c m n ok = (refl, refl, refl)

  controller_ack_leads : (p : Bool) (g : Aim) (z f c m n : ℕ) (ok : Bool) (w : ℕ) → w ≡ ack_at g.slot → Reads sh p (state g Controller z f c m n ok) (w ∷ []) (state g Nobody z f c m n ok)
  unfolding Leads
  controller_ack_leads p g z f c m n ok w e = (eq-eqb w _ e, refl, refl)

  last_nack_leads : (p : Bool) (z f c m n : ℕ) (ok : Bool) → Reads sh p (state (to Stop 0) Controller z f c m n ok) (NACK ∷ STOP ∷ []) (state (to End 0) Nobody z f c m n ok)
  unfolding Leads
  last_nack_leads p z f c m n ok = (refl, refl, (refl, refl, refl))

  -- the data sent, each byte with the target's ACK
  data_byte_leads : (p : Bool) (k x z f c m n : ℕ) (ok : Bool) → x < 256
      → Writes sh p (state (to Data k) Nobody z f c m n ok) (x ∷ ACK ∷ []) (state (to_data sh p k) Nobody (pec_step z x) f c m n ok)
  data_byte_leads p k x z f c m n ok h =
      leads_byte no_controller sh p (to Data k) z f c m n ok x (ACK ∷ []) _ h refl (byte_test h) (target_ack_leads p (to_data sh p k) (pec_step z x) f c m n ok)

  pub data_leads : (p : Bool) (s : List ℕ) (z f c m n : ℕ) (ok : Bool) → Bytes s
      → Writes sh p (state (to_data sh p (length s)) Nobody z f c m n ok) (acked s) (state (after_write sh p) Nobody (pec_from z s) f c m n ok)
  unfolding pec_from
  data_leads p [] z f c m n ok h = leads_nil no_controller sh p _
  data_leads p (x ∷ s) z f c m n ok h =
      let e : Decoder = state (after_write sh p) Nobody (pec_from (pec_step z x) s) f c m n ok in
      subst (λ (g : Aim). Writes sh p (state g Nobody z f c m n ok) (acked (x ∷ s)) e) (sym (to_data_lem sh p (length s)))
      (leads_append no_controller sh p (x ∷ ACK ∷ []) _ _ _ _ (data_byte_leads p (length s) x z f c m n ok h.0) (data_leads p s (pec_step z x) f c m n ok h.1))

  pub count_leads : (p : Bool) (k x z f c m n : ℕ) (ok : Bool) → x < 256 → count_fits sh (least_of sh.received sh.least) x ≡ true
      → Writes sh p (state (to Count k) Nobody z f c m n ok) (x ∷ ACK ∷ []) (state (to_data sh p x) Nobody (pec_step z x) f c x n ok)
  count_leads p k x z f c m n ok h t =
      leads_byte no_controller sh p (to Count k) z f c m n ok x (ACK ∷ []) _ h refl t (target_ack_leads p (to_data sh p x) (pec_step z x) f c x n ok)

  -- with their count
  sent_leads : (p : Bool) (a : Part) (s : List ℕ) (z f c n : ℕ) (ok : Bool) → LengthOf sh.least a s → Bytes s → counted a s + least_of sh.received sh.least ≤ sh.most
      → sh.most ≤ 255
      → Writes sh p (state (to_sent sh p a) Nobody z f c 0 n ok) (acked (laid a s)) (state (after_write sh p) Nobody (pec_from z (laid a s)) f c (counted a s) n ok)
  unfolding pec_from
  sent_leads p Nothing [] z f c n ok l h k b = leads_nil no_controller sh p _
  sent_leads p Nothing (x ∷ s) z f c n ok l h k b = absurd (omega arith)
  sent_leads p (Fixed j) s z f c n ok l h k b =
      subst (λ (i : ℕ). Writes sh p (state (to_data sh p i) Nobody z f c 0 n ok) (acked s) (state (after_write sh p) Nobody (pec_from z s) f c 0 n ok)) l (data_leads p s z f c 0 n ok h)
  sent_leads p Counted s z f c n ok l h k b =
      leads_append no_controller sh p (length s ∷ ACK ∷ []) _ _ _ _ (count_leads p 0 (length s) z f c 0 n ok (omega arith) (count_test sh (least_of sh.received sh.least) (length s) l k))
      (data_leads p s (pec_step z (length s)) f c (length s) n ok h)

  -- the end: a PEC received, or none, and STOP
  pub end_leads : (p : Bool) (y z f c m n : ℕ) (ok : Bool) → Bytes (in_place p y)
      → Reads sh p (state (after_read p) Nobody z f c m n ok) (nacked (in_place p y) ++ STOP ∷ []) (state (to End 0) Nobody z f c m n (pick p (eqb y z) ok))
  end_leads true y z f c m n ok h =
      leads_byte no_target sh true (to ReadPec 0) z f c m n ok y (NACK ∷ STOP ∷ []) _ h.0 refl (byte_test h.0) (last_nack_leads true z f c m n (eqb y z))
  end_leads false y z f c m n ok h = leads_cons no_target sh false STOP [] _ _ refl refl (leads_nil no_target sh false _)

  -- the data received
  read_byte_leads : (p : Bool) (k x z f c m n : ℕ) (ok : Bool) (w : ℕ) → x < 256 → w ≡ ack_at (to_read_data p k).slot
      → Reads sh p (state (to ReadData k) Nobody z f c m n ok) (x ∷ w ∷ []) (state (to_read_data p k) Nobody (pec_step z x) f c m n ok)
  read_byte_leads p k x z f c m n ok w h e =
      leads_byte no_target sh p (to ReadData k) z f c m n ok x (w ∷ []) _ h refl (byte_test h) (controller_ack_leads p (to_read_data p k) (pec_step z x) f c m n ok w e)

  pub received_leads : (p : Bool) (r : List ℕ) (y z f c m n : ℕ) (ok : Bool) → Bytes r → Bytes (in_place p y)
      → Reads sh p (state (to_read_data p (length r)) Nobody z f c m n ok) (nacked (r ++ in_place p y) ++ STOP ∷ [])
      (state (to End 0) Nobody (pec_from z r) f c m n (pick p (eqb y (pec_from z r)) ok))
  unfolding pec_from
  received_leads p [] y z f c m n ok h hy = end_leads p y z f c m n ok hy
  received_leads p (x ∷ r) y z f c m n ok h hy =
      let w : ℕ = ack_of (r ++ in_place p y) in
      let zs : List ℕ = nacked (r ++ in_place p y) ++ STOP ∷ [] in
      let e : Decoder = state (to End 0) Nobody (pec_from (pec_step z x) r) f c m n (pick p (eqb y (pec_from (pec_step z x) r)) ok) in
      subst (λ (g : Aim). Reads sh p (state g Nobody z f c m n ok) (x ∷ w ∷ zs) e) (sym (to_read_data_lem p (length r)))
      (leads_append no_target sh p (x ∷ w ∷ []) _ _ _ _ (read_byte_leads p (length r) x z f c m n ok w h.0 (ack_is p r y)) (received_leads p r y (pec_step z x) f c m n ok h.1 hy))

  pub read_count_leads : (p : Bool) (k x z f c m n : ℕ) (ok : Bool) (w : ℕ) → x < 256 → count_fits sh m x ≡ true → w ≡ ack_at (to_read_data p x).slot
      → Reads sh p (state (to ReadCount k) Nobody z f c m n ok) (x ∷ w ∷ []) (state (to_read_data p x) Nobody (pec_step z x) f c m x ok)
  read_count_leads p k x z f c m n ok w h t e =
      leads_byte no_target sh p (to ReadCount k) z f c m n ok x (w ∷ []) _ h refl t (controller_ack_leads p (to_read_data p x) (pec_step z x) f c m x ok w e)

  read_part_leads : (p : Bool) (a : Part) (r : List ℕ) (y z f c m : ℕ) (ok : Bool)
      → LengthOf sh.least a r → counted a r + m ≤ sh.most → sh.most ≤ 255 → Bytes r → Bytes (in_place p y)
      → Reads sh p (state (to_read a p) Nobody z f c m 0 ok) (nacked (laid a r ++ in_place p y) ++ STOP ∷ [])
      (state (to End 0) Nobody (pec_from z (laid a r)) f c m (counted a r) (pick p (eqb y (pec_from z (laid a r))) ok))
  unfolding pec_from
  read_part_leads p Nothing [] y z f c m ok l k b h hy = end_leads p y z f c m 0 ok hy
  read_part_leads p Nothing (x ∷ r) y z f c m ok l k b h hy = absurd (omega arith)
  read_part_leads p (Fixed j) r y z f c m ok l k b h hy =
      subst (λ (i : ℕ). Reads sh p (state (to_read_data p i) Nobody z f c m 0 ok) (nacked (r ++ in_place p y) ++ STOP ∷ []) (state (to End 0) Nobody (pec_from z r) f c m 0 (pick p (eqb y (pec_from z r)) ok))) l
      (received_leads p r y z f c m 0 ok h hy)
  read_part_leads p Counted r y z f c m ok l k b h hy =
      leads_append no_target sh p (length r ∷ ack_of (r ++ in_place p y) ∷ []) _ _ _ _
      (read_count_leads p 0 (length r) z f c m 0 ok (ack_of (r ++ in_place p y)) (omega arith) (count_test sh m (length r) l k) (ack_is p r y))
      (received_leads p r y (pec_step z (length r)) f c m (length r) ok h hy)

  -- START again, the address byte for reading, its ACK
  pub turn_leads : (p : Bool) (z f c m n : ℕ) (ok : Bool) → f < 255
      → Writes sh p (state (to Restart 0) Nobody z f c m n ok) (START ∷ (f + 1) ∷ ACK ∷ []) (state (to_read sh.received p) Nobody (pec_step z (f + 1)) f c m n ok)
  turn_leads p z f c m n ok h =
      leads_cons no_controller sh p START _ _ _ refl refl
      (leads_byte no_controller sh p (to Second 0) z f c m n ok (f + 1) (ACK ∷ []) _ (omega arith) refl (eq-eqb (f + 1) ((f + 1) % 256) (omega arith))
      (target_ack_leads p (to_read sh.received p) (pec_step z (f + 1)) f c m n ok))

  pec_leads : (p : Bool) (y z f c m n : ℕ) (ok : Bool) → Bytes (in_place p y)
      → Writes sh p (state (to (pick p Pec Stop) 0) Nobody z f c m n ok) (acked (in_place p y)) (state (to Stop 0) Nobody z f c m n (pick p (eqb y z) ok))
  pec_leads true y z f c m n ok h =
      leads_byte no_controller sh true (to Pec 0) z f c m n ok y (ACK ∷ []) _ h.0 refl (byte_test h.0) (target_ack_leads true (to Stop 0) z f c m n (eqb y z))
  pec_leads false y z f c m n ok h = leads_nil no_controller sh false _

  -- the first address byte, the command, the data sent
  first_leads : (p : Bool) (x : ℕ) → x < 256 → first_fits sh x ≡ true
      → Writes sh p fresh (START ∷ x ∷ ACK ∷ []) (state (after_first sh p) Nobody (pec_step 0 x) x 0 0 0 true)
  first_leads p x h e =
      leads_cons no_controller sh p START _ _ _ refl refl
      (leads_byte no_controller sh p (to First 0) 0 0 0 0 0 true x (ACK ∷ []) _ h refl e (target_ack_leads p (after_first sh p) (pec_step 0 x) x 0 0 0 true))

  command_leads : (p : Bool) (x z f m n : ℕ) (ok : Bool) → x < 256 → command_fits sh x ≡ true
      → Writes sh p (state (to Command 0) Nobody z f 0 m n ok) (x ∷ ACK ∷ []) (state (to_sent sh p sh.sent) Nobody (pec_step z x) f x m n ok)
  command_leads p x z f m n ok h e =
      leads_byte no_controller sh p (to Command 0) z f 0 m n ok x (ACK ∷ []) _ h refl e (target_ack_leads p (to_sent sh p sh.sent) (pec_step z x) f x m n ok)

  head_leads : (p b : Bool) (c : ℕ) (s : List ℕ) (z f : ℕ) → pick b ((c < 256) × pick sh.tohost (c % 2 ≡ 0) Unit) (c ≡ 0)
      → LengthOf sh.least sh.sent s → Bytes s → counted sh.sent s + least_of sh.received sh.least ≤ sh.most → sh.most ≤ 255
      → Writes sh p (state (pick b (to Command 0) (to_sent sh p sh.sent)) Nobody z f 0 0 0 true)
      (acked (pick b (c ∷ []) [] ++ laid sh.sent s))
      (state (after_write sh p) Nobody (pec_from z (pick b (c ∷ []) [] ++ laid sh.sent s)) f c (counted sh.sent s) 0 true)
  unfolding pec_from
  head_leads p true c s z f hc l h k b =
      let t : command_fits sh c ≡ true = ap (λ (i : Bool). and i (pick sh.tohost (eqb (c % 2) 0) true)) (byte_test hc.0) ∙ sender_there sh.tohost c hc.1 in
      leads_append no_controller sh p (c ∷ ACK ∷ []) _ _ _ _ (command_leads p c z f 0 0 true hc.0 t) (sent_leads p sh.sent s (pec_step z c) f c 0 true l h k b)
  head_leads p false c s z f hc l h k b =
      subst (λ (i : ℕ). Writes sh p (state (to_sent sh p sh.sent) Nobody z f 0 0 0 true) (acked (laid sh.sent s)) (state (after_write sh p) Nobody (pec_from z (laid sh.sent s)) f i (counted sh.sent s) 0 true)) (sym hc)
      (sent_leads p sh.sent s z f 0 0 true l h k b)

module _ (sh : Shape) (p : Bool) where
  after_write_leads : (w r : Bool) (z f c m y : ℕ) → Bytes (in_place p y) → (w ≡ true → f < 255)
      → Leads no_controller sh p (state (pick r (pick w (to Restart 0) (to_read sh.received p)) (to (pick p Pec Stop) 0)) Nobody z f c m 0 true)
      (pick r (pick w (START ∷ (f + 1) ∷ ACK ∷ []) []) (acked (in_place p y))) (turned p w r sh.received z f c m y)
  after_write_leads true true z f c m y h k = turn_leads sh p z f c m 0 true (k refl)
  after_write_leads false true z f c m y h k = leads_nil no_controller sh p _
  after_write_leads w false z f c m y h k = pec_leads sh p y z f c m 0 true h

  after_turn_leads : (w : Bool) (a : Part) (r : List ℕ) (z f c m y : ℕ) → LengthOf sh.least a r → counted a r + m ≤ sh.most → sh.most ≤ 255 → Bytes r → Bytes (in_place p y)
      → Leads no_target sh p (turned p w (some a) a z f c m y) (pick (some a) (nacked (laid a r ++ in_place p y)) [] ++ STOP ∷ [])
      (ended_at p (pec_from z (pick (some a) (pick w ((f + 1) ∷ []) [] ++ laid a r) [])) f c m (counted a r) y)
  unfolding pec_from Leads
  after_turn_leads w Nothing r z f c m y l k b h hy = (refl, refl, refl)
  after_turn_leads true (Fixed j) r z f c m y l k b h hy = read_part_leads sh p (Fixed j) r y (pec_step z (f + 1)) f c m true l k b h hy
  after_turn_leads false (Fixed j) r z f c m y l k b h hy = read_part_leads sh p (Fixed j) r y z f c m true l k b h hy
  after_turn_leads true Counted r z f c m y l k b h hy = read_part_leads sh p Counted r y (pec_step z (f + 1)) f c m true l k b h hy
  after_turn_leads false Counted r z f c m y l k b h hy = read_part_leads sh p Counted r y z f c m true l k b h hy

-- the first address byte of a valid message
pub half_is_address : (w r : Bool) (a d : ℕ) → pick (or w r) (d ≡ 0) (d ≤ 1) → pick w (W a) (pick r (R a) (2 * a + d)) / 2 ≡ a
half_is_address true r a d h = omega arith
half_is_address false true a d h = omega arith
half_is_address false false a d h = let k : d ≤ 1 = h in omega arith

way_is : (w r : Bool) (a d : ℕ) → pick w (eqb (pick w (W a) (pick r (R a) (2 * a + d)) % 2) 0) (pick r (eqb (pick w (W a) (pick r (R a) (2 * a + d)) % 2) 1) true) ≡ true
way_is true r a d = eq-eqb (W a % 2) 0 (omega arith)
way_is false true a d = eq-eqb (R a % 2) 1 (omega arith)
way_is false false a d = refl

size_is : (w r : Bool) (a d : ℕ) → pick (or w r) (d ≡ 0) (d ≤ 1) → a < 128
    → (pick w (W a) (pick r (R a) (2 * a + d)) < 256) × (w ≡ true → pick w (W a) (pick r (R a) (2 * a + d)) < 255)
size_is true r a d h k = (omega arith, λ e. omega arith)
size_is false true a d h k = (omega arith, λ e. false_not_true e)
size_is false false a d h k = let i : d ≤ 1 = h in (omega arith, λ e. false_not_true e)

module _ (sh : Shape) (t : Message) (v : Valid sh t) where
  pub first_byte_fits : (first_byte sh t < 256) × (first_fits sh (first_byte sh t) ≡ true) × (writes sh ≡ true → first_byte sh t < 255)
  first_byte_fits =
      let s = size_is (writes sh) (reads sh) t.address t.direction v.direction (address_below_128 sh.tohost t.address v.address) in
      let a : address_fits sh (first_byte sh t / 2) ≡ true =
      ap (address_fits sh) (half_is_address (writes sh) (reads sh) t.address t.direction v.direction) ∙ address_there sh.tohost t.address v.address in
      let w : way_fits sh (first_byte sh t) ≡ true = way_is (writes sh) (reads sh) t.address t.direction in
      (s.0, all _ _ _ (byte_test s.0) a w, s.1)
    where
      all : (a b c : Bool) → a ≡ true → b ≡ true → c ≡ true → and a (and b c) ≡ true
      all a b c e f g = rw (e, f, g)

module _ (sh : Shape) (hs : Sane sh) (p : Bool) (t : Message) (y : ℕ) (v : Valid sh t) (hy : Bytes (in_place p y)) where
  pub target_part_leads : Leads no_controller sh p fresh (by_target sh t (in_place p y)) (turn_state sh p t y)
  unfolding pec_from
  target_part_leads =
      let f : ℕ = first_byte sh t in
      let body : List ℕ = pick sh.command (t.command ∷ []) [] ++ laid sh.sent t.sent in
      let b = first_byte_fits sh t v in
      let k = least_counted sh.least sh.received t.received v.received_length_lem in
      leads_append no_controller sh p (START ∷ f ∷ ACK ∷ acked body) _ _ _ _
      (leads_append no_controller sh p (START ∷ f ∷ ACK ∷ []) _ _ _ _ (first_leads sh p f b.0 b.1)
      (head_leads sh p sh.command t.command t.sent (pec_step 0 f) f v.command v.sent_length_lem v.sent_bytes (omega (arith, v.counts, k)) hs.most_byte))
      (after_write_leads sh p (writes sh) (reads sh) (pec_from 0 (front sh t)) f t.command (counted sh.sent t.sent) y hy b.2)

  pub controller_part_leads : Leads no_target sh p (turn_state sh p t y) (by_controller sh t (in_place p y)) (end_state sh p t y)
  controller_part_leads =
      rw (pec_append 0 (front sh t))
      (after_turn_leads sh p (writes sh) sh.received t.received (pec_from 0 (front sh t)) (first_byte sh t) t.command (counted sh.sent t.sent) y v.received_length_lem (omega (arith, v.counts)) hs.most_byte v.received_bytes hy)
