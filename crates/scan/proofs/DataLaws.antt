-- The data of a message, and its fields, are what the decoder finds where it looks for them.
use Rattle.std.specs.Prelude.{◌≡◌, refl, Bool, true, false, List, [], ◌∷◌, ◌++◌, ℕ, zero, suc, ◌+◌, ◌*◌, ◌≤◌, ◌%◌, length, drop}
use Rattle.std.proofs.Common.{sym, ap, subst, append_assoc, arith, length-append, drop_at}
use Rattle.lists.specs.Choice.{pick, or}
use Rattle.lists.specs.Each.{Bytes}
use Rattle.wire.specs.Symbols.{START, STOP, ACK}
use Rattle.trace.specs.declared.shape.Part.{Part}
use Rattle.trace.specs.declared.shape.Part.TheVariants.{Nothing, Fixed, Counted}
use Rattle.trace.specs.declared.shape.Shape.{Shape}
use Rattle.trace.specs.declared.transaction.Transaction.{Transaction}
use Rattle.trace.specs.Shapes.{some, writes, reads}
use Rattle.trace.specs.Trace.{Message, W, R, laid, acked, ack_of, nacked, first_byte, by_target, trace_at, in_place, LengthOf, counted, Valid}
use Rattle.trace.proofs.LengthLaws.{length_nacked, length_place}
use Rattle.trace.specs.Sane.{Sane}
use Rattle.scan.specs.Run.{data_length, transaction}
use Rattle.scan.specs.Handed.{count_places, sent_place, received_place, lows}
use Rattle.scan.specs.Answers.{summary}
use Rattle.std.proofs.Math.Nat.{mod-eq_of_lt}
use Rattle.scan.specs.EndState.{end_state}
use Rattle.scan.proofs.ForwardLaws.{half_is_address}
use Rattle.scan.specs.JoinedLaws.{trace_joined}

pub length_lows : (n : ℕ) (l : List ℕ) → length (lows n l) ≡ n
length_lows zero l = refl
length_lows (suc n) l = ap suc (length_lows n (drop 2 l))

lows_acked : (s on : List ℕ) → Bytes s → lows (length s) (acked s ++ on) ≡ s
lows_acked [] on h = refl
lows_acked (x ∷ s) on h = rw (lows_acked s on h.1, mod-eq_of_lt h.0)

lows_nacked : (r q on : List ℕ) → Bytes r → lows (length r) (nacked (r ++ q) ++ on) ≡ r
lows_nacked [] q on h = refl
lows_nacked (x ∷ r) q on h = rw (lows_nacked r q on h.1, mod-eq_of_lt h.0)

-- the data sent
pub sent_is_lem : (sh : Shape) (t : Message) (q : List ℕ) → Bytes t.sent → lows (length t.sent) (drop (sent_place sh) (trace_at sh t q)) ≡ t.sent
sent_is_lem sh t q h = rw (trace_joined sh t q) (go sh.command sh.sent (first_byte sh t) _)
  where
    go : (b : Bool) (a : Part) (f : ℕ) (on : List ℕ)
        → lows (length t.sent) (drop (3 + pick b 2 0 + count_places a) (START ∷ f ∷ ACK ∷ (acked (pick b (t.command ∷ []) [] ++ laid a t.sent) ++ on))) ≡ t.sent
    go true Nothing f on = lows_acked t.sent on h
    go true (Fixed k) f on = lows_acked t.sent on h
    go true Counted f on = lows_acked t.sent on h
    go false Nothing f on = lows_acked t.sent on h
    go false (Fixed k) f on = lows_acked t.sent on h
    go false Counted f on = lows_acked t.sent on h

-- the data received, after a part b of the trace
at_end : (b r : List ℕ) (p : Bool) (y : ℕ) → Bytes r
    → lows (length r) (drop (received_place p (length r) (length (b ++ (nacked (r ++ in_place p y) ++ STOP ∷ [])))) (b ++ (nacked (r ++ in_place p y) ++ STOP ∷ []))) ≡ r
at_end b r p y h =
    let on : List ℕ = nacked (r ++ in_place p y) ++ STOP ∷ [] in
    let l : length on ≡ 2 * (length r + pick p 1 0) + 1 =
    omega (arith, length-append (nacked (r ++ in_place p y)) (STOP ∷ []), length_nacked (r ++ in_place p y), length-append r (in_place p y), length_place p y) in
    let e : length b ≡ received_place p (length r) (length (b ++ on)) = omega (arith, length-append b on) in
    rw (drop_at b on _ e) (lows_nacked r (in_place p y) (STOP ∷ []) h)

back_is : (k : ℕ) (b : List ℕ) (a : Part) (r : List ℕ) (p : Bool) (y : ℕ) → LengthOf k a r → Bytes r
    → lows (length r) (drop (received_place p (length r) (length (b ++ (pick (some a) (nacked (laid a r ++ in_place p y)) [] ++ STOP ∷ [])))) (b ++ (pick (some a) (nacked (laid a r ++ in_place p y)) [] ++ STOP ∷ []))) ≡ r
back_is k b Nothing [] p y l h = refl
back_is k b Nothing (x ∷ r) p y l h = absurd (omega arith)
back_is k b (Fixed j) r p y l h = at_end b r p y h
back_is k b Counted r p y l h =
    let c : List ℕ = length r ∷ ack_of (r ++ in_place p y) ∷ [] in
    let on : List ℕ = nacked (r ++ in_place p y) ++ STOP ∷ [] in
    subst (λ (t : List ℕ). lows (length r) (drop (received_place p (length r) (length t)) t) ≡ r) (append_assoc b c on) (at_end (b ++ c) r p y h)

pub received_is_lem : (sh : Shape) (t : Message) (p : Bool) (y : ℕ) → Valid sh t
    → lows (length t.received) (drop (received_place p (length t.received) (length (trace_at sh t (in_place p y)))) (trace_at sh t (in_place p y))) ≡ t.received
received_is_lem sh t p y v = back_is sh.least (by_target sh t (in_place p y)) sh.received t.received p y v.received_length_lem v.received_bytes

-- the fields
pub length_is : (k : ℕ) (a : Part) (s : List ℕ) → LengthOf k a s → data_length a (counted a s) ≡ length s
length_is k Nothing s l = sym l
length_is k (Fixed j) s l = sym l
length_is k Counted s l = refl

direction_is_lem : (w r : Bool) (a d : ℕ) → pick (or w r) (d ≡ 0) (d ≤ 1) → pick w 0 (pick r 0 (pick w (W a) (pick r (R a) (2 * a + d)) % 2)) ≡ d
direction_is_lem true r a d h = sym h
direction_is_lem false true a d h = sym h
direction_is_lem false false a d h = let k : d ≤ 1 = h in omega arith

abbrev made : ℕ → ℕ → ℕ → ℕ → ℕ → ℕ → Transaction
made n a d c s r = record { protocol = n; address = record { 0 = a }; direction = d; command = c; sent = s; received = r }

same_fields : (n a a₁ d d₁ c s s₁ r r₁ : ℕ) → a ≡ a₁ → d ≡ d₁ → s ≡ s₁ → r ≡ r₁ → made n a d c s r ≡ made n a₁ d₁ c s₁ r₁
same_fields n a a₁ d d₁ c s s₁ r r₁ ea ed es er = rw (ea, ed, es, er)

pub fields_are : (n : ℕ) (sh : Shape) (hs : Sane sh) (p : Bool) (t : Message) (y : ℕ) (v : Valid sh t) (hy : Bytes (in_place p y))
    → transaction n sh (end_state sh p t y) ≡ summary n t
fields_are n sh hs p t y v hy =
    same_fields n _ _ _ _ _ _ _ _ _ (half_is_address (writes sh) (reads sh) t.address t.direction v.direction)
    (direction_is_lem (writes sh) (reads sh) t.address t.direction v.direction)
    (length_is sh.least sh.sent t.sent v.sent_length_lem) (length_is sh.least sh.received t.received v.received_length_lem)
