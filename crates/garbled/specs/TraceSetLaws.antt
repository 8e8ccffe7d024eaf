-- A byte put into a trace at the place of its command, of a data byte or of its PEC gives the trace of another message, of the same shape.
use Rattle.std.specs.Prelude.{◌≡◌, Bool, true, false, List, [], ◌∷◌, ◌++◌, ℕ, suc, ◌+◌, ◌-◌, ◌*◌, ◌<◌, length, set}
use Rattle.std.proofs.Common.{sym, ap, ◌∙◌, arith, length-append}
use Rattle.std.proofs.lemmas.List.{set-append_left, set_at}
use Rattle.lists.specs.Choice.{pick}
use Rattle.lists.specs.ChoiceLaws.{false_not_true}
use Rattle.trace.proofs.LengthLaws.{length_acked, length_nacked, laid_length}
use Rattle.trace.proofs.PecPlaceLaws.{around_pec}
use Rattle.trace.specs.Shapes.{is_counted, writes, reads}
use Rattle.trace.specs.Trace.{Message, laid, acked, nacked, first_byte, front, by_target, by_controller, trace_at}
use Rattle.trace.specs.declared.shape.Shape.{Shape}
use Rattle.garbled.specs.SetLaws.{set_acked, set_nacked, set_append_right, set_laid, set_command, set_sent}

-- other fields
abbrev pub with_command : Message → ℕ → Message
with_command t c = record { address = t.address; direction = t.direction; command = c; sent = t.sent; received = t.received }

abbrev pub with_sent : Message → List ℕ → Message
with_sent t s = record { address = t.address; direction = t.direction; command = t.command; sent = s; received = t.received }

abbrev pub with_received : Message → List ℕ → Message
with_received t r = record { address = t.address; direction = t.direction; command = t.command; sent = t.sent; received = r }

-- ---- a byte before the last one sent

module _ (sh : Shape) (t : Message) (q : List ℕ) where
  abbrev turn : List ℕ
  turn = pick (reads sh) (pick (writes sh) (256 ∷ (first_byte sh t + 1) ∷ 258 ∷ []) []) (acked q)

  -- byte i of those that are sent before the PEC
  set_front : (i b : ℕ) → i < length (front sh t) → set (trace_at sh t q) (1 + 2 * i) b ≡ 256 ∷ ((acked (set (front sh t) i b) ++ turn) ++ by_controller sh t q)
  set_front i b h =
      let l : 2 * i < length (acked (front sh t)) = omega (arith, h, length_acked (front sh t)) in
      ap (λ (k : ℕ). set (trace_at sh t q) k b) (one_add (2 * i))
      ∙ ap (λ (l : List ℕ). 256 ∷ l)
      (set-append_left (acked (front sh t) ++ turn) (by_controller sh t q) (2 * i) b (omega (arith, l, length-append (acked (front sh t)) turn))
      ∙ ap (λ (l : List ℕ). l ++ by_controller sh t q) (set-append_left (acked (front sh t)) turn (2 * i) b l ∙ ap (λ (l : List ℕ). l ++ turn) (set_acked (front sh t) i b)))
    where
      one_add : (i : ℕ) → 1 + i ≡ suc i
      one_add i = omega arith

-- the command
pub command_inside : (sh : Shape) (t : Message) → sh.command ≡ true → 1 < length (front sh t)
command_inside sh t = two_bytes sh.command (laid sh.sent t.sent)
  where
    two_bytes : (k : Bool) (l : List ℕ) → k ≡ true → 1 < length (first_byte sh t ∷ (pick k (t.command ∷ []) [] ++ l))
    two_bytes true l e = omega arith
    two_bytes false l e = false_not_true e

pub set_command_byte : (sh : Shape) (t : Message) (q : List ℕ) (b : ℕ) → sh.command ≡ true → set (trace_at sh t q) 3 b ≡ trace_at sh (with_command t b) q
set_command_byte sh t q b e =
    set_front sh t q 1 b (command_inside sh t e)
    ∙ ap (λ (l : List ℕ). 256 ∷ ((acked l ++ turn sh t q) ++ by_controller sh t q)) (set_command sh.command (first_byte sh t) t.command b (laid sh.sent t.sent) e)

-- how many bytes stand before the data sent
abbrev pub head_bytes : Shape → ℕ
head_bytes sh = 1 + pick sh.command 1 0 + pick (is_counted sh.sent) 1 0

pub front_length : (sh : Shape) (t : Message) → length (front sh t) ≡ head_bytes sh + length t.sent
front_length sh t = by_command sh.command ∙ sums (pick sh.command 1 0) (pick (is_counted sh.sent) 1 0) (length t.sent) (length (laid sh.sent t.sent)) (laid_length sh.sent t.sent)
  where
    by_command : (k : Bool) → length (first_byte sh t ∷ (pick k (t.command ∷ []) [] ++ laid sh.sent t.sent)) ≡ 1 + pick k 1 0 + length (laid sh.sent t.sent)
    by_command true = omega arith
    by_command false = omega arith

    sums : (k c n l : ℕ) → l ≡ c + n → 1 + k + l ≡ 1 + k + c + n
    sums k c n l e = omega arith

-- the bytes sent stand inside the trace
pub front_inside : (sh : Shape) (t : Message) (q : List ℕ) (i : ℕ) → i < length (front sh t) → 1 + 2 * i < length (trace_at sh t q)
front_inside sh t q i h =
    omega (arith, h, length_acked (front sh t), length-append (acked (front sh t)) (turn sh t q), length-append (acked (front sh t) ++ turn sh t q) (by_controller sh t q))

-- a data byte sent
pub set_sent_byte : (sh : Shape) (t : Message) (q : List ℕ) (i b : ℕ) → i < length t.sent → set (trace_at sh t q) (1 + 2 * (head_bytes sh + i)) b ≡ trace_at sh (with_sent t (set t.sent i b)) q
set_sent_byte sh t q i b h =
    set_front sh t q (head_bytes sh + i) b (omega (arith, h, front_length sh t))
    ∙ ap (λ (l : List ℕ). 256 ∷ ((acked l ++ turn sh t q) ++ by_controller sh t q)) (set_sent sh.command (first_byte sh t) t.command sh.sent t.sent i b)

-- ---- the PEC

pub set_pec : (sh : Shape) (t : Message) (y b k : ℕ) → k + 3 ≡ length (trace_at sh t (y ∷ [])) → set (trace_at sh t (y ∷ [])) k b ≡ trace_at sh t (b ∷ [])
set_pec sh t y b k e =
    let (p, g, f) = around_pec sh t in
    let n : length p ≡ k = omega (arith, e, ap length (f y), length-append p (y ∷ g ∷ 257 ∷ [])) in
    ap (λ (l : List ℕ). set l k b) (f y) ∙ set_at p y (g ∷ 257 ∷ []) b k n ∙ sym (f b)

-- ---- a data byte received

controller_length : (r : Bool) (l : List ℕ) → r ≡ true → length (pick r (nacked l) [] ++ 257 ∷ []) ≡ 2 * length l + 1
controller_length true l e = length-append (nacked l) (257 ∷ []) ∙ ap (λ (n : ℕ). n + 1) (length_nacked l)
controller_length false l e = false_not_true e

set_controller : (r : Bool) (x l : List ℕ) (j b k : ℕ) → r ≡ true → k ≡ length x + 2 * j → j < length l
    → set (x ++ (pick r (nacked l) [] ++ 257 ∷ [])) k b ≡ x ++ (pick r (nacked (set l j b)) [] ++ 257 ∷ [])
set_controller true x l j b k e f h =
    set_append_right x (nacked l ++ 257 ∷ []) (2 * j) b k f
    ∙ ap (λ (z : List ℕ). x ++ z) (set-append_left (nacked l) (257 ∷ []) (2 * j) b (omega (arith, h, length_nacked l)) ∙ ap (λ (z : List ℕ). z ++ 257 ∷ []) (set_nacked l j b))
set_controller false x l j b k e f h = false_not_true e

-- data byte i received, counted from the last
pub set_received_byte : (sh : Shape) (t : Message) (y i b k : ℕ) → reads sh ≡ true → i < length t.received → k + 3 + 2 * (length t.received - i) ≡ length (trace_at sh t (y ∷ []))
    → set (trace_at sh t (y ∷ [])) k b ≡ trace_at sh (with_received t (set t.received i b)) (y ∷ [])
set_received_byte sh t y i b k r h e =
    let q = y ∷ [] in
    let l = laid sh.received t.received ++ q in
    let c : ℕ = pick (is_counted sh.received) 1 0 in
    let m : length l ≡ c + length t.received + 1 = length-append (laid sh.received t.received) q ∙ ap (λ (n : ℕ). n + 1) (laid_length sh.received t.received) in
    let a = length-append (by_target sh t q) (by_controller sh t q) in
    let d = controller_length (reads sh) l r in
    set_controller (reads sh) (by_target sh t q) l (c + i) b k r (at k (length t.received) i c (length l) (length (by_target sh t q)) (length (by_controller sh t q)) h m d (e ∙ a)) (omega (arith, h, m))
    ∙ ap (λ (z : List ℕ). by_target sh t q ++ (pick (reads sh) (nacked z) [] ++ 257 ∷ [])) (set_laid sh.received t.received q i b h)
  where
    at : (k n i c l x z : ℕ) → i < n → l ≡ c + n + 1 → z ≡ 2 * l + 1 → k + 3 + 2 * (n - i) ≡ x + z → k ≡ x + 2 * (c + i)
    at k n i c l x z h m d e = omega arith
