-- Bytes read byte by byte, eight bits each, are the bytes of the wire on which all that each module has to say stands at once.
use Rattle.std.specs.Prelude.{ℕ, zero, suc, ◌+◌, ◌*◌, ◌≡◌, refl, Bool, true, false, List, [], ◌∷◌, ◌++◌, map, length, ltb, is_some, unwrap_or}
use Rattle.std.proofs.Common.{sym, ap, ap₂, subst, ◌∙◌, arith, zero-add, suc-add, take_at, drop_at, lt-ltb}
use Rattle.lists.specs.Choice.{pick, and, not}
use Rattle.lists.specs.ChoiceLaws.{false_not_true}
use Rattle.lists.specs.Each.{Each}
use Rattle.lists.specs.LengthLaws.{empty_of_length}
use Rattle.arbitration.specs.Bits.{bits, byte_bits, number_of, bytes_read}
use Rattle.arbitration.specs.BitLaws.{length_bits}
use Rattle.arbitration.specs.Wire.{next, later, level, staying, heard, sending}
use Rattle.module.specs.declared.state.Phase.TheVariants.{Reply}
use Rattle.module.specs.declared.state.Lasting.{Lasting}
use Rattle.module.specs.declared.state.Module.{Module}
use Rattle.module.specs.State.{at, silent_in}
use Rattle.module.specs.Receive.{loses}
use Rattle.pec.specs.Pec.{pec_step}
use Rattle.module.specs.Supply.{reply_byte, supplies}
use Rattle.module.specs.Says.{says}
use Rattle.exchange.specs.EachLaws.{each_made}
use Rattle.exchange.specs.Exchange.{Sender, asked, line, sees, seen, after, after_byte, bytes_on}

-- ---- the senders of a byte, as senders of all that they have left, with n bytes after this one

unfoldable fulls : ℕ → List Sender → List (List Bool)
fulls n [] = []
fulls n (s ∷ ss) = pick s.sends ((s.left ++ byte_bits (says n s.who)) ∷ fulls n ss) (fulls n ss)

-- who sends has j bits left
abbrev pub Has : ℕ → Sender → Type 0
Has j s = s.sends ≡ true → length s.left ≡ j

line_level : (j n : ℕ) (ss : List Sender) → Each (Has (suc j)) ss → line ss ≡ level (fulls n ss)
unfolding line fulls
line_level j n [] h = refl
line_level j n (s ∷ ss) h = go s.sends s.left (byte_bits (says n s.who)) h.0 (line_level j n ss h.1)
  where
    go : (b : Bool) (l r : List Bool) → (b ≡ true → length l ≡ suc j) → line ss ≡ level (fulls n ss)
        → and (pick b (next l) true) (line ss) ≡ level (pick b ((l ++ r) ∷ fulls n ss) (fulls n ss))
    go false l r q e = e
    go true [] r q e = absurd (let z = q refl in omega arith)
    go true (x ∷ l) r q e = ap (and x) e

sees_staying : (j n : ℕ) (w : Bool) (ss : List Sender) → Each (Has (suc j)) ss → fulls n (map (sees w) ss) ≡ staying w (fulls n ss)
unfolding fulls
sees_staying j n w [] h = refl
sees_staying j n w (s ∷ ss) h = go s.sends s.left h.0 (sees_staying j n w ss h.1)
  where
    go : (b : Bool) (l : List Bool) → (b ≡ true → length l ≡ suc j) → fulls n (map (sees w) ss) ≡ staying w (fulls n ss)
        → fulls n (sees w (record { who = s.who; sends = b; left = l }) ∷ map (sees w) ss) ≡ staying w (pick b ((l ++ byte_bits (says n s.who)) ∷ fulls n ss) (fulls n ss))
    go false l q e = e
    go true [] q e = absurd (let z = q refl in omega arith)
    go true (x ∷ l) q e = lost (and x (not w)) e
      where
        lost : (z : Bool) → fulls n (map (sees w) ss) ≡ staying w (fulls n ss)
            → fulls n (pick z (record { who = loses s.who; sends = false; left = [] }) (record { who = s.who; sends = true; left = l }) ∷ map (sees w) ss)
            ≡ pick z (staying w (fulls n ss)) ((l ++ byte_bits (says n s.who)) ∷ staying w (fulls n ss))
        lost true e = e
        lost false e = ap (◌∷◌ (l ++ byte_bits (says n s.who))) e

pub sees_has : (j : ℕ) (w : Bool) (s : Sender) → Has (suc j) s → Has j (sees w s)
sees_has j w s h = go s.sends s.left h
  where
    go : (b : Bool) (l : List Bool) → (b ≡ true → length l ≡ suc j) → Has j (sees w (record { who = s.who; sends = b; left = l }))
    go false l q e = false_not_true e
    go true [] q e = absurd (let z = q refl in omega arith)
    go true (x ∷ l) q e = lost (and x (not w)) (q refl) e
      where
        lost : (z : Bool) → length (x ∷ l) ≡ suc j → Has j (pick z (record { who = loses s.who; sends = false; left = [] }) (record { who = s.who; sends = true; left = l }))
        lost true r e = false_not_true e
        lost false r e = omega arith

-- the bits on the wire, and who still sends
seen_heard : (j n : ℕ) (ss : List Sender) → Each (Has j) ss → seen j ss ≡ heard j (fulls n ss)
unfolding seen
seen_heard zero n ss h = refl
seen_heard (suc j) n ss h =
    let e = line_level j n ss h in
    ap₂ ◌∷◌ e
    (seen_heard j n (map (sees (line ss)) ss) (each_made (Has j) (sees (line ss)) (sees_has j (line ss)) ss h)
    ∙ ap (heard j) (sees_staying j n (line ss) ss h ∙ ap (λ (w : Bool). staying w (fulls n ss)) e))

after_sending : (j n : ℕ) (ss : List Sender) → Each (Has j) ss → fulls n (after j ss) ≡ sending j (fulls n ss)
unfolding after
after_sending zero n ss h = refl
after_sending (suc j) n ss h =
    after_sending j n (map (sees (line ss)) ss) (each_made (Has j) (sees (line ss)) (sees_has j (line ss)) ss h)
    ∙ ap (sending j) (sees_staying j n (line ss) ss h ∙ ap (λ (w : Bool). staying w (fulls n ss)) (line_level j n ss h))

after_has : (j : ℕ) (ss : List Sender) → Each (Has j) ss → Each (Has 0) (after j ss)
unfolding after
after_has zero ss h = h
after_has (suc j) ss h = after_has j (map (sees (line ss)) ss) (each_made (Has j) (sees (line ss)) (sees_has j (line ss)) ss h)

-- ---- a module that has n bytes to say, or none

pub data Talks : ℕ → Module → Type 0 where
  quiet : {n : ℕ} (o : Lasting) → Talks n (silent_in o)
  speaks : {n : ℕ} (o : Lasting) (c k : ℕ) → k + n ≡ 19 → Talks n (at o Reply k c 0)

-- a sender whose module goes on to say n bytes, or none
pub record Ready (n : ℕ) (s : Sender) : Type 0 where
  pub talks : Talks n s.who
  pub same : s.sends ≡ is_some (supplies s.who).byte

pub silent_drives : (o : Lasting) → is_some (supplies (silent_in o)).byte ≡ false
unfolding supplies
silent_drives o = refl

silent_after : (o : Lasting) → (supplies (silent_in o)).after ≡ silent_in o
unfolding supplies
silent_after o = refl

pub reply_drives : (o : Lasting) (k c : ℕ) → is_some (supplies (at o Reply k c 0)).byte ≡ true
unfolding supplies
reply_drives o k c = refl

reply_after : (o : Lasting) (k c : ℕ) → (supplies (at o Reply k c 0)).after ≡ pick (ltb k 18) (at o Reply (k + 1) (pec_step c (reply_byte o c k)) 0) (silent_in o)
unfolding supplies
reply_after o k c = refl

talks_on : (n : ℕ) (m : Module) → Talks (suc n) m → Talks n (supplies m).after
talks_on n m (quiet o) = subst (Talks n) (sym (silent_after o)) (quiet o)
talks_on n m (speaks o c k e) = subst (Talks n) (sym (reply_after o k c)) (go (ltb k 18) refl)
  where
    go : (b : Bool) → ltb k 18 ≡ b → Talks n (pick b (at o Reply (k + 1) (pec_step c (reply_byte o c k)) 0) (silent_in o))
    go true f = speaks {n = n} o (pec_step c (reply_byte o c k)) (k + 1) (omega arith)
    go false f = quiet o

asked_ready : (n : ℕ) (m : Module) → Talks (suc (suc n)) m → Ready (suc n) (asked m)
asked_ready n m h = record { talks = talks_on (suc n) m h; same = go m h }
  where
    go : (m : Module) → Talks (suc (suc n)) m → is_some (supplies m).byte ≡ is_some (supplies (supplies m).after).byte
    go m (quiet o) = ap (λ (x : Module). is_some (supplies x).byte) (sym (silent_after o))
    go m (speaks o c k e) =
        reply_drives o k c
        ∙ sym (reply_drives o (k + 1) (pec_step c (reply_byte o c k)))
        ∙ ap (λ (x : Module). is_some (supplies x).byte)
        (sym (reply_after o k c ∙ ap (λ (b : Bool). pick b (at o Reply (k + 1) (pec_step c (reply_byte o c k)) 0) (silent_in o)) (lt-ltb k 18 (omega arith))))

sees_ready : (n : ℕ) (w : Bool) (s : Sender) → Ready n s → Ready n (sees w s)
sees_ready n w s h = go (and s.sends (and (next s.left) (not w)))
  where
    go : (z : Bool) → Ready n (pick z (record { who = loses s.who; sends = false; left = [] }) (record { who = s.who; sends = s.sends; left = later s.left }))
    go true = record { talks = quiet s.who.own; same = sym (silent_drives s.who.own) }
    go false = record { talks = h.talks; same = h.same }

pub after_ready : (j n : ℕ) (ss : List Sender) → Each (Ready n) ss → Each (Ready n) (after j ss)
unfolding after
after_ready zero n ss h = h
after_ready (suc j) n ss h = after_ready j n (map (sees (line ss)) ss) (each_made (Ready n) (sees (line ss)) (sees_ready n (line ss)) ss h)

-- ---- what modules that have n bytes to say put on the wire

unfoldable pub wires : ℕ → List Module → List (List Bool)
wires n [] = []
wires n (m ∷ ms) = pick (is_some (supplies m).byte) (byte_bits (says n m) ∷ wires n ms) (wires n ms)

pub says_next : (n : ℕ) (m : Module) → is_some (supplies m).byte ≡ true → says (suc n) m ≡ unwrap_or (supplies m).byte 0xFF ∷ says n (supplies m).after
unfolding says
says_next n m e = rw e

asked_fulls : (n : ℕ) (ms : List Module) → fulls n (map asked ms) ≡ wires (suc n) ms
unfolding fulls wires
asked_fulls n [] = refl
asked_fulls n (m ∷ ms) = go (is_some (supplies m).byte) refl (asked_fulls n ms)
  where
    go : (b : Bool) → is_some (supplies m).byte ≡ b → fulls n (map asked ms) ≡ wires (suc n) ms
        → pick b ((bits 8 (unwrap_or (supplies m).byte 0xFF) ++ byte_bits (says n (supplies m).after)) ∷ fulls n (map asked ms)) (fulls n (map asked ms))
        ≡ pick b (byte_bits (says (suc n) m) ∷ wires (suc n) ms) (wires (suc n) ms)
    go true e r = ap₂ ◌∷◌ (ap byte_bits (sym (says_next n m e))) r
    go false e r = r

ready_wires : (n : ℕ) (ss : List Sender) → Each (Ready n) ss → Each (Has 0) ss → fulls n ss ≡ wires n (map (λ (s : Sender). s.who) ss)
unfolding fulls wires
ready_wires n [] h g = refl
ready_wires n (s ∷ ss) h g =
    go s.sends refl (ready_wires n ss h.1 g.1) ∙ ap (λ (b : Bool). pick b (byte_bits (says n s.who) ∷ wires n whos) (wires n whos)) h.0.same
  where
    whos : List Module
    whos = map (λ (x : Sender). x.who) ss

    go : (b : Bool) → s.sends ≡ b → fulls n ss ≡ wires n whos
        → pick b ((s.left ++ byte_bits (says n s.who)) ∷ fulls n ss) (fulls n ss) ≡ pick b (byte_bits (says n s.who) ∷ wires n whos) (wires n whos)
    go true e r = ap₂ ◌∷◌ (ap (λ (l : List Bool). l ++ byte_bits (says n s.who)) (empty_of_length s.left (g.0 e))) r
    go false e r = r

pub asked_has : (ms : List Module) → Each (Has 8) (map asked ms)
asked_has [] = tt
asked_has (m ∷ ms) = (λ e. length_bits 8 (unwrap_or (supplies m).byte 0xFF), asked_has ms)

pub asked_all_lem : (n : ℕ) (ms : List Module) → Each (Talks (suc (suc n))) ms → Each (Ready (suc n)) (map asked ms)
asked_all_lem n ms h = each_made (Ready (suc n)) asked (asked_ready n) ms h

pub ready_talks : (n : ℕ) (ss : List Sender) → Each (Ready n) ss → Each (Talks n) (map (λ (s : Sender). s.who) ss)
ready_talks n ss h = each_made (Talks n) (λ (s : Sender). s.who) (λ s r. r.talks) ss h

-- ---- bytes of a wire

length_heard : (n : ℕ) (ts : List (List Bool)) → length (heard n ts) ≡ n
length_heard zero ts = refl
length_heard (suc n) ts = ap suc (length_heard n (staying (level ts) ts))

heard_add : (j r : ℕ) (ts : List (List Bool)) → heard (j + r) ts ≡ heard j ts ++ heard r (sending j ts)
heard_add zero r ts = ap (λ (n : ℕ). heard n ts) (zero-add r)
heard_add (suc j) r ts = ap (λ (n : ℕ). heard n ts) (suc-add j r) ∙ ap (◌∷◌ (level ts)) (heard_add j r (staying (level ts) ts))

read_one : (n : ℕ) (ts : List (List Bool)) → bytes_read (suc n) (heard (suc n * 8) ts) ≡ number_of (heard 8 ts) ∷ bytes_read n (heard (n * 8) (sending 8 ts))
read_one n ts =
    let e : suc n * 8 ≡ 8 + n * 8 = omega arith in
    ap (λ (k : ℕ). bytes_read (suc n) (heard k ts)) e
    ∙ ap (bytes_read (suc n)) (heard_add 8 (n * 8) ts)
    ∙ ap₂ ◌∷◌ (ap number_of (take_at (heard 8 ts) (heard (n * 8) (sending 8 ts)) 8 (length_heard 8 ts)))
    (ap (bytes_read n) (drop_at (heard 8 ts) (heard (n * 8) (sending 8 ts)) 8 (length_heard 8 ts)))

-- BYTE BY BYTE IS ALL AT ONCE
pub bytes_same : (n : ℕ) (ms : List Module) → Each (Talks n) ms → bytes_on n ms ≡ bytes_read n (heard (n * 8) (wires n ms))
unfolding bytes_on
bytes_same zero ms h = refl
bytes_same (suc zero) ms h =
    ap (λ (x : ℕ). x ∷ []) (ap number_of (seen_heard 8 0 (map asked ms) (asked_has ms) ∙ ap (heard 8) (asked_fulls 0 ms)))
    ∙ sym (read_one 0 (wires 1 ms))
bytes_same (suc (suc n)) ms h =
    let r = after_ready 8 (suc n) (map asked ms) (asked_all_lem n ms h) in
    let w : wires (suc n) (after_byte ms) ≡ sending 8 (wires (suc (suc n)) ms) =
    sym (ready_wires (suc n) (after 8 (map asked ms)) r (after_has 8 (map asked ms) (asked_has ms)))
    ∙ after_sending 8 (suc n) (map asked ms) (asked_has ms)
    ∙ ap (sending 8) (asked_fulls (suc n) ms) in
    ap₂ ◌∷◌ (ap number_of (seen_heard 8 (suc n) (map asked ms) (asked_has ms) ∙ ap (heard 8) (asked_fulls (suc n) ms)))
    (bytes_same (suc n) (after_byte ms) (ready_talks (suc n) (after 8 (map asked ms)) r) ∙ ap (λ (x : List (List Bool)). bytes_read (suc n) (heard (suc n * 8) x)) w)
    ∙ sym (read_one (suc n) (wires (suc (suc n)) ms))
