-- Who still sends after the identifier has the identifier that stands on the wire: two modules with different ones never both think that they
-- have won.
use Rattle.std.specs.Prelude.{ℕ, zero, suc, ◌+◌, ◌%◌, ◌≡◌, refl, Bool, true, false, length, is_some, unwrap_or}
use Rattle.std.proofs.Math.Path.{sym, subst}
use Rattle.std.proofs.Common.{ap, ap₂, ◌∙◌, inl, inr, mod-eq_of_lt, arith}
use mathlib.Core.List.{List, [], ◌∷◌, map}
use Rattle.lists.specs.Choice.{pick}
use Rattle.lists.specs.ChoiceLaws.{both_true, false_not_true, not_both}
use Rattle.lists.specs.Each.{Each, Bytes}
use Rattle.lists.specs.LengthLaws.{empty_of_length}
use Rattle.udid.specs.Bytes.{bytes_of, udid_bytes}
use Rattle.udid.proofs.UdidLaws.{udid_bytes_lem, same_bytes}
use Rattle.udid.specs.Udids.{Fits}
use Rattle.arbitration.specs.Among.{Among}
use Rattle.arbitration.specs.Bits.{number_of}
use Rattle.arbitration.specs.BitLaws.{number_bits}
use Rattle.arbitration.specs.Wire.{next}
use Rattle.module.specs.declared.state.Lasting.{Lasting}
use Rattle.module.specs.declared.state.Module.{Module}
use Rattle.module.specs.declared.state.Phase.{Phase}
use Rattle.module.specs.declared.state.Phase.TheVariants.{Reply}
use Rattle.module.specs.State.{at}
use Rattle.module.specs.Supply.{reply_byte, supplied_in, supplies}
use Rattle.module.specs.Says.{says, asked_pec}
use Rattle.module.proofs.SupplyLaws.{supplied_own}
use Rattle.exchange.specs.AnsweringLaws.{replying, answering, answering_talks, answering_records}
use Rattle.exchange.specs.EachLaws.{each_made}
use Rattle.exchange.specs.Exchange.{Fitting, records_of, Sender, asked, line, sees, seen, after, byte_on, after_byte, bytes_on, after_bytes}
use Rattle.exchange.specs.GetLaws.{answering_all}
use Rattle.exchange.specs.KeptLaws.{bytes_records}
use Rattle.exchange.specs.ReadLaws.{Has, sees_has, Talks, Ready, silent_drives, asked_has, asked_all_lem, after_ready, ready_talks, says_next}
use Rattle.exchange.specs.Sending.{asked_all, StillSends}

-- two lists of the same length, element beside element
abbrev Both : {A B : Type 0} → (A → B → Type 0) → List A → List B → Type 0
Both R [] [] = Unit
Both R [] (y ∷ ys) = ⊥
Both R (x ∷ xs) [] = ⊥
Both R (x ∷ xs) (y ∷ ys) = R x y × Both R xs ys

-- ---- bits

-- where the wire is one, all who send give a one
abbrev Gives : Bool → Sender → Type 0
Gives w s = w ≡ true → s.sends ≡ true → next s.left ≡ true

gives_all : (w : Bool) (ss : List Sender) → (w ≡ true → line ss ≡ true) → Each (Gives w) ss
unfolding line
gives_all w [] h = tt
gives_all w (s ∷ ss) h = (
  λ e f. ap (λ (b : Bool). pick b (next s.left) true) (sym f) ∙ (both_true (pick s.sends (next s.left) true) (line ss) (h e)).0,
  gives_all w ss (λ e. (both_true (pick s.sends (next s.left) true) (line ss) (h e)).1),
)

-- s sent what stood on the wire, and goes on as s'
abbrev Sent : List Bool → Sender → Sender → Type 0
Sent l s s' = s'.sends ≡ true → (s.sends ≡ true) × ((s.left ≡ l) × (s'.who ≡ s.who))

one_bit : (j : ℕ) (w : Bool) (s : Sender) → Has (suc j) s → Gives w s → (sees w s).sends ≡ true → (s.sends ≡ true) × ((s.left ≡ w ∷ (sees w s).left) × ((sees w s).who ≡ s.who))
one_bit j w s h g = go s.sends s.left w h g
  where
    go : (b : Bool) (l : List Bool) (w : Bool) → (b ≡ true → length l ≡ suc j) → (w ≡ true → b ≡ true → next l ≡ true)
        → (sees w (record { who = s.who; sends = b; left = l })).sends ≡ true
        → (b ≡ true) × ((l ≡ w ∷ (sees w (record { who = s.who; sends = b; left = l })).left) × ((sees w (record { who = s.who; sends = b; left = l })).who ≡ s.who))
    go false l w q r e = false_not_true e
    go true [] w q r e = absurd (let z = q refl in omega arith)
    go true (true ∷ l) true q r e = (refl, (refl, refl))
    go true (true ∷ l) false q r e = false_not_true e
    go true (false ∷ l) true q r e = false_not_true (r refl refl)
    go true (false ∷ l) false q r e = (refl, (refl, refl))

sent_back : (j : ℕ) (w : Bool) (l : List Bool) (ss ts : List Sender) → Each (Has (suc j)) ss → Each (Gives w) ss → Both (Sent l) (map (sees w) ss) ts → Both (Sent (w ∷ l)) ss ts
sent_back j w l [] (t ∷ ts) h g b = elim b [ ]
sent_back j w l (s ∷ ss) [] h g b = elim b [ ]
sent_back j w l [] [] h g b = tt
sent_back j w l (s ∷ ss) (t ∷ ts) h g b = (
  λ e. let r = b.0 e in let q = one_bit j w s h.0 g.0 r.0 in (q.0, (q.1.0 ∙ ap (◌∷◌ w) r.1.0, r.1.1 ∙ q.1.1)),
  sent_back j w l ss ts h.1 g.1 b.1,
)

sent_none : (ss : List Sender) → Each (Has 0) ss → Both (Sent []) ss ss
sent_none [] h = tt
sent_none (s ∷ ss) h = (λ e. (e, (empty_of_length s.left (h.0 e), refl)), sent_none ss h.1)

sent_bits : (j : ℕ) (ss : List Sender) → Each (Has j) ss → Both (Sent (seen j ss)) ss (after j ss)
unfolding seen after
sent_bits zero ss h = sent_none ss h
sent_bits (suc j) ss h =
    sent_back j (line ss) (seen j (map (sees (line ss)) ss)) ss (after j (map (sees (line ss)) ss)) h (gives_all (line ss) ss (λ e. e))
    (sent_bits j (map (sees (line ss)) ss) (each_made (Has j) (sees (line ss)) (sees_has j (line ss)) ss h))

-- ---- bytes

-- m said the byte that stood on the wire, and goes on as m'
abbrev SaidOne : ℕ → Module → Module → Type 0
SaidOne b m m' = is_some (supplies m').byte ≡ true → (is_some (supplies m).byte ≡ true) × ((unwrap_or (supplies m).byte 0xFF % 256 ≡ b) × (m' ≡ (supplies m).after))

said_bits : (n : ℕ) (l : List Bool) (ms : List Module) (ts : List Sender) → Both (Sent l) (map asked ms) ts → Each (Ready n) ts
    → Both (SaidOne (number_of l)) ms (map (λ (s : Sender). s.who) ts)
said_bits n l [] (t ∷ ts) b r = elim b [ ]
said_bits n l (m ∷ ms) [] b r = elim b [ ]
said_bits n l [] [] b r = tt
said_bits n l (m ∷ ms) (t ∷ ts) b r = (
  λ e. let q = b.0 (r.0.same ∙ e) in (q.0, (sym (number_bits 8 (unwrap_or (supplies m).byte 0xFF)) ∙ ap number_of q.1.0, q.1.1)),
  said_bits n l ms ts b.1 r.1,
)

said_one : (n : ℕ) (ms : List Module) → Each (Talks (suc (suc n))) ms → Both (SaidOne (byte_on ms)) ms (after_byte ms)
said_one n ms h =
    let ss : List Sender = map asked ms in
    said_bits (suc n) (seen 8 ss) ms (after 8 ss) (sent_bits 8 ss (asked_has ms)) (after_ready 8 (suc n) ss (asked_all_lem n ms h))

abbrev low : List ℕ → List ℕ
low bs = map (λ (b : ℕ). b % 256) bs

-- m said the bytes that stood on the wire, and goes on as m', which is the same module
abbrev Said : ℕ → List ℕ → Module → Module → Type 0
Said n bs m m' = is_some (supplies m').byte ≡ true → (is_some (supplies m).byte ≡ true) × ((low (says n m) ≡ bs) × (m'.own ≡ m.own))

said_more : (n b : ℕ) (bs : List ℕ) (ms ns os : List Module) → Both (SaidOne b) ms ns → Both (Said n bs) ns os → Both (Said (suc n) (b ∷ bs)) ms os
said_more n b bs [] [] (m2 ∷ os) p q = elim q [ ]
said_more n b bs [] (m1 ∷ ns) os p q = elim p [ ]
said_more n b bs (m ∷ ms) [] os p q = elim p [ ]
said_more n b bs (m ∷ ms) (m1 ∷ ns) [] p q = elim q [ ]
said_more n b bs [] [] [] p q = tt
said_more n b bs (m ∷ ms) (m1 ∷ ns) (m2 ∷ os) p q = (
  λ e.
      let y = q.0 e in
      let x = p.0 y.0 in (
        x.0,
        (
          ap low (says_next n m x.0) ∙ ap₂ ◌∷◌ x.1.0 (ap (λ (z : Module). low (says n z)) (sym x.1.1) ∙ y.1.0),
          y.1.1 ∙ ap (λ (z : Module). z.own) x.1.1 ∙ supplied_own m,
        ),
      ),
  said_more n b bs ms ns os p.1 q.1,
)

said_none : (ms : List Module) → Both (Said 0 []) ms ms
unfolding says
said_none [] = tt
said_none (m ∷ ms) = (λ e. (e, (refl, refl)), said_none ms)

said_bytes : (n k : ℕ) (ms : List Module) → Each (Talks (n + suc k)) ms → Both (Said n (bytes_on n ms)) ms (after_bytes n ms)
unfolding bytes_on after_bytes
said_bytes zero k ms h = said_none ms
said_bytes (suc n) k ms h =
    let e : suc n + suc k ≡ suc (suc (n + k)) = omega arith in
    let f : n + suc k ≡ suc (n + k) = omega arith in
    let g : Each (Talks (suc (suc (n + k)))) ms = subst (λ (x : ℕ). Each (Talks x) ms) e h in
    let r : Each (Talks (suc (n + k))) (after_byte ms) = ready_talks (suc (n + k)) (after 8 (map asked ms)) (after_ready 8 (suc (n + k)) (map asked ms) (asked_all_lem (n + k) ms g)) in
    said_more n (byte_on ms) (bytes_on n (after_byte ms)) ms (after_byte ms) (after_bytes n (after_byte ms)) (said_one (n + k) ms g)
    (said_bytes n k (after_byte ms) (subst (λ (x : ℕ). Each (Talks x) (after_byte ms)) (sym f) r))

-- ---- the identifier

says_identifier : (o : Lasting) (c : ℕ) → says 17 (at o Reply 0 c 0) ≡ 17 ∷ udid_bytes o.udid
unfolding says supplies reply_byte udid_bytes bytes_of
says_identifier o c = refl

low_same : (bs : List ℕ) → Bytes bs → low bs ≡ bs
low_same [] h = refl
low_same (b ∷ bs) h = ap₂ ◌∷◌ (mod-eq_of_lt h.0) (low_same bs h.1)

-- one that answered, and drives the wire, said its identifier
answering_said : (m : Module) → is_some (supplies (answering m)).byte ≡ true → low (says 17 (answering m)) ≡ 17 ∷ udid_bytes m.own.udid
answering_said m = go m.own.resolved
  where
    go : (t : Bool) → is_some (supplies (replying t m.own)).byte ≡ true
        → low (says 17 (replying t m.own)) ≡ 17 ∷ udid_bytes m.own.udid
    go true e = not_both (silent_drives m.own) e
    go false e = ap low (says_identifier m.own (asked_pec 0x03)) ∙ ap (◌∷◌ 17) (low_same (udid_bytes m.own.udid) (udid_bytes_lem m.own.udid))

answering_own : (m : Module) → (answering m).own ≡ m.own
answering_own m = go m.own.resolved
  where
    go : (t : Bool) → (replying t m.own).own ≡ m.own
    go true = refl
    go false = refl

drives_still : (m : Module) → StillSends m → is_some (supplies m).byte ≡ true
unfolding supplies
drives_still m e = ap (λ (p : Phase). is_some (supplied_in p m).byte) e

-- it is one of those that were there, and its identifier stood on the wire
Winner : List ℕ → List Module → Module → Type 0
Winner bs ms n = (m : Module) × Among m ms × (n.own ≡ m.own) × (17 ∷ udid_bytes n.own.udid ≡ bs)

winner : (bs : List ℕ) (ms ns : List Module) → Both (Said 17 bs) (map answering ms) ns → (n : Module) → Among n ns → StillSends n → Winner bs ms n
unfolding Winner
winner bs [] (n ∷ ns) b x i s = elim b [ ]
winner bs (m ∷ ms) [] b x i s = elim b [ ]
winner bs [] [] b x i s = absurd i
winner bs (m ∷ ms) (n ∷ ns) b x (inl e) s =
    let q = b.0 (drives_still n (ap (λ (z : Module). z.phase) e ∙ s)) in
    let o : x.own ≡ m.own = ap (λ (z : Module). z.own) (sym e) ∙ q.1.1 ∙ answering_own m in
    (m, inl refl, o, ap (λ (l : Lasting). 17 ∷ udid_bytes l.udid) o ∙ sym (answering_said m q.0) ∙ q.1.0)
winner bs (m ∷ ms) (n ∷ ns) b x (inr i) s = let r = winner bs ms ns b.1 x i s in (r.0, inr r.1, r.2, r.3)

module _ (ms : List Module) where
  -- each is the module that it was, in its place
  pub still_there : (n : ℕ) → records_of (after_bytes n (asked_all ms)) ≡ records_of ms
  still_there n = bytes_records n (asked_all ms) ∙ ap records_of (answering_all ms) ∙ answering_records ms

  wins : (n : Module) → Among n (after_bytes 17 (asked_all ms)) → StillSends n → Winner (bytes_on 17 (asked_all ms)) ms n
  wins = subst (λ (l : List Module). (n : Module) → Among n (after_bytes 17 l) → StillSends n → Winner (bytes_on 17 l) ms n) (sym (answering_all ms))
      (winner (bytes_on 17 (map answering ms)) ms (after_bytes 17 (map answering ms)) (said_bytes 17 1 (map answering ms) (answering_talks ms)))

  -- ONE WINS: after the count and the 16 bytes of the identifier, whoever still sends has the identifier that stood on the wire
  pub one_wins : (n : Module) → Among n (after_bytes 17 (asked_all ms)) → StillSends n → bytes_on 17 (asked_all ms) ≡ 17 ∷ udid_bytes n.own.udid
  unfolding Winner
  one_wins n i s = sym (wins n i s).3

  -- so of two that still send both have the same
  pub never_two : Each Fitting ms → (m n : Module) → Among m (after_bytes 17 (asked_all ms)) → Among n (after_bytes 17 (asked_all ms)) → StillSends m → StillSends n
      → m.own.udid ≡ n.own.udid
  unfolding Winner
  never_two h m n i j s t =
      let q : 17 ∷ udid_bytes m.own.udid ≡ 17 ∷ udid_bytes n.own.udid = (wins m i s).3 ∙ sym (wins n j t).3 in
      let r : udid_bytes m.own.udid ≡ udid_bytes n.own.udid = cc q in
      (same_bytes m.own.udid n.own.udid (fits m (wins m i s).0 (wins m i s).1 (wins m i s).2) (fits n (wins n j t).0 (wins n j t).1 (wins n j t).2)).0 r
    where
      of : (l : List Module) → Each Fitting l → (k : Module) → Among k l → Fitting k
      of [] g k x'' = elim x'' [ ]
      of (x ∷ l) g k (inl e) = subst Fitting e g.0
      of (x ∷ l) g k (inr e) = of l g.1 k e

      fits : (n m : Module) → Among m ms → n.own ≡ m.own → Fits n.own.udid
      fits n m i e = subst (λ (o : Lasting). Fits o.udid) (sym e) (of ms h m i)
