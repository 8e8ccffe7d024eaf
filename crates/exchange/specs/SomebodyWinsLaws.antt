-- Where one module with AR clear is on the bus, somebody still sends after the identifier.
use Rattle.std.specs.Prelude.{ℕ, zero, suc, ◌+◌, ◌≡◌, refl, Bool, true, false, List, [], ◌∷◌, map, is_some}
use Rattle.std.proofs.Common.{sym, ap, ap₂, subst, ◌∙◌, inl, inr, arith}
use Rattle.lists.specs.Choice.{pick, or, and, not}
use Rattle.lists.specs.ChoiceLaws.{false_not_true, not_both, or_last}
use Rattle.lists.specs.Each.{Each}
use Rattle.arbitration.specs.Among.{Among}
use Rattle.arbitration.specs.Wire.{next}
use Rattle.module.specs.declared.state.Module.{Module}
use Rattle.module.specs.Supply.{supplies}
use Rattle.exchange.specs.AlikeLaws.{some}
use Rattle.exchange.specs.AnsweringLaws.{answering, answering_talks, answering_drives}
use Rattle.exchange.specs.Exchange.{Sender, asked, line, sees, after, after_byte, after_bytes}
use Rattle.exchange.specs.GetLaws.{answering_all}
use Rattle.exchange.specs.ReadLaws.{Talks, quiet, speaks, silent_drives, Ready, asked_all_lem, after_ready, ready_talks}
use Rattle.exchange.specs.Sending.{asked_all, StillSends}

-- ---- bits

-- where the wire is one nobody leaves
one_keeps : (ss : List Sender) → some (map (sees true) ss) ≡ some ss
unfolding some
one_keeps [] = refl
one_keeps (s ∷ ss) = ap₂ or (go s.sends s.left) (one_keeps ss)
  where
    go : (z : Bool) (l : List Bool) → (sees true (record { who = s.who; sends = z; left = l })).sends ≡ z
    go false l = refl
    go true [] = refl
    go true (true ∷ l) = refl
    go true (false ∷ l) = refl

-- where it is zero whoever gave the zero stays
zero_keeps : (ss : List Sender) → line ss ≡ false → some (map (sees false) ss) ≡ true
unfolding some line
zero_keeps [] e = not_both e refl
zero_keeps (s ∷ ss) e = go s.sends s.left e (λ q. zero_keeps ss q)
  where
    go : (z : Bool) (l : List Bool) → and (pick z (next l) true) (line ss) ≡ false → (line ss ≡ false → some (map (sees false) ss) ≡ true)
        → or (sees false (record { who = s.who; sends = z; left = l })).sends (some (map (sees false) ss)) ≡ true
    go false l e r = r e
    go true [] e r = r e
    go true (true ∷ l) e r = r e
    go true (false ∷ l) e r = refl

somebody_stays : (ss : List Sender) → some ss ≡ true → some (map (sees (line ss)) ss) ≡ true
somebody_stays ss h = go (line ss) refl
  where
    go : (w : Bool) → line ss ≡ w → some (map (sees w) ss) ≡ true
    go true e = one_keeps ss ∙ h
    go false e = zero_keeps ss e

after_some : (j : ℕ) (ss : List Sender) → some ss ≡ true → some (after j ss) ≡ true
unfolding after
after_some zero ss h = h
after_some (suc j) ss h = after_some j (map (sees (line ss)) ss) (somebody_stays ss h)

-- ---- bytes

ready_some : (n : ℕ) (ss : List Sender) → Each (Ready n) ss → some ss ≡ some (map asked (map (λ (s : Sender). s.who) ss))
unfolding some
ready_some n [] h = refl
ready_some n (s ∷ ss) h = ap₂ or h.0.same (ready_some n ss h.1)

bytes_some : (n k : ℕ) (ms : List Module) → Each (Talks (n + suc k)) ms → some (map asked ms) ≡ true
    → Each (Talks (suc k)) (after_bytes n ms) × (some (map asked (after_bytes n ms)) ≡ true)
unfolding after_bytes
bytes_some zero k ms h e = (subst (λ (x : ℕ). Each (Talks x) ms) (let z : 0 + suc k ≡ suc k = omega arith in z) h, e)
bytes_some (suc n) k ms h e =
    let g : Each (Talks (suc (suc (n + k)))) ms = subst (λ (x : ℕ). Each (Talks x) ms) (let z : suc n + suc k ≡ suc (suc (n + k)) = omega arith in z) h in
    let r = after_ready 8 (suc (n + k)) (map asked ms) (asked_all_lem (n + k) ms g) in
    bytes_some n k (after_byte ms)
    (subst (λ (x : ℕ). Each (Talks x) (after_byte ms)) (let z : suc (n + k) ≡ n + suc k = omega arith in z) (ready_talks (suc (n + k)) (after 8 (map asked ms)) r))
    (sym (ready_some (suc (n + k)) (after 8 (map asked ms)) r) ∙ after_some 8 (map asked ms) e)

-- ---- modules

answers : (ms : List Module) (m : Module) → Among m ms → m.own.resolved ≡ false → some (map asked (map answering ms)) ≡ true
unfolding some
answers [] m x'' r = elim x'' [ ]
answers (x ∷ ms) m (inl e) r = rw (answering_drives x ∙ ap not (ap (λ (z : Module). z.own.resolved) e ∙ r))
answers (x ∷ ms) m (inr i) r = rw (answers ms m i r) (or_last (is_some (supplies (answering x)).byte))

sends_still : (k : ℕ) (m : Module) → Talks k m → is_some (supplies m).byte ≡ true → StillSends m
sends_still k m (quiet o) e = not_both (silent_drives o) e
sends_still k m (speaks o c j p) e = refl

found : (k : ℕ) (ms : List Module) → Each (Talks k) ms → some (map asked ms) ≡ true → (n : Module) × Among n ms × StillSends n
unfolding some
found k [] h e = false_not_true e
found k (m ∷ ms) h e = go (is_some (supplies m).byte) refl e (λ r. found k ms h.1 r)
  where
    go : (b : Bool) → is_some (supplies m).byte ≡ b → or b (some (map asked ms)) ≡ true → (some (map asked ms) ≡ true → (n : Module) × Among n ms × StillSends n)
        → (n : Module) × Among n (m ∷ ms) × StillSends n
    go true q r f = (m, inl refl, sends_still k m h.0 q)
    go false q r f = let n = f r in (n.0, inr n.1, n.2)

-- SOMEBODY WINS
pub somebody_wins : (ms : List Module) (m : Module) → Among m ms → m.own.resolved ≡ false → (n : Module) × Among n (after_bytes 17 (asked_all ms)) × StillSends n
somebody_wins ms m i r =
    let b = bytes_some 17 1 (map answering ms) (answering_talks ms) (answers ms m i r) in
    subst (λ (l : List Module). (n : Module) × Among n (after_bytes 17 l) × StillSends n) (sym (answering_all ms)) (found 2 (after_bytes 17 (map answering ms)) b.0 b.1)
