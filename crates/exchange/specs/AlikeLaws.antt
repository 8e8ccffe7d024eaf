-- A byte that all who send send alike stands on the wire.
use Rattle.std.specs.Prelude.{◌≡◌, refl, Bool, true, false, List, [], ◌∷◌, map, length}
use Rattle.std.proofs.Common.{sym, ap, ap₂, subst, ◌∙◌}
use Rattle.lists.specs.Choice.{pick, or, and}
use Rattle.lists.specs.ChoiceLaws.{false_not_true}
use Rattle.lists.specs.Each.{Each}
use Rattle.arbitration.specs.Wire.{next}
use Rattle.exchange.specs.Exchange.{Sender, line, sees, seen}

-- who sends has these bits left
abbrev pub Says : List Bool → Sender → Type 0
Says l s = s.sends ≡ true → s.left ≡ l

-- somebody sends
unfoldable pub some : List Sender → Bool
some [] = false
some (s ∷ ss) = or s.sends (some ss)

line_one : (l : List Bool) (ss : List Sender) → Each (Says (true ∷ l)) ss → line ss ≡ true
unfolding line
line_one l [] h = refl
line_one l (s ∷ ss) h = go s.sends h.0 (line_one l ss h.1)
  where
    go : (b : Bool) → (b ≡ true → s.left ≡ true ∷ l) → line ss ≡ true → and (pick b (next s.left) true) (line ss) ≡ true
    go true q r = ap (λ (x : List Bool). and (next x) (line ss)) (q refl) ∙ r
    go false q r = r

line_zero : (l : List Bool) (ss : List Sender) → Each (Says (false ∷ l)) ss → some ss ≡ true → line ss ≡ false
unfolding line some
line_zero l [] h e = false_not_true e
line_zero l (s ∷ ss) h e = go s.sends h.0 e (λ r. line_zero l ss h.1 r)
  where
    go : (b : Bool) → (b ≡ true → s.left ≡ false ∷ l) → or b (some ss) ≡ true → (some ss ≡ true → line ss ≡ false) → and (pick b (next s.left) true) (line ss) ≡ false
    go true q r i = ap (λ (x : List Bool). and (next x) (line ss)) (q refl)
    go false q r i = i r

line_all : (b : Bool) (l : List Bool) (ss : List Sender) → Each (Says (b ∷ l)) ss → some ss ≡ true → line ss ≡ b
line_all true l ss h e = line_one l ss h
line_all false l ss h e = line_zero l ss h e

-- nobody leaves
sees_alike : (b : Bool) (l : List Bool) (s : Sender) → Says (b ∷ l) s → Says l (sees b s) × ((sees b s).sends ≡ s.sends)
sees_alike b l s h = go s.sends s.left h
  where
    with : Bool → List Bool → Sender
    with z k = record { who = s.who; sends = z; left = k }

    stays : (b : Bool) → Says l (sees b (with true (b ∷ l))) × ((sees b (with true (b ∷ l))).sends ≡ true)
    stays true = (λ e. refl, refl)
    stays false = (λ e. refl, refl)

    go : (z : Bool) (k : List Bool) → (z ≡ true → k ≡ b ∷ l) → Says l (sees b (with z k)) × ((sees b (with z k)).sends ≡ z)
    go false k q = (λ e. false_not_true e, refl)
    go true k q = subst (λ (x : List Bool). Says l (sees b (with true x)) × ((sees b (with true x)).sends ≡ true)) (sym (q refl)) (stays b)

each_alike : (b : Bool) (l : List Bool) (ss : List Sender) → Each (Says (b ∷ l)) ss → Each (Says l) (map (sees b) ss) × (some (map (sees b) ss) ≡ some ss)
unfolding some
each_alike b l [] h = (tt, refl)
each_alike b l (s ∷ ss) h =
    let r = sees_alike b l s h.0 in
    let q = each_alike b l ss h.1 in
    ((r.0, q.0), ap₂ or r.1 q.1)

pub seen_alike : (l : List Bool) (ss : List Sender) → Each (Says l) ss → some ss ≡ true → seen (length l) ss ≡ l
unfolding seen
seen_alike [] ss h e = refl
seen_alike (b ∷ l) ss h e =
    let w = line_all b l ss h e in
    let q = each_alike b l ss h in
    ap₂ ◌∷◌ w (ap (λ (x : Bool). seen (length l) (map (sees x) ss)) w ∙ seen_alike l (map (sees b) ss) q.0 (q.1 ∙ e))
