-- What a module obeys, and which bytes it acknowledges, over whole packets (Packets).
use Rattle.std.specs.Prelude.{ℕ, suc, ◌+◌, ◌*◌, ◌/◌, ◌<◌, ◌≤◌, ◌≡◌, refl, Bool, true, false, ◌↔◌, List, [], ◌∷◌, ◌++◌, leb, eqb, length, get_or, drop}
use Rattle.std.proofs.Common.{sym, ap, ap₂, ◌∙◌, append_assoc, arith, eqb-true, eq-eqb}
use Rattle.std.proofs.Math.ListN.{get_or-append}
use Rattle.std.proofs.lemmas.List.{get_or_at}
use Rattle.lists.specs.Choice.{and}
use Rattle.lists.specs.ChoiceLaws.{both_true, false_not_true}
use Rattle.lists.specs.TestLaws.{or_is, and_is, false_is, leb_is}
use Rattle.pec.specs.Pec.{bit_step, pec_step, pec_from, pec_of}
use Rattle.udid.specs.Bytes.{udid_bytes}
use Rattle.udid.proofs.UdidLaws.{length_udid}
use Rattle.udid.specs.declared.Udid.{Udid}
use Rattle.module.specs.declared.state.Lasting.{Lasting}
use Rattle.module.specs.declared.state.Module.{Module}
use Rattle.module.specs.State.{silent_in}
use Rattle.module.specs.Reset.{having, assigned, reset}
use Rattle.module.specs.Receive.{for_write, starts}
use Rattle.module.specs.Obeys.{heard_all, begins, prepare_order, reset_order, directed_reset, assign_order, is_reachable, obeys}
use Rattle.module.proofs.ObeysLaws.{obeyed}
use Rattle.module.specs.Acknowledges.{acked, known, get_order}
use Rattle.module.proofs.AckLaws.{acknowledged}
use Rattle.module.specs.Packets.{Begins, Reachable, Known}

-- ---- a beginning, as a test

pub begins_is : (xs bs : List ℕ) → (begins xs bs ≡ true) ↔ Begins xs bs
unfolding begins
begins_is [] bs = (λ e. (bs, refl), λ h. refl)
begins_is (x ∷ xs) [] = (λ e. false_not_true e, λ h. absurd (let z : ◌≡◌ {A = ℕ} 0 (length ((x ∷ xs) ++ h.0)) = ap length h.1 in omega arith))
begins_is (x ∷ xs) (b ∷ bs) = (there (begins_is xs bs).0, back (begins_is xs bs).1)
  where
    there : (begins xs bs ≡ true → Begins xs bs) → and (eqb b x) (begins xs bs) ≡ true → Begins (x ∷ xs) (b ∷ bs)
    there f e =
        let p = both_true (eqb b x) (begins xs bs) e in
        let r = f p.1 in
        (r.0, ap₂ ◌∷◌ (eqb-true b x p.0) r.1)

    back : (Begins xs bs → begins xs bs ≡ true) → Begins (x ∷ xs) (b ∷ bs) → and (eqb b x) (begins xs bs) ≡ true
    back f h =
        let e : b ≡ x = ap (λ (l : List ℕ). get_or l 0 0) h.1 in
        let t : bs ≡ xs ++ h.0 = ap (drop 1) h.1 in
        rw (eq-eqb b x e) (f (h.0, t))

begins_self : (xs rest : List ℕ) → begins xs (xs ++ rest) ≡ true
begins_self xs rest = (begins_is xs (xs ++ rest)).1 (rest, refl)

pub reachable_is : (o : Lasting) → (is_reachable o ≡ true) ↔ Reachable o
reachable_is o = and_is o.valid (and (leb 0x10 o.address) (leb o.address 0x7E)) ((λ e. e), (λ e. e))
    (and_is (leb 0x10 o.address) (leb o.address 0x7E) (leb_is 0x10 o.address) (leb_is o.address 0x7E))

-- ---- the address byte of Assign Address is the one that the bytes have

-- bytes that begin h, x and what follows x begin h, their own byte in that place, and what follows that
begins_own : (h : List ℕ) (f : ℕ → List ℕ) (x : ℕ) (bs : List ℕ) → begins bs (h ++ (x ∷ f x)) ≡ true → begins bs (h ++ (get_or bs (length h) 0 ∷ f (get_or bs (length h) 0))) ≡ true
unfolding begins
begins_own h f x [] e = refl
begins_own [] f x (b ∷ bs) e =
    let p = both_true (eqb x b) (begins bs (f x)) e in
    rw (eq-eqb b b refl) (ap (λ (n : ℕ). begins bs (f n)) (sym (eqb-true x b p.0)) ∙ p.1)
begins_own (k ∷ h) f x (b ∷ bs) e =
    let p = both_true (eqb k b) (begins bs (h ++ (x ∷ f x))) e in
    rw p.0 (begins_own h f x bs p.1)

-- Assign Address as a list of its first 19 bytes, the address byte, and PEC over both
assign_head : Udid → List ℕ
assign_head u = for_write ∷ 0x04 ∷ 17 ∷ udid_bytes u

abbrev assign_tail : Udid → ℕ → List ℕ
assign_tail u x = pec_of (for_write ∷ 0x04 ∷ 17 ∷ (udid_bytes u ++ (x ∷ []))) ∷ []

assign_parts : (u : Udid) (x : ℕ) → assign_order u x ≡ assign_head u ++ (x ∷ assign_tail u x)
unfolding assign_head
assign_parts u x = ap (λ (l : List ℕ). for_write ∷ 0x04 ∷ 17 ∷ l) (append_assoc (udid_bytes u) (x ∷ []) (assign_tail u x))

head_length : (u : Udid) → length (assign_head u) ≡ 19
unfolding assign_head
head_length u = ap (λ (n : ℕ). suc (suc (suc n))) (length_udid u)

-- a beginning of one with any address byte is one with the byte that stands there
assign_known : (u : Udid) (bs : List ℕ) → (begins bs (assign_order u (get_or bs 19 0)) ≡ true) ↔ ((x : ℕ) × Begins bs (assign_order u x))
assign_known u bs = (λ e. (get_or bs 19 0, (begins_is bs (assign_order u (get_or bs 19 0))).0 e), λ h. back h.0 ((begins_is bs (assign_order u h.0)).1 h.1))
  where
    back : (x : ℕ) → begins bs (assign_order u x) ≡ true → begins bs (assign_order u (get_or bs 19 0)) ≡ true
    back x e =
        let q : begins bs (assign_head u ++ (x ∷ assign_tail u x)) ≡ true = ap (begins bs) (sym (assign_parts u x)) ∙ e in
        let r = begins_own (assign_head u) (assign_tail u) x bs q in
        ap (begins bs) (assign_parts u (get_or bs 19 0)) ∙ ap (λ (n : ℕ). begins bs (assign_head u ++ (get_or bs n 0 ∷ assign_tail u (get_or bs n 0)))) (sym (head_length u)) ∙ r

-- an Assign Address that the bytes begin with has the address byte that stands there
assign_obeyed : (u : Udid) (x : ℕ) (rest : List ℕ) → get_or (assign_order u x ++ rest) 19 0 ≡ x
assign_obeyed u x rest =
    let e : assign_order u x ++ rest ≡ assign_head u ++ (x ∷ (assign_tail u x ++ rest)) = ap (λ (l : List ℕ). l ++ rest) (assign_parts u x) ∙ append_assoc (assign_head u) (x ∷ assign_tail u x) rest in
    ap (λ (l : List ℕ). get_or l 19 0) e ∙ get_or_at (assign_head u) x (assign_tail u x ++ rest) 0 19 (head_length u)

-- ---- ACKNOWLEDGED: the bytes after a START all get ACK if and only if they are the beginning of a command that the module knows

pub known_is : (o : Lasting) (bs : List ℕ) → (known o bs ≡ true) ↔ Known o bs
unfolding known
known_is o bs =
    or_is (begins bs prepare_order) _ (begins_is bs prepare_order)
    (or_is (begins bs reset_order) _ (begins_is bs reset_order)
    (or_is (begins bs (get_order 0x03)) _ (begins_is bs (get_order 0x03))
    (or_is (begins bs (assign_order o.udid (get_or bs 19 0))) _ (assign_known o.udid bs)
    (and_is (is_reachable o) _ (reachable_is o) (or_is (begins bs (directed_reset o.address)) _ (begins_is bs (directed_reset o.address)) (begins_is bs (get_order (2 * o.address + 1))))))))

pub acked_exactly : (o : Lasting) (bs : List ℕ) → (acked (starts (silent_in o)) bs ≡ true) ↔ Known o bs
unfolding starts
acked_exactly o bs = ((λ e. (known_is o bs).0 (sym (acknowledged o bs) ∙ e)), λ h. acknowledged o bs ∙ (known_is o bs).1 h)

-- ---- what `obeys` picks

obeys_third : (o : Lasting) (bs : List ℕ) → begins prepare_order bs ≡ false → begins reset_order bs ≡ false → and (is_reachable o) (begins (directed_reset o.address) bs) ≡ true → obeys o bs ≡ reset o
unfolding obeys
obeys_third o bs p q r = rw (p, q, r)

obeys_fourth : (o : Lasting) (bs : List ℕ) → begins prepare_order bs ≡ false → begins reset_order bs ≡ false → and (is_reachable o) (begins (directed_reset o.address) bs) ≡ false
    → begins (assign_order o.udid (get_or bs 19 0)) bs ≡ true → obeys o bs ≡ assigned o (get_or bs 19 0 / 2)
unfolding obeys
obeys_fourth o bs p q r s = rw (p, q, r, s)

obeys_none : (o : Lasting) (bs : List ℕ) → begins prepare_order bs ≡ false → begins reset_order bs ≡ false → and (is_reachable o) (begins (directed_reset o.address) bs) ≡ false
    → begins (assign_order o.udid (get_or bs 19 0)) bs ≡ false → obeys o bs ≡ o
unfolding obeys
obeys_none o bs p q r s = rw (p, q, r, s)

-- where number n differs the one list does not begin the other
not_begun : (xs bs : List ℕ) (n : ℕ) → n < length xs → (get_or xs n 0 ≡ get_or bs n 0 → ⊥) → begins xs bs ≡ false
not_begun xs bs n l h = (false_is (begins xs bs) (begins_is xs bs)).1 (λ r. h (sym (ap (λ (b : List ℕ). get_or b n 0) r.1 ∙ get_or-append xs r.0 0 n l)))

-- ---- OBEYED: a whole packet with its right PEC takes effect, whatever follows it and whatever the module stood in before the START

pub obeys_prepare : (m : Module) (rest : List ℕ) → (heard_all (starts m) (prepare_order ++ rest)).own ≡ having m.own m.own.udid m.own.valid m.own.address false
unfolding obeys
obeys_prepare m rest = obeyed m (prepare_order ++ rest) ∙ rw (begins_self prepare_order rest)

obeys_general : (o : Lasting) (rest : List ℕ) → obeys o (reset_order ++ rest) ≡ reset o
unfolding obeys begins pec_from pec_step bit_step
obeys_general o rest = refl

pub obeys_reset : (m : Module) (rest : List ℕ) → (heard_all (starts m) (reset_order ++ rest)).own ≡ reset m.own
obeys_reset m rest = obeyed m (reset_order ++ rest) ∙ obeys_general m.own rest

-- a directed command's byte is none of the general ones
obeys_directed_to : (o : Lasting) (rest : List ℕ) → Reachable o → obeys o (directed_reset o.address ++ rest) ≡ reset o
obeys_directed_to o rest h =
    let l : 0x10 ≤ o.address = h.1.0 in
    let p : begins prepare_order (directed_reset o.address ++ rest) ≡ false = not_begun prepare_order (directed_reset o.address ++ rest) 1 (omega arith) (λ e. omega arith) in
    let q : begins reset_order (directed_reset o.address ++ rest) ≡ false = not_begun reset_order (directed_reset o.address ++ rest) 1 (omega arith) (λ e. omega arith) in
    obeys_third o (directed_reset o.address ++ rest) p q (rw ((reachable_is o).1 h) (begins_self (directed_reset o.address) rest))

pub obeys_directed : (m : Module) (rest : List ℕ) → Reachable m.own → (heard_all (starts m) (directed_reset m.own.address ++ rest)).own ≡ reset m.own
obeys_directed m rest h = obeyed m (directed_reset m.own.address ++ rest) ∙ obeys_directed_to m.own rest h

obeys_assign_to : (o : Lasting) (x : ℕ) (rest : List ℕ) → obeys o (assign_order o.udid x ++ rest) ≡ assigned o (x / 2)
obeys_assign_to o x rest =
    let bs : List ℕ = assign_order o.udid x ++ rest in
    let p : begins prepare_order bs ≡ false = not_begun prepare_order bs 1 (omega arith) (λ e. omega arith) in
    let q : begins reset_order bs ≡ false = not_begun reset_order bs 1 (omega arith) (λ e. omega arith) in
    let r : and (is_reachable o) (begins (directed_reset o.address) bs) ≡ false = unreached (is_reachable o) refl in
    let e : get_or bs 19 0 ≡ x = assign_obeyed o.udid x rest in
    obeys_fourth o bs p q r (ap (λ (n : ℕ). begins (assign_order o.udid n) bs) e ∙ begins_self (assign_order o.udid x) rest) ∙ ap (λ (n : ℕ). assigned o (n / 2)) e
  where
    unreached : (t : Bool) → is_reachable o ≡ t → and t (begins (directed_reset o.address) (assign_order o.udid x ++ rest)) ≡ false
    unreached false f = refl
    unreached true f =
        let l : 0x10 ≤ o.address = ((reachable_is o).0 f).1.0 in
        not_begun (directed_reset o.address) (assign_order o.udid x ++ rest) 1 (omega arith) (λ e. omega arith)

pub obeys_assign : (m : Module) (x : ℕ) (rest : List ℕ) → (heard_all (starts m) (assign_order m.own.udid x ++ rest)).own ≡ having m.own m.own.udid true (x / 2) true
obeys_assign m x rest = obeyed m (assign_order m.own.udid x ++ rest) ∙ obeys_assign_to m.own x rest

-- AND NOTHING ELSE: bytes that begin with none of them change nothing
pub obeys_no_other : (m : Module) (bs : List ℕ) → (Begins prepare_order bs → ⊥) → (Begins reset_order bs → ⊥) → (Reachable m.own → Begins (directed_reset m.own.address) bs → ⊥)
    → ((x : ℕ) → Begins (assign_order m.own.udid x) bs → ⊥) → (heard_all (starts m) bs).own ≡ m.own
obeys_no_other m bs p q r s =
    let o : Lasting = m.own in
    let directed = and_is (is_reachable o) (begins (directed_reset o.address) bs) (reachable_is o) (begins_is (directed_reset o.address) bs) in
    let x : ℕ = get_or bs 19 0 in
    obeyed m bs
    ∙ obeys_none o bs ((false_is _ (begins_is prepare_order bs)).1 p) ((false_is _ (begins_is reset_order bs)).1 q) ((false_is _ directed).1 (λ h. r h.0 h.1))
    ((false_is _ (begins_is (assign_order o.udid x) bs)).1 (s x))
