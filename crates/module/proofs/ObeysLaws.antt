-- The module changes as `obeys` says, whatever it stood in before the START.
use Rattle.std.specs.Prelude.{ℕ, suc, ◌+◌, ◌*◌, ◌/◌, ◌%◌, ◌<◌, ◌≡◌, Bool, true, false, List, [], ◌∷◌, ◌++◌, ltb, leb, eqb, length, get_or, drop}
use Rattle.std.proofs.Math.Path.{refl}
use Rattle.std.proofs.Common.{sym, ap, ap₂, subst, ◌∙◌, append_assoc, arith, add-one, mod-eq_of_lt, drop_of_length-le, drop-cons, ltb-true, ltb-false, leb-true, eqb-true, le-leb, eq-eqb, ne_eqb}
use Rattle.std.proofs.lemmas.Bool.{eqb-false, lt-leb}
use Rattle.lists.specs.Choice.{pick, and}
use Rattle.lists.specs.ChoiceLaws.{both_true, and_none}
use Rattle.pec.specs.Pec.{pec_step, pec_from, pec_of}
use Rattle.udid.specs.Bytes.{udid_bytes}
use Rattle.udid.proofs.UdidLaws.{length_udid}
use Rattle.module.specs.declared.state.Phase.{Phase}
use Rattle.module.specs.declared.state.Phase.TheVariants.{Silent, First, Command, Asked, Called, AskedAgain, CalledAgain, Count, Identifier, Given, PreparePec, ResetPec, AssignPec, Reply}
use Rattle.module.specs.declared.state.Lasting.{Lasting}
use Rattle.module.specs.declared.state.Module.{Module}
use Rattle.module.specs.declared.state.Heard.{Heard}
use Rattle.module.specs.State.{at, silent_in, taken, refused}
use Rattle.module.specs.Reset.{prepared, assigned, reset}
use Rattle.module.specs.Receive.{for_write, for_read, started_in, starts, at_first, is_own, at_directed, at_command, at_again, at_count, at_identifier, at_pec, receives}
use Rattle.module.specs.Obeys.{heard_all, begins, is_reachable, obeys}

-- ---- steps

pub heard_cons : (m : Module) (b : ℕ) (bs : List ℕ) → heard_all m (b ∷ bs) ≡ heard_all (receives m b).after bs
unfolding heard_all
heard_cons m b bs = refl

heard_nil : (m : Module) → heard_all m [] ≡ m
unfolding heard_all
heard_nil m = refl

-- SILENT: it stays as it is, whatever comes, and has nothing to say
pub silent_stays : (o : Lasting) (bs : List ℕ) → heard_all (silent_in o) bs ≡ silent_in o
unfolding heard_all receives
silent_stays o [] = refl
silent_stays o (b ∷ bs) = silent_stays o bs

-- the lasting part after bytes
abbrev pub own_after : Module → List ℕ → Lasting
own_after m bs = (heard_all m bs).own

after_pick : (t : Bool) (x y : Heard) (bs : List ℕ) → own_after (pick t x y).after bs ≡ pick t (own_after x.after bs) (own_after y.after bs)
after_pick true x y bs = refl
after_pick false x y bs = refl

silent_own : (o : Lasting) (bs : List ℕ) → own_after (silent_in o) bs ≡ o
silent_own o bs = ap (λ (m : Module). m.own) (silent_stays o bs)

-- a byte at its phase, as the definition has it
module _ (o : Lasting) (k c g b : ℕ) where
  step_first : receives (at o First k c g) b ≡ at_first o b
  unfolding receives
  step_first = refl

  step_command : receives (at o Command k c g) b ≡ at_command o (pec_step c b) b
  unfolding receives
  step_command = refl

  step_asked : receives (at o Asked k c g) b ≡ refused o
  unfolding receives
  step_asked = refl

  step_called : receives (at o Called k c g) b ≡ refused o
  unfolding receives
  step_called = refl

  step_count : receives (at o Count k c g) b ≡ at_count o (pec_step c b) b
  unfolding receives
  step_count = refl

  step_identifier : receives (at o Identifier k c g) b ≡ at_identifier o k (pec_step c b) b
  unfolding receives
  step_identifier = refl

  step_given : receives (at o Given k c g) b ≡ taken o AssignPec 0 (pec_step c b) (b / 2)
  unfolding receives
  step_given = refl

  step_prepare : receives (at o PreparePec k c g) b ≡ at_pec (prepared o) o c b
  unfolding receives
  step_prepare = refl

  step_reset : receives (at o ResetPec k c g) b ≡ at_pec (reset o) o c b
  unfolding receives
  step_reset = refl

  step_assign : receives (at o AssignPec k c g) b ≡ at_pec (assigned o g) o c b
  unfolding receives
  step_assign = refl

own_step : (m : Module) (h : Heard) (b : ℕ) (bs : List ℕ) → receives m b ≡ h → own_after m (b ∷ bs) ≡ own_after h.after bs
own_step m h b bs e = ap (λ (x : Module). x.own) (heard_cons m b bs) ∙ ap (λ (x : Heard). own_after x.after bs) e

own_nil : (m : Module) → own_after m [] ≡ m.own
own_nil m = ap (λ (x : Module). x.own) (heard_nil m)

-- ---- PEC

begins_one : (c b : ℕ) (bs : List ℕ) → begins (c ∷ []) (b ∷ bs) ≡ eqb b c
unfolding begins
begins_one c b bs = go (eqb b c)
  where
    go : (t : Bool) → and t true ≡ t
    go true = refl
    go false = refl

begins_none : (c : ℕ) (xs : List ℕ) → begins (c ∷ xs) [] ≡ false
unfolding begins
begins_none c xs = refl

begins_cons : (x : ℕ) (xs : List ℕ) (b : ℕ) (bs : List ℕ) → begins (x ∷ xs) (b ∷ bs) ≡ and (eqb b x) (begins xs bs)
unfolding begins
begins_cons x xs b bs = refl

-- a phase m in which PEC c is due, and the command changes o to a
pec_own : (m : Module) (a o : Lasting) (c : ℕ) → m.own ≡ o → ((b : ℕ) → receives m b ≡ at_pec a o c b) → (bs : List ℕ) → own_after m bs ≡ pick (begins (c ∷ []) bs) a o
pec_own m a o c e s [] = own_nil m ∙ e ∙ ap (λ (t : Bool). pick t a o) (sym (begins_none c []))
pec_own m a o c e s (b ∷ bs) =
    own_step m (at_pec a o c b) b bs (s b)
    ∙ after_pick (eqb b c) (taken a Silent 0 0 0) (refused o) bs
    ∙ ap₂ (pick (eqb b c)) (silent_own a bs) (silent_own o bs)
    ∙ ap (λ (t : Bool). pick t a o) (sym (begins_one c b bs))

prepare_own : (o : Lasting) (c : ℕ) (bs : List ℕ) → own_after (at o PreparePec 0 c 0) bs ≡ pick (begins (c ∷ []) bs) (prepared o) o
prepare_own o c bs = pec_own (at o PreparePec 0 c 0) (prepared o) o c refl (λ b. step_prepare o 0 c 0 b) bs

reset_own : (o : Lasting) (c : ℕ) (bs : List ℕ) → own_after (at o ResetPec 0 c 0) bs ≡ pick (begins (c ∷ []) bs) (reset o) o
reset_own o c bs = pec_own (at o ResetPec 0 c 0) (reset o) o c refl (λ b. step_reset o 0 c 0 b) bs

-- ---- Assign Address

-- bytes bs where the bytes xs are due, then an address, then PEC, c being PEC so far
unfoldable pub assign_by : Lasting → ℕ → List ℕ → List ℕ → Lasting
assign_by o c [] xs = o
assign_by o c (b ∷ bs) [] = pick (begins (pec_step c b ∷ []) bs) (assigned o (b / 2)) o
assign_by o c (b ∷ bs) (x ∷ xs) = pick (eqb b x) (assign_by o (pec_step c b) bs xs) o

given_own : (o : Lasting) (c : ℕ) (bs : List ℕ) → own_after (at o Given 0 c 0) bs ≡ assign_by o c bs []
unfolding assign_by
given_own o c [] = own_nil (at o Given 0 c 0)
given_own o c (b ∷ bs) =
    own_step (at o Given 0 c 0) (taken o AssignPec 0 (pec_step c b) (b / 2)) b bs (step_given o 0 c 0 b)
    ∙ pec_own (at o AssignPec 0 (pec_step c b) (b / 2)) (assigned o (b / 2)) o (pec_step c b) refl (λ x. step_assign o 0 (pec_step c b) (b / 2) x) bs

assign_nil : (o : Lasting) (c : ℕ) (xs : List ℕ) → assign_by o c [] xs ≡ o
unfolding assign_by
assign_nil o c xs = refl

assign_cons : (o : Lasting) (c b : ℕ) (bs : List ℕ) (x : ℕ) (xs : List ℕ) → assign_by o c (b ∷ bs) (x ∷ xs) ≡ pick (eqb b x) (assign_by o (pec_step c b) bs xs) o
unfolding assign_by
assign_cons o c b bs x xs = refl

-- the byte after place k: another of the identifier, or the address
more_own : (t : Bool) (o : Lasting) (k c : ℕ) (bs : List ℕ) → ltb k 15 ≡ t → k < 16
    → (k + 1 < 16 → own_after (at o Identifier (k + 1) c 0) bs ≡ assign_by o c bs (drop (k + 1) (udid_bytes o.udid)))
    → own_after (pick t (taken o Identifier (k + 1) c 0) (taken o Given 0 c 0)).after bs ≡ assign_by o c bs (drop (k + 1) (udid_bytes o.udid))
more_own true o k c bs e h r = let l = ltb-true k 15 e in r (omega arith)
more_own false o k c bs e h r =
    let l = ltb-false k 15 e in
    given_own o c bs ∙ ap (assign_by o c bs) (sym (drop_of_length-le (udid_bytes o.udid) {i = k + 1} (omega (arith, length_udid o.udid))))

identifier_own : (o : Lasting) (k c : ℕ) (bs : List ℕ) → k < 16 → own_after (at o Identifier k c 0) bs ≡ assign_by o c bs (drop k (udid_bytes o.udid))
identifier_own o k c [] h = own_nil (at o Identifier k c 0) ∙ sym (assign_nil o c (drop k (udid_bytes o.udid)))
identifier_own o k c (b ∷ bs) h =
    let u : List ℕ = udid_bytes o.udid in
    let d : drop k u ≡ get_or u k 0 ∷ drop (k + 1) u = rw (add-one k) (drop-cons u k 0 (omega (arith, length_udid o.udid))) in
    own_step (at o Identifier k c 0) (at_identifier o k (pec_step c b) b) b bs (step_identifier o k c 0 b)
    ∙ after_pick (eqb b (get_or u (k % 16) 0)) (pick (ltb k 15) (taken o Identifier (k + 1) (pec_step c b) 0) (taken o Given 0 (pec_step c b) 0)) (refused o) bs
    ∙ ap₂ (pick (eqb b (get_or u (k % 16) 0))) (more_own (ltb k 15) o k (pec_step c b) bs refl h (λ l. identifier_own o (k + 1) (pec_step c b) bs l)) (silent_own o bs)
    ∙ ap (λ (n : ℕ). pick (eqb b (get_or u n 0)) (assign_by o (pec_step c b) bs (drop (k + 1) u)) o) (mod-eq_of_lt h)
    ∙ sym (assign_cons o c b bs (get_or u k 0) (drop (k + 1) u))
    ∙ ap (assign_by o c (b ∷ bs)) (sym d)

count_own : (o : Lasting) (c : ℕ) (bs : List ℕ) → own_after (at o Count 0 c 0) bs ≡ assign_by o c bs (17 ∷ udid_bytes o.udid)
count_own o c [] = own_nil (at o Count 0 c 0) ∙ sym (assign_nil o c (17 ∷ udid_bytes o.udid))
count_own o c (b ∷ bs) =
    own_step (at o Count 0 c 0) (at_count o (pec_step c b) b) b bs (step_count o 0 c 0 b)
    ∙ after_pick (eqb b 17) (taken o Identifier 0 (pec_step c b) 0) (refused o) bs
    ∙ ap₂ (pick (eqb b 17)) (identifier_own o 0 (pec_step c b) bs (omega arith)) (silent_own o bs)
    ∙ sym (assign_cons o c b bs 17 (udid_bytes o.udid))

-- read as a beginning: the bytes due, an address byte, PEC over all
assign_begins : (o : Lasting) (c : ℕ) (bs xs : List ℕ)
    → assign_by o c bs xs ≡ pick (begins (xs ++ (get_or bs (length xs) 0 ∷ pec_from c (xs ++ (get_or bs (length xs) 0 ∷ [])) ∷ [])) bs) (assigned o (get_or bs (length xs) 0 / 2)) o
unfolding assign_by begins pec_from
assign_begins o c [] [] = refl
assign_begins o c [] (x ∷ xs) = refl
assign_begins o c (b ∷ bs) [] = rw (eq-eqb b b refl)
assign_begins o c (b ∷ bs) (x ∷ xs) = go (eqb b x) refl (assign_begins o (pec_step c b) bs xs)
  where
    go : (t : Bool) → eqb b x ≡ t
        → assign_by o (pec_step c b) bs xs ≡ pick (begins (xs ++ (get_or bs (length xs) 0 ∷ pec_from (pec_step c b) (xs ++ (get_or bs (length xs) 0 ∷ [])) ∷ [])) bs) (assigned o (get_or bs (length xs) 0 / 2)) o
        → pick t (assign_by o (pec_step c b) bs xs) o
        ≡ pick (and t (begins (xs ++ (get_or bs (length xs) 0 ∷ pec_from (pec_step c x) (xs ++ (get_or bs (length xs) 0 ∷ [])) ∷ [])) bs)) (assigned o (get_or bs (length xs) 0 / 2)) o
    go true e r = r ∙ ap (λ (n : ℕ). pick (begins (xs ++ (get_or bs (length xs) 0 ∷ pec_from (pec_step c n) (xs ++ (get_or bs (length xs) 0 ∷ [])) ∷ [])) bs) (assigned o (get_or bs (length xs) 0 / 2)) o) (eqb-true b x e)
    go false e r = refl

-- ---- a directed command

pub own_true : (o : Lasting) (b : ℕ) → is_own o b ≡ true → (is_reachable o ≡ true) × (b / 2 ≡ o.address)
unfolding is_own
own_true o b e =
    let p = both_true o.valid _ e in
    let q = both_true (leb 0x20 b) _ p.1 in
    let r = both_true (leb b 0xFD) _ q.1 in
    let l = leb-true 0x20 b q.0 in
    let m = leb-true b 0xFD r.0 in
    let s = eqb-true (b / 2) o.address r.1 in
    (rw (p.0, le-leb 0x10 o.address (omega arith), le-leb o.address 0x7E (omega arith)), s)

pub true_own : (o : Lasting) (b : ℕ) → is_reachable o ≡ true → b ≡ 2 * o.address → is_own o b ≡ true
unfolding is_own
true_own o b e s =
    let p = both_true o.valid _ e in
    let q = both_true (leb 0x10 o.address) _ p.1 in
    let l = leb-true 0x10 o.address q.0 in
    let m = leb-true o.address 0x7E q.1 in
    rw (p.0, le-leb 0x20 b (omega arith), le-leb b 0xFD (omega arith), eq-eqb (b / 2) o.address (omega arith))

own_false : (o : Lasting) (b : ℕ) (z : Bool) → is_own o b ≡ false → and (is_reachable o) (and (eqb b (2 * o.address)) z) ≡ false
own_false o b z e = go (is_reachable o) (eqb b (2 * o.address)) refl refl
  where
    go : (s t : Bool) → is_reachable o ≡ s → eqb b (2 * o.address) ≡ t → and s (and t z) ≡ false
    go false t f g = refl
    go true false f g = refl
    go true true f g =
        let h = true_own o b f (eqb-true b (2 * o.address) g) in
        absurd (let z : ◌≡◌ {A = ℕ} 0 1 = cc in omega arith)

-- no directed command is below 20h
pub own_small : (o : Lasting) (b : ℕ) → b < 0x20 → is_own o b ≡ false
unfolding is_own
own_small o b h = rw (lt-leb 0x20 b h) (go o.valid)
  where
    go : (t : Bool) → and t false ≡ false
    go true = refl
    go false = refl

-- ---- the command byte

-- PEC after the default address
abbrev first : ℕ
first = pec_step 0 for_write

pec_two : (b : ℕ) → pec_of (for_write ∷ b ∷ []) ≡ pec_step first b
unfolding pec_from
pec_two b = refl

-- what is obeyed after the default address and b
abbrev after : Lasting → ℕ → List ℕ → Lasting
after o b bs =
    pick (and (eqb b 0x01) (begins (pec_step first 0x01 ∷ []) bs)) (prepared o)
    (pick (and (eqb b 0x02) (begins (pec_step first 0x02 ∷ []) bs)) (reset o)
    (pick (and (is_reachable o) (and (eqb b (2 * o.address)) (begins (pec_step first (2 * o.address) ∷ []) bs))) (reset o)
    (pick (and (eqb b 0x04) (begins (17 ∷ ((udid_bytes o.udid ++ (get_or bs 17 0 ∷ [])) ++ (pec_from (pec_step first 0x04) (17 ∷ (udid_bytes o.udid ++ (get_or bs 17 0 ∷ []))) ∷ []))) bs)) (assigned o (get_or bs 17 0 / 2)) o)))

obeys_after : (o : Lasting) (b : ℕ) (bs : List ℕ) → obeys o (for_write ∷ b ∷ bs) ≡ after o b bs
unfolding obeys begins pec_from
obeys_after o b bs = refl

command_prepare : (o : Lasting) (bs : List ℕ) → own_after (at o Command 0 first 0) (0x01 ∷ bs) ≡ after o 0x01 bs
command_prepare o bs =
    own_step (at o Command 0 first 0) _ 0x01 bs (step_command o 0 first 0 0x01)
    ∙ prepare_own o (pec_step first 0x01) bs
    ∙ ap (λ (t : Bool). pick (begins (pec_step first 0x01 ∷ []) bs) (prepared o) (pick t (reset o) o))
    (sym (own_false o 0x01 (begins (pec_step first (2 * o.address) ∷ []) bs) (own_small o 0x01 (omega arith))))

command_reset : (o : Lasting) (bs : List ℕ) → own_after (at o Command 0 first 0) (0x02 ∷ bs) ≡ after o 0x02 bs
command_reset o bs =
    own_step (at o Command 0 first 0) _ 0x02 bs (step_command o 0 first 0 0x02)
    ∙ reset_own o (pec_step first 0x02) bs
    ∙ ap (λ (t : Bool). pick (begins (pec_step first 0x02 ∷ []) bs) (reset o) (pick t (reset o) o))
    (sym (own_false o 0x02 (begins (pec_step first (2 * o.address) ∷ []) bs) (own_small o 0x02 (omega arith))))

-- after Get UDID a byte is refused
asked_own : (o : Lasting) (c : ℕ) (bs : List ℕ) → own_after (at o Asked 0 c 0) bs ≡ o
asked_own o c [] = own_nil (at o Asked 0 c 0)
asked_own o c (b ∷ bs) = own_step (at o Asked 0 c 0) (refused o) b bs (step_asked o 0 c 0 b) ∙ silent_own o bs

called_own : (o : Lasting) (c : ℕ) (bs : List ℕ) → own_after (at o Called 0 c 0) bs ≡ o
called_own o c [] = own_nil (at o Called 0 c 0)
called_own o c (b ∷ bs) = own_step (at o Called 0 c 0) (refused o) b bs (step_called o 0 c 0 b) ∙ silent_own o bs

command_get : (o : Lasting) (bs : List ℕ) → own_after (at o Command 0 first 0) (0x03 ∷ bs) ≡ after o 0x03 bs
command_get o bs =
    own_step (at o Command 0 first 0) _ 0x03 bs (step_command o 0 first 0 0x03)
    ∙ asked_own o (pec_step first 0x03) bs
    ∙ ap (λ (t : Bool). pick t (reset o) o)
    (sym (own_false o 0x03 (begins (pec_step first (2 * o.address) ∷ []) bs) (own_small o 0x03 (omega arith))))

-- the bytes of Assign Address from its count on
assign_order_lem : (o : Lasting) (c : ℕ) (bs : List ℕ)
    → assign_by o c bs (17 ∷ udid_bytes o.udid)
    ≡ pick (begins (17 ∷ ((udid_bytes o.udid ++ (get_or bs 17 0 ∷ [])) ++ (pec_from c (17 ∷ (udid_bytes o.udid ++ (get_or bs 17 0 ∷ []))) ∷ []))) bs) (assigned o (get_or bs 17 0 / 2)) o
assign_order_lem o c bs =
    let n : length (17 ∷ udid_bytes o.udid) ≡ 17 = ap suc (length_udid o.udid) in
    assign_begins o c bs (17 ∷ udid_bytes o.udid)
    ∙ ap (λ (k : ℕ). pick (begins (17 ∷ (udid_bytes o.udid ++ (get_or bs k 0 ∷ pec_from c (17 ∷ (udid_bytes o.udid ++ (get_or bs k 0 ∷ []))) ∷ []))) bs) (assigned o (get_or bs k 0 / 2)) o) n
    ∙ ap (λ (l : List ℕ). pick (begins (17 ∷ l) bs) (assigned o (get_or bs 17 0 / 2)) o)
    (sym (append_assoc (udid_bytes o.udid) (get_or bs 17 0 ∷ []) (pec_from c (17 ∷ (udid_bytes o.udid ++ (get_or bs 17 0 ∷ []))) ∷ [])))

command_assign : (o : Lasting) (bs : List ℕ) → own_after (at o Command 0 first 0) (0x04 ∷ bs) ≡ after o 0x04 bs
command_assign o bs =
    own_step (at o Command 0 first 0) _ 0x04 bs (step_command o 0 first 0 0x04)
    ∙ count_own o (pec_step first 0x04) bs
    ∙ assign_order_lem o (pec_step first 0x04) bs
    ∙ ap (λ (t : Bool). pick t (reset o) (pick (begins (17 ∷ ((udid_bytes o.udid ++ (get_or bs 17 0 ∷ [])) ++ (pec_from (pec_step first 0x04) (17 ∷ (udid_bytes o.udid ++ (get_or bs 17 0 ∷ []))) ∷ []))) bs) (assigned o (get_or bs 17 0 / 2)) o))
    (sym (own_false o 0x04 (begins (pec_step first (2 * o.address) ∷ []) bs) (own_small o 0x04 (omega arith))))

pub even : (b a : ℕ) → (b % 2 ≡ 1 → ⊥) → b / 2 ≡ a → b ≡ 2 * a
even b a h e = omega arith

-- a command byte that is none of the four
directed_own : (o : Lasting) (b : ℕ) (bs : List ℕ)
    → own_after (at_directed o (pec_step first b) b).after bs
    ≡ pick (and (is_reachable o) (and (eqb b (2 * o.address)) (begins (pec_step first (2 * o.address) ∷ []) bs))) (reset o) o
directed_own o b bs = go (is_own o b) (eqb (b % 2) 1) refl refl
  where
    go : (s t : Bool) → is_own o b ≡ s → eqb (b % 2) 1 ≡ t
        → own_after (pick s (pick t (taken o Called 0 (pec_step first b) 0) (taken o ResetPec 0 (pec_step first b) 0)) (refused o)).after bs
        ≡ pick (and (is_reachable o) (and (eqb b (2 * o.address)) (begins (pec_step first (2 * o.address) ∷ []) bs))) (reset o) o
    go false t e f =
        silent_own o bs
        ∙ ap (λ (x : Bool). pick x (reset o) o) (sym (own_false o b (begins (pec_step first (2 * o.address) ∷ []) bs) e))
    go true true e f =
        let p = own_true o b e in
        let d = eqb-true (b % 2) 1 f in
        let n : eqb b (2 * o.address) ≡ false = ne_eqb b (2 * o.address) (λ g. omega arith) in
        rw (p.0, n) (called_own o (pec_step first b) bs)
    go true false e f =
        let p = own_true o b e in
        let d = eqb-false (b % 2) 1 f in
        let s = p.1 in
        let g : b ≡ 2 * o.address = even b o.address d s in
        rw (p.0, eq-eqb b (2 * o.address) g) (reset_own o (pec_step first b) bs ∙ ap (λ (n : ℕ). pick (begins (pec_step first n ∷ []) bs) (reset o) o) g)

other_own : (o : Lasting) (b : ℕ) (bs : List ℕ) → eqb b 0x01 ≡ false → eqb b 0x02 ≡ false → eqb b 0x03 ≡ false → eqb b 0x04 ≡ false
    → own_after (at o Command 0 first 0) (b ∷ bs) ≡ after o b bs
other_own o b bs e f g h =
    own_step (at o Command 0 first 0) (at_directed o (pec_step first b) b) b bs (step_command o 0 first 0 b ∙ rw (e, f, g, h))
    ∙ directed_own o b bs
    ∙ rw (e, f, h)

command_own : (o : Lasting) (b : ℕ) (bs : List ℕ) → own_after (at o Command 0 first 0) (b ∷ bs) ≡ after o b bs
command_own o b bs = go (eqb b 0x01) (eqb b 0x02) (eqb b 0x03) (eqb b 0x04) refl refl refl refl
  where
    go : (s t u v : Bool) → eqb b 0x01 ≡ s → eqb b 0x02 ≡ t → eqb b 0x03 ≡ u → eqb b 0x04 ≡ v → own_after (at o Command 0 first 0) (b ∷ bs) ≡ after o b bs
    go true t u v e f g h = subst (λ (n : ℕ). own_after (at o Command 0 first 0) (n ∷ bs) ≡ after o n bs) (sym (eqb-true b 0x01 e)) (command_prepare o bs)
    go false true u v e f g h = subst (λ (n : ℕ). own_after (at o Command 0 first 0) (n ∷ bs) ≡ after o n bs) (sym (eqb-true b 0x02 f)) (command_reset o bs)
    go false false true v e f g h = subst (λ (n : ℕ). own_after (at o Command 0 first 0) (n ∷ bs) ≡ after o n bs) (sym (eqb-true b 0x03 g)) (command_get o bs)
    go false false false true e f g h = subst (λ (n : ℕ). own_after (at o Command 0 first 0) (n ∷ bs) ≡ after o n bs) (sym (eqb-true b 0x04 h)) (command_assign o bs)
    go false false false false e f g h = other_own o b bs e f g h

-- ---- the first byte

obeys_nothing : (o : Lasting) → obeys o [] ≡ o
unfolding obeys begins
obeys_nothing o = rw (and_none (is_reachable o))

obeys_one : (o : Lasting) → obeys o (for_write ∷ []) ≡ o
unfolding obeys begins
obeys_one o = rw (and_none (is_reachable o))

obeys_other : (o : Lasting) (b : ℕ) (bs : List ℕ) → eqb b for_write ≡ false → obeys o (b ∷ bs) ≡ o
unfolding obeys begins
obeys_other o b bs e = rw (e, and_none (is_reachable o))

after_first_lem : (o : Lasting) (bs : List ℕ) → own_after (at o Command 0 first 0) bs ≡ obeys o (for_write ∷ bs)
after_first_lem o [] = own_nil (at o Command 0 first 0) ∙ sym (obeys_one o)
after_first_lem o (b ∷ bs) = command_own o b bs ∙ sym (obeys_after o b bs)

at_first_lem : (o : Lasting) (b : ℕ) (bs : List ℕ) → own_after (at_first o b).after bs ≡ obeys o (b ∷ bs)
at_first_lem o b bs = go (eqb b for_write) refl
  where
    go : (t : Bool) → eqb b for_write ≡ t → own_after (pick t (taken o Command 0 first 0) (refused o)).after bs ≡ obeys o (b ∷ bs)
    go true e = after_first_lem o bs ∙ ap (λ (n : ℕ). obeys o (n ∷ bs)) (sym (eqb-true b for_write e))
    go false e = silent_own o bs ∙ sym (obeys_other o b bs e)

first_own : (o : Lasting) (bs : List ℕ) → own_after (at o First 0 0 0) bs ≡ obeys o bs
first_own o [] = own_nil (at o First 0 0 0) ∙ sym (obeys_nothing o)
first_own o (b ∷ bs) = own_step (at o First 0 0 0) (at_first o b) b bs (step_first o 0 0 0 b) ∙ at_first_lem o b bs

reply_own : (o : Lasting) (c : ℕ) (bs : List ℕ) → own_after (at o Reply 0 c 0) bs ≡ o
unfolding heard_all receives
reply_own o c [] = refl
reply_own o c (b ∷ bs) = silent_own o bs

-- a repeated START after Get UDID: the read address changes nothing, and any other byte is a first one
again_own : (m : Module) (q : Bool) (o : Lasting) (c : ℕ) → m.own ≡ o → ((b : ℕ) → receives m b ≡ at_again q o (pec_step c b) b) → (bs : List ℕ) → own_after m bs ≡ obeys o bs
again_own m q o c e s [] = own_nil m ∙ e ∙ sym (obeys_nothing o)
again_own m q o c e s (b ∷ bs) = own_step m (at_again q o (pec_step c b) b) b bs (s b) ∙ go (eqb b for_read) refl
  where
    quiet : (q : Bool) → own_after (pick q (refused o) (taken o Reply 0 (pec_step c b) 0)).after bs ≡ o
    quiet true = silent_own o bs
    quiet false = reply_own o (pec_step c b) bs

    go : (t : Bool) → eqb b for_read ≡ t → own_after (pick t (pick q (refused o) (taken o Reply 0 (pec_step c b) 0)) (at_first o b)).after bs ≡ obeys o (b ∷ bs)
    go true f =
        let g = eqb-true b for_read f in
        quiet q ∙ sym (obeys_other o b bs (ne_eqb b for_write (λ h. omega arith)))
    go false f = at_first_lem o b bs

asked_again_own : (o : Lasting) (c : ℕ) (bs : List ℕ) → own_after (at o AskedAgain 0 c 0) bs ≡ obeys o bs
unfolding receives
asked_again_own o c bs = again_own (at o AskedAgain 0 c 0) o.resolved o c refl (λ b. refl) bs

called_again_own : (o : Lasting) (c : ℕ) (bs : List ℕ) → own_after (at o CalledAgain 0 c 0) bs ≡ obeys o bs
unfolding receives
called_again_own o c bs = again_own (at o CalledAgain 0 c 0) false o c refl (λ b. refl) bs

-- OBEYED: after a START and any bytes the module is what `obeys` says, whatever it stood in before the START
pub obeyed : (m : Module) (bs : List ℕ) → own_after (starts m) bs ≡ obeys m.own bs
unfolding starts
obeyed m bs = go m.phase m.own m.pec
  where
    go : (ph : Phase) (o : Lasting) (c : ℕ) → own_after (started_in ph o c) bs ≡ obeys o bs
    go Asked o c = asked_again_own o c bs
    go Called o c = called_again_own o c bs
    go Silent o c = first_own o bs
    go First o c = first_own o bs
    go Command o c = first_own o bs
    go AskedAgain o c = first_own o bs
    go CalledAgain o c = first_own o bs
    go Count o c = first_own o bs
    go Identifier o c = first_own o bs
    go Given o c = first_own o bs
    go PreparePec o c = first_own o bs
    go ResetPec o c = first_own o bs
    go AssignPec o c = first_own o bs
    go Reply o c = first_own o bs
