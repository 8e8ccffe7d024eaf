-- The module acknowledges as `known` says.
use Rattle.std.specs.Prelude.{ℕ, suc, ◌+◌, ◌*◌, ◌/◌, ◌%◌, ◌<◌, ◌≡◌, refl, Bool, true, false, List, [], ◌∷◌, ◌++◌, ltb, leb, eqb, length, get_or, drop}
use Rattle.std.proofs.Common.{sym, ap, ap₂, subst, ◌∙◌, append_assoc, arith, add-one, mod-eq_of_lt, drop_of_length-le, drop-cons, ltb-true, ltb-false, leb-true, le-leb, eqb-true, eq-eqb, ne_eqb}
use Rattle.std.proofs.lemmas.Bool.{eqb-false}
use Rattle.lists.specs.Choice.{pick, and, or, not}
use Rattle.lists.specs.ChoiceLaws.{both_true, or_none}
use Rattle.pec.specs.Pec.{pec_step, pec_from}
use Rattle.udid.specs.Bytes.{udid_bytes}
use Rattle.udid.proofs.UdidLaws.{length_udid}
use Rattle.module.specs.declared.state.Phase.TheVariants.{First, Command, Asked, Called, AskedAgain, CalledAgain, Count, Identifier, Given, PreparePec, ResetPec, AssignPec, Reply}
use Rattle.module.specs.declared.state.Lasting.{Lasting}
use Rattle.module.specs.declared.state.Module.{Module}
use Rattle.module.specs.declared.state.Heard.{Heard}
use Rattle.module.specs.State.{at, silent_in, taken, refused}
use Rattle.module.specs.Reset.{prepared, assigned, reset}
use Rattle.module.specs.Receive.{for_write, for_read, at_first, is_own, at_directed, at_command, at_pec, receives}
use Rattle.module.specs.Obeys.{begins, is_reachable}
use Rattle.module.proofs.ObeysLaws.{own_small, own_true, even}
use Rattle.module.specs.Acknowledges.{acked, known}

-- a NACK, and it is silent
pub acked_cons : (m : Module) (b : ℕ) (bs : List ℕ) (h : Heard) → receives m b ≡ h → acked m (b ∷ bs) ≡ and h.ack (acked h.after bs)
unfolding acked
acked_cons m b bs h e = ap (λ (x : Heard). and x.ack (acked x.after bs)) e

acked_nil : (m : Module) → acked m [] ≡ true
unfolding acked
acked_nil m = refl

-- a byte that fits if t
acked_pick : (t : Bool) (m : Module) (o : Lasting) (bs : List ℕ)
    → and (pick {A = Heard} t (record { after = m; ack = true }) (refused o)).ack (acked (pick {A = Heard} t (record { after = m; ack = true }) (refused o)).after bs) ≡ and t (acked m bs)
acked_pick true m o bs = refl
acked_pick false m o bs = refl

begins_cons : (x : ℕ) (xs : List ℕ) (b : ℕ) (bs : List ℕ) → begins (b ∷ bs) (x ∷ xs) ≡ and (eqb x b) (begins bs xs)
unfolding begins
begins_cons x xs b bs = refl

begins_nil : (xs : List ℕ) → begins [] xs ≡ true
unfolding begins
begins_nil xs = refl

eqb_sym : (x y : ℕ) → eqb x y ≡ eqb y x
eqb_sym x y = go (eqb x y) refl
  where
    go : (t : Bool) → eqb x y ≡ t → t ≡ eqb y x
    go true e = sym (eq-eqb y x (sym (eqb-true x y e)))
    go false e = sym (ne_eqb y x (λ f. eqb-false x y e (sym f)))

silent_acked : (o : Lasting) (bs : List ℕ) → acked (silent_in o) bs ≡ begins bs []
unfolding acked receives begins
silent_acked o [] = refl
silent_acked o (b ∷ bs) = refl

asked_acked : (o : Lasting) (c : ℕ) (bs : List ℕ) → acked (at o Asked 0 c 0) bs ≡ begins bs []
unfolding acked receives begins
asked_acked o c [] = refl
asked_acked o c (b ∷ bs) = refl

called_acked : (o : Lasting) (c : ℕ) (bs : List ℕ) → acked (at o Called 0 c 0) bs ≡ begins bs []
unfolding acked receives begins
called_acked o c [] = refl
called_acked o c (b ∷ bs) = refl

reply_acked : (o : Lasting) (c : ℕ) (bs : List ℕ) → acked (at o Reply 0 c 0) bs ≡ begins bs []
unfolding acked receives begins
reply_acked o c [] = refl
reply_acked o c (b ∷ bs) = refl

-- PEC is due
pec_acked : (m : Module) (a o : Lasting) (c : ℕ) → ((b : ℕ) → receives m b ≡ at_pec a o c b) → (bs : List ℕ) → acked m bs ≡ begins bs (c ∷ [])
pec_acked m a o c s [] = acked_nil m ∙ sym (begins_nil (c ∷ []))
pec_acked m a o c s (b ∷ bs) =
    acked_cons m b bs (at_pec a o c b) (s b)
    ∙ acked_pick (eqb b c) (silent_in a) o bs
    ∙ ap₂ and (eqb_sym b c) (silent_acked a bs)
    ∙ sym (begins_cons c [] b bs)

prepare_acked : (o : Lasting) (c : ℕ) (bs : List ℕ) → acked (at o PreparePec 0 c 0) bs ≡ begins bs (c ∷ [])
unfolding receives
prepare_acked o c bs = pec_acked (at o PreparePec 0 c 0) (prepared o) o c (λ b. refl) bs

reset_acked : (o : Lasting) (c : ℕ) (bs : List ℕ) → acked (at o ResetPec 0 c 0) bs ≡ begins bs (c ∷ [])
unfolding receives
reset_acked o c bs = pec_acked (at o ResetPec 0 c 0) (reset o) o c (λ b. refl) bs

assign_acked : (o : Lasting) (c g : ℕ) (bs : List ℕ) → acked (at o AssignPec 0 c g) bs ≡ begins bs (c ∷ [])
unfolding receives
assign_acked o c g bs = pec_acked (at o AssignPec 0 c g) (assigned o g) o c (λ b. refl) bs

-- ---- Assign Address: the bytes xs are due, then any address, then PEC

unfoldable fit_by : ℕ → List ℕ → List ℕ → Bool
fit_by c [] xs = true
fit_by c (b ∷ bs) [] = begins bs (pec_step c b ∷ [])
fit_by c (b ∷ bs) (x ∷ xs) = and (eqb b x) (fit_by (pec_step c b) bs xs)

fit_nil : (c : ℕ) (xs : List ℕ) → fit_by c [] xs ≡ true
unfolding fit_by
fit_nil c xs = refl

fit_cons : (c b : ℕ) (bs : List ℕ) (x : ℕ) (xs : List ℕ) → fit_by c (b ∷ bs) (x ∷ xs) ≡ and (eqb b x) (fit_by (pec_step c b) bs xs)
unfolding fit_by
fit_cons c b bs x xs = refl

pub given_step : (o : Lasting) (c b : ℕ) → receives (at o Given 0 c 0) b ≡ taken o AssignPec 0 (pec_step c b) (b / 2)
unfolding receives
given_step o c b = refl

given_acked : (o : Lasting) (c : ℕ) (bs : List ℕ) → acked (at o Given 0 c 0) bs ≡ fit_by c bs []
unfolding fit_by
given_acked o c [] = acked_nil (at o Given 0 c 0)
given_acked o c (b ∷ bs) =
    acked_cons (at o Given 0 c 0) b bs (taken o AssignPec 0 (pec_step c b) (b / 2)) (given_step o c b) ∙ assign_acked o (pec_step c b) (b / 2) bs

-- a module past place k
unfoldable pub past : Lasting → ℕ → ℕ → Module
past o k c = pick (ltb k 15) (at o Identifier (k + 1) c 0) (at o Given 0 c 0)

pub identifier_step : (o : Lasting) (k c b : ℕ) → k < 16
    → receives (at o Identifier k c 0) b ≡ pick {A = Heard} (eqb b (get_or (udid_bytes o.udid) k 0)) (record { after = past o k (pec_step c b); ack = true }) (refused o)
unfolding receives past
identifier_step o k c b h =
    ap (λ (n : ℕ). pick (eqb b (get_or (udid_bytes o.udid) n 0)) (pick (ltb k 15) (taken o Identifier (k + 1) (pec_step c b) 0) (taken o Given 0 (pec_step c b) 0)) (refused o)) (mod-eq_of_lt h)
    ∙ ap (λ (z : Heard). pick (eqb b (get_or (udid_bytes o.udid) k 0)) z (refused o)) (go (ltb k 15))
  where
    go : (s : Bool) → pick s (taken o Identifier (k + 1) (pec_step c b) 0) (taken o Given 0 (pec_step c b) 0)
        ≡ record { after = pick s (at o Identifier (k + 1) (pec_step c b) 0) (at o Given 0 (pec_step c b) 0); ack = true }
    go true = refl
    go false = refl

past_acked : (o : Lasting) (k c : ℕ) (bs : List ℕ) → k < 16
    → (k + 1 < 16 → acked (at o Identifier (k + 1) c 0) bs ≡ fit_by c bs (drop (k + 1) (udid_bytes o.udid)))
    → acked (past o k c) bs ≡ fit_by c bs (drop (k + 1) (udid_bytes o.udid))
unfolding past
past_acked o k c bs h r = go (ltb k 15) refl
  where
    go : (t : Bool) → ltb k 15 ≡ t → acked (pick t (at o Identifier (k + 1) c 0) (at o Given 0 c 0)) bs ≡ fit_by c bs (drop (k + 1) (udid_bytes o.udid))
    go true e = let l = ltb-true k 15 e in r (omega arith)
    go false e =
        let l = ltb-false k 15 e in
        given_acked o c bs ∙ ap (fit_by c bs) (sym (drop_of_length-le (udid_bytes o.udid) {i = k + 1} (omega (arith, length_udid o.udid))))

identifier_acked : (o : Lasting) (k c : ℕ) (bs : List ℕ) → k < 16 → acked (at o Identifier k c 0) bs ≡ fit_by c bs (drop k (udid_bytes o.udid))
identifier_acked o k c [] h = acked_nil (at o Identifier k c 0) ∙ sym (fit_nil c (drop k (udid_bytes o.udid)))
identifier_acked o k c (b ∷ bs) h =
    let u : List ℕ = udid_bytes o.udid in
    let d : drop k u ≡ get_or u k 0 ∷ drop (k + 1) u = rw (add-one k) (drop-cons u k 0 (omega (arith, length_udid o.udid))) in
    acked_cons (at o Identifier k c 0) b bs _ (identifier_step o k c b h)
    ∙ acked_pick (eqb b (get_or u k 0)) (past o k (pec_step c b)) o bs
    ∙ ap (and (eqb b (get_or u k 0))) (past_acked o k (pec_step c b) bs h (λ l. identifier_acked o (k + 1) (pec_step c b) bs l))
    ∙ sym (fit_cons c b bs (get_or u k 0) (drop (k + 1) u))
    ∙ ap (fit_by c (b ∷ bs)) (sym d)

count_step : (o : Lasting) (c b : ℕ) → receives (at o Count 0 c 0) b ≡ pick (eqb b 17) (taken o Identifier 0 (pec_step c b) 0) (refused o)
unfolding receives
count_step o c b = refl

count_acked : (o : Lasting) (c : ℕ) (bs : List ℕ) → acked (at o Count 0 c 0) bs ≡ fit_by c bs (17 ∷ udid_bytes o.udid)
count_acked o c [] = acked_nil (at o Count 0 c 0) ∙ sym (fit_nil c (17 ∷ udid_bytes o.udid))
count_acked o c (b ∷ bs) =
    acked_cons (at o Count 0 c 0) b bs _ (count_step o c b)
    ∙ acked_pick (eqb b 17) (at o Identifier 0 (pec_step c b) 0) o bs
    ∙ ap (and (eqb b 17)) (identifier_acked o 0 (pec_step c b) bs (omega arith))
    ∙ sym (fit_cons c b bs 17 (udid_bytes o.udid))

fit_begins : (c : ℕ) (bs xs : List ℕ) → fit_by c bs xs ≡ begins bs (xs ++ (get_or bs (length xs) 0 ∷ pec_from c (xs ++ (get_or bs (length xs) 0 ∷ [])) ∷ []))
unfolding fit_by begins pec_from
fit_begins c [] xs = refl
fit_begins c (b ∷ bs) [] = rw (eq-eqb b b refl)
fit_begins c (b ∷ bs) (x ∷ xs) = go (eqb b x) refl (fit_begins (pec_step c b) bs xs)
  where
    go : (t : Bool) → eqb b x ≡ t
        → fit_by (pec_step c b) bs xs ≡ begins bs (xs ++ (get_or bs (length xs) 0 ∷ pec_from (pec_step c b) (xs ++ (get_or bs (length xs) 0 ∷ [])) ∷ []))
        → and t (fit_by (pec_step c b) bs xs)
        ≡ and (eqb x b) (begins bs (xs ++ (get_or bs (length xs) 0 ∷ pec_from (pec_step c x) (xs ++ (get_or bs (length xs) 0 ∷ [])) ∷ [])))
    go true e r =
        let s = eqb-true b x e in
        rw (eq-eqb x b (sym s)) (r ∙ ap (λ (n : ℕ). begins bs (xs ++ (get_or bs (length xs) 0 ∷ pec_from (pec_step c n) (xs ++ (get_or bs (length xs) 0 ∷ [])) ∷ []))) s)
    go false e r = rw (sym (eqb_sym b x) ∙ e)

-- ---- a directed command

half_own : (o : Lasting) (b : ℕ) → is_reachable o ≡ true → b / 2 ≡ o.address → is_own o b ≡ true
unfolding is_own
half_own o b e s =
    let p = both_true o.valid _ e in
    let q = both_true (leb 0x10 o.address) _ p.1 in
    let l = leb-true 0x10 o.address q.0 in
    let m = leb-true o.address 0x7E q.1 in
    rw (p.0, le-leb 0x20 b (omega arith), le-leb b 0xFD (omega arith), eq-eqb (b / 2) o.address s)

-- the two directed commands, where x and y tell whether what follows them fits
abbrev directed : Lasting → ℕ → Bool → Bool → Bool
directed o b x y = and (is_reachable o) (or (and (eqb (2 * o.address) b) x) (and (eqb (2 * o.address + 1) b) y))

directed_none : (o : Lasting) (b : ℕ) (x y : Bool) → is_own o b ≡ false → directed o b x y ≡ false
directed_none o b x y e = go (is_reachable o) (eqb (2 * o.address) b) (eqb (2 * o.address + 1) b) refl refl refl
  where
    go : (s t w : Bool) → is_reachable o ≡ s → eqb (2 * o.address) b ≡ t → eqb (2 * o.address + 1) b ≡ w → and s (or (and t x) (and w y)) ≡ false
    go false t w f g h = refl
    go true false false f g h = refl
    go true true w f g h =
        let d = eqb-true (2 * o.address) b g in
        let z = half_own o b f (omega arith) in
        absurd (let k : ◌≡◌ {A = ℕ} 0 1 = cc in omega arith)
    go true false true f g h =
        let d = eqb-true (2 * o.address + 1) b h in
        let z = half_own o b f (omega arith) in
        absurd (let k : ◌≡◌ {A = ℕ} 0 1 = cc in omega arith)

directed_odd : (o : Lasting) (b : ℕ) (x y : Bool) → is_own o b ≡ true → eqb (b % 2) 1 ≡ true → directed o b x y ≡ y
directed_odd o b x y e f =
    let p = own_true o b e in
    let s = p.1 in
    let d = eqb-true (b % 2) 1 f in
    rw (p.0, ne_eqb (2 * o.address) b (λ g. omega arith), eq-eqb (2 * o.address + 1) b (omega arith))

directed_even : (o : Lasting) (b : ℕ) (x y : Bool) → is_own o b ≡ true → eqb (b % 2) 1 ≡ false → directed o b x y ≡ x
directed_even o b x y e f =
    let p = own_true o b e in
    let g = even b o.address (eqb-false (b % 2) 1 f) p.1 in
    rw (p.0, eq-eqb (2 * o.address) b (sym g), ne_eqb (2 * o.address + 1) b (λ h. omega arith)) (or_none x)

-- ---- the command byte

abbrev first : ℕ
first = pec_step 0 for_write

abbrev known_after : Lasting → ℕ → List ℕ → Bool
known_after o b bs =
    or (and (eqb 0x01 b) (begins bs (pec_step first 0x01 ∷ [])))
    (or (and (eqb 0x02 b) (begins bs (pec_step first 0x02 ∷ [])))
    (or (and (eqb 0x03 b) (begins bs []))
    (or (and (eqb 0x04 b) (begins bs (17 ∷ ((udid_bytes o.udid ++ (get_or bs 17 0 ∷ [])) ++ (pec_from (pec_step first 0x04) (17 ∷ (udid_bytes o.udid ++ (get_or bs 17 0 ∷ []))) ∷ [])))))
    (directed o b (begins bs (pec_step first (2 * o.address) ∷ [])) (begins bs [])))))

known_after_lem : (o : Lasting) (b : ℕ) (bs : List ℕ) → known o (for_write ∷ b ∷ bs) ≡ known_after o b bs
unfolding known begins pec_from
known_after_lem o b bs = refl

small : (o : Lasting) (b : ℕ) (bs : List ℕ) → b < 0x20 → directed o b (begins bs (pec_step first (2 * o.address) ∷ [])) (begins bs []) ≡ false
small o b bs h = directed_none o b (begins bs (pec_step first (2 * o.address) ∷ [])) (begins bs []) (own_small o b h)

command_step : (o : Lasting) (c b : ℕ) → receives (at o Command 0 c 0) b ≡ at_command o (pec_step c b) b
unfolding receives
command_step o c b = refl

prepare_known : (o : Lasting) (bs : List ℕ) → acked (at o Command 0 first 0) (0x01 ∷ bs) ≡ known_after o 0x01 bs
prepare_known o bs =
    acked_cons (at o Command 0 first 0) 0x01 bs _ (command_step o first 0x01)
    ∙ prepare_acked o (pec_step first 0x01) bs
    ∙ sym (ap (or (begins bs (pec_step first 0x01 ∷ []))) (small o 0x01 bs (omega arith)) ∙ or_none (begins bs (pec_step first 0x01 ∷ [])))

reset_known : (o : Lasting) (bs : List ℕ) → acked (at o Command 0 first 0) (0x02 ∷ bs) ≡ known_after o 0x02 bs
reset_known o bs =
    acked_cons (at o Command 0 first 0) 0x02 bs _ (command_step o first 0x02)
    ∙ reset_acked o (pec_step first 0x02) bs
    ∙ sym (ap (or (begins bs (pec_step first 0x02 ∷ []))) (small o 0x02 bs (omega arith)) ∙ or_none (begins bs (pec_step first 0x02 ∷ [])))

get_known : (o : Lasting) (bs : List ℕ) → acked (at o Command 0 first 0) (0x03 ∷ bs) ≡ known_after o 0x03 bs
get_known o bs =
    acked_cons (at o Command 0 first 0) 0x03 bs _ (command_step o first 0x03)
    ∙ asked_acked o (pec_step first 0x03) bs
    ∙ sym (ap (or (begins bs [])) (small o 0x03 bs (omega arith)) ∙ or_none (begins bs []))

assign_order_lem : (o : Lasting) (c : ℕ) (bs : List ℕ)
    → fit_by c bs (17 ∷ udid_bytes o.udid)
    ≡ begins bs (17 ∷ ((udid_bytes o.udid ++ (get_or bs 17 0 ∷ [])) ++ (pec_from c (17 ∷ (udid_bytes o.udid ++ (get_or bs 17 0 ∷ []))) ∷ [])))
assign_order_lem o c bs =
    let n : length (17 ∷ udid_bytes o.udid) ≡ 17 = ap suc (length_udid o.udid) in
    fit_begins c bs (17 ∷ udid_bytes o.udid)
    ∙ ap (λ (k : ℕ). begins bs (17 ∷ (udid_bytes o.udid ++ (get_or bs k 0 ∷ pec_from c (17 ∷ (udid_bytes o.udid ++ (get_or bs k 0 ∷ []))) ∷ [])))) n
    ∙ ap (λ (l : List ℕ). begins bs (17 ∷ l))
    (sym (append_assoc (udid_bytes o.udid) (get_or bs 17 0 ∷ []) (pec_from c (17 ∷ (udid_bytes o.udid ++ (get_or bs 17 0 ∷ []))) ∷ [])))

assign_known : (o : Lasting) (bs : List ℕ) → acked (at o Command 0 first 0) (0x04 ∷ bs) ≡ known_after o 0x04 bs
assign_known o bs =
    let z : Bool = begins bs (17 ∷ ((udid_bytes o.udid ++ (get_or bs 17 0 ∷ [])) ++ (pec_from (pec_step first 0x04) (17 ∷ (udid_bytes o.udid ++ (get_or bs 17 0 ∷ []))) ∷ []))) in
    acked_cons (at o Command 0 first 0) 0x04 bs _ (command_step o first 0x04)
    ∙ count_acked o (pec_step first 0x04) bs
    ∙ assign_order_lem o (pec_step first 0x04) bs
    ∙ sym (ap (or z) (small o 0x04 bs (omega arith)) ∙ or_none z)

directed_known : (o : Lasting) (b : ℕ) (bs : List ℕ)
    → and (at_directed o (pec_step first b) b).ack (acked (at_directed o (pec_step first b) b).after bs)
    ≡ directed o b (begins bs (pec_step first (2 * o.address) ∷ [])) (begins bs [])
directed_known o b bs = go (is_own o b) (eqb (b % 2) 1) refl refl
  where
    go : (s t : Bool) → is_own o b ≡ s → eqb (b % 2) 1 ≡ t
        → and (pick s (pick t (taken o Called 0 (pec_step first b) 0) (taken o ResetPec 0 (pec_step first b) 0)) (refused o)).ack
        (acked (pick s (pick t (taken o Called 0 (pec_step first b) 0) (taken o ResetPec 0 (pec_step first b) 0)) (refused o)).after bs)
        ≡ directed o b (begins bs (pec_step first (2 * o.address) ∷ [])) (begins bs [])
    go false t e f = sym (directed_none o b (begins bs (pec_step first (2 * o.address) ∷ [])) (begins bs []) e)
    go true true e f = called_acked o (pec_step first b) bs ∙ sym (directed_odd o b (begins bs (pec_step first (2 * o.address) ∷ [])) (begins bs []) e f)
    go true false e f =
        reset_acked o (pec_step first b) bs
        ∙ ap (λ (n : ℕ). begins bs (pec_step first n ∷ [])) (even b o.address (eqb-false (b % 2) 1 f) (own_true o b e).1)
        ∙ sym (directed_even o b (begins bs (pec_step first (2 * o.address) ∷ [])) (begins bs []) e f)

other_known : (o : Lasting) (b : ℕ) (bs : List ℕ) → eqb b 0x01 ≡ false → eqb b 0x02 ≡ false → eqb b 0x03 ≡ false → eqb b 0x04 ≡ false
    → acked (at o Command 0 first 0) (b ∷ bs) ≡ known_after o b bs
other_known o b bs e f g h =
    acked_cons (at o Command 0 first 0) b bs (at_directed o (pec_step first b) b) (command_step o first b ∙ rw (e, f, g, h))
    ∙ directed_known o b bs
    ∙ rw (eqb_sym 0x01 b ∙ e, eqb_sym 0x02 b ∙ f, eqb_sym 0x03 b ∙ g, eqb_sym 0x04 b ∙ h)

command_known : (o : Lasting) (b : ℕ) (bs : List ℕ) → acked (at o Command 0 first 0) (b ∷ bs) ≡ known_after o b bs
command_known o b bs = go (eqb b 0x01) (eqb b 0x02) (eqb b 0x03) (eqb b 0x04) refl refl refl refl
  where
    go : (s t u v : Bool) → eqb b 0x01 ≡ s → eqb b 0x02 ≡ t → eqb b 0x03 ≡ u → eqb b 0x04 ≡ v → acked (at o Command 0 first 0) (b ∷ bs) ≡ known_after o b bs
    go true t u v e f g h = subst (λ (n : ℕ). acked (at o Command 0 first 0) (n ∷ bs) ≡ known_after o n bs) (sym (eqb-true b 0x01 e)) (prepare_known o bs)
    go false true u v e f g h = subst (λ (n : ℕ). acked (at o Command 0 first 0) (n ∷ bs) ≡ known_after o n bs) (sym (eqb-true b 0x02 f)) (reset_known o bs)
    go false false true v e f g h = subst (λ (n : ℕ). acked (at o Command 0 first 0) (n ∷ bs) ≡ known_after o n bs) (sym (eqb-true b 0x03 g)) (get_known o bs)
    go false false false true e f g h = subst (λ (n : ℕ). acked (at o Command 0 first 0) (n ∷ bs) ≡ known_after o n bs) (sym (eqb-true b 0x04 h)) (assign_known o bs)
    go false false false false e f g h = other_known o b bs e f g h

-- ---- the first byte

and_none : (x : Bool) → and x false ≡ false
and_none true = refl
and_none false = refl

known_nil : (o : Lasting) → known o [] ≡ true
unfolding known begins
known_nil o = refl

known_one : (o : Lasting) → known o (for_write ∷ []) ≡ true
unfolding known begins
known_one o = refl

known_other : (o : Lasting) (b : ℕ) (bs : List ℕ) → eqb for_write b ≡ false → known o (b ∷ bs) ≡ false
unfolding known begins
known_other o b bs e = rw (e, and_none (is_reachable o))

after_first_lem : (o : Lasting) (bs : List ℕ) → acked (at o Command 0 first 0) bs ≡ known o (for_write ∷ bs)
after_first_lem o [] = acked_nil (at o Command 0 first 0) ∙ sym (known_one o)
after_first_lem o (b ∷ bs) = command_known o b bs ∙ sym (known_after_lem o b bs)

first_step : (o : Lasting) (b : ℕ) → receives (at o First 0 0 0) b ≡ at_first o b
unfolding receives
first_step o b = refl

first_known : (o : Lasting) (b : ℕ) (bs : List ℕ) → and (at_first o b).ack (acked (at_first o b).after bs) ≡ known o (b ∷ bs)
first_known o b bs = acked_pick (eqb b for_write) (at o Command 0 first 0) o bs ∙ go (eqb b for_write) refl
  where
    go : (t : Bool) → eqb b for_write ≡ t → and t (acked (at o Command 0 first 0) bs) ≡ known o (b ∷ bs)
    go true e = after_first_lem o bs ∙ ap (λ (n : ℕ). known o (n ∷ bs)) (sym (eqb-true b for_write e))
    go false e = sym (known_other o b bs (eqb_sym for_write b ∙ e))

-- ACKNOWLEDGED: after a START that goes on with no packet, all of the bytes get ACK if and only if they are known
pub acknowledged : (o : Lasting) (bs : List ℕ) → acked (at o First 0 0 0) bs ≡ known o bs
acknowledged o [] = acked_nil (at o First 0 0 0) ∙ sym (known_nil o)
acknowledged o (b ∷ bs) = acked_cons (at o First 0 0 0) b bs (at_first o b) (first_step o b) ∙ first_known o b bs

-- after the repeated START of a Get UDID too, but for the read address
again_step : (o : Lasting) (c b : ℕ) → eqb b for_read ≡ false → (receives (at o AskedAgain 0 c 0) b ≡ at_first o b) × (receives (at o CalledAgain 0 c 0) b ≡ at_first o b)
unfolding receives
again_step o c b e = (rw e, rw e)

pub again_acknowledged : (o : Lasting) (c b : ℕ) (bs : List ℕ) → eqb b for_read ≡ false
    → (acked (at o AskedAgain 0 c 0) (b ∷ bs) ≡ known o (b ∷ bs)) × (acked (at o CalledAgain 0 c 0) (b ∷ bs) ≡ known o (b ∷ bs))
again_acknowledged o c b bs e = (
  acked_cons (at o AskedAgain 0 c 0) b bs (at_first o b) (again_step o c b e).0 ∙ first_known o b bs,
  acked_cons (at o CalledAgain 0 c 0) b bs (at_first o b) (again_step o c b e).1 ∙ first_known o b bs,
)

-- the read address gets ACK if AR is clear or the Get UDID was directed, and nothing after it does
pub read_acknowledged : (o : Lasting) (c : ℕ) (bs : List ℕ)
    → (acked (at o AskedAgain 0 c 0) (for_read ∷ bs) ≡ and (not o.resolved) (begins bs [])) × (acked (at o CalledAgain 0 c 0) (for_read ∷ bs) ≡ begins bs [])
unfolding acked receives
read_acknowledged o c bs = (go o.resolved, reply_acked o (pec_step c for_read) bs)
  where
    go : (t : Bool) → and (pick t (refused o) (taken o Reply 0 (pec_step c for_read) 0)).ack (acked (pick t (refused o) (taken o Reply 0 (pec_step c for_read) 0)).after bs)
        ≡ and (not t) (begins bs [])
    go true = refl
    go false = reply_acked o (pec_step c for_read) bs
