-- Assign Address on the bus of modules.
use Rattle.std.specs.Prelude.{ℕ, ◌+◌, ◌*◌, ◌/◌, ◌%◌, ◌<◌, ◌≤◌, ◌≡◌, Bool, false, List, [], ◌∷◌, ◌++◌, ltb, eqb, length, get_or}
use Rattle.std.proofs.Math.Path.{refl, ap}
use Rattle.std.proofs.Common.{sym, subst, ◌∙◌, append-nil, append_assoc, mod-eq_of_lt, length-append, eq-eqb, eqb-true, lt-ltb, le-ltb, ltb-true, ltb-false}
use Rattle.std.proofs.Math.Bool.{true}
use native.Mathlib.Omega.{arith}
use Rattle.std.proofs.lemmas.List.{get_or_at}
use Rattle.std.proofs.lemmas.Bool.{eqb-false}
use Rattle.lists.specs.Choice.{pick}
use Rattle.lists.specs.Each.{Each}
use Rattle.lists.specs.EachLaws.{each_map}
use Rattle.pec.specs.Pec.{pec_step, pec_from, pec_of}
use Rattle.wire.specs.declared.address.Address.{Address}
use Rattle.udid.specs.Bytes.{udid_bytes}
use Rattle.udid.specs.Udids.{Fits, same_udid}
use Rattle.udid.proofs.UdidLaws.{length_udid, same_bytes, same_refl, other_udid}
use Rattle.udid.specs.declared.Udid.{Udid}
use Rattle.targets.specs.Target.{Target, assigned_to}
use Rattle.commands.specs.SameTrace.{same}
use Rattle.commands.specs.declared.command.Command.TheVariants.{Assign}
use Rattle.commands.specs.declared.command.Handed.TheVariants.{Send}
use Rattle.rule.specs.Acknowledge.{begins, acknowledges, standing, on_bus}
use Rattle.rule.specs.Acted.{acted}
use Rattle.rule.specs.TraceLaws.{assigned, assign_sends_bytes, bytes_assigned, begins_own, own_acknowledges}
use Rattle.module.specs.declared.state.Heard.{Heard}
use Rattle.module.specs.declared.state.Lasting.{Lasting}
use Rattle.module.specs.declared.state.Module.{Module}
use Rattle.module.specs.declared.state.Phase.TheVariants.{Silent, Command, Count, Identifier, Given, AssignPec}
use Rattle.module.specs.Receive.{starts, receives}
use Rattle.module.specs.Reset as own
use Rattle.module.specs.State.{at, silent_in, taken, refused}
use Rattle.module.specs.Supply.{address_byte}
use Rattle.exchange.specs.Exchange.{Fitting, record_of, records_of, stop_all, walk, exchange}
use Rattle.exchange.specs.FrontLaws.{first, front_follows}
use Rattle.exchange.specs.WalkLaws.{Follows, abreast, Same, sent_same, follows_ack, follows_nack, silent_follows}

-- ---- a module, byte by byte

-- PEC after C2h, 04h and the count
abbrev third : ℕ
third = pec_step (pec_step first 0x04) 17

command_step : (o : Lasting) → receives (at o Command 0 first 0) 0x04 ≡ taken o Count 0 (pec_step first 0x04) 0
unfolding receives
command_step o = refl

count_step : (o : Lasting) (c : ℕ) → receives (at o Count 0 c 0) 17 ≡ taken o Identifier 0 (pec_step c 17) 0
unfolding receives
count_step o c = refl

-- at place j of the identifier, or past it
due : Lasting → ℕ → ℕ → Module
due o j c = pick (ltb j 16) (at o Identifier j c 0) (at o Given 0 c 0)

due_identifier : (o : Lasting) (j c : ℕ) → j < 16 → due o j c ≡ at o Identifier j c 0
unfolding due
due_identifier o j c h = rw (lt-ltb j 16 h)

due_given : (o : Lasting) (j c : ℕ) → 16 ≤ j → due o j c ≡ at o Given 0 c 0
unfolding due
due_given o j c h = rw (le-ltb j 16 h)

identifier_step : (o : Lasting) (j c b : ℕ) → j < 16
    → receives (due o j c) b ≡ pick (eqb b (get_or (udid_bytes o.udid) j 0)) (record { after = due o (j + 1) (pec_step c b); ack = true }) (refused o)
unfolding receives due
identifier_step o j c b h =
    ap (λ (m : Module). receives m b) (due_identifier o j c h)
    ∙ ap (λ (n : ℕ). pick (eqb b (get_or (udid_bytes o.udid) n 0)) (next (ltb j 15)) (refused o)) (mod-eq_of_lt h)
    ∙ ap (λ (z : Heard). pick (eqb b (get_or (udid_bytes o.udid) j 0)) z (refused o)) (go (ltb j 15) refl)
  where
    next : Bool → Heard
    next s = pick s (taken o Identifier (j + 1) (pec_step c b) 0) (taken o Given 0 (pec_step c b) 0)

    go : (s : Bool) → ltb j 15 ≡ s → next s
        ≡ record { after = pick (ltb (j + 1) 16) (at o Identifier (j + 1) (pec_step c b) 0) (at o Given 0 (pec_step c b) 0); ack = true }
    go true e = let l = ltb-true j 15 e in rw (lt-ltb (j + 1) 16 (omega arith))
    go false e = let l = ltb-false j 15 e in rw (le-ltb (j + 1) 16 (omega arith))

given_step : (o : Lasting) (c b : ℕ) → receives (at o Given 0 c 0) b ≡ taken o AssignPec 0 (pec_step c b) (b / 2)
unfolding receives
given_step o c b = refl

pec_step_lem : (o : Lasting) (c g : ℕ) → receives (at o AssignPec 0 c g) c ≡ taken (own.assigned o g) Silent 0 0 0
unfolding receives
pec_step_lem o c g = rw (eq-eqb c c refl)

pec_one : (c x : ℕ) → pec_from c (x ∷ []) ≡ pec_step c x
unfolding pec_from
pec_one c x = refl

pec_cons : (c x : ℕ) (l : List ℕ) → pec_from c (x ∷ l) ≡ pec_from (pec_step c x) l
unfolding pec_from
pec_cons c x l = refl

-- ---- its record, byte by byte

second_ack : (t : Target) → acknowledges (256 ∷ 194 ∷ 4 ∷ []) t ≡ true
unfolding acknowledges begins
second_ack t = refl

third_ack : (t : Target) → acknowledges (256 ∷ 194 ∷ 4 ∷ 17 ∷ []) t ≡ true
unfolding acknowledges begins
third_ack t = refl

abbrev front : List ℕ → List ℕ
front zs = 256 ∷ 194 ∷ 4 ∷ 17 ∷ zs

-- an address byte, and PEC over all
abbrev tail : Udid → ℕ → List ℕ
tail u b = b ∷ pec_of (194 ∷ 4 ∷ 17 ∷ (udid_bytes u ++ b ∷ [])) ∷ []

later_ack : (zs : List ℕ) (t : Target) → acknowledges (front zs) t ≡ begins zs (udid_bytes t.udid ++ tail t.udid (get_or zs 16 0))
unfolding acknowledges begins
later_ack zs t = refl

begins_other : (zs : List ℕ) (b y : ℕ) (more ys : List ℕ) → eqb b y ≡ false → begins (zs ++ b ∷ more) (zs ++ y ∷ ys) ≡ false
unfolding begins
begins_other [] b y more ys e = rw e
begins_other (z ∷ zs) b y more ys e = rw (eq-eqb z z refl) (begins_other zs b y more ys e)

-- ---- the module and its record

module _ (u : Udid) (a : Address) (o : Lasting) (f : Fits u) (g : Fits o.udid) where
  abbrev us : List ℕ
  us = udid_bytes u

  abbrev vs : List ℕ
  vs = udid_bytes o.udid

  abbrev x : ℕ
  x = 2 * (a.0 % 128)

  abbrev pec : ℕ
  pec = pec_of (194 ∷ 4 ∷ 17 ∷ (us ++ x ∷ []))

  -- its record, and what that is to be
  abbrev t : Target
  t = record_of (silent_in o)

  abbrev t' : Target
  t' = assigned_to u a.0 t

  -- it is the one
  record_taken : us ≡ vs → record_of (silent_in (own.assigned o (x / 2))) ≡ t'
  unfolding address_byte
  record_taken e =
      let s : u ≡ o.udid = (same_bytes u o.udid f g).0 e in
      let q : same_udid o.udid u ≡ true = ap (λ (w : Udid). same_udid o.udid w) s ∙ same_refl o.udid in
      let y : 2 * (x / 2 % 128) + 1 ≡ 2 * (a.0 % 128) + 1 = omega arith in
      ap (λ (n : ℕ). record { udid = o.udid; address_byte = n; flag = 1 }) y
      ∙ ap (λ (b : Bool). pick b (record { udid = o.udid; address_byte = 2 * (a.0 % 128) + 1; flag = 1 }) t) (sym q)

  -- it is not
  record_left : (us ≡ vs → ⊥) → record_of (silent_in o) ≡ t'
  record_left e =
      let q : same_udid o.udid u ≡ false = other_udid o.udid u (λ s. e (ap udid_bytes (sym s))) in
      ap (λ (b : Bool). pick b (record { udid = o.udid; address_byte = 2 * (a.0 % 128) + 1; flag = 1 }) t) (sym q)

  -- after the whole identifier
  given_follows : (c : ℕ) → pec_from c (x ∷ []) ≡ pec → us ≡ vs → Follows (front us) t t' (x ∷ pec ∷ []) (at o Given 0 c 0)
  given_follows c p e =
      let s : o.udid ≡ u = sym ((same_bytes u o.udid f g).0 e) in
      let q : front (us ++ x ∷ []) ++ pec ∷ [] ≡ 256 ∷ assigned u x = ap front (append_assoc us (x ∷ []) (pec ∷ [])) in
      follows_ack (front us) t t' x (pec ∷ []) (at o Given 0 c 0) (at o AssignPec 0 (pec_step c x) (x / 2)) (given_step o c x)
      (own_acknowledges u x t s (front (us ++ x ∷ [])) (pec ∷ []) q)
      (follows_ack (front (us ++ x ∷ [])) t t' pec [] (at o AssignPec 0 (pec_step c x) (x / 2)) (silent_in (own.assigned o (x / 2)))
      (ap (receives (at o AssignPec 0 (pec_step c x) (x / 2))) (sym p ∙ pec_one c x) ∙ pec_step_lem o (pec_step c x) (x / 2))
      (own_acknowledges u x t s (front (us ++ x ∷ []) ++ pec ∷ []) [] (append-nil (front (us ++ x ∷ []) ++ pec ∷ []) ∙ q))
      (record_taken e))

  -- behind zs, which is the same in both, the identifier has xs left, and the module's own has ys
  many : (zs xs ys : List ℕ) (j c : ℕ) → us ≡ zs ++ xs → vs ≡ zs ++ ys → length xs ≡ length ys → length zs ≡ j → j + length xs ≡ 16
      → pec_from c (xs ++ x ∷ []) ≡ pec → Follows (front zs) t t' (xs ++ x ∷ pec ∷ []) (due o j c)
  many zs [] [] j c p q l n s w =
      let e : us ≡ zs = p ∙ append-nil zs in
      subst (λ (k : List ℕ). Follows (front k) t t' (x ∷ pec ∷ []) (due o j c)) e
      (subst (λ (m : Module). Follows (front us) t t' (x ∷ pec ∷ []) m) (sym (due_given o j c (omega arith))) (given_follows c w (p ∙ sym q)))
  many zs [] (y ∷ ys) j c p q l n s w = absurd (omega arith)
  many zs (b ∷ xs) [] j c p q l n s w = absurd (omega arith)
  many zs (b ∷ xs) (y ∷ ys) j c p q l n s w = go (eqb b y) refl (λ (e : b ≡ y).
      many (zs ++ b ∷ []) xs ys (j + 1) (pec_step c b) (p ∙ sym (append_assoc zs (b ∷ []) xs))
      (q ∙ ap (λ (z : ℕ). zs ++ z ∷ ys) (sym e) ∙ sym (append_assoc zs (b ∷ []) ys))
      (omega arith) (omega (arith, length-append zs (b ∷ []))) (omega arith) (sym (pec_cons c b (xs ++ x ∷ [])) ∙ w))
    where
      here : get_or vs j 0 ≡ y
      here = ap (λ (k : List ℕ). get_or k j 0) q ∙ get_or_at zs y ys 0 j (omega arith)

      heard : (r : Bool) → eqb b y ≡ r → receives (due o j c) b ≡ pick r (record { after = due o (j + 1) (pec_step c b); ack = true }) (refused o)
      heard r e =
          identifier_step o j c b (omega arith)
          ∙ ap (λ (z : Bool). pick z (record { after = due o (j + 1) (pec_step c b); ack = true }) (refused o)) (ap (eqb b) here ∙ e)

      -- what its record compares with
      whole : (k : ℕ) → vs ++ tail o.udid k ≡ zs ++ y ∷ (ys ++ tail o.udid k)
      whole k = ap (λ (r : List ℕ). r ++ tail o.udid k) q ∙ append_assoc zs (y ∷ ys) (tail o.udid k)

      go : (r : Bool) → eqb b y ≡ r → (b ≡ y → Follows (front (zs ++ b ∷ [])) t t' (xs ++ x ∷ pec ∷ []) (due o (j + 1) (pec_step c b)))
          → Follows (front zs) t t' (b ∷ (xs ++ x ∷ pec ∷ [])) (due o j c)
      go true e r =
          let d : b ≡ y = eqb-true b y e in
          let k : ℕ = get_or (zs ++ b ∷ []) 16 0 in
          follows_ack (front zs) t t' b (xs ++ x ∷ pec ∷ []) (due o j c) (due o (j + 1) (pec_step c b)) (heard true e)
          (later_ack (zs ++ b ∷ []) t
          ∙ ap (begins (zs ++ b ∷ [])) (whole k ∙ ap (λ (z : ℕ). zs ++ z ∷ (ys ++ tail o.udid k)) (sym d) ∙ sym (append_assoc zs (b ∷ []) (ys ++ tail o.udid k)))
          ∙ begins_own (zs ++ b ∷ []) (ys ++ tail o.udid k))
          (r d)
      go false e r =
          let n : us ≡ vs → ⊥ = λ k. eqb-false b y e (sym (get_or_at zs b xs 0 j (omega arith)) ∙ ap (λ (z : List ℕ). get_or z j 0) (sym p ∙ k) ∙ here) in
          let none : (more : List ℕ) → acknowledges (front (zs ++ b ∷ []) ++ more) t ≡ false =
          λ more.
          ap (λ (z : List ℕ). acknowledges (front z) t) (append_assoc zs (b ∷ []) more)
          ∙ later_ack (zs ++ b ∷ more) t
          ∙ ap (begins (zs ++ b ∷ more)) (whole (get_or (zs ++ b ∷ more) 16 0))
          ∙ begins_other zs b y more (ys ++ tail o.udid (get_or (zs ++ b ∷ more) 16 0)) e in
          follows_nack (front zs) t t' b (xs ++ x ∷ pec ∷ []) (due o j c) o (heard false e)
          (ap (λ (z : List ℕ). acknowledges z t) (sym (append-nil (front (zs ++ b ∷ [])))) ∙ none []) (record_left n)
          (silent_follows (front (zs ++ b ∷ [])) t t' (xs ++ x ∷ pec ∷ []) o none (record_left n))

  pec_all : pec_from third (us ++ x ∷ []) ≡ pec
  unfolding pec_from
  pec_all = refl

assign_follows : (u : Udid) (a : Address) (m : Module) → Fits u → Fits m.own.udid
    → Follows (256 ∷ []) (record_of m) (assigned_to u a.0 (record_of m)) (assigned u (2 * (a.0 % 128))) (starts m)
assign_follows u a m f g =
    let o = m.own in
    let t = record_of m in
    let t' = assigned_to u a.0 t in
    let z : List ℕ = udid_bytes u ++ tail u (2 * (a.0 % 128)) in
    front_follows m t' (4 ∷ 17 ∷ z)
    (follows_ack (256 ∷ 194 ∷ []) t t' 4 (17 ∷ z) (at o Command 0 first 0) (at o Count 0 (pec_step first 0x04) 0) (command_step o) (second_ack t)
    (follows_ack (256 ∷ 194 ∷ 4 ∷ []) t t' 17 z (at o Count 0 (pec_step first 0x04) 0) (at o Identifier 0 third 0) (count_step o (pec_step first 0x04)) (third_ack t)
    (subst (λ (w : Module). Follows (front []) t t' z w) (due_identifier o 0 third (omega arith))
    (many u a o f g [] (udid_bytes u) (udid_bytes o.udid) 0 third refl refl
    (length_udid u ∙ sym (length_udid o.udid)) refl (omega (arith, length_udid u)) (pec_all u a o f g)))))

-- ASSIGN ADDRESS: any modules, in any states
pub assign_same : (u : Udid) (a : Address) → Fits u → (ms : List Module) → Each Fitting ms
    → Same (exchange (Send (Assign u a)) ms) (on_bus (Send (Assign u a)) (records_of ms)) (acted (Send (Assign u a)) (records_of ms))
unfolding exchange on_bus standing same
assign_same u a f ms h =
    let x : ℕ = 2 * (a.0 % 128) in
    let ts : List Target = records_of ms in
    subst (λ (l : List ℕ). Same (walk stop_all false ms l) (standing l ts) (acted (Send (Assign u a)) ts)) (sym (assign_sends_bytes u a))
    (sent_same (assigned u x) ms ts (acted (Send (Assign u a)) ts) (bytes_assigned u x (omega arith))
    (abreast (256 ∷ []) (assigned u x) starts (assigned_to u a.0) ms (each_map ms (λ m g. assign_follows u a m f g) h)))
