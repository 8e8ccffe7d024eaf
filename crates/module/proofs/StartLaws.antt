-- WHAT A START BEGINS: a new packet, whatever came before it, unless C3h follows. And C3h is answered right after a Get UDID alone.
use Rattle.std.specs.Prelude.{ℕ, zero, suc, ◌+◌, ◌*◌, ◌/◌, ◌%◌, ◌≤◌, ◌≡◌, refl, Bool, true, false, ◌⊎◌, ◌↔◌, List, [], ◌∷◌, ltb, eqb, length, get_or, is_some, unwrap_or}
use Rattle.std.proofs.Common.{sym, ap, subst, ◌∙◌, inl, inr, arith, eqb-true, eq-eqb, ne_eqb, le-leb}
use Rattle.std.proofs.lemmas.Bool.{eqb-false}
use Rattle.lists.specs.Choice.{pick}
use Rattle.lists.specs.ChoiceLaws.{false_not_true, not_both}
use Rattle.pec.specs.Pec.{pec_step, pec_from}
use Rattle.udid.specs.Bytes.{udid_bytes}
use Rattle.module.specs.declared.state.Phase.{Phase}
use Rattle.module.specs.declared.state.Phase.TheVariants.{Silent, First, Command, Asked, Called, AskedAgain, CalledAgain, Count, Identifier, Given, PreparePec, ResetPec, AssignPec, Reply}
use Rattle.module.specs.declared.state.Lasting.{Lasting}
use Rattle.module.specs.declared.state.Module.{Module}
use Rattle.module.specs.declared.state.Heard.{Heard}
use Rattle.module.specs.declared.state.Supplied.{Supplied}
use Rattle.module.specs.State.{at, silent_in, taken, refused}
use Rattle.module.specs.Reset.{prepared, assigned, reset}
use Rattle.module.specs.Receive.{for_write, for_read, started_in, starts, is_own, at_first, at_directed, received_in, receives}
use Rattle.module.specs.Supply.{unsaid, supplied_in, supplies}
use Rattle.module.specs.Obeys.{heard_all}
use Rattle.module.proofs.ObeysLaws.{heard_cons, silent_stays, own_true}
use Rattle.module.specs.Acknowledges.{acked, get_order}
use Rattle.module.proofs.AckLaws.{acked_cons}
use Rattle.module.proofs.MiddleLaws.{start_twice}
use Rattle.module.proofs.NackLaws.{nack_refuses}
use Rattle.module.specs.Says.{says, after_asking, reply, reply_to, asked_pec, asked}
use Rattle.module.proofs.SupplyLaws.{silent_says, asked_general, asked_directed, general_says, directed_says, reply_over}
use Rattle.module.specs.Packets.{Reachable}
use Rattle.module.proofs.PacketsLaws.{reachable_is}

-- ---- a byte other than C3h

first_byte_lem : (m : Module) (b : ℕ) → (b ≡ for_read → ⊥) → receives (starts m) b ≡ at_first m.own b
unfolding starts receives
first_byte_lem m b n = go m.phase m.own m.pec
  where
    other : eqb b for_read ≡ false
    other = ne_eqb b for_read n

    go : (ph : Phase) (o : Lasting) (c : ℕ) → receives (started_in ph o c) b ≡ at_first o b
    go Asked o c = rw other
    go Called o c = rw other
    go Silent o c = refl
    go First o c = refl
    go Command o c = refl
    go AskedAgain o c = refl
    go CalledAgain o c = refl
    go Count o c = refl
    go Identifier o c = refl
    go Given o c = refl
    go PreparePec o c = refl
    go ResetPec o c = refl
    go AssignPec o c = refl
    go Reply o c = refl

-- A START AND BYTES THAT DO NOT BEGIN WITH C3h are taken as after STOP, whatever the module stood in
pub new_packet : (m : Module) (b : ℕ) (bs : List ℕ) → (b ≡ 0xC3 → ⊥)
    → (heard_all (starts m) (b ∷ bs) ≡ heard_all (starts (silent_in m.own)) (b ∷ bs)) × (acked (starts m) (b ∷ bs) ≡ acked (starts (silent_in m.own)) (b ∷ bs))
new_packet m b bs n =
    let o : Lasting = m.own in
    let e : receives (starts m) b ≡ receives (starts (silent_in o)) b = first_byte_lem m b n ∙ sym (first_byte_lem (silent_in o) b n) in (
      heard_cons (starts m) b bs ∙ ap (λ (h : Heard). heard_all h.after bs) e ∙ sym (heard_cons (starts (silent_in o)) b bs),
      acked_cons (starts m) b bs (receives (starts (silent_in o)) b) e ∙ sym (acked_cons (starts (silent_in o)) b bs (receives (starts (silent_in o)) b) refl),
    )

-- ---- phases that no byte leads out of, but to each other

abbrev Settled : Phase → Type 0
Settled Silent = Unit
Settled Count = Unit
Settled Identifier = Unit
Settled Given = Unit
Settled PreparePec = Unit
Settled ResetPec = Unit
Settled AssignPec = Unit
Settled First = ⊥
Settled Command = ⊥
Settled Asked = ⊥
Settled Called = ⊥
Settled AskedAgain = ⊥
Settled CalledAgain = ⊥
Settled Reply = ⊥

settled_pick : (t : Bool) (x y : Heard) → Settled x.after.phase → Settled y.after.phase → Settled (pick t x y).after.phase
settled_pick true x y h g = h
settled_pick false x y h g = g

settled_step : (m : Module) (b : ℕ) → Settled m.phase → Settled (receives m b).after.phase
unfolding receives
settled_step m b = go m.phase m
  where
    go : (ph : Phase) (m : Module) → Settled ph → Settled (received_in ph m b).after.phase
    go Silent m h = tt
    go Count m h = settled_pick (eqb b 17) (taken m.own Identifier 0 (pec_step m.pec b) 0) (refused m.own) tt tt
    go Identifier m h =
        settled_pick (eqb b (get_or (udid_bytes m.own.udid) (m.place % 16) 0)) _ (refused m.own)
        (settled_pick (ltb m.place 15) (taken m.own Identifier (m.place + 1) (pec_step m.pec b) 0) (taken m.own Given 0 (pec_step m.pec b) 0) tt tt) tt
    go Given m h = tt
    go PreparePec m h = settled_pick (eqb b m.pec) (taken (prepared m.own) Silent 0 0 0) (refused m.own) tt tt
    go ResetPec m h = settled_pick (eqb b m.pec) (taken (reset m.own) Silent 0 0 0) (refused m.own) tt tt
    go AssignPec m h = settled_pick (eqb b m.pec) (taken (assigned m.own m.given) Silent 0 0 0) (refused m.own) tt tt
    go First m h = absurd h
    go Command m h = absurd h
    go Asked m h = absurd h
    go Called m h = absurd h
    go AskedAgain m h = absurd h
    go CalledAgain m h = absurd h
    go Reply m h = absurd h

settled_all : (m : Module) (bs : List ℕ) → Settled m.phase → Settled (heard_all m bs).phase
unfolding heard_all
settled_all m [] h = h
settled_all m (b ∷ bs) h = settled_all (receives m b).after bs (settled_step m b h)

-- ---- after START and bytes, no other START between

-- it goes on with nothing at the next START, and has nothing to say; or it is a Get UDID
pub record Plain (m : Module) : Type 0 where
  pub anew : starts m ≡ starts (silent_in m.own)
  pub mute : (n : ℕ) → says n m ≡ []

mute_in : (ph : Phase) (m : Module) → m.phase ≡ ph → (ph ≡ Reply → ⊥) → supplies m ≡ unsaid m
unfolding supplies
mute_in ph m e n = ap (λ (p : Phase). supplied_in p m) e ∙ go ph n
  where
    go : (p : Phase) → (p ≡ Reply → ⊥) → supplied_in p m ≡ unsaid m
    go Reply n = absurd (n refl)
    go Silent n = refl
    go First n = refl
    go Command n = refl
    go Asked n = refl
    go Called n = refl
    go AskedAgain n = refl
    go CalledAgain n = refl
    go Count n = refl
    go Identifier n = refl
    go Given n = refl
    go PreparePec n = refl
    go ResetPec n = refl
    go AssignPec n = refl

mute_says : (m : Module) → supplies m ≡ unsaid m → (n : ℕ) → says n m ≡ []
unfolding says
mute_says m e zero = refl
mute_says m e (suc n) = ap (λ (s : Supplied). pick (is_some s.byte) (unwrap_or s.byte 0xFF ∷ says n s.after) (says n s.after)) e ∙ mute_says m e n

begin_new : (m : Module) (ph : Phase) → m.phase ≡ ph → started_in ph m.own m.pec ≡ at m.own First 0 0 0 → starts m ≡ starts (silent_in m.own)
unfolding starts
begin_new m ph e f = ap (λ (p : Phase). started_in p m.own m.pec) e ∙ f

settled_plain : (m : Module) → Settled m.phase → Plain m
settled_plain m h = go m.phase refl h
  where
    new : (ph : Phase) (o : Lasting) (c : ℕ) → Settled ph → started_in ph o c ≡ at o First 0 0 0
    new Silent o c h = refl
    new Count o c h = refl
    new Identifier o c h = refl
    new Given o c h = refl
    new PreparePec o c h = refl
    new ResetPec o c h = refl
    new AssignPec o c h = refl
    new First o c h = absurd h
    new Command o c h = absurd h
    new Asked o c h = absurd h
    new Called o c h = absurd h
    new AskedAgain o c h = absurd h
    new CalledAgain o c h = absurd h
    new Reply o c h = absurd h

    go : (ph : Phase) → m.phase ≡ ph → Settled ph → Plain m
    go ph e h = record {
      anew = begin_new m ph e (new ph m.own m.pec h);
      mute = mute_says m (mute_in ph m e (λ r. subst Settled r h));
    }

-- ---- the command byte: Get UDID, general or directed to it, or nothing that a START goes on with

abbrev first : ℕ
first = pec_step 0 for_write

-- a directed Get UDID, by the address
own_odd : (o : Lasting) (k : ℕ) → is_own o k ≡ true → k % 2 ≡ 1 → Reachable o × (k ≡ 2 * o.address + 1)
own_odd o k e d =
    let p = own_true o k e in
    let h : k / 2 ≡ o.address = p.1 in
    ((reachable_is o).0 p.0, omega arith)

odd_own : (o : Lasting) → Reachable o → is_own o (2 * o.address + 1) ≡ true
unfolding is_own
odd_own o h =
    let l : 0x10 ≤ o.address = h.1.0 in
    let m : o.address ≤ 0x7E = h.1.1 in
    rw (h.0, le-leb 0x20 (2 * o.address + 1) (omega arith), le-leb (2 * o.address + 1) 0xFD (omega arith), eq-eqb ((2 * o.address + 1) / 2) o.address (omega arith))

-- what the module is after C2h and a command byte k
abbrev After : Lasting → ℕ → Module → Type 0
After o k m = Settled m.phase ⊎ (((k ≡ 0x03) × (m ≡ at o Asked 0 (pec_step first k) 0)) ⊎ ((Reachable o × (k ≡ 2 * o.address + 1)) × (m ≡ at o Called 0 (pec_step first k) 0)))

directed_after : (o : Lasting) (k : ℕ) → After o k (at_directed o (pec_step first k) k).after
directed_after o k = go (is_own o k) (eqb (k % 2) 1) refl refl
  where
    go : (s t : Bool) → is_own o k ≡ s → eqb (k % 2) 1 ≡ t → After o k (pick s (pick t (taken o Called 0 (pec_step first k) 0) (taken o ResetPec 0 (pec_step first k) 0)) (refused o)).after
    go true true e d = inr (inr (own_odd o k e (eqb-true (k % 2) 1 d), refl))
    go true false e d = inl tt
    go false t e d = inl tt

command_after : (o : Lasting) (k : ℕ) → After o k (receives (at o Command 0 first 0) k).after
unfolding receives
command_after o k = go (eqb k 0x01) (eqb k 0x02) (eqb k 0x03) (eqb k 0x04) refl
  where
    go : (p q r s : Bool) → eqb k 0x03 ≡ r
        → After o k
        (pick p (taken o PreparePec 0 (pec_step first k) 0) (pick q (taken o ResetPec 0 (pec_step first k) 0) (pick r (taken o Asked 0 (pec_step first k) 0) (pick s (taken o Count 0 (pec_step first k) 0) (at_directed o (pec_step first k) k))))).after
    go true q r s e = inl tt
    go false true r s e = inl tt
    go false false true s e = inr (inl (eqb-true k 0x03 e, refl))
    go false false false true e = inl tt
    go false false false false e = directed_after o k

-- a byte more, and it is settled
after_settled : (o : Lasting) (k b : ℕ) (m : Module) → After o k m → Settled (receives m b).after.phase
unfolding receives
after_settled o k b m (inl h) = settled_step m b h
after_settled o k b m (inr (inl h)) = subst (λ (x : Module). Settled (receives x b).after.phase) (sym h.1) tt
after_settled o k b m (inr (inr h)) = subst (λ (x : Module). Settled (receives x b).after.phase) (sym h.1) tt

-- ---- A START AFTER STOP AND BYTES: nothing that a further START goes on with, or a Get UDID that it knows

abbrev Gets : Lasting → List ℕ → Type 0
Gets o bs = (bs ≡ get_order 0x03) ⊎ (Reachable o × (bs ≡ get_order (2 * o.address + 1)))

silent_plain : (o : Lasting) → Plain (silent_in o)
silent_plain o = settled_plain (silent_in o) tt

first_plain : (o : Lasting) → Plain (at o First 0 0 0)
unfolding starts supplies
first_plain o = record { anew = refl; mute = mute_says (at o First 0 0 0) refl }

command_plain : (o : Lasting) → Plain (at o Command 0 first 0)
unfolding starts supplies
command_plain o = record { anew = refl; mute = mute_says (at o Command 0 first 0) refl }

write_first : (o : Lasting) (bs : List ℕ) → heard_all (starts (silent_in o)) (for_write ∷ bs) ≡ heard_all (at o Command 0 first 0) bs
unfolding starts heard_all receives
write_first o bs = refl

other_first : (o : Lasting) (b : ℕ) (bs : List ℕ) → (b ≡ for_write → ⊥) → heard_all (starts (silent_in o)) (b ∷ bs) ≡ silent_in o
unfolding starts heard_all receives
other_first o b bs n = ap (λ (t : Bool). heard_all (pick t (taken o Command 0 first 0) (refused o)).after bs) (ne_eqb b for_write n) ∙ silent_stays o bs

packet_of : (o : Lasting) (bs : List ℕ) → Plain (heard_all (at o Command 0 first 0) bs) ⊎ Gets o (for_write ∷ bs)
unfolding heard_all
packet_of o [] = inl (command_plain o)
packet_of o (k ∷ []) = go (receives (at o Command 0 first 0) k).after (command_after o k)
  where
    go : (m : Module) → After o k m → Plain m ⊎ Gets o (for_write ∷ k ∷ [])
    go m (inl h) = inl (settled_plain m h)
    go m (inr (inl h)) = inr (inl (ap get_order h.0))
    go m (inr (inr h)) = inr (inr (h.0.0, ap get_order h.0.1))
packet_of o (k ∷ b ∷ bs) =
    let m : Module = (receives (at o Command 0 first 0) k).after in
    inl (settled_plain (heard_all (receives m b).after bs) (settled_all (receives m b).after bs (after_settled o k b m (command_after o k))))

pub one_packet : (o : Lasting) (bs : List ℕ) → Plain (heard_all (starts (silent_in o)) bs) ⊎ Gets o bs
unfolding starts heard_all receives
one_packet o [] = inl (first_plain o)
one_packet o (b ∷ bs) = go (eqb b for_write) refl
  where
    go : (t : Bool) → eqb b for_write ≡ t → Plain (heard_all (starts (silent_in o)) (b ∷ bs)) ⊎ Gets o (b ∷ bs)
    go true e = subst (λ (n : ℕ). Plain (heard_all (starts (silent_in o)) (n ∷ bs)) ⊎ Gets o (n ∷ bs)) (sym (eqb-true b for_write e)) (packet_of o bs)
    go false e = inl (subst Plain (sym (other_first o b bs (eqb-false b for_write e))) (silent_plain o))

-- ---- C3h right after a START

get_general : (o : Lasting) → receives (starts (heard_all (starts (silent_in o)) (get_order 0x03))) for_read ≡ pick o.resolved (refused o) (taken o Reply 0 (asked_pec 0x03) 0)
unfolding starts heard_all receives pec_from
get_general o = refl

called : (o : Lasting) → Reachable o → receives (at o Command 0 first 0) (2 * o.address + 1) ≡ taken o Called 0 (pec_step first (2 * o.address + 1)) 0
unfolding receives
called o h =
    let k : ℕ = 2 * o.address + 1 in
    let l : 0x10 ≤ o.address = h.1.0 in
    rw (ne_eqb k 0x01 (λ f. omega arith), ne_eqb k 0x02 (λ f. omega arith), ne_eqb k 0x03 (λ f. omega arith), ne_eqb k 0x04 (λ f. omega arith), odd_own o h, eq-eqb (k % 2) 1 (omega arith))

called_heard : (o : Lasting) → Reachable o → heard_all (starts (silent_in o)) (get_order (2 * o.address + 1)) ≡ at o Called 0 (pec_step first (2 * o.address + 1)) 0
unfolding heard_all
called_heard o h = write_first o ((2 * o.address + 1) ∷ []) ∙ ap (λ (x : Heard). x.after) (called o h)

called_read : (o : Lasting) (k : ℕ) → receives (starts (at o Called 0 (pec_step first k) 0)) for_read ≡ taken o Reply 0 (asked_pec k) 0
unfolding starts receives pec_from
called_read o k = refl

get_directed : (o : Lasting) → Reachable o → receives (starts (heard_all (starts (silent_in o)) (get_order (2 * o.address + 1)))) for_read ≡ taken o Reply 0 (asked_pec (2 * o.address + 1)) 0
get_directed o h = ap (λ (m : Module). receives (starts m) for_read) (called_heard o h) ∙ called_read o (2 * o.address + 1)

plain_read : (m : Module) → Plain m → receives (starts m) for_read ≡ refused m.own
unfolding starts receives
plain_read m p = ap (λ (x : Module). receives x for_read) p.anew

-- C3h GETS ACK right after a START exactly if the bytes since the START before it were C2h and a Get UDID: the general one with AR clear, or the one directed to it
pub read_exactly : (o : Lasting) (bs : List ℕ)
    → ((receives (starts (heard_all (starts (silent_in o)) bs)) 0xC3).ack ≡ true) ↔ (((bs ≡ get_order 0x03) × (o.resolved ≡ false)) ⊎ (Reachable o × (bs ≡ get_order (2 * o.address + 1))))
read_exactly o bs = (there (one_packet o bs), back)
  where
    clear : (t : Bool) → (pick t (refused o) (taken o Reply 0 (asked_pec 0x03) 0)).ack ≡ true → t ≡ false
    clear true e = false_not_true e
    clear false e = refl

    there : Plain (heard_all (starts (silent_in o)) bs) ⊎ Gets o bs → (receives (starts (heard_all (starts (silent_in o)) bs)) 0xC3).ack ≡ true
        → ((bs ≡ get_order 0x03) × (o.resolved ≡ false)) ⊎ (Reachable o × (bs ≡ get_order (2 * o.address + 1)))
    there (inl p) e = not_both (ap (λ (h : Heard). h.ack) (plain_read (heard_all (starts (silent_in o)) bs) p)) e
    there (inr (inl g)) e =
        inl (g, clear o.resolved (sym (ap (λ (h : Heard). h.ack) (ap (λ (l : List ℕ). receives (starts (heard_all (starts (silent_in o)) l)) for_read) g ∙ get_general o)) ∙ e))
    there (inr (inr g)) e = inr g

    back : ((bs ≡ get_order 0x03) × (o.resolved ≡ false)) ⊎ (Reachable o × (bs ≡ get_order (2 * o.address + 1))) → (receives (starts (heard_all (starts (silent_in o)) bs)) 0xC3).ack ≡ true
    back (inl g) =
        ap (λ (h : Heard). h.ack) (ap (λ (l : List ℕ). receives (starts (heard_all (starts (silent_in o)) l)) for_read) g.0 ∙ get_general o)
        ∙ ap (λ (t : Bool). (pick t (refused o) (taken o Reply 0 (asked_pec 0x03) 0)).ack) g.1
    back (inr g) = ap (λ (h : Heard). h.ack) (ap (λ (l : List ℕ). receives (starts (heard_all (starts (silent_in o)) l)) for_read) g.1 ∙ get_directed o g.0)

-- ---- WHAT IT HAS TO SAY, and when

general_heard : (o : Lasting) → heard_all (starts (silent_in o)) (get_order 0x03) ≡ at o Asked 0 (pec_step first 0x03) 0
unfolding starts heard_all receives
general_heard o = refl

asked_mute : (o : Lasting) (c n : ℕ) → says n (at o Asked 0 c 0) ≡ []
unfolding supplies
asked_mute o c n = mute_says (at o Asked 0 c 0) refl n

called_mute : (o : Lasting) (c n : ℕ) → says n (at o Called 0 c 0) ≡ []
unfolding supplies
called_mute o c n = mute_says (at o Called 0 c 0) refl n

started_mute : (m : Module) (n : ℕ) → says n (starts m) ≡ []
unfolding starts supplies
started_mute m n = go m.phase m.own m.pec
  where
    go : (ph : Phase) (o : Lasting) (c : ℕ) → says n (started_in ph o c) ≡ []
    go Asked o c = mute_says (at o AskedAgain 0 c 0) refl n
    go Called o c = mute_says (at o CalledAgain 0 c 0) refl n
    go Silent o c = mute_says (at o First 0 0 0) refl n
    go First o c = mute_says (at o First 0 0 0) refl n
    go Command o c = mute_says (at o First 0 0 0) refl n
    go AskedAgain o c = mute_says (at o First 0 0 0) refl n
    go CalledAgain o c = mute_says (at o First 0 0 0) refl n
    go Count o c = mute_says (at o First 0 0 0) refl n
    go Identifier o c = mute_says (at o First 0 0 0) refl n
    go Given o c = mute_says (at o First 0 0 0) refl n
    go PreparePec o c = mute_says (at o First 0 0 0) refl n
    go ResetPec o c = mute_says (at o First 0 0 0) refl n
    go AssignPec o c = mute_says (at o First 0 0 0) refl n
    go Reply o c = mute_says (at o First 0 0 0) refl n

-- nothing, after one START
packet_mute : (o : Lasting) (bs : List ℕ) (n : ℕ) → says n (heard_all (starts (silent_in o)) bs) ≡ []
packet_mute o bs n = go (one_packet o bs)
  where
    go : Plain (heard_all (starts (silent_in o)) bs) ⊎ Gets o bs → says n (heard_all (starts (silent_in o)) bs) ≡ []
    go (inl p) = p.mute n
    go (inr (inl g)) = ap (λ (l : List ℕ). says n (heard_all (starts (silent_in o)) l)) g ∙ ap (says n) (general_heard o) ∙ asked_mute o (pec_step first 0x03) n
    go (inr (inr g)) = ap (λ (l : List ℕ). says n (heard_all (starts (silent_in o)) l)) g.1 ∙ ap (says n) (called_heard o g.0) ∙ called_mute o (pec_step first (2 * o.address + 1)) n

-- C3h right after a START, by the phase: the module goes on with a Get UDID, or refuses it
read_first : (m : Module) → (receives (starts m) for_read ≡ refused m.own) ⊎ ((c : ℕ) × (receives (starts m) for_read ≡ taken m.own Reply 0 c 0))
unfolding starts receives
read_first m = go m.phase m.own m.pec
  where
    quiet : (t : Bool) (o : Lasting) (c : ℕ) → (pick t (refused o) (taken o Reply 0 c 0) ≡ refused o) ⊎ ((d : ℕ) × (pick t (refused o) (taken o Reply 0 c 0) ≡ taken o Reply 0 d 0))
    quiet true o c = inl refl
    quiet false o c = inr (c, refl)

    go : (ph : Phase) (o : Lasting) (c : ℕ) → (receives (started_in ph o c) for_read ≡ refused o) ⊎ ((d : ℕ) × (receives (started_in ph o c) for_read ≡ taken o Reply 0 d 0))
    go Asked o c = quiet o.resolved o (pec_step c for_read)
    go Called o c = inr (pec_step c for_read, refl)
    go Silent o c = inl refl
    go First o c = inl refl
    go Command o c = inl refl
    go AskedAgain o c = inl refl
    go CalledAgain o c = inl refl
    go Count o c = inl refl
    go Identifier o c = inl refl
    go Given o c = inl refl
    go PreparePec o c = inl refl
    go ResetPec o c = inl refl
    go AssignPec o c = inl refl
    go Reply o c = inl refl

-- a byte after it is refused, whether or not the reply was due
pub read_over : (m : Module) (b : ℕ) → receives (receives (starts m) 0xC3).after b ≡ refused m.own
unfolding receives
read_over m b = go (read_first m)
  where
    go : (receives (starts m) for_read ≡ refused m.own) ⊎ ((c : ℕ) × (receives (starts m) for_read ≡ taken m.own Reply 0 c 0)) → receives (receives (starts m) for_read).after b ≡ refused m.own
    go (inl e) = ap (λ (h : Heard). receives h.after b) e
    go (inr h) = ap (λ (x : Heard). receives x.after b) h.1

-- IT SAYS NOTHING after a START and bytes, whatever it stood in, unless they are C3h alone and that got ACK
pub mute_else : (m : Module) (bs : List ℕ) (n : ℕ) → (bs ≡ 0xC3 ∷ [] → (receives (starts m) 0xC3).ack ≡ false) → says n (heard_all (starts m) bs) ≡ []
unfolding heard_all
mute_else m [] n h = started_mute m n
mute_else m (b ∷ bs) n h = go (eqb b for_read) refl bs h
  where
    go : (t : Bool) → eqb b for_read ≡ t → (bs : List ℕ) → (b ∷ bs ≡ 0xC3 ∷ [] → (receives (starts m) 0xC3).ack ≡ false) → says n (heard_all (starts m) (b ∷ bs)) ≡ []
    go false e bs h = ap (says n) (new_packet m b bs (eqb-false b for_read e)).0 ∙ packet_mute m.own (b ∷ bs) n
    go true e [] h =
        let q : b ≡ for_read = eqb-true b for_read e in
        ap (λ (k : ℕ). says n (receives (starts m) k).after) q
        ∙ ap (λ (x : Heard). says n x.after) (nack_refuses (starts m) for_read (h (ap (λ (k : ℕ). k ∷ []) q)))
        ∙ silent_says (starts m).own n
    go true e (c ∷ bs) h =
        let q : b ≡ for_read = eqb-true b for_read e in
        ap (λ (k : ℕ). says n (heard_all (receives (receives (starts m) k).after c).after bs)) q
        ∙ ap (λ (x : Heard). says n (heard_all x.after bs)) (read_over m c)
        ∙ ap (says n) (silent_stays m.own bs)
        ∙ silent_says m.own n

-- ---- C3h, whatever the module stood in before the START that its bytes came after

-- a START after C3h goes on with nothing
after_read_lem : (m : Module) (bs : List ℕ) → starts (heard_all (starts m) (for_read ∷ bs)) ≡ at m.own First 0 0 0
unfolding starts heard_all
after_read_lem m [] = go (read_first m)
  where
    go : (receives (starts m) for_read ≡ refused m.own) ⊎ ((c : ℕ) × (receives (starts m) for_read ≡ taken m.own Reply 0 c 0)) → starts (receives (starts m) for_read).after ≡ at m.own First 0 0 0
    go (inl e) = ap (λ (h : Heard). starts h.after) e
    go (inr h) = ap (λ (x : Heard). starts x.after) h.1
after_read_lem m (b ∷ bs) = ap (λ (h : Heard). starts (heard_all h.after bs)) (read_over m b) ∙ ap starts (silent_stays m.own bs)

first_read_lem : (o : Lasting) → receives (at o First 0 0 0) for_read ≡ refused o
unfolding receives
first_read_lem o = refl

silent_read : (o : Lasting) → (receives (starts (silent_in o)) for_read).ack ≡ false
unfolding starts receives
silent_read o = refl

-- C3h GETS ACK exactly after C2h and a Get UDID that it knows, the general one only with AR clear
pub read_any : (m : Module) (bs : List ℕ)
    → ((receives (starts (heard_all (starts m) bs)) 0xC3).ack ≡ true) ↔ (((bs ≡ get_order 0x03) × (m.own.resolved ≡ false)) ⊎ (Reachable m.own × (bs ≡ get_order (2 * m.own.address + 1))))
unfolding heard_all
read_any m [] = (λ e. not_both (ap (λ (x : Module). (receives x for_read).ack) (start_twice m) ∙ silent_read m.own) e, none)
  where
    none : ((◌≡◌ {A = List ℕ} [] (get_order 0x03)) × (m.own.resolved ≡ false)) ⊎ (Reachable m.own × (◌≡◌ {A = List ℕ} [] (get_order (2 * m.own.address + 1)))) → (receives (starts (starts m)) 0xC3).ack ≡ true
    none (inl g) = absurd (let z : ◌≡◌ {A = ℕ} 0 2 = ap length g.0 in omega arith)
    none (inr g) = absurd (let z : ◌≡◌ {A = ℕ} 0 2 = ap length g.1 in omega arith)
read_any m (b ∷ bs) = go (eqb b for_read) refl
  where
    go : (t : Bool) → eqb b for_read ≡ t
        → ((receives (starts (heard_all (starts m) (b ∷ bs))) 0xC3).ack ≡ true)
        ↔ (((b ∷ bs ≡ get_order 0x03) × (m.own.resolved ≡ false)) ⊎ (Reachable m.own × (b ∷ bs ≡ get_order (2 * m.own.address + 1))))
    go false e =
        subst (λ (x : Module). ((receives (starts x) 0xC3).ack ≡ true)
        ↔ (((b ∷ bs ≡ get_order 0x03) × (m.own.resolved ≡ false)) ⊎ (Reachable m.own × (b ∷ bs ≡ get_order (2 * m.own.address + 1)))))
        (sym (new_packet m b bs (eqb-false b for_read e)).0) (read_exactly m.own (b ∷ bs))
    go true e =
        let q : b ≡ for_read = eqb-true b for_read e in (
          λ f. not_both (ap (λ (k : ℕ). (receives (starts (heard_all (starts m) (k ∷ bs))) 0xC3).ack) q ∙ ap (λ (x : Module). (receives x for_read).ack) (after_read_lem m bs) ∙ ap (λ (h : Heard). h.ack) (first_read_lem m.own)) f,
          λ g. none q g,
        )
      where
        none : b ≡ for_read → ((b ∷ bs ≡ get_order 0x03) × (m.own.resolved ≡ false)) ⊎ (Reachable m.own × (b ∷ bs ≡ get_order (2 * m.own.address + 1)))
            → (receives (starts (heard_all (starts m) (b ∷ bs))) 0xC3).ack ≡ true
        none q (inl g) = absurd (let z : b ≡ for_write = ap (λ (l : List ℕ). get_or l 0 0) g.0 in omega arith)
        none q (inr g) = absurd (let z : b ≡ for_write = ap (λ (l : List ℕ). get_or l 0 0) g.1 in omega arith)

-- ---- one that has a byte to send is in its reply

pub sending : (m : Module) → is_some (supplies m).byte ≡ true → m.phase ≡ Reply
unfolding supplies
sending m = go m.phase
  where
    go : (ph : Phase) → is_some (supplied_in ph m).byte ≡ true → ph ≡ Reply
    go Reply e = refl
    go Silent e = false_not_true e
    go First e = false_not_true e
    go Command e = false_not_true e
    go Asked e = false_not_true e
    go Called e = false_not_true e
    go AskedAgain e = false_not_true e
    go CalledAgain e = false_not_true e
    go Count e = false_not_true e
    go Identifier e = false_not_true e
    go Given e = false_not_true e
    go PreparePec e = false_not_true e
    go ResetPec e = false_not_true e
    go AssignPec e = false_not_true e

-- AND ITS REPLY: the count, its identifier, its address byte and the PEC over the whole packet, and nothing after them
reply_whole : (o : Lasting) (k : ℕ) → reply o (asked_pec k) ≡ reply_to o k
unfolding pec_from
reply_whole o k = refl

pub says_general : (m : Module) (n : ℕ) → m.own.resolved ≡ false → says (19 + n) (asked m 0x03) ≡ reply_to m.own 0x03
says_general m n e = general_says m n e ∙ reply_whole m.own 0x03

pub says_directed : (m : Module) (n : ℕ) → Reachable m.own → says (19 + n) (asked m (2 * m.own.address + 1)) ≡ reply_to m.own (2 * m.own.address + 1)
says_directed m n h = directed_says m (2 * m.own.address + 1) n (odd_own m.own h) (omega arith) ∙ reply_whole m.own (2 * m.own.address + 1)

-- after it the module is silent
pub replied_general : (m : Module) (n : ℕ) → m.own.resolved ≡ false → after_asking (19 + n) (asked m 0x03) ≡ silent_in m.own
replied_general m n e =
    ap (after_asking (19 + n)) (asked_general m ∙ ap (λ (t : Bool). pick t (silent_in m.own) (at m.own Reply 0 (asked_pec 0x03) 0)) e) ∙ reply_over m.own (asked_pec 0x03) n

pub replied_directed : (m : Module) (n : ℕ) → Reachable m.own → after_asking (19 + n) (asked m (2 * m.own.address + 1)) ≡ silent_in m.own
replied_directed m n h =
    ap (after_asking (19 + n)) (asked_directed m (2 * m.own.address + 1) (odd_own m.own h) (omega arith)) ∙ reply_over m.own (asked_pec (2 * m.own.address + 1)) n
