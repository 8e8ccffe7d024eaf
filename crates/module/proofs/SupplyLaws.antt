-- What a module supplies: its reply to Get UDID, whole, and nothing after it; nothing while it is silent.
use Rattle.std.specs.Prelude.{ℕ, zero, suc, ◌+◌, ◌%◌, ◌≤◌, ◌≡◌, refl, Bool, true, false, [], ◌∷◌, ◌++◌, ltb, is_some, unwrap_or}
use Rattle.std.proofs.Common.{ap, ap₂, ◌∙◌, append-nil, zero-add, suc-add, arith, ltb-true, ltb-false, eq-eqb, ne_eqb}
use Rattle.lists.specs.Choice.{pick}
use Rattle.pec.specs.Pec.{pec_step, pec_from}
use Rattle.udid.specs.Bytes.{bytes_of, udid_bytes}
use Rattle.module.specs.declared.state.Phase.{Phase}
use Rattle.module.specs.declared.state.Phase.TheVariants.{Silent, First, Command, Asked, Called, AskedAgain, CalledAgain, Count, Identifier, Given, PreparePec, ResetPec, AssignPec, Reply}
use Rattle.module.specs.declared.state.Lasting.{Lasting}
use Rattle.module.specs.declared.state.Module.{Module}
use Rattle.module.specs.declared.state.Heard.{Heard}
use Rattle.module.specs.State.{at, silent_in, taken, refused}
use Rattle.module.specs.Receive.{for_write, for_read, started_in, starts, is_own, receives}
use Rattle.module.specs.Supply.{reply_byte, supplied_in, supplies}
use Rattle.module.specs.Obeys.{heard_all}
use Rattle.module.specs.Says.{says, after_asking, reply, sent, asked, asked_pec}
use Rattle.module.proofs.ObeysLaws.{own_small}

-- ---- silent: lost, stopped, or after a NACK

pub silent_nack : (o : Lasting) (b : ℕ) → receives (silent_in o) b ≡ refused o
unfolding receives
silent_nack o b = refl

pub silent_says : (o : Lasting) (n : ℕ) → says n (silent_in o) ≡ []
unfolding says supplies
silent_says o zero = refl
silent_says o (suc n) = silent_says o n

pub silent_asked : (o : Lasting) (n : ℕ) → after_asking n (silent_in o) ≡ silent_in o
unfolding after_asking supplies
silent_asked o zero = refl
silent_asked o (suc n) = silent_asked o n

-- ---- the reply

pub reply_says : (o : Lasting) (c : ℕ) → says 19 (at o Reply 0 c 0) ≡ reply o c
unfolding says supplies reply_byte udid_bytes bytes_of pec_from
reply_says o c = refl

pub reply_ends : (o : Lasting) (c : ℕ) → after_asking 19 (at o Reply 0 c 0) ≡ silent_in o
unfolding after_asking supplies
reply_ends o c = refl

says_add : (k n : ℕ) (m : Module) → says (k + n) m ≡ says k m ++ says n (after_asking k m)
unfolding says after_asking
says_add zero n m = rw zero-add
says_add (suc k) n m = rw suc-add (go (is_some (supplies m).byte) (says_add k n (supplies m).after))
  where
    go : (t : Bool) → says (k + n) (supplies m).after ≡ says k (supplies m).after ++ says n (after_asking k (supplies m).after)
        → pick t (unwrap_or (supplies m).byte 0xFF ∷ says (k + n) (supplies m).after) (says (k + n) (supplies m).after)
        ≡ pick t (unwrap_or (supplies m).byte 0xFF ∷ says k (supplies m).after) (says k (supplies m).after) ++ says n (after_asking k (supplies m).after)
    go true e = ap (◌∷◌ (unwrap_or (supplies m).byte 0xFF)) e
    go false e = e

-- and nothing after it
pub reply_more : (o : Lasting) (c n : ℕ) → says (19 + n) (at o Reply 0 c 0) ≡ reply o c
reply_more o c n =
    says_add 19 n (at o Reply 0 c 0)
    ∙ ap₂ ◌++◌ (reply_says o c) (ap (says n) (reply_ends o c) ∙ silent_says o n)
    ∙ append-nil (reply o c)

after_add : (k n : ℕ) (m : Module) → after_asking (k + n) m ≡ after_asking n (after_asking k m)
unfolding after_asking
after_add zero n m = rw zero-add
after_add (suc k) n m = rw suc-add (after_add k n (supplies m).after)

pub reply_over : (o : Lasting) (c n : ℕ) → after_asking (19 + n) (at o Reply 0 c 0) ≡ silent_in o
reply_over o c n = after_add 19 n (at o Reply 0 c 0) ∙ ap (after_asking n) (reply_ends o c) ∙ silent_asked o n

-- ---- Get UDID, from any state

-- START and the default address: the command is due
pub start_write : (m : Module) → receives (starts m) for_write ≡ taken m.own Command 0 (pec_step 0 for_write) 0
unfolding starts receives
start_write m = go m.phase m.own m.pec
  where
    go : (ph : Phase) (o : Lasting) (c : ℕ) → receives (started_in ph o c) for_write ≡ taken o Command 0 (pec_step 0 for_write) 0
    go Asked o c = refl
    go Called o c = refl
    go Silent o c = refl
    go First o c = refl
    go Command o c = refl
    go AskedAgain o c = refl
    go CalledAgain o c = refl
    go Count o c = refl
    go Identifier o c = refl
    go Given o c = refl
    go PreparePec o c = refl
    go ResetPec o c = refl
    go AssignPec o c = refl
    go Reply o c = refl

pub write_one : (m : Module) (k : ℕ) → sent m (for_write ∷ k ∷ []) ≡ (receives (at m.own Command 0 (pec_step 0 for_write) 0) k).after
unfolding heard_all
write_one m k = ap (λ (h : Heard). (receives h.after k).after) (start_write m)

-- the general one: with AR clear the reply is due, with AR set the read address gets NACK
pub asked_general : (m : Module) → asked m 0x03 ≡ pick m.own.resolved (silent_in m.own) (at m.own Reply 0 (asked_pec 0x03) 0)
unfolding heard_all starts receives pec_from
asked_general m = ap (λ (x : Module). (receives (starts x) for_read).after) (write_one m 0x03) ∙ go m.own m.own.resolved
  where
    go : (o : Lasting) (t : Bool) → (pick t (refused o) (taken o Reply 0 (asked_pec 0x03) 0)).after ≡ pick t (silent_in o) (at o Reply 0 (asked_pec 0x03) 0)
    go o true = refl
    go o false = refl

-- the directed one: AR does not matter
own_large : (o : Lasting) (k : ℕ) → is_own o k ≡ true → 0x20 ≤ k
own_large o k e = go (ltb k 0x20) refl
  where
    go : (t : Bool) → ltb k 0x20 ≡ t → 0x20 ≤ k
    go true f =
        let h = own_small o k (ltb-true k 0x20 f) in
        absurd (let z : ◌≡◌ {A = ℕ} 0 1 = cc in omega arith)
    go false f = ltb-false k 0x20 f

pub asked_directed : (m : Module) (k : ℕ) → is_own m.own k ≡ true → k % 2 ≡ 1 → asked m k ≡ at m.own Reply 0 (asked_pec k) 0
unfolding heard_all starts receives pec_from
asked_directed m k e d =
    let n : 0x20 ≤ k = own_large m.own k e in
    ap (λ (x : Module). (receives (starts x) for_read).after) (write_one m k)
    ∙ rw (ne_eqb k 0x01 (λ f. omega arith), ne_eqb k 0x02 (λ f. omega arith), ne_eqb k 0x03 (λ f. omega arith), ne_eqb k 0x04 (λ f. omega arith), e, eq-eqb (k % 2) 1 d)

-- THE BYTES THAT IT SUPPLIES to the general Get UDID: count, identifier, address byte and PEC over the packet, and no more; none with AR set
pub general_says : (m : Module) (n : ℕ) → m.own.resolved ≡ false → says (19 + n) (asked m 0x03) ≡ reply m.own (asked_pec 0x03)
general_says m n e =
    ap (says (19 + n)) (asked_general m ∙ ap (λ (t : Bool). pick t (silent_in m.own) (at m.own Reply 0 (asked_pec 0x03) 0)) e)
    ∙ reply_more m.own (asked_pec 0x03) n

pub general_silent : (m : Module) (n : ℕ) → m.own.resolved ≡ true → says n (asked m 0x03) ≡ []
general_silent m n e =
    ap (says n) (asked_general m ∙ ap (λ (t : Bool). pick t (silent_in m.own) (at m.own Reply 0 (asked_pec 0x03) 0)) e)
    ∙ silent_says m.own n

pub directed_says : (m : Module) (k n : ℕ) → is_own m.own k ≡ true → k % 2 ≡ 1 → says (19 + n) (asked m k) ≡ reply m.own (asked_pec k)
directed_says m k n e d = rw (asked_directed m k e d) (reply_more m.own (asked_pec k) n)

-- to supply a byte changes nothing that lasts
pub supplied_own : (m : Module) → (supplies m).after.own ≡ m.own
unfolding supplies
supplied_own m = go m.phase m
  where
    go : (ph : Phase) (m : Module) → (supplied_in ph m).after.own ≡ m.own
    go Reply m = last (ltb m.place 18) m.own _ _
      where
        last : (b : Bool) (o : Lasting) (k c : ℕ) → (pick b (at o Reply k c 0) (silent_in o)).own ≡ o
        last true o k c = refl
        last false o k c = refl
    go Silent m = refl
    go First m = refl
    go Command m = refl
    go Asked m = refl
    go Called m = refl
    go AskedAgain m = refl
    go CalledAgain m = refl
    go Count m = refl
    go Identifier m = refl
    go Given m = refl
    go PreparePec m = refl
    go ResetPec m = refl
    go AssignPec m = refl
