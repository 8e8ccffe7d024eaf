-- A NACK changes nothing, and leads to silence up to the next START. A PEC that differs gets one.
use Rattle.std.specs.Prelude.{ℕ, ◌+◌, ◌/◌, ◌%◌, ◌≡◌, refl, Bool, true, false, ltb, eqb, get_or}
use Rattle.std.proofs.Common.{arith, ne_eqb}
use Rattle.lists.specs.Choice.{pick}
use Rattle.pec.specs.Pec.{pec_step}
use Rattle.udid.specs.Bytes.{udid_bytes}
use Rattle.module.specs.declared.state.Phase.{Phase}
use Rattle.module.specs.declared.state.Phase.TheVariants.{Silent, First, Command, Asked, Called, AskedAgain, CalledAgain, Count, Identifier, Given, PreparePec, ResetPec, AssignPec, Reply}
use Rattle.module.specs.declared.state.Lasting.{Lasting}
use Rattle.module.specs.declared.state.Module.{Module}
use Rattle.module.specs.declared.state.Heard.{Heard}
use Rattle.module.specs.State.{at, silent_in, refused}
use Rattle.module.specs.Reset.{prepared, assigned, reset}
use Rattle.module.specs.Receive.{for_write, for_read, is_own, at_first, at_directed, at_command, at_again, at_pec, received_in, receives}

-- if the answer is a NACK, it is a refusal
abbrev Plain : Lasting → Heard → Type 0
Plain o h = h.ack ≡ false → h ≡ refused o

plain_taken : (o : Lasting) (m : Module) → Plain o (record { after = m; ack = true })
plain_taken o m e = absurd (let z : ◌≡◌ {A = ℕ} 0 1 = cc e in omega arith)

plain_refused : (o : Lasting) → Plain o (refused o)
plain_refused o e = refl

plain_pick : (o : Lasting) (t : Bool) (x y : Heard) → Plain o x → Plain o y → Plain o (pick t x y)
plain_pick o true x y h g = h
plain_pick o false x y h g = g

plain_first : (o : Lasting) (b : ℕ) → Plain o (at_first o b)
plain_first o b = plain_pick o (eqb b for_write) _ (refused o) (plain_taken o (at o Command 0 (pec_step 0 for_write) 0)) (plain_refused o)

plain_directed : (o : Lasting) (c b : ℕ) → Plain o (at_directed o c b)
plain_directed o c b =
    plain_pick o (is_own o b) _ (refused o) (plain_pick o (eqb (b % 2) 1) _ _ (plain_taken o (at o Called 0 c 0)) (plain_taken o (at o ResetPec 0 c 0))) (plain_refused o)

plain_command : (o : Lasting) (c b : ℕ) → Plain o (at_command o c b)
plain_command o c b =
    plain_pick o (eqb b 0x01) _ _ (plain_taken o (at o PreparePec 0 c 0))
    (plain_pick o (eqb b 0x02) _ _ (plain_taken o (at o ResetPec 0 c 0))
    (plain_pick o (eqb b 0x03) _ _ (plain_taken o (at o Asked 0 c 0))
    (plain_pick o (eqb b 0x04) _ _ (plain_taken o (at o Count 0 c 0)) (plain_directed o c b))))

plain_again : (q : Bool) (o : Lasting) (c b : ℕ) → Plain o (at_again q o c b)
plain_again q o c b =
    plain_pick o (eqb b for_read) _ _ (plain_pick o q (refused o) _ (plain_refused o) (plain_taken o (at o Reply 0 c 0))) (plain_first o b)

plain_pec : (a o : Lasting) (p b : ℕ) → Plain o (at_pec a o p b)
plain_pec a o p b = plain_pick o (eqb b p) _ (refused o) (plain_taken o (silent_in a)) (plain_refused o)

-- A NACK CHANGES NOTHING
pub nack_refuses : (m : Module) (b : ℕ) → (receives m b).ack ≡ false → receives m b ≡ refused m.own
unfolding receives
nack_refuses m b = go m.phase m
  where
    go : (ph : Phase) (m : Module) → Plain m.own (received_in ph m b)
    go Silent m = plain_refused m.own
    go First m = plain_first m.own b
    go Command m = plain_command m.own (pec_step m.pec b) b
    go Asked m = plain_refused m.own
    go Called m = plain_refused m.own
    go AskedAgain m = plain_again m.own.resolved m.own (pec_step m.pec b) b
    go CalledAgain m = plain_again false m.own (pec_step m.pec b) b
    go Count m = plain_pick m.own (eqb b 17) _ _ (plain_taken m.own (at m.own Identifier 0 (pec_step m.pec b) 0)) (plain_refused m.own)
    go Identifier m =
        plain_pick m.own (eqb b (get_or (udid_bytes m.own.udid) (m.place % 16) 0)) _ _
        (plain_pick m.own (ltb m.place 15) _ _ (plain_taken m.own (at m.own Identifier (m.place + 1) (pec_step m.pec b) 0)) (plain_taken m.own (at m.own Given 0 (pec_step m.pec b) 0)))
        (plain_refused m.own)
    go Given m = plain_taken m.own (at m.own AssignPec 0 (pec_step m.pec b) (b / 2))
    go PreparePec m = plain_pec (prepared m.own) m.own m.pec b
    go ResetPec m = plain_pec (reset m.own) m.own m.pec b
    go AssignPec m = plain_pec (assigned m.own m.given) m.own m.pec b
    go Reply m = plain_refused m.own

-- A WRONG PEC: NACK, and nothing changes. In the three phases c is PEC of the bytes before (Obeys, Acknowledges)
pub wrong_pec : (o : Lasting) (k c g b : ℕ) → (b ≡ c → ⊥)
    → (receives (at o PreparePec k c g) b ≡ refused o) × ((receives (at o ResetPec k c g) b ≡ refused o) × (receives (at o AssignPec k c g) b ≡ refused o))
unfolding receives
wrong_pec o k c g b n = let e = ne_eqb b c n in (rw e, (rw e, rw e))
