-- In the middle of a reply, between two STARTs, and where there is nothing to say: what a module is then, whatever came before.
use Rattle.std.specs.Prelude.{ℕ, ◌+◌, ◌≡◌, refl, Bool, true, false, ltb, is_some}
use Rattle.lists.specs.Choice.{pick}
use Rattle.lists.specs.ChoiceLaws.{false_not_true, not_both}
use Rattle.pec.specs.Pec.{pec_step}
use Rattle.module.specs.declared.state.Phase.{Phase}
use Rattle.module.specs.declared.state.Phase.TheVariants.{Silent, First, Command, Asked, Called, AskedAgain, CalledAgain, Count, Identifier, Given, PreparePec, ResetPec, AssignPec, Reply}
use Rattle.module.specs.declared.state.Lasting.{Lasting}
use Rattle.module.specs.declared.state.Module.{Module}
use Rattle.module.specs.State.{at, silent_in}
use Rattle.module.specs.Receive.{started_in, starts, received_in, receives}
use Rattle.module.specs.Supply.{reply_byte, byte_out, supplied_in, supplies}

-- ASKED FOR A BYTE WITH NONE TO SAY: it stays as it was, and FFh stands for the byte
pub nothing_moved : (m : Module) → is_some (supplies m).byte ≡ false → ((supplies m).after ≡ m) × (byte_out (supplies m).byte ≡ 0xFF)
unfolding supplies
nothing_moved m = go m.phase m
  where
    go : (ph : Phase) (m : Module) → is_some (supplied_in ph m).byte ≡ false → ((supplied_in ph m).after ≡ m) × (byte_out (supplied_in ph m).byte ≡ 0xFF)
    go Reply m e = not_both e refl
    go Silent m e = (refl, refl)
    go First m e = (refl, refl)
    go Command m e = (refl, refl)
    go Asked m e = (refl, refl)
    go Called m e = (refl, refl)
    go AskedAgain m e = (refl, refl)
    go CalledAgain m e = (refl, refl)
    go Count m e = (refl, refl)
    go Identifier m e = (refl, refl)
    go Given m e = (refl, refl)
    go PreparePec m e = (refl, refl)
    go ResetPec m e = (refl, refl)
    go AssignPec m e = (refl, refl)

-- a byte behind it, the reply goes on or has ended
goes_on : (t : Bool) (o : Lasting) (k c : ℕ) → is_some (supplies (pick t (at o Reply k c 0) (silent_in o))).byte ≡ false → pick t (at o Reply k c 0) (silent_in o) ≡ silent_in o
unfolding supplies
goes_on true o k c e = not_both e refl
goes_on false o k c e = refl

-- WITH A BYTE TO SAY: a START begins a new packet, every byte gets NACK, and after the last byte it is silent
pub replying : (m : Module) → is_some (supplies m).byte ≡ true
    → (starts m ≡ starts (silent_in m.own)) × ((b : ℕ) → (receives m b).ack ≡ false) × (is_some (supplies (supplies m).after).byte ≡ false → (supplies m).after ≡ silent_in m.own)
unfolding supplies starts receives
replying m = go m.phase m
  where
    go : (ph : Phase) (m : Module) → is_some (supplied_in ph m).byte ≡ true
        → (started_in ph m.own m.pec ≡ at m.own First 0 0 0) × ((b : ℕ) → (received_in ph m b).ack ≡ false) × (is_some (supplies (supplied_in ph m).after).byte ≡ false → (supplied_in ph m).after ≡ silent_in m.own)
    go Reply m e = (refl, λ b. refl, goes_on (ltb m.place 18) m.own (m.place + 1) (pec_step m.pec (reply_byte m.own m.pec m.place)))
    go Silent m e = false_not_true e
    go First m e = false_not_true e
    go Command m e = false_not_true e
    go Asked m e = false_not_true e
    go Called m e = false_not_true e
    go AskedAgain m e = false_not_true e
    go CalledAgain m e = false_not_true e
    go Count m e = false_not_true e
    go Identifier m e = false_not_true e
    go Given m e = false_not_true e
    go PreparePec m e = false_not_true e
    go ResetPec m e = false_not_true e
    go AssignPec m e = false_not_true e

-- A START AFTER A START begins a new packet
pub start_twice : (m : Module) → starts (starts m) ≡ starts (silent_in m.own)
unfolding starts
start_twice m = go m.phase m.own m.pec
  where
    go : (ph : Phase) (o : Lasting) (c : ℕ) → starts (started_in ph o c) ≡ at o First 0 0 0
    go Asked o c = refl
    go Called o c = refl
    go Silent o c = refl
    go First o c = refl
    go Command o c = refl
    go AskedAgain o c = refl
    go CalledAgain o c = refl
    go Count o c = refl
    go Identifier o c = refl
    go Given o c = refl
    go PreparePec o c = refl
    go ResetPec o c = refl
    go AssignPec o c = refl
    go Reply o c = refl
