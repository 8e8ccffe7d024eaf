-- A trace with PEC has as many bytes as the table of sizes says.
use Rattle.std.specs.Prelude.{◌≡◌, refl, true, List, [], ◌∷◌, ℕ, ◌+◌, ◌*◌, length}
use Rattle.std.proofs.Common.{sym, ap, ◌∙◌, subst, arith, length-append}
use Rattle.lists.specs.AbsurdLaws.{zero_is_one}
use Rattle.pec.specs.Pec.{pec_of}
use Rattle.trace.specs.Table.{Line, Row, quick, send_byte, receive_byte, write_byte, write_word, read_byte, read_word, process_call, block_write, block_read, block_process_call, TraceOf}
use Rattle.trace.specs.Trace.{Message}
use Rattle.scan.specs.BytesIn.{bytes_in}
use Rattle.garbled.specs.Sizes.{bytes_in_all}
use Rattle.garbled.specs.VerdictLaws.{sent_covered}

-- a line has so many bytes, with its PEC
abbrev Sized : Line → Type 0
Sized x = length x.covered + 1 ≡ bytes_in_all x.protocol (length x.message.sent) (length x.message.received)

line_size : (y : ℕ) (x : Line) → Row (y ∷ []) x → Sized x
line_size y x (quick a b ha hb hq e) = zero_is_one (sym (ap length hq))
line_size y x (send_byte a d ha hd e) = subst Sized (sym e) refl
line_size y x (receive_byte a r ha hr e) = subst Sized (sym e) refl
line_size y x (write_byte a c d ha hc hd e) = subst Sized (sym e) refl
line_size y x (write_word a c l h ha hc hl hh e) = subst Sized (sym e) refl
line_size y x (read_byte a c r ha hc hr e) = subst Sized (sym e) refl
line_size y x (read_word a c l h ha hc hl hh e) = subst Sized (sym e) refl
line_size y x (process_call a c l h m n ha hc hl hh hm hn e) = subst Sized (sym e) refl
line_size y x (block_write a c d ha hc hd hl e) = subst Sized (sym e) (omega arith)
line_size y x (block_read a c r ha hc hr hl e) = subst Sized (sym e) (omega arith)
line_size y x (block_process_call a c d r ha hc hd hr hl e) = subst Sized (sym e) (omega (arith, length-append d ((2 * a + 1) ∷ length r ∷ r)))

pub bytes_in_all_lem : (protocol : ℕ) (t : Message) (tr : List ℕ) → TraceOf protocol true t tr → length (bytes_in tr) ≡ bytes_in_all protocol (length t.sent) (length t.received)
bytes_in_all_lem protocol t tr w =
    let x = w.0 in
    ap length (sent_covered protocol t tr w)
    ∙ length-append x.covered (pec_of x.covered ∷ [])
    ∙ line_size (pec_of x.covered) x w.1
    ∙ ap (λ (p : ℕ). bytes_in_all p (length x.message.sent) (length x.message.received)) w.2
    ∙ ap (λ (m : Message). bytes_in_all protocol (length m.sent) (length m.received)) w.3
