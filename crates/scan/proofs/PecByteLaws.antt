-- The PEC of a valid message is a byte.
use Rattle.std.specs.Prelude.{◌≡◌, refl, Bool, true, false, List, [], ◌∷◌, ◌++◌, ℕ, ◌+◌, ◌≤◌, ◌<◌, ◌%◌}
use Rattle.std.proofs.Common.{arith}
use Rattle.lists.specs.Choice.{pick}
use Rattle.lists.specs.EachLaws.{append_bytes}
use Rattle.lists.specs.Each.{Bytes}
use Rattle.pec.proofs.PecLaws as PecLaws
use Rattle.trace.specs.declared.shape.Part.{Part}
use Rattle.trace.specs.declared.shape.Part.TheVariants.{Nothing, Fixed, Counted}
use Rattle.trace.specs.declared.shape.Shape.{Shape}
use Rattle.trace.specs.Shapes.{writes, reads}
use Rattle.trace.specs.Trace.{Message, laid, first_byte, front, bytes, pec_of, in_place, counted, Valid}
use Rattle.trace.specs.Sane.{Sane}
use Rattle.scan.proofs.ForwardLaws.{first_byte_fits}

pub laid_bytes : (a : Part) (s : List ℕ) → Bytes s → counted a s ≤ 255 → Bytes (laid a s)
laid_bytes Nothing s h c = h
laid_bytes (Fixed k) s h c = h
laid_bytes Counted s h c = (omega arith, h)

command_bytes : (b o : Bool) (c : ℕ) → pick b ((c < 256) × pick o (c % 2 ≡ 0) Unit) (c ≡ 0) → Bytes (pick b (c ∷ []) [])
command_bytes true o c h = (h.0, tt)
command_bytes false o c h = tt

read_bytes_lem : (r w : Bool) (f : ℕ) (xs : List ℕ) → (w ≡ true → f < 255) → Bytes xs → Bytes (pick r (pick w ((f + 1) ∷ []) [] ++ xs) [])
read_bytes_lem true true f xs h b = let l = h refl in (omega arith, b)
read_bytes_lem true false f xs h b = b
read_bytes_lem false w f xs h b = tt

-- the bytes up to the last one sent
pub front_bytes : (sh : Shape) → Sane sh → (t : Message) → Valid sh t → Bytes (front sh t)
front_bytes sh hs t v =
    ((first_byte_fits sh t v).0, append_bytes (pick sh.command (t.command ∷ []) []) (laid sh.sent t.sent) (command_bytes sh.command sh.tohost t.command v.command) (laid_bytes sh.sent t.sent v.sent_bytes (omega (arith, v.counts, hs.most_byte))))

pub pec_lt : (sh : Shape) → Sane sh → (t : Message) → Valid sh t → pec_of sh t < 256
pec_lt sh hs t v =
    PecLaws.pec_byte 0 (bytes sh t) (omega arith)
    (append_bytes (front sh t) _ (front_bytes sh hs t v)
    (read_bytes_lem (reads sh) (writes sh) (first_byte sh t) (laid sh.received t.received) (first_byte_fits sh t v).2 (laid_bytes sh.received t.received v.received_bytes (omega (arith, v.counts, hs.most_byte)))))

pub pec_byte : (sh : Shape) → Sane sh → (p : Bool) (t : Message) → Valid sh t → Bytes (in_place p (pec_of sh t))
pec_byte sh hs true t v = (pec_lt sh hs t v, tt)
pec_byte sh hs false t v = tt
