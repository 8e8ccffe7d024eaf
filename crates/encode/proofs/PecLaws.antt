-- The PEC by its pieces: over a part, over the write phase, over the read phase after it.
use mathlib.Core.Path.{◌≡◌, sym, ap, ap₂, ◌∙◌}
use mathlib.Core.Bool.{Bool, true, false}
use mathlib.Core.List.{List, ◌++◌}
use Prim.Native.Nat.{ℕ}
use Rattle.pec.specs.Pec.{pec_step, pec_from, pec_of}
use Rattle.pec.proofs.PecLaws.{pec_append, pec_cons, pec_nil}
use Rattle.trace.specs.declared.shape.Part.{Part}
use Rattle.trace.specs.declared.shape.Shape.{Shape}
use Rattle.trace.specs.Shapes.{is_counted, writes, reads}
use Rattle.trace.specs.Trace.{in_place}
use Rattle.encode.specs.Pieces.{count_byte, part_bytes, write_bytes, bytes_after}

-- some bytes, then others
then_pec : (c z q : ℕ) (xs ys : List ℕ) → z ≡ pec_from c xs → q ≡ pec_from z ys → q ≡ pec_from c (xs ++ ys)
then_pec c z q xs ys e g = g ∙ ap (λ (x : ℕ). pec_from x ys) e ∙ sym (pec_append c xs ys)

pub part_pec : (c z q : ℕ) (a : Part) (s : List ℕ) (h : Bool) (k : ℕ) → h ≡ is_counted a → k ≡ count_byte s → z ≡ pec_from c (in_place h k) → q ≡ pec_from z s
    → q ≡ pec_from c (part_bytes a s)
part_pec c z q a s h k eh ek e g =
    then_pec c z q (in_place h k) s e g ∙ ap₂ (λ (b : Bool) (j : ℕ). pec_from c (in_place b j ++ s)) eh ek

pub write_pec : (sh : Shape) (f c : ℕ) (s : List ℕ) (x z q : ℕ) → x ≡ pec_step 0 f → z ≡ pec_from x (in_place sh.command c) → q ≡ pec_from z (part_bytes sh.sent s)
    → q ≡ pec_of (write_bytes sh f c s)
write_pec sh f c s x z q ex ez eq =
    then_pec x z q (in_place sh.command c) (part_bytes sh.sent s) ez eq
    ∙ ap (λ (y : ℕ). pec_from y (in_place sh.command c ++ part_bytes sh.sent s)) ex
    ∙ sym (pec_cons 0 f (in_place sh.command c ++ part_bytes sh.sent s))

pub read_pec : (sh : Shape) (g : ℕ) (r : List ℕ) (c z q : ℕ) (w : Bool) → reads sh ≡ true → w ≡ writes sh → z ≡ pec_from c (in_place w g) → q ≡ pec_from z (part_bytes sh.received r)
    → q ≡ pec_from c (bytes_after sh g r)
read_pec sh g r c z q w er ew ez eq =
    rw er (then_pec c z q (in_place w g) (part_bytes sh.received r) ez eq ∙ ap (λ (b : Bool). pec_from c (in_place b g ++ part_bytes sh.received r)) ew)

pub no_read_pec : (sh : Shape) (g : ℕ) (r : List ℕ) (c : ℕ) → reads sh ≡ false → c ≡ pec_from c (bytes_after sh g r)
no_read_pec sh g r c er = rw er (sym (pec_nil c))
