-- In every trace the PEC is the third symbol from the end, and is found three places before it.
use Rattle.std.specs.Prelude.{◌≡◌, Bool, true, false, List, [], ◌∷◌, ◌++◌, ℕ, ◌+◌, length, get_or}
use Rattle.std.proofs.Common.{sym, ap, ◌∙◌, append_assoc, arith, length-append}
use Rattle.std.proofs.lemmas.List.{get_or_at}
use Rattle.lists.specs.Choice.{pick}
use Rattle.trace.specs.declared.shape.Shape.{Shape}
use Rattle.trace.proofs.RowsLaws.{ends_checked}
use Rattle.trace.specs.PecPlace.{Third}
use Rattle.trace.specs.Shapes.{writes, reads}
use Rattle.trace.specs.Trace.{Message, laid, acked, nacked, front, first_byte, trace_at}

around_by : (r : Bool) (xs ys zs : List ℕ)
    → (before : List ℕ) × (gets : ℕ) × ((y : ℕ) → (xs ++ pick r ys (acked (y ∷ []))) ++ (pick r (nacked (zs ++ y ∷ [])) [] ++ 257 ∷ []) ≡ before ++ y ∷ gets ∷ 257 ∷ [])
around_by true xs ys zs = ((xs ++ ys) ++ acked zs, 259, λ y. ap (λ (l : List ℕ). (xs ++ ys) ++ l) (ends_checked zs y) ∙ sym (append_assoc (xs ++ ys) (acked zs) (y ∷ 259 ∷ 257 ∷ [])))
around_by false xs ys zs = (xs, 258, λ y. append_assoc xs (y ∷ 258 ∷ []) (257 ∷ []))

-- what stands before it, and what it gets, do not go by it
pub around_pec : (sh : Shape) (t : Message) → (before : List ℕ) × (gets : ℕ) × ((y : ℕ) → trace_at sh t (y ∷ []) ≡ before ++ y ∷ gets ∷ 257 ∷ [])
around_pec sh t = around_by (reads sh) (256 ∷ acked (front sh t)) (pick (writes sh) (256 ∷ (first_byte sh t + 1) ∷ 258 ∷ []) []) (laid sh.received t.received)

pub pec_third : (sh : Shape) (t : Message) (y : ℕ) → Third (trace_at sh t (y ∷ [])) y
pec_third sh t y = let (p, g, f) = around_pec sh t in record { before = p; gets = g; is = f y }

-- so it is found three places before the end
pub pec_found : (sh : Shape) (t : Message) (y k : ℕ) → k + 3 ≡ length (trace_at sh t (y ∷ [])) → get_or (trace_at sh t (y ∷ [])) k 0 ≡ y
pec_found sh t y k e =
    let w = pec_third sh t y in
    let n : length w.before ≡ k = omega (arith, e, ap length w.is, length-append w.before (y ∷ w.gets ∷ 257 ∷ [])) in
    ap (λ (l : List ℕ). get_or l k 0) w.is ∙ get_or_at w.before y (w.gets ∷ 257 ∷ []) 0 k n
