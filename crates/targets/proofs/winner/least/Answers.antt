use Rattle.std.proofs.Common.{ℕ, ◌+◌, ◌≡◌, refl, sym, ap, ◌∙◌, subst, add-one, true, false, Option, Some, List}
use Rattle.udid.specs.declared.Udid.{Udid}
use Rattle.targets.specs.Records.{udid_of}
use Rattle.targets.specs.Search.{place_of, Holds}
use Rattle.targets.specs.Winner.{is_better, least_of}
use Rattle.targets.specs.declared.winner.Best.{Best}
use Rattle.targets.proofs.winner.least.Goals as goal
use Rattle.targets.proofs.winner.least.Goals.{then-is_better, else-is_better}

abbrev Kept : List ℕ → ℕ → Option Best → Type 0
Kept s i o = (place_of o ≡ least_of s i) × Holds s o

taken : (s : List ℕ) (i : ℕ) (b o : Option Best) (u : Udid) → Kept s i b → is_better s i (place_of b) ≡ true → u ≡ udid_of s i → o ≡ Some (record { place = i; udid = u }) → Kept s (i + 1) o
unfolding least_of
taken s i b o u k t e f =
    let q : is_better s i (least_of s i) ≡ true = ap (is_better s i) (sym k.0) ∙ t in
    subst (Kept s (i + 1)) (sym f) (rw (add-one i, q), e)

passed : (s : List ℕ) (i : ℕ) (b o : Option Best) → Kept s i b → is_better s i (place_of b) ≡ false → o ≡ b → Kept s (i + 1) o
unfolding least_of
passed s i b o k t f =
    let q : is_better s i (least_of s i) ≡ false = ap (is_better s i) (sym k.0) ∙ t in
    subst (Kept s (i + 1)) (sym f) (rw (add-one i, q) k.0, k.1)

pub loop-i-init : goal.loop-i-init
unfolding least_of
loop-i-init c = (refl, tt)

pub loop-i-preserved : goal.loop-i-preserved
loop-i-preserved c = elim c.if-is_better.branch [
  | then-is_better w ↦ taken c.args.records.now c.loop-i.i c.loop-i.best _ _ c.loop-i.invariant (sym c.is_better.ensures ∙ w.if-is_better.true) w.udid-udid.ensures w.best-is
  | else-is_better w ↦ passed c.args.records.now c.loop-i.i c.loop-i.best _ c.loop-i.invariant (sym c.is_better.ensures ∙ w.if-is_better.false) w.best-is
]
