use Rattle.std.proofs.Common.{◌≡◌, refl, sym, ◌∙◌, Bool, true, false, eq-eqb, ne_eqb}
use Rattle.lists.specs.Choice.{and}
use Rattle.udid.specs.Bytes.{udid_at}
use Rattle.udid.proofs.Udid.stands_at.Goals as goal

with_true : (b : Bool) → b ≡ and b true
with_true true = refl
with_true false = refl

with_false : (b : Bool) → false ≡ and b false
with_false true = refl
with_false false = refl

pub returns-then-whole-self : goal.returns-then-whole-self
unfolding udid_at
returns-then-whole-self c =
    rw (c.whole-then-whole-self.ensures, eq-eqb _ _ (sym c.whole.ensures ∙ c.if-whole-self.true)) (with_true _)

pub returns-else-whole-self : goal.returns-else-whole-self
unfolding udid_at
returns-else-whole-self c =
    rw (ne_eqb _ _ c.if-whole-self.false, ← c.whole.ensures, ne_eqb _ _ c.if-whole-self.false) (with_false _)
