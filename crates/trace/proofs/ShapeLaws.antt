-- The rows of the table by their protocol numbers: what all rows pass holds of every number, which fields each row has, that none goes to the
-- host alone, and that the limits of each make sense.
use Rattle.std.specs.Prelude.{◌≡◌, refl, Bool, true, false, ℕ, ◌+◌, ◌≤◌, ◌<◌, ltb, leb, eqb}
use Rattle.std.proofs.Common.{sym, arith, leb-true, eqb-true}
use Rattle.lists.specs.All.{all, EachBelow}
use Rattle.lists.specs.AllLaws.{at_each, at_any, at_place, each_below}
use Rattle.lists.specs.Choice.{or, not, same}
use Rattle.lists.specs.ChoiceLaws.{both_true, same_true}
use Rattle.trace.specs.Table.{last_protocol}
use Rattle.trace.specs.declared.shape.Part.{Part}
use Rattle.trace.specs.declared.shape.Part.TheVariants.{Nothing, Fixed, Counted}
use Rattle.trace.specs.declared.shape.Shape.{Shape}
use Rattle.trace.specs.Shapes.{shapes, protocols, no_row, shape_of, writes, reads, Row, is_row}
use Rattle.trace.specs.Sane.{Small, is_small, Sane, is_sane, Limits, has_limits}

-- ---- what every row passes holds of every protocol

-- a test that all rows pass is passed by the row of each protocol
pub at_each_row : (test : Shape → Bool) → all test shapes ≡ true → (protocol : ℕ) → protocol < protocols → test (shape_of protocol) ≡ true
at_each_row test e = at_each test shapes no_row e

-- and by the shape of every number, where Quick's passes it
pub at_every_number : (test : Shape → Bool) → all test shapes ≡ true → test no_row ≡ true → (protocol : ℕ) → test (shape_of protocol) ≡ true
at_every_number test e f = at_any test shapes no_row e f

-- what holds of each number of a row
pub by_row : (P : ℕ → Type 0) → EachBelow P protocols → (protocol : ℕ) → protocol < protocols → P protocol
by_row P c = each_below P protocols c

-- the last row is the last one of the table
pub to_last_known : (protocol : ℕ) → protocol ≤ last_protocol → protocol < protocols
to_last_known protocol h = omega arith

pub known_to_last : (protocol : ℕ) → protocol < protocols → protocol ≤ last_protocol
known_to_last protocol h = omega arith

-- ---- the rows

-- which rows carry a PEC, have a command, lack a direction
pub row_is : (n : ℕ) → n < protocols → Row n
row_is n h =
    let t = at_place is_row shapes no_row refl n h in
    let a = both_true (same (shape_of n).checked (not (eqb n 0))) _ t in
    let b = both_true (same (shape_of n).command (ltb 2 n)) _ a.1 in
    (same_true (shape_of n).checked (not (eqb n 0)) a.0, same_true (shape_of n).command (ltb 2 n) b.0, same_true (or (writes (shape_of n)) (reads (shape_of n))) (not (eqb n 0)) b.1)

not_false : (b : Bool) → not b ≡ true → b ≡ false
not_false true e = sym e
not_false false e = refl

-- none goes to the host alone
pub none_to_host : (n : ℕ) → (shape_of n).tohost ≡ false
none_to_host n = not_false (shape_of n).tohost (at_every_number (λ (sh : Shape). not sh.tohost) refl refl n)

-- each row has the limits of the scope
pub limits_of_row : (n : ℕ) → Limits (shape_of n)
limits_of_row n =
    let t = both_true (eqb (shape_of n).least 0) _ (at_every_number has_limits refl refl n) in
    (eqb-true (shape_of n).least 0 t.0, eqb-true (shape_of n).most 255 t.1)

-- ---- the limits of each row make sense

small_part : (a : Part) → is_small a ≡ true → Small a
small_part Nothing e = tt
small_part (Fixed k) e = let t = both_true (leb 1 k) _ e in (leb-true 1 k t.0, leb-true k 255 t.1)
small_part Counted e = tt

pub sane_by_test : (sh : Shape) → is_sane sh ≡ true → Sane sh
sane_by_test sh e =
    let a = both_true (leb sh.most 255) _ e in
    let b = both_true (leb (sh.least + sh.least) sh.most) _ a.1 in
    let c = both_true (is_small sh.sent) _ b.1 in
    record {
      most_byte = leb-true sh.most 255 a.0;
      least_twice = leb-true (sh.least + sh.least) sh.most b.0;
      sent_small = small_part sh.sent c.0;
      received_small = small_part sh.received c.1;
    }

pub sane : (protocol : ℕ) → Sane (shape_of protocol)
sane n = sane_by_test (shape_of n) (at_every_number is_sane refl refl n)
