-- Shapes whose limits make sense: counts that a byte holds, data of at most 255 bytes, and room for the smallest counts.
use Rattle.std.specs.Prelude.{◌≡◌, Bool, true, ◌+◌, ◌≤◌, leb, eqb}
use Rattle.lists.specs.Choice.{and}
use Rattle.trace.specs.declared.shape.Part.{Part}
use Rattle.trace.specs.declared.shape.Part.TheVariants.{Nothing, Fixed, Counted}
use Rattle.trace.specs.declared.shape.Shape.{Shape}

-- a part of fixed length has 1 to 255 bytes
abbrev pub Small : Part → Type 0
Small Nothing = Unit
Small (Fixed k) = (1 ≤ k) × (k ≤ 255)
Small Counted = Unit

abbrev pub is_small : Part → Bool
is_small Nothing = true
is_small (Fixed k) = and (leb 1 k) (leb k 255)
is_small Counted = true

pub record Sane (sh : Shape) : Type 0 where
  pub most_byte : sh.most ≤ 255
  pub least_twice : sh.least + sh.least ≤ sh.most
  pub sent_small : Small sh.sent
  pub received_small : Small sh.received

-- the same as a test of a row
abbrev pub is_sane : Shape → Bool
is_sane sh = and (leb sh.most 255) (and (leb (sh.least + sh.least) sh.most) (and (is_small sh.sent) (is_small sh.received)))

-- the limits of the scope: each count is at least 0, and all together are at most 255
abbrev pub Limits : Shape → Type 0
Limits sh = (sh.least ≡ 0) × (sh.most ≡ 255)

abbrev pub has_limits : Shape → Bool
has_limits sh = and (eqb sh.least 0) (eqb sh.most 255)
