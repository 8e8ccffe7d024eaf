-- The lookup's answer for C in the parts of its struct.
use Rattle.std.specs.Prelude.{◌≡◌, ℕ}
use Rattle.arp.specs.declared.lookup.Found.{Found}
use Rattle.c_arp.specs.declared.pass.HbFound.{HbFound}
use Rattle.arp.specs.declared.lookup.Found.TheVariants as found

pub record FoundParts (r : HbFound) (answer high low : ℕ) : Type 0 where
  pub answer_is : r.answer ≡ answer
  pub high_is : r.udid.high ≡ high
  pub low_is : r.udid.low ≡ low

abbrev pub FoundIs : Found → HbFound → Type 0
FoundIs (found.Bound u) r = FoundParts r 0 u.high u.low
FoundIs found.Nobody r = FoundParts r 15 0 0
FoundIs found.Two r = FoundParts r 16 0 0
FoundIs found.Left r = FoundParts r 20 0 0
FoundIs found.NoAddress r = FoundParts r 1 0 0
