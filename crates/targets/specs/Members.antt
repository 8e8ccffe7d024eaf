-- Lists of targets: pairs of them, the unresolved ones, and the one of these with the least identifier.
use Rattle.std.specs.Prelude.{◌<◌, ◌≡◌, false, ◌⊎◌, List, [], ◌∷◌}
use Rattle.udid.specs.Udids.{value}
use Rattle.arbitration.specs.Among.{Among}
use Rattle.targets.specs.Target.{Target, Sized, is_resolved}

-- each is in R to each later one
abbrev pub Pairs : (Target → Target → Type 0) → List Target → Type 0
Pairs R [] = Unit
Pairs R (t ∷ ts) = ((x : Target) → Among x ts → R t x) × Pairs R ts

-- `rest` are the unresolved ones of `ts`
pub record Waits (ts rest : List Target) : Type 0 where
  pub known : (t : Target) → Among t ts → is_resolved t ≡ false → Among t rest
  pub there : (t : Target) → Among t rest → Among t ts
  pub unresolved : (t : Target) → Among t rest → is_resolved t ≡ false

-- r is unresolved, and each other unresolved target has a greater identifier
pub record Least (ts : List Target) (r : Target) : Type 0 where
  pub among : Among r ts
  pub unresolved : is_resolved r ≡ false
  pub sized : Sized r
  pub below : (t : Target) → Among t ts → is_resolved t ≡ false → (r ≡ t) ⊎ (Sized t × (value r.udid < value t.udid))
