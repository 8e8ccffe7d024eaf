-- Target lists that are not refused, as targets.
use Rattle.std.specs.Prelude.{◌/◌, ◌≤◌, ◌≡◌, true, false, List, length}
use Rattle.pool.specs.Pools.{member}
use Rattle.pool.specs.declared.Pool.{Pool}
use Rattle.udid.specs.Udids.{is_fixed, value}
use Rattle.arbitration.specs.Among.{Among}
use Rattle.targets.specs.Target.{Target, Sized}
use Rattle.targets.specs.Members.{Pairs}

-- different identifiers
abbrev pub Differ : Target → Target → Type 0
Differ r t = value r.udid ≡ value t.udid → ⊥

-- two fixed targets are at different addresses
abbrev pub FixedApart : Target → Target → Type 0
FixedApart r t = is_fixed r.udid ≡ true → is_fixed t.udid ≡ true → r.address_byte / 2 ≡ t.address_byte / 2 → ⊥

-- a fixed target is at an address that is not barred
abbrev pub FixedFree : Pool → Target → Type 0
FixedFree barred t = is_fixed t.udid ≡ true → member barred (t.address_byte / 2) ≡ false

pub record AdmittedTargets (barred : Pool) (ts : List Target) : Type 0 where
  pub sized : (t : Target) → Among t ts → Sized t
  pub differ : Pairs Differ ts
  pub fixed_apart : Pairs FixedApart ts
  pub fixed_free : (t : Target) → Among t ts → FixedFree barred t
  pub at_most_120 : length ts ≤ 120
