-- One way to be bound, and two ways to be neither bound nor claimed: a case of Binding more is one line more in each.
use Rattle.std.specs.Prelude.{◌≡◌, refl, false, List, ◌∷◌, ◌⊎◌}
use Rattle.std.proofs.Common.{ap, inl, inr}
use Rattle.lists.specs.AbsurdLaws.{zero_is_one}
use Rattle.udid.specs.declared.Udid.{Udid}
use Rattle.slots.specs.Finding.{bound_in}
use Rattle.picking.specs.Claims.{is_held}
use Rattle.slots.specs.declared.Binding.{Binding}
use Rattle.slots.specs.declared.Binding.TheVariants.{Open, Bound, Claimed, Left}

first : {u v : Udid} {us vs : List Udid} → u ∷ us ≡ v ∷ vs → u ≡ v
first e = cc e

pub bound_in_is : (h : Binding) (u : Udid) (us : List Udid) → bound_in h ≡ u ∷ us → h ≡ Bound u
bound_in_is Open u us e = zero_is_one (cc e)
bound_in_is (Bound v) u us e = ap Bound (first e)
bound_in_is Claimed u us e = zero_is_one (cc e)
bound_in_is Left u us e = zero_is_one (cc e)

pub unheld_is_open_or_left : (h : Binding) → is_held h ≡ false → (h ≡ Open) ⊎ (h ≡ Left)
unheld_is_open_or_left Open e = inl refl
unheld_is_open_or_left (Bound u) e = zero_is_one (cc e)
unheld_is_open_or_left Claimed e = zero_is_one (cc e)
unheld_is_open_or_left Left e = inr refl
