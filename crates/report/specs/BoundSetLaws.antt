-- Who is bound, by what the slots keep: the set of bound addresses, and an identifier for each.
use Rattle.std.specs.Prelude.{ℕ, ◌≡◌, refl, Bool, true, false, Some, None}
use Rattle.std.proofs.Common.{sym, ◌∙◌}
use Rattle.lists.specs.Choice.{pick}
use Rattle.pool.specs.Pools.{Fits, member}
use Rattle.slots.specs.Slots.{kept_udid}
use Rattle.slots.proofs.SlotsLaws.{by_bound}
use Rattle.slots.specs.declared.Slots.{Slots}
use Rattle.slots.specs.declared.Binding.{Binding}
use Rattle.bindings.proofs.BoundLaws.{bound_set_exactly}
use Rattle.bindings.specs.Entries.{is_bound, bound_set}
use Rattle.report.specs.Report.{entry_of, entry_at}

-- nobody where the address is not in the set
pub entry_by_bound : (s : Slots) (a : ℕ) → entry_at s a ≡ pick (member s.bound a) (Some (kept_udid s a)) None
entry_by_bound s a = by_bound entry_of None refl refl refl s a

-- the set that the slots keep is that of the bindings
pub bound_is_set : (s : Slots) → Fits s.bound → s.bound ≡ bound_set (entry_at s)
bound_is_set s f = (bound_set_exactly (entry_at s) s.bound f).1 (λ a h. sym (by_bound (λ (x : Binding). is_bound (entry_of x)) false refl refl refl s a ∙ told (member s.bound a)))
  where
    told : (b : Bool) → pick b true false ≡ b
    told true = refl
    told false = refl
