use Rattle.std.proofs.Common.{ℕ, ◌≡◌, refl, sym, ap, ◌∙◌, Bool, true, false, ltb, Option, Some, None}
use Rattle.lists.specs.AbsurdLaws.{zero_is_one}
use Rattle.lists.specs.Choice.{pick}
use Rattle.wire.specs.declared.address.Address.{Address}
use Rattle.slots.specs.Finding.{find_from, address_found}
use Rattle.arp.specs.Bindings.{freed, freed_at}
use Rattle.arp.specs.declared.state.Controller.{Controller}
use Rattle.arp.proofs.state.Controller.free.Goals as goal

-- the address that is found is the one that is vacated
none_found : (s : Controller) (n : ℕ) → address_found n ≡ None → s ≡ pick (ltb 127 n) s (freed_at s n)
none_found s n = go (ltb 127 n)
  where
    go : (b : Bool) → ◌≡◌ {A = Option Address} (pick b None (Some (record { 0 = n }))) None → s ≡ pick b s (freed_at s n)
    go true e = refl
    go false e = zero_is_one (cc e)

some_found : (s : Controller) (n : ℕ) (a : Address) → address_found n ≡ Some a → freed_at s a.0 ≡ pick (ltb 127 n) s (freed_at s n)
some_found s n a = go (ltb 127 n)
  where
    go : (b : Bool) → ◌≡◌ {A = Option Address} (pick b None (Some (record { 0 = n }))) (Some a) → freed_at s a.0 ≡ pick b s (freed_at s n)
    go true e = zero_is_one (cc e)
    go false e = let k : ◌≡◌ {A = Address} (record { 0 = n }) a = cc e in ap (λ (x : Address). freed_at s x.0) (sym k)

pub returns-in-Some : goal.returns-in-Some
unfolding freed
returns-in-Some c = let a = c.args in c.vacate.ensures ∙ some_found a.self (find_from a.u a.self.slots 128 0) _ (sym c.find.ensures ∙ c.in-Some.is)

pub returns-in-None : goal.returns-in-None
unfolding freed
returns-in-None c = let a = c.args in none_found a.self (find_from a.u a.self.slots 128 0) (sym c.find.ensures ∙ c.in-None.is)
