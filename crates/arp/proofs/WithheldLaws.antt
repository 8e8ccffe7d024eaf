-- What the first half hands out, by what the single step does: the same, but an Assign waits as a choice, with the reason that the trace and the
-- addresses give.
use Rattle.std.specs.Prelude.{ℕ, ◌≡◌, Bool, true, false, List, ltb, leb, Option, Some, None}
use Rattle.std.proofs.Math.Path.{refl, sym, ap, ap₂}
use Rattle.std.proofs.Common.{◌∙◌}
use Rattle.std.proofs.Math.ListN.{get_or}
use Rattle.lists.specs.Choice.{pick, or}
use Rattle.pool.specs.Pools.{member}
use Rattle.pool.specs.Start.{barred_pool}
use Rattle.pool.specs.declared.Pool.{Pool}
use Rattle.udid.specs.Udids.{is_fixed}
use Rattle.udid.specs.declared.Udid.{Udid}
use Rattle.slots.specs.Finding.{find_from}
use Rattle.slots.specs.Slots.{held_at}
use Rattle.slots.specs.declared.Binding.{Binding}
use Rattle.slots.specs.declared.Binding.TheVariants.{Open, Bound, Claimed, Left}
use Rattle.commands.specs.declared.command.Command.TheVariants.{GetUdid}
use Rattle.commands.specs.declared.command.End.TheVariants.{Abandoned, Chosen}
use Rattle.commands.specs.declared.command.Handed.TheVariants.{Send, Wait}
use Rattle.hearing.specs.Told.{tells}
use Rattle.hearing.specs.declared.told.Told.{Told}
use Rattle.hearing.specs.declared.told.Told.TheVariants.{Again, Over, GivenUp, Reply, Took, Unasked}
use Rattle.arp.specs.Bindings.{freed_at, freed, bound}
use Rattle.picking.specs.Claims.{is_held}
use Rattle.arp.specs.Choosing.{waiting_with, decided, decided_on, first_half}
use Rattle.picking.specs.Picking.{reason_of}
use Rattle.arp.proofs.ChosenLaws.{picked_by_wire}
use Rattle.arp.specs.Controller.{handed, counted, asked, issued, replied, changed, stepped}
use Rattle.picking.specs.Picking.{has_to_pick, chosen}
use Rattle.arp.proofs.PickedLaws.{told_byte}
use Rattle.arp.specs.Replay.{Table, view, is_bound_or_claimed}
use Rattle.arp.specs.RunPicks.{is_picked}
use Rattle.arp.specs.Story.{withheld}
use Rattle.arp.specs.declared.state.Controller.{Controller}
use Rattle.wire.specs.declared.address.Address.{Address}

is_held_alike : (h : Binding) → is_held h ≡ is_bound_or_claimed h
is_held_alike Open = refl
is_held_alike (Bound u) = refl
is_held_alike Claimed = refl
is_held_alike Left = refl

asked_withheld : (s : Controller) (occupied : Pool) (t : Table) (tr : List ℕ) → withheld occupied t tr (asked s).command ≡ (asked s).command
unfolding asked
asked_withheld s occupied t tr = go (leb 128 s.gets)
  where
    go : (b : Bool) → withheld occupied t tr (pick b (handed s (Wait Abandoned)) (handed (counted s) (Send GetUdid))).command ≡ (pick b (handed s (Wait Abandoned)) (handed (counted s) (Send GetUdid))).command
    go true = refl
    go false = refl

freed_keeps_occupied : (s : Controller) (u : Udid) → (freed s u).occupied ≡ s.occupied
unfolding freed
freed_keeps_occupied s u = go (ltb 127 (find_from u s.slots 128 0))
  where
    go : (t : Bool) → (pick t s (freed_at s (find_from u s.slots 128 0))).occupied ≡ s.occupied
    go true = refl
    go false = refl

module _ (s : Controller) (tr : List ℕ) where
  decided_withheld : (u : Udid) (b : ℕ) → get_or tr 42 0 ≡ b → (decided s u b).command ≡ withheld s.occupied (view (replied s u b).state) tr (replied s u b).command
  unfolding decided replied
  decided_withheld u b byte = go (chosen (freed s u).pool (freed s u).picked u b) refl
    where
      go : (k : Option Address) → chosen (freed s u).pool (freed s u).picked u b ≡ k
          → (waiting_with (freed s u) u (has_to_pick (freed s u).pool u b) k).command
          ≡ withheld s.occupied (view (issued (freed s u) u (has_to_pick (freed s u).pool u b) k).state) tr (issued (freed s u) u (has_to_pick (freed s u).pool u b) k).command
      go None e = refl
      go (Some a) e =
          ap₂ (λ (t p : Bool). Wait (Chosen u a (reason_of t p (is_fixed u))))
          (ap₂ (λ (o : Pool) (x : Bool). or (member (barred_pool o) a.0) x) (freed_keeps_occupied s u) (is_held_alike (held_at (freed s u).slots a.0)))
          (picked_by_wire (freed s u).pool (freed s u).picked u b a e ∙ ap (λ (x : ℕ). is_picked x a.0) (sym byte))

  pub half_withheld : (first_half s tr).command ≡ withheld s.occupied (view (stepped s tr).state) tr (stepped s tr).command
  unfolding first_half stepped
  half_withheld = go (tells s.last tr) (λ u b e. told_byte s.last tr u b e)
    where
      go : (t : Told) → ((u : Udid) (b : ℕ) → t ≡ Reply u b → get_or tr 42 0 ≡ b) → (decided_on s t).command ≡ withheld s.occupied (view (changed s t).state) tr (changed s t).command
      go Again h = sym (asked_withheld s s.occupied (view (asked s).state) tr)
      go Over h = refl
      go GivenUp h = refl
      go (Reply u b) h = decided_withheld u b (h u b refl)
      go (Took u a) h = sym (asked_withheld (bound s u a.0) s.occupied (view (asked (bound s u a.0)).state) tr)
      go Unasked h = refl
