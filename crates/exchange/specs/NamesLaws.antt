-- The identifier that the controller names is a number of 128 bits, whatever trace it took.
use Rattle.std.specs.Prelude.{Bool, true, false, List, leb, ℕ, Option, Some, None}
use Rattle.lists.specs.Choice.{pick}
use Rattle.udid.specs.Udids.{Fits}
use Rattle.udid.specs.declared.Udid.{Udid}
use Rattle.commands.specs.declared.command.Command.TheVariants.{GetUdid}
use Rattle.commands.specs.declared.command.End.TheVariants.{Abandoned}
use Rattle.commands.specs.declared.command.Handed.TheVariants.{Send, Wait}
use Rattle.hearing.specs.ToldLaws.{Known}
use Rattle.hearing.specs.declared.told.Told.{Told}
use Rattle.hearing.specs.declared.told.Told.TheVariants.{Again, Over, GivenUp, Reply, Took, Unasked}
use Rattle.arp.specs.Bindings.{freed, bound}
use Rattle.arp.proofs.ChangedLaws.{by_told}
use Rattle.arp.specs.Controller.{handed, asked, counted, issued, replied, changed, stepped}
use Rattle.picking.specs.Picking.{has_to_pick, chosen}
use Rattle.arp.specs.declared.state.Controller.{Controller}
use Rattle.rule.specs.Acted.{Names}
use Rattle.wire.specs.declared.address.Address.{Address}

asked_names : (s : Controller) → Names (asked s).command
unfolding asked
asked_names s = go (leb 128 s.gets)
  where
    go : (b : Bool) → Names (pick b (handed s (Wait Abandoned)) (handed (counted s) (Send GetUdid))).command
    go true = tt
    go false = tt

issued_names : (s : Controller) (u : Udid) (picks : Bool) (f : Option Address) → Fits u → Names (issued s u picks f).command
issued_names s u picks (Some a) h = h
issued_names s u picks None h = tt

replied_names : (s : Controller) (u : Udid) (b : ℕ) → Fits u → Names (replied s u b).command
unfolding replied
replied_names s u b h = issued_names (freed s u) u (has_to_pick (freed s u).pool u b) (chosen (freed s u).pool (freed s u).picked u b) h

pub step_names : (s : Controller) (tr : List ℕ) → Names (stepped s tr).command
unfolding stepped
step_names s tr = by_told (λ (t : Told). Names (changed s t).command) s tr go
  where
    go : (t : Told) → Known s.last tr t → Names (changed s t).command
    go Again h = asked_names s
    go Over h = tt
    go GivenUp h = tt
    go (Reply u b) h = replied_names s u b h.0
    go (Took u a) h = asked_names (bound s u a.0)
    go Unasked h = tt
