-- The picks of a run are each the first free address after the one before it. So the state's last pick is the address of the latest, and an
-- address that was picked is not picked again before every other one that stayed free has been picked.
use Rattle.std.specs.Prelude.{ℕ, ◌<◌, ◌≡◌, Bool, List, [], ◌∷◌, ◌++◌, leb, Option, Some, None}
use Rattle.std.proofs.Math.Path.{refl}
use Rattle.std.proofs.Common.{sym, ap, ap₂, ◌∙◌, subst}
use Rattle.std.proofs.Math.Bool.{true, false}
use Rattle.std.proofs.Math.ListN.{get_or}
use Rattle.lists.specs.Choice.{pick}
use Rattle.pool.specs.NextFree.{next_free}
use Rattle.pool.specs.PickLaws.{picks_on, latest_on, rotation}
use Rattle.pool.specs.Picks.{Pick, Picks, FreeAtEach, Picked, latest_of}
use Rattle.pool.specs.declared.Pool.{Pool}
use Rattle.udid.specs.declared.Udid.{Udid}
use Rattle.commands.specs.declared.command.Command.TheVariants.{Prepare, GetUdid, Assign}
use Rattle.commands.specs.declared.command.End.TheVariants.{Abandoned}
use Rattle.commands.specs.declared.command.Handed.{Handed}
use Rattle.commands.specs.declared.command.Handed.TheVariants.{Send, Wait}
use Rattle.hearing.specs.Told.{tells}
use Rattle.hearing.specs.declared.told.Told.{Told}
use Rattle.hearing.specs.declared.told.Told.TheVariants.{Again, Over, GivenUp, Reply, Took, Unasked}
use Rattle.arp.specs.Bindings.{freed, bound}
use Rattle.arp.proofs.ChosenLaws.{picked_by_wire}
use Rattle.picking.proofs.PickingLaws.{chosen_picked}
use Rattle.arp.specs.Controller.{last_pick, handed, counted, asked, issued, replied, changed, stepped}
use Rattle.picking.specs.Picking.{has_to_pick, chosen}
use Rattle.arp.specs.Choosing.{sending}
use Rattle.arp.proofs.ChoosingLaws.{same_but_last, sends_the_same}
use Rattle.arp.proofs.HandingLaws.{issue_rest, decline_rest}
use Rattle.arp.specs.History.{By, Event, Start, Received, Gone, Issue, Decline, heard, run}
use Rattle.arp.proofs.GoneLaws.{report_rest}
use Rattle.arp.proofs.PickedLaws.{freed_keeps_picked, told_byte, step_picked}
use Rattle.arp.specs.RunPicks.{is_picked, pick_in, picks_of, picked_then}
use Rattle.arp.specs.declared.state.Controller.{Controller}
use Rattle.wire.specs.declared.address.Address.{Address}

-- ---- a step

-- the last pick then is the latest of its picks
latest_then : (last : ℕ) (tr : List ℕ) (p : Pool) (k : Handed) → picked_then last tr k ≡ latest_of last (pick_in tr p k)
unfolding latest_of
latest_then last tr p (Send (Assign u a)) = go (is_picked (get_or tr 42 0) a.0)
  where
    go : (t : Bool) → pick t a.0 last ≡ latest_of last (pick t (record { pool = p; at = a.0 } ∷ []) [])
    go true = refl
    go false = refl
latest_then last tr p (Send Prepare) = refl
latest_then last tr p (Send GetUdid) = refl
latest_then last tr p (Wait e) = refl

module _ (s : Controller) (tr : List ℕ) where
  asked_picks_none : (c : Controller) → Picks s.picked (pick_in tr (asked c).state.pool (asked c).command)
  unfolding asked Picks
  asked_picks_none c = go (leb 128 c.gets)
    where
      go : (t : Bool) → Picks s.picked (pick_in tr (pick t (handed c (Wait Abandoned)) (handed (counted c) (Send GetUdid))).state.pool (pick t (handed c (Wait Abandoned)) (handed (counted c) (Send GetUdid))).command)
      go true = tt
      go false = tt

  -- what is picked at a reply is the next free address, with what the identifier was bound to freed
  reply_picks : (u : Udid) (b : ℕ) → get_or tr 42 0 ≡ b → Picks s.picked (pick_in tr (replied s u b).state.pool (replied s u b).command)
  unfolding replied Picks
  reply_picks u b byte = go (chosen (freed s u).pool (freed s u).picked u b) refl
    where
      one : (a : ℕ) (t : Bool) → (t ≡ true → next_free (freed s u).pool s.picked ≡ Some (record { 0 = a })) → Picks s.picked (pick t (record { pool = (freed s u).pool; at = a } ∷ []) [])
      one a true f = (f refl, tt)
      one a false f = tt

      go : (k : Option Address) → chosen (freed s u).pool (freed s u).picked u b ≡ k
          → Picks s.picked (pick_in tr (issued (freed s u) u (has_to_pick (freed s u).pool u b) k).state.pool (issued (freed s u) u (has_to_pick (freed s u).pool u b) k).command)
      go None e = tt
      go (Some a) e = one a.0 (is_picked (get_or tr 42 0) a.0) (λ q.
          ap (next_free (freed s u).pool) (sym (freed_keeps_picked s u))
          ∙ sym (chosen_picked (freed s u).pool (freed s u).picked u b (picked_by_wire (freed s u).pool (freed s u).picked u b a e ∙ ap (λ (x : ℕ). is_picked x a.0) (sym byte) ∙ q))
          ∙ e)

  step_picks : Picks s.picked (pick_in tr (stepped s tr).state.pool (stepped s tr).command)
  unfolding stepped Picks
  step_picks = go (tells s.last tr) (λ u b e. told_byte s.last tr u b e)
    where
      go : (t : Told) → ((u : Udid) (b : ℕ) → t ≡ Reply u b → get_or tr 42 0 ≡ b) → Picks s.picked (pick_in tr (changed s t).state.pool (changed s t).command)
      go Again h = asked_picks_none s
      go Over h = tt
      go GivenUp h = tt
      go (Reply u b) h = reply_picks u b (h u b refl)
      go (Took u a) h = asked_picks_none (bound s u a.0)
      go Unasked h = tt

-- the first half has the pick of the whole step
heard_picks : (w : By) (s : Controller) (tr : List ℕ) → pick_in tr (heard w s tr).state.pool (sending (heard w s tr).command) ≡ pick_in tr (stepped s tr).state.pool (stepped s tr).command
heard_picks w s tr = ap₂ (λ (c : Controller) (k : Handed). pick_in tr c.pool k) (same_but_last w s tr) (sends_the_same w s tr)

-- ---- THE PICKS OF A RUN

-- the state's last pick is the address of the latest pick, else the one that the controller was made with
pub last_is_latest : (occupied : Pool) (last : ℕ) (es : List Event) → (run occupied last es).picked ≡ latest_of (last_pick last) (picks_of occupied last es)
unfolding run picks_of latest_of
last_is_latest occupied last [] = refl
last_is_latest occupied last (Start ∷ es) = last_is_latest occupied last es
last_is_latest occupied last (Gone a ∷ es) = (report_rest (run occupied last es) a).picked ∙ last_is_latest occupied last es
last_is_latest occupied last (Issue ∷ es) = (issue_rest (run occupied last es)).picked ∙ last_is_latest occupied last es
last_is_latest occupied last (Decline ∷ es) = (decline_rest (run occupied last es)).picked ∙ last_is_latest occupied last es
last_is_latest occupied last (Received w tr ∷ es) =
    let s = run occupied last es in
    ap (λ (c : Controller). c.picked) (same_but_last w s tr)
    ∙ step_picked s tr
    ∙ latest_then s.picked tr (stepped s tr).state.pool (stepped s tr).command
    ∙ ap (λ (l : ℕ). latest_of l (pick_in tr (stepped s tr).state.pool (stepped s tr).command)) (last_is_latest occupied last es)
    ∙ sym (latest_on (last_pick last) (picks_of occupied last es) (pick_in tr (stepped s tr).state.pool (stepped s tr).command))
    ∙ ap (λ (xs : List Pick). latest_of (last_pick last) (picks_of occupied last es ++ xs)) (sym (heard_picks w s tr))

-- each is the first free address of its pool after the one before it
pub run_picks : (occupied : Pool) (last : ℕ) (es : List Event) → Picks (last_pick last) (picks_of occupied last es)
unfolding picks_of Picks
run_picks occupied last [] = tt
run_picks occupied last (Start ∷ es) = run_picks occupied last es
run_picks occupied last (Gone a ∷ es) = run_picks occupied last es
run_picks occupied last (Issue ∷ es) = run_picks occupied last es
run_picks occupied last (Decline ∷ es) = run_picks occupied last es
run_picks occupied last (Received w tr ∷ es) =
    let s = run occupied last es in
    subst (λ (xs : List Pick). Picks (last_pick last) (picks_of occupied last es ++ xs)) (sym (heard_picks w s tr))
    (picks_on (last_pick last) (picks_of occupied last es) (pick_in tr (stepped s tr).state.pool (stepped s tr).command) (run_picks occupied last es)
    (subst (λ (l : ℕ). Picks l (pick_in tr (stepped s tr).state.pool (stepped s tr).command)) (last_is_latest occupied last es) (step_picks s tr)))

-- AN ADDRESS THAT WAS PICKED IS NOT PICKED AGAIN before every other one that was free at each pick since then, the later one included, has been
-- picked
pub not_picked_again : (occupied : Pool) (last : ℕ) (es : List Event) (before : List Pick) (x : Pick) (between : List Pick) (y : Pick) (rest : List Pick)
    → picks_of occupied last es ≡ before ++ (x ∷ (between ++ (y ∷ rest))) → y.at ≡ x.at
    → (b : ℕ) → b < 128 → (b ≡ x.at → ⊥) → FreeAtEach b (between ++ (y ∷ [])) → Picked b between
not_picked_again occupied last es before x between y rest e q b h n f =
    rotation (last_pick last) before x between y rest (subst (Picks (last_pick last)) e (run_picks occupied last es)) q b h n f
