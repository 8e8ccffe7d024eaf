-- What is handed out: the state keeps it, each Get UDID is counted, and only a fixed target is sent an address that is in use.
use Rattle.std.specs.Prelude.{ℕ, ◌+◌, ◌≡◌, Bool, true, false, List, [], ◌∷◌, ◌⊎◌, ltb, leb, Option, Some, None}
use Rattle.std.proofs.Math.Path.{refl}
use Rattle.std.proofs.Common.{sym, ap, ◌∙◌, subst, add-zero, arith}
use Rattle.std.proofs.Math.Logic.{inl, inr}
use Rattle.lists.specs.AbsurdLaws.{zero_is_one}
use Rattle.lists.specs.Choice.{pick}
use Rattle.lists.specs.ChoiceLaws.{not_both}
use Rattle.wire.specs.declared.address.Address.{Address}
use Rattle.pool.specs.Pools.{member}
use Rattle.pool.specs.declared.Pool.{Pool}
use Rattle.udid.specs.Udids.{is_fixed}
use Rattle.udid.specs.declared.Udid.{Udid}
use Rattle.arp.proofs.GoneLaws.{report_rest}
use Rattle.arp.proofs.HistoryLaws.{reached_good}
use Rattle.hearing.specs.ToldLaws.{Known, told_known}
use Rattle.arp.specs.Handing.{Kept}
use Rattle.arp.specs.Sound.{Pending, PendingIn}
use Rattle.arp.specs.Bindings.{freed_at, freed, bound_at, bound}
use Rattle.slots.specs.Finding.{find_from}
use Rattle.arp.specs.Controller.{handed, counted, asked, issued, replied, changed, stepped}
use Rattle.picking.specs.Picking.{has_to_pick, chosen}
use Rattle.arp.specs.Choosing.{issued_for, issuing, declined_for, declining}
use Rattle.commands.specs.Choices.{choice_in}
use Rattle.arp.proofs.ChoosingLaws.{same_but_last, counts_the_same}
use Rattle.arp.specs.History.{Event, Start, Received, Gone, Issue, Decline, run, one_get, gets_sent}
use Rattle.hearing.specs.Told.{tells, no_command}
use Rattle.commands.specs.declared.command.Command.TheVariants.{GetUdid, Assign}
use Rattle.commands.specs.declared.command.End.TheVariants.{Ended, NoneFree, Abandoned, NotOutstanding}
use Rattle.commands.specs.declared.command.Handed.{Handed}
use Rattle.commands.specs.declared.command.Handed.TheVariants.{Send, Wait}
use Rattle.arp.specs.declared.state.Controller.{Controller}
use Rattle.arp.specs.declared.state.Stepped.{Stepped}
use Rattle.hearing.specs.declared.told.Told.{Told}
use Rattle.hearing.specs.declared.told.Told.TheVariants.{Again, Over, GivenUp, Reply, Took, Unasked}

plain : (s : Controller) (k : Handed) → one_get k ≡ 0 → Kept s (handed s k)
plain s k e = record { last = refl; gets = omega arith }

asked_handed : (s : Controller) → Kept s (asked s)
unfolding asked
asked_handed s = go (leb 128 s.gets)
  where
    go : (t : Bool) → Kept s (pick t (handed s (Wait Abandoned)) (handed (counted s) (Send GetUdid)))
    go true = plain s (Wait Abandoned) refl
    go false = record { last = refl; gets = refl }

-- unbinding and binding count nothing
pub freed_keeps_gets : (s : Controller) (u : Udid) → (freed s u).gets ≡ s.gets
unfolding freed
freed_keeps_gets s u = go (ltb 127 (find_from u s.slots 128 0))
  where
    go : (t : Bool) → (pick t s (freed_at s (find_from u s.slots 128 0))).gets ≡ s.gets
    go true = refl
    go false = refl

pub bound_keeps_gets : (s : Controller) (u : Udid) (a : ℕ) → (bound s u a).gets ≡ s.gets
unfolding bound
bound_keeps_gets s u a = go (ltb 127 a)
  where
    go : (t : Bool) → (pick t s (bound_at s u a)).gets ≡ s.gets
    go true = refl
    go false = refl

from : (s r : Controller) (x : Stepped) → r.gets ≡ s.gets → Kept r x → Kept s x
from s r x e h = record { last = h.last; gets = h.gets ∙ ap (λ (n : ℕ). n + one_get x.command) e }

module _ (s : Controller) where
  issued_handed : (u : Udid) (picks : Bool) (k : Option Address) → Kept s (issued (freed s u) u picks k)
  issued_handed u picks (Some a) = record { last = refl; gets = omega (arith, freed_keeps_gets s u) }
  issued_handed u picks None = from s (freed s u) (issued (freed s u) u picks None) (freed_keeps_gets s u) (plain (freed s u) (Wait (NoneFree u)) refl)

  -- whatever is told where a command is outstanding is handed out and kept
  told_kept : (t : Told) → (t ≡ Unasked → ⊥) → Kept s (changed s t)
  unfolding replied
  told_kept Again n = asked_handed s
  told_kept Over n = plain s (Wait Ended) refl
  told_kept GivenUp n = plain s (Wait Abandoned) refl
  told_kept (Reply u b) n = issued_handed u (has_to_pick (freed s u).pool u b) (chosen (freed s u).pool (freed s u).picked u b)
  told_kept (Took u a) n = from s (bound s u a.0) (asked (bound s u a.0)) (bound_keeps_gets s u a.0) (asked_handed (bound s u a.0))
  told_kept Unasked n = absurd (n refl)

  -- where a command was handed out last, what is handed out is kept
  pub busy_handed : (k : Handed) (tr : List ℕ) → no_command k ≡ false → Kept s (changed s (tells k tr))
  busy_handed k tr n = told_kept (tells k tr) (λ e. not_both n (subst (Known k tr) e (told_known k tr)))

  -- 21 with the state as it was, or something handed out and kept
  pub step_21_or_handed : (tr : List ℕ) → (((stepped s tr).command ≡ Wait NotOutstanding) × ((stepped s tr).state ≡ s)) ⊎ Kept s (stepped s tr)
  unfolding stepped
  step_21_or_handed tr = go s.last
    where
      go : (k : Handed) → (((changed s (tells k tr)).command ≡ Wait NotOutstanding) × ((changed s (tells k tr)).state ≡ s)) ⊎ Kept s (changed s (tells k tr))
      go (Send k) = inr (busy_handed (Send k) tr refl)
      go (Wait e) = inl (refl, refl)

-- an issue and a decline change what was handed out last, and nothing else
pub record Settles (s t : Controller) : Type 0 where
  pub occupied : t.occupied ≡ s.occupied
  pub pool : t.pool ≡ s.pool
  pub slots : t.slots ≡ s.slots
  pub gets : t.gets ≡ s.gets
  pub picked : t.picked ≡ s.picked

pub issue_rest : (s : Controller) → Settles s (issuing s).state
unfolding issuing
issue_rest s = go (choice_in s.last)
  where
    go : (c : Option (Udid × Address)) → Settles s (issued_for s c).state
    go (Some (u, a)) = record { occupied = refl; pool = refl; slots = refl; gets = refl; picked = refl }
    go None = record { occupied = refl; pool = refl; slots = refl; gets = refl; picked = refl }

pub decline_rest : (s : Controller) → Settles s (declining s).state
unfolding declining
decline_rest s = go (choice_in s.last)
  where
    go : (c : Option (Udid × Address)) → Settles s (declined_for s c).state
    go (Some (u, a)) = record { occupied = refl; pool = refl; slots = refl; gets = refl; picked = refl }
    go None = record { occupied = refl; pool = refl; slots = refl; gets = refl; picked = refl }

-- the count in the state is that of the Get UDIDs handed out in this pass
pub gets_are_sent : (occupied : Pool) (last : ℕ) (es : List Event) → (run occupied last es).gets ≡ gets_sent occupied last es
unfolding run gets_sent
gets_are_sent occupied last [] = refl
gets_are_sent occupied last (Start ∷ es) = refl
gets_are_sent occupied last (Gone a ∷ es) = (report_rest (run occupied last es) a).gets ∙ gets_are_sent occupied last es
gets_are_sent occupied last (Issue ∷ es) = (issue_rest (run occupied last es)).gets ∙ gets_are_sent occupied last es
gets_are_sent occupied last (Decline ∷ es) = (decline_rest (run occupied last es)).gets ∙ gets_are_sent occupied last es
gets_are_sent occupied last (Received w tr ∷ es) =
    ap (λ (s : Controller). s.gets) (same_but_last w (run occupied last es) tr)
    ∙ go (step_21_or_handed (run occupied last es) tr) (gets_are_sent occupied last es)
    ∙ ap (λ (n : ℕ). gets_sent occupied last es + n) (sym (counts_the_same w (run occupied last es) tr))
  where
    go : (((stepped (run occupied last es) tr).command ≡ Wait NotOutstanding) × ((stepped (run occupied last es) tr).state ≡ run occupied last es)) ⊎ Kept (run occupied last es) (stepped (run occupied last es) tr)
        → (run occupied last es).gets ≡ gets_sent occupied last es
        → (stepped (run occupied last es) tr).state.gets ≡ gets_sent occupied last es + one_get (stepped (run occupied last es) tr).command
    go (inl h) e = ap (λ (x : Controller). x.gets) h.1 ∙ e ∙ sym (ap (λ (k : Handed). gets_sent occupied last es + one_get k) h.0 ∙ add-zero (gets_sent occupied last es))
    go (inr h) e = h.gets ∙ ap (λ (n : ℕ). n + one_get (stepped (run occupied last es) tr).command) e

-- an Assign that names an address in use is for a fixed target. A barred, a bound and a claimed address is in use, so only fixed targets make claims
pub claims_are_fixed : (occupied : Pool) (last : ℕ) (es : List Event) (u : Udid) (a : Address) → (run occupied last es).last ≡ Send (Assign u a) → member (run occupied last es).pool a.0 ≡ true → is_fixed u ≡ true
claims_are_fixed occupied last es u a e h = go (is_fixed u) refl
  where
    p : Pending (run occupied last es) u a.0
    p = subst (PendingIn (run occupied last es)) e (reached_good occupied last es).1

    go : (b : Bool) → is_fixed u ≡ b → is_fixed u ≡ true
    go true q = q
    go false q = zero_is_one (cc (h, p.free q))
