-- What the proofs of the step and of its first half cite. `direct` says which of the two it is: a free address, or none; what is told of anything else.
use Rattle.std.specs.Prelude.{Option, Some, None}
use Prim.Native.Nat.{ℕ}
use mathlib.Core.Bool.{Bool, true, false}
use mathlib.Core.Path.{◌≡◌, refl, sym, ap, ◌∙◌}
use Rattle.lists.specs.Choice.{pick}
use Rattle.wire.specs.declared.address.Address.{Address}
use Rattle.udid.specs.Udids.{is_fixed}
use Rattle.udid.specs.declared.Udid.{Udid}
use Rattle.slots.specs.Slots.{held_at}
use Rattle.slots.specs.declared.Binding.{Binding}
use Rattle.commands.specs.declared.command.Command.TheVariants.{Assign}
use Rattle.commands.specs.declared.command.End.TheVariants.{NoneFree, Chosen}
use Rattle.commands.specs.declared.command.Handed.{Handed}
use Rattle.commands.specs.declared.command.Handed.TheVariants.{Send, Wait}
use Rattle.commands.specs.declared.command.Reason.{Reason}
use Rattle.picking.specs.Claims.{makes_claim}
use Rattle.picking.specs.Picking.{has_to_pick, chosen, reason_of}
use Rattle.arp.specs.Bindings.{freed}
use Rattle.arp.specs.Choosing.{waiting_with, decided}
use Rattle.arp.specs.Controller.{handed, issued, replied}
use Rattle.arp.specs.State.{with_picked}
use Rattle.arp.specs.declared.state.Controller.{Controller}
use Rattle.arp.specs.declared.state.Stepped.{Stepped}

-- where both do the same
pub either_way : {A : Type 0} → (direct : Bool) (x : A) → x ≡ pick direct x x
either_way true x = refl
either_way false x = refl

module _ (direct : Bool) (s : Controller) (u : Udid) (b : ℕ) (next : Controller) (f : Option Address) (r : Stepped) (free : next ≡ freed s u) (choice : f ≡ chosen next.pool next.picked u b) where
  choice_there : f ≡ chosen (freed s u).pool (freed s u).picked u b
  choice_there = choice ∙ ap (λ (x : Controller). chosen x.pool x.picked u b) free

  -- both, for what is chosen
  abbrev both : Controller → Bool → Option Address → Stepped
  both x picks k = pick direct (issued x u picks k) (waiting_with x u picks k)

  pub reply_none : f ≡ None → r ≡ handed next (Wait (NoneFree u)) → r ≡ pick direct (replied s u b) (decided s u b)
  unfolding replied decided
  reply_none e h =
      h
      ∙ ap (λ (x : Controller). handed x (Wait (NoneFree u))) free
      ∙ either_way direct (handed (freed s u) (Wait (NoneFree u)))
      ∙ ap (both (freed s u) (has_to_pick (freed s u).pool u b)) (sym e ∙ choice_there)

  pub reply_at : (a : Address) (t : Bool) → f ≡ Some a → t ≡ has_to_pick next.pool u b → r ≡ pick direct (issued next u t (Some a)) (waiting_with next u t (Some a)) → r ≡ pick direct (replied s u b) (decided s u b)
  unfolding replied decided
  reply_at a t e p h =
      h
      ∙ ap (λ (x : Bool). both next x (Some a)) p
      ∙ ap (λ (x : Controller). both x (has_to_pick x.pool u b) (Some a)) free
      ∙ ap (both (freed s u) (has_to_pick (freed s u).pool u b)) (sym e ∙ choice_there)

-- an address that is chosen, with the reason worked out piece by piece
pub choice_settled : (direct : Bool) (s : Controller) (u : Udid) (picks : Bool) (a : Address) (h : Binding) (m x : Bool) (r : Reason) (l : ℕ) (k : Handed) (z : Stepped) → h ≡ held_at s.slots a.0 → m ≡ makes_claim s.occupied h a.0
    → x ≡ is_fixed u → r ≡ reason_of m picks x → l ≡ pick picks a.0 s.picked → k ≡ pick direct (Send (Assign u a)) (Wait (Chosen u a r)) → z ≡ handed (with_picked s l) k
    → z ≡ pick direct (issued s u picks (Some a)) (waiting_with s u picks (Some a))
choice_settled direct s u picks a h m x r l k z eh em ex er el ek e =
    e
    ∙ ap (λ (n : ℕ). handed (with_picked s n) k) el
    ∙ ap (handed (with_picked s (pick picks a.0 s.picked))) (ek ∙ ap (λ (q : Reason). pick direct (Send (Assign u a)) (Wait (Chosen u a q))) reason)
    ∙ out direct
  where
    reason : r ≡ reason_of (makes_claim s.occupied (held_at s.slots a.0) a.0) picks (is_fixed u)
    reason = er ∙ ap (λ (t : Bool). reason_of t picks x) (em ∙ ap (λ (b : Binding). makes_claim s.occupied b a.0) eh) ∙ ap (reason_of (makes_claim s.occupied (held_at s.slots a.0) a.0) picks) ex

    out : (d : Bool) → handed (with_picked s (pick picks a.0 s.picked)) (pick d (Send (Assign u a)) (Wait (Chosen u a (reason_of (makes_claim s.occupied (held_at s.slots a.0) a.0) picks (is_fixed u)))))
        ≡ pick d (issued s u picks (Some a)) (waiting_with s u picks (Some a))
    out true = refl
    out false = refl
