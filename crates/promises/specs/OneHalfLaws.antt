-- The page's sentences on the first half leave one: of a reply alone is an address chosen, and there is one reason.
use Rattle.std.specs.Prelude.{ℕ, ◌<◌, ◌≡◌, refl, List, [], ◌∷◌, ◌++◌, ◌↔◌}
use Rattle.std.proofs.Common.{sym, ap, ◌∙◌, subst}
use Rattle.lists.specs.AbsurdLaws.{zero_is_one}
use Rattle.wire.specs.declared.address.Address.{Address}
use Rattle.udid.specs.Bytes.{udid_bytes}
use Rattle.udid.specs.Udids.{Fits}
use Rattle.udid.specs.declared.Udid.{Udid}
use Rattle.slots.specs.Slots.{Sized128}
use Rattle.hearing.specs.declared.told.Told.TheVariants.{Reply}
use Rattle.commands.specs.CommandTraces.{reply_trace}
use Rattle.commands.specs.declared.command.Command.TheVariants.{Prepare, GetUdid, Assign}
use Rattle.commands.specs.declared.command.End.TheVariants.{Chosen}
use Rattle.commands.specs.declared.command.Handed.{Handed}
use Rattle.commands.specs.declared.command.Handed.TheVariants.{Send, Wait}
use Rattle.commands.specs.declared.command.Reason.{Reason}
use Rattle.arp.specs.Choosing.{first_half}
use Rattle.arp.specs.Controller.{stepped}
use Rattle.arp.proofs.OneStepLaws.{told_reply_lem}
use Rattle.arp.proofs.ReasonLaws.{reasons_given, one_reason}
use Rattle.arp.specs.Reasons.{Reasons}
use Rattle.arp.proofs.SettleLaws.{chosen_exactly, waits_in_its_state, alone_is_the_step}
use Rattle.arp.specs.State.{with_last}
use Rattle.arp.specs.declared.state.Controller.{Controller}
use Rattle.arp.specs.declared.state.Stepped.{Stepped}
use Rattle.promises.specs.Demands.{Sound}
use Rattle.promises.specs.StepsLaws.{sentences, assigns_on_reply}

-- Get UDID was outstanding, the trace is a reply of u, and the address and the reason are as the sentences say
abbrev pub OnReply : Controller → List ℕ → Udid → Address → Reason → Controller → Type 0
OnReply s tr u a x t = (s.last ≡ Send GetUdid) × ((b : ℕ) × Fits u × (b < 256) × (tr ≡ reply_trace (udid_bytes u ++ b ∷ [])) × Reasons s t u b a.0 x)

pub chosen_on_reply : (s : Controller) (tr : List ℕ) → Sound s → (u : Udid) (a : Address) (x : Reason) → (first_half s tr).command ≡ Wait (Chosen u a x) → OnReply s tr u a x (first_half s tr).state
chosen_on_reply s tr f u a x c = go (assigns_on_reply s tr f.1 f.2 (stepped s tr) (sentences s tr size f.2) u a ((chosen_exactly s tr u a).1 (x, c)))
  where
    size : Sized128 s.slots
    size = record { udids = f.0 }

    go : (s.last ≡ Send GetUdid) × ((v : Udid) × (b : ℕ) × Fits v × (b < 256) × (tr ≡ reply_trace (udid_bytes v ++ b ∷ []))) → OnReply s tr u a x (first_half s tr).state
    go (l, (v, b, k, h, q)) =
        let w = reasons_given s tr f.2 l v b k h q u a x c in
        let e : v ≡ u = sym w.0 in
        (l, (b, subst Fits e k, h, subst (λ (y : Udid). tr ≡ reply_trace (udid_bytes y ++ b ∷ [])) e q, subst (λ (y : Udid). Reasons s (first_half s tr).state y b a.0 x) e w.1))

-- the sentences of Halves and `reasons`, of any result h in the place of the first half
pub record HalfOf (s : Controller) (tr : List ℕ) (h : Stepped) : Type 0 where
  pub chosen : (u : Udid) (a : Address) → ((stepped s tr).command ≡ Send (Assign u a)) ↔ ((x : Reason) × (h.command ≡ Wait (Chosen u a x)))
  pub waits : (u : Udid) (a : Address) (x : Reason) → h.command ≡ Wait (Chosen u a x) → h.state ≡ with_last (stepped s tr).state (Wait (Chosen u a x))
  pub alone : ((u : Udid) (a : Address) (x : Reason) → h.command ≡ Wait (Chosen u a x) → ⊥) → h ≡ stepped s tr
  pub reasons : (u : Udid) (a : Address) (x : Reason) → h.command ≡ Wait (Chosen u a x) → OnReply s tr u a x h.state

one_byte : (u : Udid) (b c : ℕ) → Reply u b ≡ Reply u c → b ≡ c
one_byte u b c e = cc e

-- ONE FIRST HALF is left
pub one_half : (s : Controller) (tr : List ℕ) (h : Stepped) → Sound s → HalfOf s tr h → h ≡ first_half s tr
one_half s tr h f g = go (stepped s tr).command refl
  where
    none : ((u : Udid) (a : Address) → (stepped s tr).command ≡ Send (Assign u a) → ⊥) → h ≡ first_half s tr
    none n = g.alone (λ u a x c. n u a ((g.chosen u a).1 (x, c))) ∙ sym (alone_is_the_step s tr (λ u a x c. n u a ((chosen_exactly s tr u a).1 (x, c))))

    same : (u : Udid) (a : Address) (x y : Reason) → h.command ≡ Wait (Chosen u a x) → (first_half s tr).command ≡ Wait (Chosen u a y) → x ≡ y → h ≡ first_half s tr
    same u a x y c d e =
        let k : h.command ≡ (first_half s tr).command = c ∙ ap (λ (z : Reason). Wait (Chosen u a z)) e ∙ sym d in
        let m : h.state ≡ (first_half s tr).state = g.waits u a x c ∙ ap (λ (z : Reason). with_last (stepped s tr).state (Wait (Chosen u a z))) e ∙ sym (waits_in_its_state s tr u a y d) in
        ap (λ (z : Controller). record { state = z; command = h.command }) m ∙ ap (λ (z : Handed). record { state = (first_half s tr).state; command = z }) k

    both : (u : Udid) (a : Address) → (x : Reason) × (h.command ≡ Wait (Chosen u a x)) → (x : Reason) × ((first_half s tr).command ≡ Wait (Chosen u a x)) → h ≡ first_half s tr
    both u a (x, c) (y, d) =
        let o = (chosen_on_reply s tr f u a y d).1 in
        let w = (g.reasons u a x c).1 in
        let b = o.0 in
        let same_byte : w.0 ≡ b = one_byte u w.0 b (sym (told_reply_lem tr u w.0 w.1 w.2 w.3) ∙ told_reply_lem tr u b o.1 o.2 o.3) in
        let r : Reasons s (with_last (stepped s tr).state (Wait (Chosen u a x))) u b a.0 x =
        subst (λ (n : ℕ). Reasons s (with_last (stepped s tr).state (Wait (Chosen u a x))) u n a.0 x) same_byte (subst (λ (z : Controller). Reasons s z u w.0 a.0 x) (g.waits u a x c) w.4) in
        let q : Reasons s (with_last (stepped s tr).state (Wait (Chosen u a y))) u b a.0 y =
        subst (λ (z : Controller). Reasons s z u b a.0 y) (waits_in_its_state s tr u a y d) o.4 in
        let l : Reasons s (stepped s tr).state u b a.0 x = record { claimed = r.claimed; picked = r.picked; fixed = r.fixed; kept = r.kept; next = r.next; own = r.own } in
        let m : Reasons s (stepped s tr).state u b a.0 y = record { claimed = q.claimed; picked = q.picked; fixed = q.fixed; kept = q.kept; next = q.next; own = q.own } in
        same u a x y c d (one_reason s (stepped s tr).state u b a.0 x y l m)

    other : (k : Handed) → (stepped s tr).command ≡ k → ((u : Udid) (a : Address) → k ≡ Send (Assign u a) → ⊥) → h ≡ first_half s tr
    other k e n = none (λ u a q. n u a (sym e ∙ q))

    go : (k : Handed) → (stepped s tr).command ≡ k → h ≡ first_half s tr
    go (Send (Assign u a)) e = both u a ((g.chosen u a).0 e) ((chosen_exactly s tr u a).0 e)
    go (Send Prepare) e = other (Send Prepare) e (λ u a q. zero_is_one (cc q))
    go (Send GetUdid) e = other (Send GetUdid) e (λ u a q. zero_is_one (cc q))
    go (Wait i) e = other (Wait i) e (λ u a q. zero_is_one (cc q))
