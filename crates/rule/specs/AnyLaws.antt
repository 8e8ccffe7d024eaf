-- Laws of `Any`: what holds of one of a list, together with what holds of each.
use Rattle.std.specs.Prelude.{◌⊎◌, List, [], ◌∷◌}
use Rattle.std.proofs.Common.{inl, inr}
use Rattle.lists.specs.Each.{Each, Any}

pub any_map : {A : Type 0} {P Q : A → Type 0} (l : List A) → ((x : A) → P x → Q x) → Any P l → Any Q l
any_map {A = A} {P = P} {Q = Q} [] f x'' = elim x'' [ ]
any_map (x ∷ l) f (inl p) = inl (f x p)
any_map (x ∷ l) f (inr p) = inr (any_map l f p)

-- one thing holds of one, another of each, and so a third of one
pub any_each : {A : Type 0} {P Q R : A → Type 0} (l : List A) → ((x : A) → P x → Q x → R x) → Any P l → Each Q l → Any R l
any_each {A = A} {P = P} {Q = Q} {R = R} [] f x3 q = elim x3 [ ]
any_each (x ∷ l) f (inl p) q = inl (f x p q.0)
any_each (x ∷ l) f (inr p) q = inr (any_each l f p q.1)

-- what holds whichever one it is
pub any_constant : {A : Type 0} {C : Type 0} (l : List A) → Any (λ (x : A). C) l → C
any_constant {A = A} {C = C} [] x' = elim x' [ ]
any_constant (x ∷ l) (inl p) = p
any_constant (x ∷ l) (inr p) = any_constant l p

-- one of which it holds is found, or there is none, where each can be decided
pub any_decided : {A : Type 0} {P : A → Type 0} (l : List A) → ((x : A) → Dec (P x)) → Dec (Any P l)
any_decided [] d = no (λ q. q)
any_decided {A = A} {P = P} (x ∷ l) d = go (d x) (any_decided l d)
  where
    go : Dec (P x) → Dec (Any P l) → Dec (P x ⊎ Any P l)
    go (yes p) e = yes (inl p)
    go (no n) (yes q) = yes (inr q)
    go (no n) (no m) = no (λ q. elim q [ inl p ↦ n p | inr r ↦ m r ])
