-- Targets in ascending order of their identifiers.
use Rattle.std.specs.Prelude.{suc, ◌≤◌, ◌<◌, ◌≡◌, refl, Bool, true, false, ◌⊎◌, List, [], ◌∷◌, ltb, length}
use Rattle.std.proofs.Common.{sym, ap, ◌∙◌, inl, inr, arith, ltb-true, ltb-false}
use Rattle.lists.specs.Choice.{pick}
use Rattle.udid.specs.Udids.{value}
use Rattle.arbitration.specs.Among.{Among}
use Rattle.targets.specs.Target.{Target}
use Rattle.targets.specs.Members.{Pairs}
use Rattle.targets.specs.Admission.{Differ}
use Rattle.rule.specs.PlainRule.{insert, ascending}
use Rattle.rule.specs.Ready.{Lower}

-- who is in a list with one inserted
insert_adds_one : (t : Target) (xs : List Target) (y : Target) → Among y (insert t xs) → (t ≡ y) ⊎ Among y xs
insert_adds_one t [] y h = h
insert_adds_one t (x ∷ xs) y h = go (ltb (value t.udid) (value x.udid)) h (λ k. insert_adds_one t xs y k)
  where
    go : (b : Bool) → Among y (pick b (t ∷ x ∷ xs) (x ∷ insert t xs)) → (Among y (insert t xs) → (t ≡ y) ⊎ Among y xs) → (t ≡ y) ⊎ Among y (x ∷ xs)
    go true k ih = k
    go false (inl e) ih = inr (inl e)
    go false (inr k) ih = elim (ih k) [ inl e ↦ inl e | inr m ↦ inr (inr m) ]

insert_keeps : (t : Target) (xs : List Target) (y : Target) → (t ≡ y) ⊎ Among y xs → Among y (insert t xs)
insert_keeps t [] y h = h
insert_keeps t (x ∷ xs) y h = go (ltb (value t.udid) (value x.udid)) h (λ k. insert_keeps t xs y k)
  where
    go : (b : Bool) → (t ≡ y) ⊎ Among y (x ∷ xs) → ((t ≡ y) ⊎ Among y xs → Among y (insert t xs)) → Among y (pick b (t ∷ x ∷ xs) (x ∷ insert t xs))
    go true k ih = k
    go false (inl e) ih = inr (ih (inl e))
    go false (inr (inl e)) ih = inl e
    go false (inr (inr m)) ih = inr (ih (inr m))

pub ascending_adds_none : (ts : List Target) (y : Target) → Among y (ascending ts) → Among y ts
ascending_adds_none [] y h = elim h [ ]
ascending_adds_none (t ∷ ts) y h = elim (insert_adds_one t (ascending ts) y h) [ inl e ↦ inl e | inr m ↦ inr (ascending_adds_none ts y m) ]

pub ascending_keeps : (ts : List Target) (y : Target) → Among y ts → Among y (ascending ts)
ascending_keeps [] y x' = elim x' [ ]
ascending_keeps (t ∷ ts) y (inl e) = insert_keeps t (ascending ts) y (inl e)
ascending_keeps (t ∷ ts) y (inr m) = insert_keeps t (ascending ts) y (inr (ascending_keeps ts y m))

length_insert : (t : Target) (xs : List Target) → length (insert t xs) ≡ suc (length xs)
length_insert t [] = refl
length_insert t (x ∷ xs) = go (ltb (value t.udid) (value x.udid)) (length_insert t xs)
  where
    go : (b : Bool) → length (insert t xs) ≡ suc (length xs) → length (pick b (t ∷ x ∷ xs) (x ∷ insert t xs)) ≡ suc (suc (length xs))
    go true e = refl
    go false e = ap suc e

pub length_ascending : (ts : List Target) → length (ascending ts) ≡ length ts
length_ascending [] = refl
length_ascending (t ∷ ts) = length_insert t (ascending ts) ∙ ap suc (length_ascending ts)

insert_lower : (t : Target) (xs : List Target) → ((x : Target) → Among x xs → Differ t x) → Pairs Lower xs → Pairs Lower (insert t xs)
insert_lower t [] d h = ((λ x m. absurd m), tt)
insert_lower t (x ∷ xs) d h =
    go (ltb (value t.udid) (value x.udid)) refl (insert_lower t xs (λ y m. d y (inr m)) h.1)
  where
    first : value t.udid < value x.udid → (y : Target) → Among y (x ∷ xs) → Lower t y
    first l y (inl e) = omega (arith, l, ap (λ (z : Target). value z.udid) e)
    first l y (inr m) = omega (arith, l, h.0 y m)

    later : value x.udid ≤ value t.udid → (y : Target) → (t ≡ y) ⊎ Among y xs → Lower x y
    later l y (inl e) =
        let n : value t.udid ≡ value x.udid → ⊥ = d x (inl refl) in
        omega (arith, l, n, ap (λ (z : Target). value z.udid) e)
    later l y (inr m) = h.0 y m

    go : (b : Bool) → ltb (value t.udid) (value x.udid) ≡ b → Pairs Lower (insert t xs) → Pairs Lower (pick b (t ∷ x ∷ xs) (x ∷ insert t xs))
    go true e ih = (first (ltb-true _ _ e), h)
    go false e ih = ((λ y m. later (ltb-false _ _ e) y (insert_adds_one t xs y m)), ih)

pub ascending_is_lower_first : (ts : List Target) → Pairs Differ ts → Pairs Lower (ascending ts)
ascending_is_lower_first [] h = tt
ascending_is_lower_first (t ∷ ts) h = insert_lower t (ascending ts) (λ x m. h.0 x (ascending_adds_none ts x m)) (ascending_is_lower_first ts h.1)

-- what holds of any two in a list
pub pairs_any_two : {R : Target → Target → Type 0} (ts : List Target) → ((x y : Target) → R x y → R y x) → Pairs R ts → (x y : Target) → Among x ts → Among y ts → (x ≡ y) ⊎ R x y
pairs_any_two {R = R} [] s h x y x6 _ = elim x6 [ ]
pairs_any_two (t ∷ ts) s h x y (inl e) (inl f) = inl (sym e ∙ f)
pairs_any_two {R} (t ∷ ts) s h x y (inl e) (inr m) = inr (rw e at (h.0 y m))
pairs_any_two {R} (t ∷ ts) s h x y (inr m) (inl f) = inr (s y x (rw f at (h.0 x m)))
pairs_any_two (t ∷ ts) s h x y (inr m) (inr k) = pairs_any_two ts s h.1 x y m k

pub pairs_map : {R S : Target → Target → Type 0} (ts : List Target) → ((x y : Target) → Among x ts → Among y ts → R x y → S x y) → Pairs R ts → Pairs S ts
pairs_map [] f h = tt
pairs_map (t ∷ ts) f h = ((λ y m. f t y (inl refl) (inr m) (h.0 y m)), pairs_map ts (λ x y m k. f x y (inr m) (inr k)) h.1)
