-- What holds of any holds of each of a list, and what holds of each goes over to what a function makes of them.
use Rattle.std.specs.Prelude.{List, [], ◌∷◌, map}
use Rattle.lists.specs.Each.{Each}

pub each_any : {A : Type 0} {P : A → Type 0} → ((x : A) → P x) → (l : List A) → Each P l
each_any f [] = tt
each_any f (x ∷ l) = (f x, each_any f l)

pub each_made : {A B : Type 0} {P : A → Type 0} (Q : B → Type 0) (f : A → B) → ((x : A) → P x → Q (f x)) → (l : List A) → Each P l → Each Q (map f l)
each_made Q f h [] e = tt
each_made Q f h (x ∷ l) e = (h x e.0, each_made Q f h l e.1)

-- and back
pub each_from : {A B : Type 0} {P : A → Type 0} (Q : B → Type 0) (f : A → B) → ((x : A) → Q (f x) → P x) → (l : List A) → Each Q (map f l) → Each P l
each_from Q f h [] e = tt
each_from Q f h (x ∷ l) e = (h x e.0, each_from Q f h l e.1)
