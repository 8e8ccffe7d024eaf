-- The choices are what they are, case by case; both of two tests pass where their `and` does, and both fail where their `or` does; they are
-- the same where `same` says so; false is not true.
use Rattle.std.specs.Prelude.{◌≡◌, refl, Bool, true, false}
use Rattle.std.proofs.Common.{sym, ◌∙◌}
use Rattle.lists.specs.AbsurdLaws.{zero_is_one}
use Rattle.lists.specs.Choice.{or, and, same, Choices}

pub choices : Choices
choices =
    record {
      pick_first = λ a b. refl;
      pick_second = λ a b. refl;
      or_true = λ b. refl;
      or_false = λ b. refl;
      and_true = λ b. refl;
      and_false = λ b. refl;
      not_true = refl;
      not_false = refl;
    }

pub both_true : (a b : Bool) → and a b ≡ true → (a ≡ true) × (b ≡ true)
both_true true b h = (refl, h)
both_true false b h = (h, cc)

pub same_true : (a b : Bool) → same a b ≡ true → a ≡ b
same_true true true h = refl
same_true true false h = sym h
same_true false true h = h
same_true false false h = refl

-- anything follows if they are equal
pub false_not_true : {A : Type 0} → false ≡ true → A
false_not_true e = zero_is_one (cc e)

-- no test both fails and passes
pub not_both : {A : Type 0} {b : Bool} → b ≡ false → b ≡ true → A
not_both f t = false_not_true (sym f ∙ t)

pub neither : (a b : Bool) → or a b ≡ false → (a ≡ false) × (b ≡ false)
neither true b e = not_both e refl
neither false b e = (refl, e)

-- the second of two tests passes, or fails
pub or_last : (b : Bool) → or b true ≡ true
or_last true = refl
or_last false = refl

pub or_none : (b : Bool) → or b false ≡ b
or_none true = refl
or_none false = refl

pub and_last : (b : Bool) → and b true ≡ b
and_last true = refl
and_last false = refl

pub and_none : (b : Bool) → and b false ≡ false
and_none true = refl
and_none false = refl
