-- Choices on Bools: the tests of a definition, in the order in which they are made.
use Rattle.std.specs.Prelude.{◌≡◌, Bool, true, false}

abbrev pub pick {ℓ} : {A : Type ℓ} → Bool → A → A → A
pick true a b = a
pick false a b = b

abbrev pub or : Bool → Bool → Bool
or true b = true
or false b = b

abbrev pub and : Bool → Bool → Bool
and true b = b
and false b = false

abbrev pub not : Bool → Bool
not true = false
not false = true

-- two answers are the same
abbrev pub same : Bool → Bool → Bool
same true b = b
same false b = not b

-- the choices, case by case
pub record Choices : Type 1 where
  pub pick_first : {A : Type 0} (a b : A) → pick true a b ≡ a
  pub pick_second : {A : Type 0} (a b : A) → pick false a b ≡ b
  pub or_true : (b : Bool) → or true b ≡ true
  pub or_false : (b : Bool) → or false b ≡ b
  pub and_true : (b : Bool) → and true b ≡ b
  pub and_false : (b : Bool) → and false b ≡ false
  pub not_true : not true ≡ false
  pub not_false : not false ≡ true
