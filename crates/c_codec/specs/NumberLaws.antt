-- What a truth value says where it crosses as a number.
use Rattle.std.specs.Prelude.{◌≡◌, refl, Bool, true, false, ◌↔◌, ℕ, eqb}
use Rattle.std.specs.Int.{from_bool}
use Rattle.std.proofs.Common.{arith}
use Rattle.lists.specs.ChoiceLaws.{false_not_true}
use Rattle.lists.specs.TestLaws.{eqb_is, not_is}
use Rattle.c_codec.specs.Numbers.{truth, bit, Says}

-- given, to any function: 0 is false, any other number true
pub truth_is : (n : ℕ) → (truth n ≡ true) ↔ (n ≡ 0 → ⊥)
truth_is n = not_is (eqb n 0) (eqb_is n 0)

pub true_is_1 : bit true ≡ 1
true_is_1 = refl

pub false_is_0 : bit false ≡ 0
false_is_0 = refl

-- the number that the library makes of a truth value is this one
pub bit_from : (b : Bool) → from_bool b ≡ bit b
bit_from true = refl
bit_from false = refl

-- handed back
pub bit_says : {P : Type 0} (b : Bool) → (b ≡ true) ↔ P → (r : ℕ) → r ≡ bit b → Says r P
bit_says true h r e = ((λ q. h.0 refl, λ p. e), (λ q. absurd (omega arith), λ n. absurd (n (h.0 refl))))
bit_says false h r e = ((λ q. absurd (omega arith), λ p. false_not_true (h.1 p)), (λ q p. false_not_true (h.1 p), λ n. e))
