-- What stands after a refusal's number, case by case: the trace was not read, a byte was not acknowledged, or there is a place.
use Rattle.std.specs.Prelude.{◌≡◌, ℕ, ◌<◌, ◌≤◌, Bool, true, false, [], ◌++◌, refl}
use Rattle.std.proofs.Common.{sym, subst, ◌∙◌, lt-ltb, le-ltb}
use Rattle.text.specs.Chars.{chars}
use Rattle.writing.specs.Written.{decimal_of}
use Rattle.scan.specs.Numbers.{refusal_number, is_nack}
use Rattle.scan.specs.declared.answer.Refusal.{Refusal}
use Rattle.codec_answers.specs.Refusals.{where_text}

pub not_read : (w : Refusal) (k n : ℕ) → n ≡ refusal_number w → n < 3 → [] ≡ where_text w k
not_read w k n e h = rw (lt-ltb (refusal_number w) 3 (subst (λ (m : ℕ). m < 3) e h)) refl

pub which_byte : (w : Refusal) (k n : ℕ) (b : Bool) → n ≡ refusal_number w → 3 ≤ n → b ≡ is_nack w → b ≡ true → chars " byte " ++ decimal_of k ≡ where_text w k
which_byte w k n b e h f g = rw (le-ltb (refusal_number w) 3 (subst (λ (m : ℕ). 3 ≤ m) e h), sym f ∙ g) refl

pub which_place : (w : Refusal) (k n : ℕ) (b : Bool) → n ≡ refusal_number w → 3 ≤ n → b ≡ is_nack w → b ≡ false → chars " place " ++ decimal_of k ≡ where_text w k
which_place w k n b e h f g = rw (le-ltb (refusal_number w) 3 (subst (λ (m : ℕ). 3 ≤ m) e h), sym f ∙ g) refl
