-- The line of a step with words.
use Rattle.std.specs.Prelude.{ℕ, ◌≡◌, Bool}
use Rattle.std.proofs.Common.{sym, ap, eq-eqb, ne_eqb}
use Rattle.lists.specs.Choice.{pick}
use Rattle.text.specs.Chars.{chars}
use Rattle.step_words.specs.Stepped.{mark_text}

pub mark_at_0 : (n : ℕ) → n ≡ 0 → chars ": " ≡ mark_text n
mark_at_0 n e = sym (ap (λ (b : Bool). pick b (chars ": ") (chars "; ")) (eq-eqb n 0 e))

pub mark_at_others : (n : ℕ) → (n ≡ 0 → ⊥) → chars "; " ≡ mark_text n
mark_at_others n e = sym (ap (λ (b : Bool). pick b (chars ": ") (chars "; ")) (ne_eqb n 0 e))
