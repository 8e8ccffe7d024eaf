-- What a trace was taken for, row by row: by the command that was outstanding and by what the trace decodes to. And the words say what the
-- trace told the controller, no more and no less.
use Rattle.std.specs.Prelude.{ℕ, ◌≡◌, Bool, List, [], ◌++◌}
use Rattle.std.proofs.Math.Path.{sym, ap₂}
use Rattle.std.proofs.Common.{ap, ◌∙◌, eq-eqb, ne_eqb}
use Rattle.lists.specs.Choice.{pick}
use Rattle.text.specs.Chars.{chars}
use Rattle.wire.specs.declared.address.Address.{Address}
use Rattle.scan.specs.Decoded.{Decoded, refused}
use Rattle.scan.specs.declared.answer.Refusal.{Refusal}
use Rattle.udid.specs.declared.Udid.{Udid}
use Rattle.commands.specs.Codes.{send_byte, block_read, block_write}
use Rattle.commands.specs.declared.command.Command.{Command}
use Rattle.commands.specs.declared.command.Command.TheVariants.{Prepare, GetUdid, Assign}
use Rattle.commands.specs.declared.command.Handed.TheVariants.{Send}
use Rattle.hearing.specs.Heard.{answer}
use Rattle.hearing.specs.Told.{tells}
use Rattle.hearing.specs.declared.told.Told.{Told}
use Rattle.step_words.specs.Taken.{because, left_text, asked_text, prepare_text, get_text, assign_text, taken_text, decoded_as, taken_for}

-- ---- what the functions write

pub left_refused : (d : Decoded) (w : Refusal) (k : ℕ) → d ≡ refused w k → chars "nobody is left: " ++ because d ≡ left_text d
left_refused d w k e = ap (λ (x : Decoded). chars "nobody is left: " ++ because x) e ∙ sym (ap left_text e)

pub asked_at_0 : (n : ℕ) → n ≡ 0 → chars "; asked again" ≡ asked_text n
asked_at_0 n e = sym (ap (λ (b : Bool). pick b (chars "; asked again") []) (eq-eqb n 0 e))

pub not_asked : (n : ℕ) → (n ≡ 0 → ⊥) → [] ≡ asked_text n
not_asked n e = sym (ap (λ (b : Bool). pick b (chars "; asked again") []) (ne_eqb n 0 e))

module _ (n : ℕ) (k : Command) (tr : List ℕ) (told : Told) (d : Decoded) where
  pub taken_prepare : k ≡ Prepare → told ≡ tells (Send k) tr → d ≡ answer send_byte tr → prepare_text told d ≡ taken_for n k tr
  unfolding taken_for
  taken_prepare e f g = ap₂ prepare_text f g ∙ sym (ap (λ (x : Command). taken_text n x (tells (Send k) tr) (answer (decoded_as x) tr)) e)

  pub taken_get : k ≡ GetUdid → told ≡ tells (Send k) tr → d ≡ answer block_read tr → get_text n told d ≡ taken_for n k tr
  unfolding taken_for
  taken_get e f g = ap₂ (get_text n) f g ∙ sym (ap (λ (x : Command). taken_text n x (tells (Send k) tr) (answer (decoded_as x) tr)) e)

  pub taken_assign : (u : Udid) (a : Address) → k ≡ Assign u a → told ≡ tells (Send k) tr → d ≡ answer block_write tr → assign_text n told d ≡ taken_for n k tr
  unfolding taken_for
  taken_assign u a e f g = ap₂ (assign_text n) f g ∙ sym (ap (λ (x : Command). taken_text n x (tells (Send k) tr) (answer (decoded_as x) tr)) e)
