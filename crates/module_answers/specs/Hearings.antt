-- What is printed for the bytes that a module receives, one after another.
use Rattle.std.specs.Prelude.{ℕ, Bool, List, [], ◌∷◌, ◌++◌}
use Rattle.lists.specs.Choice.{pick}
use Rattle.text.specs.Chars.{chars}
use Rattle.module.specs.Receive.{receives}
use Rattle.module.specs.declared.state.Module.{Module}
use Rattle.pieces.specs.Pieces.{newline}

abbrev pub ack_text : Bool → List ℕ
ack_text ack = pick ack (chars " ack") (chars " nack")

-- a word for each byte
unfoldable pub acks_text : Module → List ℕ → List ℕ
acks_text m [] = []
acks_text m (b ∷ bs) = ack_text (receives m b).ack ++ acks_text (receives m b).after bs

abbrev pub heard_text : Module → List ℕ → List ℕ
heard_text m bs = (chars "0" ++ acks_text m bs) ++ newline
