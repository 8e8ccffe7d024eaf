-- One possible answer where a contract gives the number in it: a tuple struct of one number is that number.
use Rattle.std.specs.Prelude.{ℕ, ◌≡◌}
use Rattle.std.proofs.Common.{ap}
use Rattle.lists.specs.UniqueLaws.{one_answer}
use Rattle.wire.specs.declared.address.Address.{Address}
use Rattle.wire.specs.declared.address.WireByte.{WireByte}
use Rattle.wire.specs.declared.word.Word.{Word}

address_of : ℕ → Address
address_of n = record { 0 = n }

pub one_address : {n : ℕ} (a b : Address) → a.0 ≡ n → b.0 ≡ n → a ≡ b
unfolding address_of
one_address a b e g = ap address_of (one_answer e g)

wire_byte_of : ℕ → WireByte
wire_byte_of n = record { 0 = n }

pub one_wire_byte : {n : ℕ} (a b : WireByte) → a.0 ≡ n → b.0 ≡ n → a ≡ b
unfolding wire_byte_of
one_wire_byte a b e g = ap wire_byte_of (one_answer e g)

word_of : ℕ → Word
word_of n = record { 0 = n }

pub one_word : {n : ℕ} (a b : Word) → a.0 ≡ n → b.0 ≡ n → a ≡ b
unfolding word_of
one_word a b e g = ap word_of (one_answer e g)
