-- A trace of more than 526 symbols tells what its first 526 tell: no trace that fits has more than 525.
use Rattle.std.specs.Prelude.{◌≡◌, refl, true, List, ℕ, ◌≤◌, length, take, drop}
use Rattle.std.proofs.Common.{sym, ap, ap₂, ◌∙◌}
use Rattle.trace.specs.Shapes.{shape_of}
use Rattle.scan.specs.Handed.{lows, sent_length, sent_place, received_length, received_place}
use Rattle.decode.specs.LongTraceLaws.{same_decoded, decoded_none}
use Rattle.hearing.specs.Heard.{answer, sent_in, received_in}
use Rattle.commands.specs.Codes.{send_byte, block_read, block_write}
use Rattle.hearing.specs.Told.{told_prepare, told_get, told_assign, tells}
use Rattle.commands.specs.declared.command.Command.TheVariants.{Prepare, GetUdid, Assign}
use Rattle.commands.specs.declared.command.Handed.{Handed}
use Rattle.commands.specs.declared.command.Handed.TheVariants.{Send, Wait}

module _ (tr : List ℕ) (long : 526 ≤ length tr) where
  -- the answer is that of the front
  same_answer : (protocol : ℕ) → answer protocol (take 526 tr) ≡ answer protocol tr
  same_answer protocol = same_decoded protocol true tr long

  -- and no data come with it
  none_sent : (protocol : ℕ) → sent_length (answer protocol tr) ≡ 0
  none_sent protocol = (decoded_none protocol true tr long).0

  none_received : (protocol : ℕ) → received_length (answer protocol tr) ≡ 0
  none_received protocol = (decoded_none protocol true tr long).1

  same_sent : (protocol : ℕ) → sent_in protocol (take 526 tr) ≡ sent_in protocol tr
  same_sent protocol =
      let at : List ℕ → List ℕ = drop (sent_place (shape_of protocol)) in
      ap (λ (n : ℕ). lows n (at (take 526 tr))) (ap sent_length (same_answer protocol) ∙ none_sent protocol)
      ∙ ap (λ (n : ℕ). lows n (at tr)) (sym (none_sent protocol))

  same_received : (protocol : ℕ) → received_in protocol (take 526 tr) ≡ received_in protocol tr
  same_received protocol =
      let at : ℕ → List ℕ → List ℕ = λ n l. drop (received_place true n (length l)) l in
      ap (λ (n : ℕ). lows n (at n (take 526 tr))) (ap received_length (same_answer protocol) ∙ none_received protocol)
      ∙ ap (λ (n : ℕ). lows n (at n tr)) (sym (none_received protocol))

  pub same_told : (k : Handed) → tells k (take 526 tr) ≡ tells k tr
  same_told (Send Prepare) = ap₂ told_prepare (same_answer send_byte) (same_sent send_byte)
  same_told (Send GetUdid) = ap₂ told_get (same_answer block_read) (same_received block_read)
  same_told (Send (Assign u a)) = ap₂ (told_assign u a) (same_answer block_write) (same_sent block_write)
  same_told (Wait e) = refl
