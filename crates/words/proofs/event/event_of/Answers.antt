use Rattle.std.proofs.Common.{rules, ◌≡◌, arith}
use Rattle.std.proofs.lemmas.Slice.Eq.{text_from_reads}
use Rattle.text.specs.Chars.{chars}
use Rattle.words.specs.Events.{event_of}
use Rattle.words.proofs.event.event_of.Goals as goal

pub returns-in-supply : goal.returns-in-supply
unfolding event_of
returns-in-supply c = let e : c.args.s.now ≡ chars "supply" = text_from_reads _ _ (omega arith) (search rules) in rw e
