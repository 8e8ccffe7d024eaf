use Rattle.std.proofs.Common.{rules, ◌≡◌, arith}
use Rattle.std.proofs.lemmas.Slice.Eq.{text_from_reads}
use Rattle.text.specs.Chars.{chars}
use Rattle.words.specs.Verbs.{shelf_verb}
use Rattle.words.proofs.verb.shelf_verb.Goals as goal

pub returns-in-target : goal.returns-in-target
unfolding shelf_verb
returns-in-target c = let e : c.args.s.now ≡ chars "target" = text_from_reads _ _ (omega arith) (search rules) in rw e

pub returns-in-occupied : goal.returns-in-occupied
unfolding shelf_verb
returns-in-occupied c = let e : c.args.s.now ≡ chars "occupied" = text_from_reads _ _ (omega arith) (search rules) in rw e
