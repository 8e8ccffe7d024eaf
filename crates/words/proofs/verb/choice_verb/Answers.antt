use Rattle.std.proofs.Common.{rules, ◌≡◌, arith}
use Rattle.std.proofs.lemmas.Slice.Eq.{text_from_reads}
use Rattle.text.specs.Chars.{chars}
use Rattle.words.specs.Verbs.{choice_verb}
use Rattle.words.proofs.verb.choice_verb.Goals as goal

pub returns-in-choose : goal.returns-in-choose
unfolding choice_verb
returns-in-choose c = let e : c.args.s.now ≡ chars "choose" = text_from_reads _ _ (omega arith) (search rules) in rw e

pub returns-in-decline : goal.returns-in-decline
unfolding choice_verb
returns-in-decline c = let e : c.args.s.now ≡ chars "decline" = text_from_reads _ _ (omega arith) (search rules) in rw e
