use Rattle.std.proofs.Common.{rules, ◌≡◌, arith}
use Rattle.std.proofs.lemmas.Slice.Eq.{text_from_reads}
use Rattle.text.specs.Chars.{chars}
use Rattle.words.specs.Verbs.{pass_verb}
use Rattle.words.proofs.verb.pass_verb.Goals as goal

pub returns-in-lookup : goal.returns-in-lookup
unfolding pass_verb
returns-in-lookup c = let e : c.args.s.now ≡ chars "lookup" = text_from_reads _ _ (omega arith) (search rules) in rw e
