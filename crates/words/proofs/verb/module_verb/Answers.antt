use Rattle.std.proofs.Common.{rules, ◌≡◌, arith}
use Rattle.std.proofs.lemmas.Slice.Eq.{text_from_reads}
use Rattle.text.specs.Chars.{chars}
use Rattle.words.specs.Verbs.{module_verb}
use Rattle.words.proofs.verb.module_verb.Goals as goal

pub returns-in-module : goal.returns-in-module
unfolding module_verb
returns-in-module c = let e : c.args.s.now ≡ chars "module" = text_from_reads _ _ (omega arith) (search rules) in rw e
