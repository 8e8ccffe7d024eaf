use Rattle.std.proofs.Common.{rules, ◌≡◌, arith}
use Rattle.std.proofs.lemmas.Slice.Eq.{text_from_reads}
use Rattle.text.specs.Chars.{chars}
use Rattle.words.specs.Verbs.{codec_verb}
use Rattle.words.proofs.verb.codec_verb.Goals as goal

pub returns-in-encode : goal.returns-in-encode
unfolding codec_verb
returns-in-encode c = let e : c.args.s.now ≡ chars "encode" = text_from_reads _ _ (omega arith) (search rules) in rw e

pub returns-in-decode : goal.returns-in-decode
unfolding codec_verb
returns-in-decode c = let e : c.args.s.now ≡ chars "decode" = text_from_reads _ _ (omega arith) (search rules) in rw e
