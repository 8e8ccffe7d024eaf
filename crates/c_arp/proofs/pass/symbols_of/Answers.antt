use Rattle.std.proofs.Common.{ap, ◌∙◌, ℕ}
use Rattle.pairs.specs.Pairs.{symbols_in}
use Rattle.c_codec.proofs.ReadLaws.{front_is}
use Rattle.c_arp.proofs.pass.symbols_of.Goals as goal

pub returns : goal.returns
returns c = front_is c.get_pairs-n.result c.args.bytes.now _ _ c.get_pairs-n.ensures.output ∙ ap (λ (k : ℕ). symbols_in k c.args.bytes.now) c.get_pairs-n.ensures.number
