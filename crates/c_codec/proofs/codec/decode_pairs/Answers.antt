use Rattle.std.proofs.Common.{refl}
use Rattle.c_codec.specs.Numbers.{truth}
use Rattle.c_codec.proofs.ReadLaws.{from_pairs, told_read}
use Rattle.c_codec.proofs.codec.decode_pairs.Goals as goal

pub returns : goal.returns
returns c =
    let a = c.args in
    told_read a.protocol (truth a.pec) _ _ _ _ _ _ _
    (from_pairs a.protocol (truth a.pec) a.trace.now _ _ _ _ _ _ _ _ refl c.get_pairs-n.ensures c.decode.ensures) c.into.ensures
