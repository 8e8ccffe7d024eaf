use Rattle.std.proofs.Common.{◌≡◌, ◌∙◌, arith, refl}
use Rattle.udid.specs.Bytes.{udid_bytes}
use Rattle.writing.specs.PageLaws.{pages}
use Rattle.pieces.specs.PieceLaws.{whole}
use Rattle.pieces.proofs.piece.put_udid.Goals as goal

pub returns : goal.returns
returns c = let e : c.put_bytes.new.out ≡ udid_bytes c.args.u = c.put_bytes.ensures ∙ whole _ c.args.u refl in grind (arith, pages, e)
