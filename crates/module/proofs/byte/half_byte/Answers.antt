use Rattle.std.proofs.Common.{ℕ, ◌%◌, List, ap, ◌∙◌, get_or}
use Rattle.module.specs.ByteAt.{be_bytes}
use Rattle.module.proofs.byte.half_byte.Goals as goal

pub returns : goal.returns
returns c = ap (λ (l : List ℕ). get_or l (c.args.k % 8) 0) (c.to_be_bytes.ensures ∙ be_bytes c.args.n)
