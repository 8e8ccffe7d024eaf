use Rattle.std.proofs.Common.{ℕ, suc, ◌+◌, ◌*◌, ◌≡◌, ap, ◌∙◌, List, arith, get_or}
use Rattle.udid.specs.Bytes.{number, number_from, bytes_from}
use Rattle.udid.proofs.read.half.Goals as goal

-- four bytes in one sum
flat : (s : List ℕ) (i : ℕ) → get_or s i 0 * 16777216 + get_or s (i + 1) 0 * 65536 + get_or s (i + 2) 0 * 256 + get_or s (i + 3) 0 ≡ number (bytes_from s i 4)
unfolding number_from bytes_from
flat s i =
    let k : get_or s (i + 1) 0 ≡ get_or s (suc i) 0 = ap (λ (x : ℕ). get_or s x 0) (omega arith) in
    let l : get_or s (i + 2) 0 ≡ get_or s (suc (suc i)) 0 = ap (λ (x : ℕ). get_or s x 0) (omega arith) in
    let m : get_or s (i + 3) 0 ≡ get_or s (suc (suc (suc i))) 0 = ap (λ (x : ℕ). get_or s x 0) (omega arith) in
    omega arith

pub returns : goal.returns
returns c = c.from_be_bytes.ensures ∙ flat c.args.s.now c.args.at
