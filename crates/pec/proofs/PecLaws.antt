-- The packet error code over no bytes, over one byte more and over two lists in a row. It is a byte, and what came before is added to the
-- first byte that follows.
use Rattle.std.specs.Prelude.{◌≡◌, refl, Bool, true, false, List, [], ◌∷◌, ◌++◌, ℕ, ◌-◌, ◌*◌, ◌<◌, ltb}
use Rattle.std.proofs.Common.{sym, ap, arith, ltb-true}
use Rattle.std.specs.Int.Bits.{bit_xor, xor_zero_l}
use Rattle.std.proofs.lemmas.Nat.{xor_lt}
use Rattle.lists.specs.Choice.{pick}
use Rattle.lists.specs.Each.{Bytes}
use Rattle.pec.specs.Pec.{bit_step, pec_step, pec_from, pec_of}

pub pec_nil : (c : ℕ) → pec_from c [] ≡ c
unfolding pec_from
pec_nil c = refl

pub pec_cons : (c b : ℕ) (bs : List ℕ) → pec_from c (b ∷ bs) ≡ pec_from (pec_step c b) bs
unfolding pec_from
pec_cons c b bs = refl

pub pec_append : (c : ℕ) (xs ys : List ℕ) → pec_from c (xs ++ ys) ≡ pec_from (pec_from c xs) ys
unfolding pec_from
pec_append c [] ys = refl
pec_append c (x ∷ xs) ys = pec_append (pec_step c x) xs ys

pub bit_byte : (c : ℕ) → c < 256 → bit_step c < 256
unfolding bit_step
bit_byte c h = go (ltb c 128) refl
  where
    go : (b : Bool) → ltb c 128 ≡ b → pick b (2 * c) (bit_xor 7 (2 * (c - 128))) < 256
    go true e = let l = ltb-true c 128 e in omega arith
    go false e = xor_lt 8 7 (2 * (c - 128)) (omega arith) (omega arith)

pub step_byte : (c b : ℕ) → c < 256 → b < 256 → pec_step c b < 256
unfolding pec_step
step_byte c b h g = bit_byte _ (bit_byte _ (bit_byte _ (bit_byte _ (bit_byte _ (bit_byte _ (bit_byte _ (bit_byte _ (xor_lt 8 c b h g))))))))

-- the PEC of bytes is a byte
pub pec_byte : (c : ℕ) (bs : List ℕ) → c < 256 → Bytes bs → pec_from c bs < 256
unfolding pec_from
pec_byte c [] h g = h
pec_byte c (b ∷ bs) h g = pec_byte (pec_step c b) bs (step_byte c b h g.0) g.1

-- bytes after those that gave c: the PEC of these bytes alone, with c added to the first of them
pub after_pec : (c b : ℕ) (bs : List ℕ) → pec_from c (b ∷ bs) ≡ pec_of (bit_xor c b ∷ bs)
unfolding pec_from pec_step
after_pec c b bs = ap (λ (x : ℕ). pec_from (bit_step (bit_step (bit_step (bit_step (bit_step (bit_step (bit_step (bit_step x)))))))) bs) (sym (xor_zero_l (bit_xor c b)))
