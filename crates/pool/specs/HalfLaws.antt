-- Which bit of which half an address is, in arithmetic: address a is bit a of the low half, and address 64 + k bit k of the high one.
use Rattle.std.specs.Prelude.{ℕ, ◌+◌, ◌-◌, ◌/◌, ◌%◌, ◌^◌, ◌<◌, ◌≤◌, ◌≡◌, refl, true, [], ◌∷◌, ◌↔◌}
use Rattle.std.proofs.Common.{sym, ap, ◌∙◌, arith, eqb-true, eq-eqb}
use Rattle.lists.specs.Passing.{passing}
use Rattle.pool.specs.Digits.{digit}
use Rattle.pool.specs.MemberLaws.{member_low, member_high}
use Rattle.pool.specs.Pools.{member, pool}
use Rattle.pool.specs.declared.Pool.{Pool}

one_is : (n k : ℕ) → (digit n k ≡ true) ↔ (n / 2 ^ k % 2 ≡ 1)
unfolding digit
one_is n k = (λ e. eqb-true (n / 2 ^ k % 2) 1 e, λ e. eq-eqb (n / 2 ^ k % 2) 1 e)

-- an address below 64 is in use exactly if its bit of the low half is one
pub low_half : (p : Pool) (a : ℕ) → a < 64 → (member p a ≡ true) ↔ (p.low / 2 ^ a % 2 ≡ 1)
low_half p a h = (λ e. (one_is p.low a).0 (sym (member_low p a h) ∙ e), λ e. member_low p a h ∙ (one_is p.low a).1 e)

-- one from 64 to 127 exactly if its bit of the high half is one
pub high_half : (p : Pool) (a : ℕ) → 64 ≤ a → a < 128 → (member p a ≡ true) ↔ (p.high / 2 ^ (a - 64) % 2 ≡ 1)
high_half p a l h =
    let m : member p a ≡ digit p.high (a - 64) = ap (member p) {x = a} {y = 64 + (a - 64)} (omega arith) ∙ member_high p (a - 64) (omega arith) in
    (λ e. (one_is p.high (a - 64)).0 (sym m ∙ e), λ e. m ∙ (one_is p.high (a - 64)).1 e)

-- the lowest and the highest bit of each half: the addresses 0, 63, 64 and 127, each alone
pub only_0 : passing (member (pool 1 0)) 0 128 ≡ 0 ∷ []
unfolding passing member digit
only_0 = refl

pub only_63 : passing (member (pool 0x8000000000000000 0)) 0 128 ≡ 63 ∷ []
unfolding passing member digit
only_63 = refl

pub only_64 : passing (member (pool 0 1)) 0 128 ≡ 64 ∷ []
unfolding passing member digit
only_64 = refl

pub only_127 : passing (member (pool 0 0x8000000000000000)) 0 128 ≡ 127 ∷ []
unfolding passing member digit
only_127 = refl
