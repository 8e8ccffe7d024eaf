-- The search for a free address in a half of the pool is the search for the first zero of its digits.
use Rattle.std.specs.Prelude.{ℕ, zero, suc, ◌+◌, ◌-◌, ◌<◌, ◌≤◌, ◌≡◌, Bool, true, Some, None}
use Rattle.std.proofs.Common.{ap, ◌∙◌, zero-add, add-zero, suc-add, arith}
use Rattle.lists.specs.Choice.{pick}
use Rattle.pool.specs.Digits.{digit, FirstZero}
use Rattle.pool.specs.Free.{free_from, address}
use Rattle.pool.specs.FreeLaws.{from_cases, from_all}
use Rattle.pool.specs.MemberLaws.{member_low, member_high}
use Rattle.pool.specs.Pools.{member}
use Rattle.pool.specs.declared.Pool.{Pool}

-- m in use: the search goes on after them
skip : (p : Pool) (m n a : ℕ) → ((j : ℕ) → a ≤ j → j < a + m → member p j ≡ true) → free_from p (m + n) a ≡ free_from p n (a + m)
unfolding free_from
skip p zero n a h = rw (zero-add n, add-zero a)
skip p (suc m) n a h =
    let z : member p a ≡ true = h a (omega arith) (omega arith) in
    ap (λ (x : ℕ). free_from p x a) (suc-add m n)
    ∙ ap (λ (b : Bool). pick b (free_from p (m + n) (suc a)) (Some (address a))) z
    ∙ skip p m n (suc a) (λ j l o. h j (omega arith) (omega arith))
    ∙ ap (free_from p n) (omega arith)

-- k is the first zero of a half from its place n on; 64 where all are one from there
module _ (p : Pool) (n k : ℕ) (h : n < 64) where
  pub low_found : FirstZero p.low n k → k < 64 → free_from p (128 - n) n ≡ Some (address k)
  low_found z l =
      from_cases p (128 - n) n k z.from (omega arith) (member_low p k l ∙ z.zero l)
      (λ j o q. member_low p j (omega arith) ∙ z.ones j o q)

  pub low_full : FirstZero p.low n k → 64 ≤ k → free_from p (128 - n) n ≡ free_from p 64 64
  low_full z l =
      let e : 128 - n ≡ 64 - n + 64 = omega arith in
      let f : n + (64 - n) ≡ 64 = omega arith in
      ap (λ (x : ℕ). free_from p x n) e
      ∙ skip p (64 - n) 64 n (λ j o q. member_low p j (omega arith) ∙ z.ones j o (omega arith))
      ∙ ap (free_from p 64) f

  in_high : (r j : ℕ) → r ≤ 64 → ((i : ℕ) → n ≤ i → i < r → digit p.high i ≡ true) → 64 + n ≤ j → j < 64 + r → member p j ≡ true
  in_high r j g w o q =
      let e : j ≡ 64 + (j - 64) = omega arith in
      ap (member p) e ∙ member_high p (j - 64) (omega arith) ∙ w (j - 64) (omega arith) (omega arith)

  pub high_found : FirstZero p.high n k → k < 64 → free_from p (64 - n) (64 + n) ≡ Some (address (64 + k))
  high_found z l =
      from_cases p (64 - n) (64 + n) (64 + k) (omega (arith, z.from)) (omega arith) (member_high p k l ∙ z.zero l)
      (λ j o q. in_high k j z.most z.ones o q)

  pub high_full : FirstZero p.high n k → 64 ≤ k → free_from p (64 - n) (64 + n) ≡ None
  high_full z l = from_all p (64 - n) (64 + n) (λ j o q. in_high k j z.most z.ones o (omega arith))
