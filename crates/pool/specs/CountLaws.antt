-- Counting the numbers that pass a test: in two ranges, by an equal test, with one number more, where all pass and where one does not. The
-- count is the length of the list of those that pass.
use Rattle.std.specs.Prelude.{ℕ, zero, suc, ◌+◌, ◌≤◌, ◌<◌, ◌≡◌, refl, Bool, true, false, ◌∷◌, length}
use Rattle.std.proofs.Common.{sym, ap, ap₂, ◌∙◌, add_assoc, add-zero, zero-add, suc-add, arith}
use Rattle.std.proofs.Math.Path.{fun_ext}
use Rattle.lists.specs.Choice.{pick, or, and, not}
use Rattle.lists.specs.Passing.{passing}
use Rattle.pool.specs.Counts.{one, count}

pub count_add : (p : ℕ → Bool) (k l : ℕ) → count p (k + l) ≡ count p k + count (λ j. p (k + j)) l
unfolding count
count_add p zero l = simp zero-add
count_add p (suc k) l =
    ap (count p) (suc-add k l)
    ∙ ap (λ (x : ℕ). one (p 0) + x) (count_add (λ j. p (suc j)) k l)
    ∙ sym (add_assoc _ _ _)
    ∙ ap (λ (f : ℕ → ℕ). one (p 0) + count (λ j. p (suc j)) k + count (λ j. p (f j)) l) (fun_ext (λ j. sym (suc-add k j)))

pub count_cong : (p q : ℕ → Bool) (k : ℕ) → ((j : ℕ) → j < k → p j ≡ q j) → count p k ≡ count q k
unfolding count
count_cong p q zero h = refl
count_cong p q (suc k) h =
    ap₂ (λ (a b : ℕ). a + b) (ap one (h 0 (omega arith))) (count_cong (λ j. p (suc j)) (λ j. q (suc j)) k (λ j l. h (suc j) (omega arith)))

-- a test that passes one number more counts one more
pub count_more : (p q : ℕ → Bool) (k a : ℕ) → a < k → p a ≡ false → q a ≡ true → ((j : ℕ) → j < k → (j ≡ a → ⊥) → q j ≡ p j) → count q k ≡ suc (count p k)
unfolding count
count_more p q zero a h pa qa o = absurd (omega arith)
count_more p q (suc k) zero h pa qa o =
    ap₂ (λ (a b : ℕ). a + b) (ap one qa) (count_cong (λ j. q (suc j)) (λ j. p (suc j)) k (λ j l. o (suc j) (omega arith) (λ e. absurd (omega arith))))
    ∙ omega (arith, ap one pa)
count_more p q (suc k) (suc a) h pa qa o =
    let r = count_more (λ j. p (suc j)) (λ j. q (suc j)) k a (omega arith) pa qa (λ j l n. o (suc j) (omega arith) (λ e. n (omega arith))) in
    let z : one (q 0) ≡ one (p 0) = ap one (o 0 (omega arith) (λ e. absurd (omega arith))) in
    omega (arith, r, z)

one_le : (b : Bool) → one b ≤ 1
one_le true = omega arith
one_le false = omega arith

pub count_le : (p : ℕ → Bool) (k : ℕ) → count p k ≤ k
unfolding count
count_le p zero = omega arith
count_le p (suc k) = let r = count_le (λ j. p (suc j)) k in omega (arith, one_le (p 0))

-- all pass: all are counted
pub count_all : (p : ℕ → Bool) (k : ℕ) → ((j : ℕ) → j < k → p j ≡ true) → count p k ≡ k
unfolding count
count_all p zero h = refl
count_all p (suc k) h =
    let r = count_all (λ j. p (suc j)) k (λ j l. h (suc j) (omega arith)) in
    omega (arith, ap one (h 0 (omega arith)))

-- fewer than all pass: one of them does not
pub one_fails : (p : ℕ → Bool) (k : ℕ) → count p k < k → (a : ℕ) × (a < k) × (p a ≡ false)
unfolding count
one_fails p zero h = absurd (omega arith)
one_fails p (suc k) h = go (λ l. one_fails (λ j. p (suc j)) k l) (p 0) refl
  where
    go : (count (λ j. p (suc j)) k < k → (a : ℕ) × (a < k) × (p (suc a) ≡ false)) → (b : Bool) → p 0 ≡ b → (a : ℕ) × (a < suc k) × (p a ≡ false)
    go ih false e = (0, omega arith, e)
    go ih true e =
        let r = ih (omega (arith, ap one e)) in
        (suc r.0, omega arith, r.2)

-- the count is the length of the list of those that pass
pub count_passing : (p : ℕ → Bool) (a k : ℕ) → length (passing p a k) ≡ count (λ j. p (a + j)) k
unfolding count passing
count_passing p a zero = refl
count_passing p a (suc k) = go (p a) refl (count_passing p (suc a) k ∙ count_cong (λ j. p (suc a + j)) (λ j. p (a + suc j)) k (λ j l. ap p (omega arith)))
  where
    go : (b : Bool) → p a ≡ b → length (passing p (suc a) k) ≡ count (λ j. p (a + suc j)) k
        → length (pick b (a ∷ passing p (suc a) k) (passing p (suc a) k)) ≡ one (p (a + 0)) + count (λ j. p (a + suc j)) k
    go true e r = let z : one (p (a + 0)) ≡ 1 = ap (λ (x : ℕ). one (p x)) (add-zero a) ∙ ap one e in omega arith
    go false e r = let z : one (p (a + 0)) ≡ 0 = ap (λ (x : ℕ). one (p x)) (add-zero a) ∙ ap one e in omega arith

-- the numbers that pass either of two tests: those that pass the first, and those that pass the second alone
pub count_split : (p q r : ℕ → Bool) (k : ℕ) → ((j : ℕ) → j < k → r j ≡ or (p j) (q j)) → count r k ≡ count p k + count (λ j. and (not (p j)) (q j)) k
unfolding count
count_split p q r zero h = refl
count_split p q r (suc k) h =
    let n = count_split (λ j. p (suc j)) (λ j. q (suc j)) (λ j. r (suc j)) k (λ j l. h (suc j) (omega arith)) in
    let e : one (r 0) ≡ one (p 0) + one (and (not (p 0)) (q 0)) = ap one (h 0 (omega arith)) ∙ each (p 0) (q 0) in
    omega arith
  where
    each : (a b : Bool) → one (or a b) ≡ one a + one (and (not a) b)
    each true b = refl
    each false b = omega arith
