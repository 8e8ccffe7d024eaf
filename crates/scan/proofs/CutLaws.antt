-- The number that comes with 6, said without counting: up to its NACK a cut trace is START, then two places for each byte, and one more
-- place for a repeated START, so that the number of the byte follows from the length of the trace.
use Rattle.std.specs.Prelude.{◌≡◌, refl, Bool, true, false, List, [], ◌∷◌, ◌++◌, ◌⊎◌, ℕ, suc, ◌+◌, ◌-◌, ◌*◌, ◌/◌, ◌<◌, length}
use Rattle.std.proofs.Common.{sym, ap, ◌∙◌, subst, append-nil, inl, inr, arith, length-append}
use Rattle.lists.specs.AbsurdLaws.{zero_is_one}
use Rattle.lists.specs.Choice.{pick}
use Rattle.lists.specs.Each.{Bytes}
use Rattle.trace.specs.declared.shape.Shape.{Shape}
use Rattle.trace.specs.Shapes.{writes, reads}
use Rattle.trace.specs.Sane.{Sane}
use Rattle.trace.proofs.LengthLaws.{length_acked}
use Rattle.trace.specs.Trace.{acked, front, first_byte, in_place}
use Rattle.scan.specs.BytesIn.{bytes_in}
use Rattle.scan.proofs.BytesInLaws.{byte_more, bytes_append, bytes_acked}
use Rattle.scan.specs.Answers.{CutAt}
use Rattle.scan.proofs.ForwardLaws.{first_byte_fits}
use Rattle.scan.proofs.PecByteLaws.{front_bytes}

-- a beginning of so many places, the last of them a byte: two places a byte but the last, which still lacks its ACK
abbrev Odd : List ℕ → Type 0
Odd l = length l + 1 ≡ 2 * length (bytes_in l)

-- with one place more
abbrev Even : List ℕ → Type 0
Even l = length l ≡ 2 * length (bytes_in l)

odd_one : (b : ℕ) → b < 256 → Odd (b ∷ [])
odd_one b h = omega (arith, ap length (byte_more b [] h))

odd_more : (b : ℕ) (l : List ℕ) → b < 256 → Odd l → Odd (b ∷ 258 ∷ l)
odd_more b l h o = omega (arith, ap length (byte_more b (258 ∷ l) h))

-- what stands before an ACK, in bytes with their ACKs and what follows them
record Later (bs before after rest : List ℕ) : Type 0 where
  mid : List ℕ
  is : before ≡ acked bs ++ mid
  left : rest ≡ mid ++ 258 ∷ after

at_ack : (bs before after rest : List ℕ) → Bytes bs → acked bs ++ rest ≡ before ++ 258 ∷ after → Odd before ⊎ Later bs before after rest
at_ack [] before after rest h e = inr (record { mid = before; is = refl; left = e })
at_ack (b ∷ bs) [] after rest h e = let z : b ≡ 258 = cc in absurd (omega (arith, h.0))
at_ack (b ∷ bs) (x ∷ []) after rest h e = let z : x ≡ b = cc in inl (odd_one x (omega (arith, h.0)))
at_ack (b ∷ bs) (x ∷ y ∷ before) after rest h e =
    let p : x ≡ b = cc in
    let q : y ≡ 258 = cc in
    go p q (at_ack bs before after rest h.1 cc)
  where
    go : x ≡ b → y ≡ 258 → Odd before ⊎ Later bs before after rest → Odd (x ∷ y ∷ before) ⊎ Later (b ∷ bs) (x ∷ y ∷ before) after rest
    go p q (inl o) = inl (subst (λ (k : ℕ). Odd (x ∷ k ∷ before)) (sym q) (odd_more x before (omega (arith, h.0)) o))
    go p q (inr l) = inr (record { mid = l.mid; is = cc l.is; left = l.left })

-- after all of them
odd_after : (bs mid : List ℕ) → Bytes bs → Odd mid → Odd (acked bs ++ mid)
odd_after bs mid h o =
    omega (arith, length-append (acked bs) mid, length_acked bs, ap length (bytes_append (acked bs) mid ∙ ap (λ (l : List ℕ). l ++ bytes_in mid) (bytes_acked bs h)), length-append bs (bytes_in mid))

even_after : (bs mid : List ℕ) → Bytes bs → Even mid → Even (acked bs ++ mid)
even_after bs mid h o =
    omega (arith, length-append (acked bs) mid, length_acked bs, ap length (bytes_append (acked bs) mid ∙ ap (λ (l : List ℕ). l ++ bytes_in mid) (bytes_acked bs h)), length-append bs (bytes_in mid))

-- a repeated START and the address byte for a read
restart_even : (f : ℕ) (mid after : List ℕ) → f < 256 → 256 ∷ f ∷ 258 ∷ [] ≡ mid ++ 258 ∷ after → Even mid
restart_even f [] after h e = let z : ◌≡◌ {A = ℕ} 256 258 = cc in absurd (omega arith)
restart_even f (x ∷ []) after h e = let z : f ≡ 258 = cc in absurd (omega arith)
restart_even f (x ∷ y ∷ []) after h e =
    let p : x ≡ 256 = cc in
    let q : y ≡ f = cc in
    subst (λ (k : ℕ). Even (k ∷ y ∷ [])) (sym p) (omega (arith, ap length (byte_more y [] (omega arith))))
restart_even f (x ∷ y ∷ z ∷ []) after h e = zero_is_one (cc e)
restart_even f (x ∷ y ∷ z ∷ u ∷ mid) after h e = zero_is_one (cc e)

never_empty : (mid after : List ℕ) → [] ≡ mid ++ 258 ∷ after → ⊥
never_empty [] after e = zero_is_one (cc e)
never_empty (x ∷ mid) after e = zero_is_one (cc e)

-- the target's part behind its START
odd_or_even : (r w : Bool) (f : ℕ) (bs q before after : List ℕ) → Bytes bs → Bytes q → (w ≡ true → f < 256)
    → acked bs ++ pick r (pick w (256 ∷ f ∷ 258 ∷ []) []) (acked q) ≡ before ++ 258 ∷ after → Odd before ⊎ Even before
odd_or_even r w f bs q before after hb hq hf e = go (at_ack bs before after _ hb e)
  where
    rest : (r w : Bool) → (w ≡ true → f < 256) → (mid : List ℕ) → pick r (pick w (256 ∷ f ∷ 258 ∷ []) []) (acked q) ≡ mid ++ 258 ∷ after → Odd mid ⊎ Even mid
    rest true true k mid d = inr (restart_even f mid after (k refl) d)
    rest true false k mid d = absurd (never_empty mid after d)
    rest false w k mid d = sent (at_ack q mid after [] hq (append-nil (acked q) ∙ d))
      where
        sent : Odd mid ⊎ Later q mid after [] → Odd mid ⊎ Even mid
        sent (inl o) = inl o
        sent (inr l) = absurd (never_empty l.mid after l.left)

    whole : (mid : List ℕ) → before ≡ acked bs ++ mid → Odd mid ⊎ Even mid → Odd before ⊎ Even before
    whole mid i (inl o) = inl (subst Odd (sym i) (odd_after bs mid hb o))
    whole mid i (inr o) = inr (subst Even (sym i) (even_after bs mid hb o))

    go : Odd before ⊎ Later bs before after (pick r (pick w (256 ∷ f ∷ 258 ∷ []) []) (acked q)) → Odd before ⊎ Even before
    go (inl o) = inl o
    go (inr l) = whole l.mid l.is (rest r w hf l.mid l.left)

module _ (sh : Shape) (hs : Sane sh) (p : Bool) (tr : List ℕ) (b : ℕ) (c : CutAt sh p tr b) where
  -- START stands first, and no ACK is due for it
  cut_lengths : (before : List ℕ) → c.before ≡ before → (length tr ≡ 2 * b + 4) ⊎ (length tr ≡ 2 * b + 5)
  cut_lengths [] e =
      let q = c.ack ∙ ap (λ (l : List ℕ). l ++ 258 ∷ c.after) e in
      let z : ◌≡◌ {A = ℕ} 256 258 = cc q in
      absurd (omega arith)
  cut_lengths (s ∷ before) e =
      let q = c.ack ∙ ap (λ (l : List ℕ). l ++ 258 ∷ c.after) e in
      let z : 256 ≡ s = cc q in
      let f = first_byte_fits sh c.message c.valid in
      let d = odd_or_even (reads sh) (writes sh) (first_byte sh c.message + 1) (front sh c.message) (in_place p c.pec) before c.after (front_bytes sh hs c.message c.valid) c.byte
      (λ w. let l = f.2 w in omega arith) (cc q) in
      let n : length (bytes_in before) ≡ suc b = subst (λ (k : ℕ). length (bytes_in (k ∷ before)) ≡ suc b) (sym z) (subst (λ (l : List ℕ). length (bytes_in l) ≡ suc b) e c.number) in
      let m : length tr ≡ length before + 3 = ap length (c.is ∙ ap (λ (l : List ℕ). l ++ 259 ∷ 257 ∷ []) e) ∙ omega (arith, length-append before (259 ∷ 257 ∷ [])) in
      go n m d
    where
      go : length (bytes_in before) ≡ suc b → length tr ≡ length before + 3 → Odd before ⊎ Even before → (length tr ≡ 2 * b + 4) ⊎ (length tr ≡ 2 * b + 5)
      go n m (inl o) = inl (omega arith)
      go n m (inr o) = inr (omega arith)

  -- the length of a cut trace, without and with a repeated START
  pub cut_length : (length tr ≡ 2 * b + 4) ⊎ (length tr ≡ 2 * b + 5)
  cut_length = cut_lengths c.before refl

  -- so the number of the byte is half of what the length is above 4
  pub cut_number : b ≡ (length tr - 4) / 2
  cut_number = go cut_length
    where
      go : (length tr ≡ 2 * b + 4) ⊎ (length tr ≡ 2 * b + 5) → b ≡ (length tr - 4) / 2
      go (inl e) = omega (arith, e)
      go (inr e) = omega (arith, e)
