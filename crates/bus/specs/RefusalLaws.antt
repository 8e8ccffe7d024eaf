-- The refusals of the model run: 1, 2, 9, 10, 11 and 12 are given exactly in their listed cases, with the record, and then nothing lent
-- changes and every other part of the answer is zero.
use Rattle.std.specs.Prelude.{ℕ, ◌/◌, ◌%◌, ◌≤◌, ◌<◌, ◌≡◌, refl, ◌⊎◌, ◌↔◌, List, length, Ok, Err}
use Rattle.std.proofs.Common.{sym, ap, ◌∙◌, subst, inl, inr, arith}
use Rattle.std.proofs.Math.Decide.{dec_lt}
use Rattle.pool.specs.Start.{barred_pool}
use Rattle.pool.specs.declared.Pool.{Pool}
use Rattle.lists.specs.AbsurdLaws.{zero_is_one}
use Rattle.lists.specs.Each.{Bytes}
use Rattle.targets.specs.ByteCases.{EvenOrFlag, SameAsEarlier, FixedOnTaken, GivenByBytes}
use Rattle.targets.specs.ByteCasesLaws.{given_by_bytes}
use Rattle.targets.specs.Cases.{LengthIsBad, NoneOf, FirstOf, Given}
use Rattle.targets.specs.Numbers.{answer_of}
use Rattle.targets.specs.Refusals.{checked_list}
use Rattle.targets.specs.RefusalLaws.{given_exactly, answers_tell_apart}
use Rattle.targets.specs.Checked.{Checked}
use Rattle.targets.specs.declared.admit.ListError.TheVariants.{BadLength, Malformed, Repeated, Taken}
use Rattle.arp.specs.Numbers.{end_number, command_number}
use Rattle.commands.specs.declared.command.End.{End}
use Rattle.commands.specs.declared.command.End.TheVariants.{Nothing, Ended, NoneFree, Abandoned, NotOutstanding, Chosen}
use Rattle.commands.specs.declared.command.Handed.{Handed}
use Rattle.commands.specs.declared.command.Handed.TheVariants.{Send, Wait}
use Rattle.targets.specs.Records.{targets_of}
use Rattle.rule.specs.Bus.{pass}
use Rattle.bus.specs.Run.{ModelEnd, Leaves, refused_end, end_checked, run_end, model_end}
use Rattle.report.specs.Report.{number_in, model_number, refused_answer}
use Rattle.bus.specs.RunLaws.{end_short, end_checked_lem, end_forbidden, end_going}
use Rattle.bindings.specs.declared.answer.ModelAnswer.{ModelAnswer}

-- ---- a pass ends with none of these numbers

-- the number of an end is 0, or 13 or more
end_number_is : (e : End) → (number_in (end_number e) ≡ 0) ⊎ (13 ≤ number_in (end_number e))
end_number_is Nothing = inl refl
end_number_is Ended = inl refl
end_number_is (NoneFree u) = inr (omega arith)
end_number_is Abandoned = inr (omega arith)
end_number_is NotOutstanding = inr (omega arith)
end_number_is (Chosen u a r) = inl refl

number_is : (k : Handed) → (number_in (command_number k) ≡ 0) ⊎ (13 ≤ number_in (command_number k))
number_is (Send k) = inl refl
number_is (Wait e) = end_number_is e

not_in_pass : (k : Handed) (n : ℕ) → number_in (command_number k) ≡ n → (1 ≤ n) × (n ≤ 12) → ⊥
not_in_pass k n e h = go (number_is k)
  where
    go : (number_in (command_number k) ≡ 0) ⊎ (13 ≤ number_in (command_number k)) → ⊥
    go (inl z) = omega (arith, h.0)
    go (inr z) = omega (arith, h.1)

refusal_9_to_12 : (k : Checked) → (k ≡ Ok tt → ⊥) → (9 ≤ (answer_of k).number) × ((answer_of k).number ≤ 12)
refusal_9_to_12 (Ok tt) n = absurd (n refl)
refusal_9_to_12 (Err BadLength) n = (omega arith, omega arith)
refusal_9_to_12 (Err (Malformed i)) n = (omega arith, omega arith)
refusal_9_to_12 (Err (Repeated i)) n = (omega arith, omega arith)
refusal_9_to_12 (Err (Taken i)) n = (omega arith, omega arith)

-- a refused list: the answer's number and record are those of the refusal
refused_end_of_check : (k : Checked) → (k ≡ Ok tt → ⊥) → (occupied : Pool) (last : ℕ) (s b : List ℕ) → end_checked k occupied last s b ≡ refused_end (answer_of k).number (answer_of k).value s b
refused_end_of_check (Ok tt) n occupied last s b = absurd (n refl)
refused_end_of_check (Err k) n occupied last s b = refl

pairs_tell_apart : (k j : Checked) → ◌≡◌ {A = ℕ × ℕ} ((answer_of k).number, (answer_of k).value) ((answer_of j).number, (answer_of j).value) → k ≡ j
pairs_tell_apart k j e =
    let a : (answer_of k).number ≡ (answer_of j).number = ap (λ (p : ℕ × ℕ). p.0) e in
    let v : (answer_of k).value ≡ (answer_of j).value = ap (λ (p : ℕ × ℕ). p.1) e in
    answers_tell_apart k j (λ i. record { number = a i; value = v i })

admitted_or_not : (k : Checked) → (k ≡ Ok tt) ⊎ (k ≡ Ok tt → ⊥)
admitted_or_not (Ok tt) = inl refl
admitted_or_not (Err k) = inr (λ e. zero_is_one (cc e))

-- ---- with a last pick up to 127

module _ (occupied : Pool) (last : ℕ) (s b : List ℕ) (r : ModelAnswer) (s' b' : List ℕ) (l : Leaves (run_end occupied last s b) r s' b') where
  -- the end of each case
  short_end : length b < 2048 → Leaves (refused_end 2 0 s b) r s' b'
  short_end h = subst (λ (x : ModelEnd). Leaves x r s' b') (end_short occupied last s b h) l

  checked_end : 2048 ≤ length b → Leaves (end_checked (checked_list (barred_pool occupied) s) occupied last s b) r s' b'
  checked_end h = subst (λ (x : ModelEnd). Leaves x r s' b') (end_checked_lem occupied last s b (checked_list (barred_pool occupied) s) h refl) l

  refused_end_lem : 2048 ≤ length b → (checked_list (barred_pool occupied) s ≡ Ok tt → ⊥)
      → Leaves (refused_end (answer_of (checked_list (barred_pool occupied) s)).number (answer_of (checked_list (barred_pool occupied) s)).value s b) r s' b'
  refused_end_lem h n = subst (λ (x : ModelEnd). Leaves x r s' b') (refused_end_of_check (checked_list (barred_pool occupied) s) n occupied last s b) (checked_end h)

  pass_number : 2048 ≤ length b → checked_list (barred_pool occupied) s ≡ Ok tt → (1 ≤ r.answer) × (r.answer ≤ 12) → ⊥
  pass_number h e =
      let q = subst (λ (k : Checked). Leaves (end_checked k occupied last s b) r s' b') e (checked_end h) in
      not_in_pass (pass occupied last (targets_of s)).now.command r.answer (sym (ap (λ (x : ModelAnswer). x.answer) q.answered))

  -- what the number is: 2 with a short buffer, 9 to 12 with a refused list, and none from 1 to 12 with a pass
  run_cases : (1 ≤ r.answer) × (r.answer ≤ 12)
      → ((length b < 2048) × (r.answer ≡ 2)) ⊎ ((2048 ≤ length b) × (checked_list (barred_pool occupied) s ≡ Ok tt → ⊥) × ((9 ≤ r.answer) × (r.answer ≤ 12)))
  run_cases h = go (dec_lt (length b) 2048) (admitted_or_not (checked_list (barred_pool occupied) s))
    where
      go : Dec (length b < 2048) → (checked_list (barred_pool occupied) s ≡ Ok tt) ⊎ (checked_list (barred_pool occupied) s ≡ Ok tt → ⊥)
          → ((length b < 2048) × (r.answer ≡ 2)) ⊎ ((2048 ≤ length b) × (checked_list (barred_pool occupied) s ≡ Ok tt → ⊥) × ((9 ≤ r.answer) × (r.answer ≤ 12)))
      go (yes k) c = inl (k, ap (λ (x : ModelAnswer). x.answer) (short_end k).answered)
      go (no k) (inl a) = absurd (pass_number (omega arith) a h)
      go (no k) (inr n) =
          let q = refusal_9_to_12 (checked_list (barred_pool occupied) s) n in
          let e : r.answer ≡ (answer_of (checked_list (barred_pool occupied) s)).number = ap (λ (x : ModelAnswer). x.answer) (refused_end_lem (omega arith) n).answered in
          inr (omega arith, n, (omega (arith, q.0), omega (arith, q.1)))

  -- never 1
  run_not_1 : r.answer ≡ 1 → ⊥
  run_not_1 e = go (run_cases (omega arith, omega arith))
    where
      go : ((length b < 2048) × (r.answer ≡ 2)) ⊎ ((2048 ≤ length b) × (checked_list (barred_pool occupied) s ≡ Ok tt → ⊥) × ((9 ≤ r.answer) × (r.answer ≤ 12))) → ⊥
      go (inl w) = omega (arith, w.1)
      go (inr w) = omega (arith, w.2.0)

  -- 2: the binding buffer is under 2,048 bytes
  run_2 : (model_number r ≡ (2, 0)) ↔ (length b < 2048)
  run_2 = (λ e. there (ap (λ (p : ℕ × ℕ). p.0) e), λ h. ap model_number (short_end h).answered)
    where
      there : r.answer ≡ 2 → length b < 2048
      there e = go (run_cases (omega arith, omega arith))
        where
          go : ((length b < 2048) × (r.answer ≡ 2)) ⊎ ((2048 ≤ length b) × (checked_list (barred_pool occupied) s ≡ Ok tt → ⊥) × ((9 ≤ r.answer) × (r.answer ≤ 12))) → length b < 2048
          go (inl w) = w.0
          go (inr w) = absurd (omega (arith, w.2.0))

  -- 9, 10, 11 and 12: the buffer is long enough, and the list is what the scope lists for that number and record
  run_refused : (k : Checked) → (k ≡ Ok tt → ⊥) → (model_number r ≡ ((answer_of k).number, (answer_of k).value)) ↔ ((2048 ≤ length b) × Given (barred_pool occupied) s k)
  run_refused k n = (there, back)
    where
      there : model_number r ≡ ((answer_of k).number, (answer_of k).value) → (2048 ≤ length b) × Given (barred_pool occupied) s k
      there e = go (run_cases (omega (arith, q, (refusal_9_to_12 k n).0), omega (arith, q, (refusal_9_to_12 k n).1)))
        where
          q : r.answer ≡ (answer_of k).number
          q = ap (λ (p : ℕ × ℕ). p.0) e

          go : ((length b < 2048) × (r.answer ≡ 2)) ⊎ ((2048 ≤ length b) × (checked_list (barred_pool occupied) s ≡ Ok tt → ⊥) × ((9 ≤ r.answer) × (r.answer ≤ 12)))
              → (2048 ≤ length b) × Given (barred_pool occupied) s k
          go (inl w) = absurd (omega (arith, w.1, q, (refusal_9_to_12 k n).0))
          go (inr w) =
              let m = pairs_tell_apart k (checked_list (barred_pool occupied) s) (sym e ∙ ap model_number (refused_end_lem w.0 w.1).answered) in
              (w.0, (given_exactly (barred_pool occupied) s k).0 m)

      back : (2048 ≤ length b) × Given (barred_pool occupied) s k → model_number r ≡ ((answer_of k).number, (answer_of k).value)
      back (h, g) =
          let q : k ≡ checked_list (barred_pool occupied) s = (given_exactly (barred_pool occupied) s k).1 g in
          let m = refused_end_lem h (λ a. n (q ∙ a)) in
          ap model_number m.answered ∙ ap (λ (x : Checked). ((answer_of x).number, (answer_of x).value)) (sym q)

-- a refusal changes nothing lent, and all else in the answer is zero
abbrev Untouched : List ℕ → List ℕ → ModelAnswer → List ℕ → List ℕ → Type 0
Untouched s b r s' b' = (s' ≡ s) × (b' ≡ b) × (r ≡ refused_answer r.answer r.place)

untouched : (s b : List ℕ) (r : ModelAnswer) (s' b' : List ℕ) (n i : ℕ) → Leaves (refused_end n i s b) r s' b' → Untouched s b r s' b'
untouched s b r s' b' n i q = (
  q.records_hold,
  q.bindings_hold,
  q.answered ∙ sym (ap (λ (x : ModelAnswer). refused_answer x.answer x.place) q.answered),
)

-- ---- with any last pick: what run_model's contract says of an answer and of what the lent lists hold then
module _ (occupied : Pool) (last : ℕ) (s b : List ℕ) (r : ModelAnswer) (s' b' : List ℕ) (l : Leaves (model_end occupied last s b) r s' b') where
  forbidden_end : 127 < last → Leaves (refused_end 1 0 s b) r s' b'
  forbidden_end h = subst (λ (x : ModelEnd). Leaves x r s' b') (end_forbidden occupied last s b h) l

  going_end : last < 128 → Leaves (run_end occupied last s b) r s' b'
  going_end h = subst (λ (x : ModelEnd). Leaves x r s' b') (end_going occupied last s b h) l

  -- 1: the last pick is above 127
  pub model_1 : (model_number r ≡ (1, 0)) ↔ (127 < last)
  model_1 = (λ e. there (ap (λ (p : ℕ × ℕ). p.0) e) (dec_lt 127 last), λ h. ap model_number (forbidden_end h).answered)
    where
      there : r.answer ≡ 1 → Dec (127 < last) → 127 < last
      there e (yes h) = h
      there e (no h) = absurd (run_not_1 occupied last s b r s' b' (going_end (omega arith)) e)

  -- any other number is given where the last pick is up to 127, in the case that it has there
  other_number : (n i : ℕ) (P : Type 0) → (n ≡ 1 → ⊥) → (Leaves (run_end occupied last s b) r s' b' → (model_number r ≡ (n, i)) ↔ P) → (model_number r ≡ (n, i)) ↔ ((last < 128) × P)
  other_number n i P m f = (λ e. go e (dec_lt 127 last), λ h. (f (going_end h.0)).1 h.1)
    where
      go : model_number r ≡ (n, i) → Dec (127 < last) → (last < 128) × P
      go e (yes h) = absurd (m (sym (ap (λ (p : ℕ × ℕ). p.0) e) ∙ ap (λ (x : ModelAnswer). x.answer) (forbidden_end h).answered))
      go e (no h) = (omega arith, (f (going_end (omega arith))).0 e)

  pub model_2 : (model_number r ≡ (2, 0)) ↔ ((last < 128) × (length b < 2048))
  model_2 = other_number 2 0 (length b < 2048) (λ e. omega arith) (λ v. run_2 occupied last s b r s' b' v)

  -- and then nothing that was lent has changed, and all else in the answer is zero
  pub model_untouched : (1 ≤ r.answer) × (r.answer ≤ 12) → (s' ≡ s) × (b' ≡ b) × (r ≡ refused_answer r.answer r.place)
  model_untouched h = go (dec_lt 127 last)
    where
      run : Leaves (run_end occupied last s b) r s' b' → Untouched s b r s' b'
      run v = at (run_cases occupied last s b r s' b' v h)
        where
          at : ((length b < 2048) × (r.answer ≡ 2)) ⊎ ((2048 ≤ length b) × (checked_list (barred_pool occupied) s ≡ Ok tt → ⊥) × ((9 ≤ r.answer) × (r.answer ≤ 12))) → Untouched s b r s' b'
          at (inl w) = untouched s b r s' b' 2 0 (short_end occupied last s b r s' b' v w.0)
          at (inr w) = untouched s b r s' b' _ _ (refused_end_lem occupied last s b r s' b' v w.0 w.1)

      go : Dec (127 < last) → Untouched s b r s' b'
      go (yes k) = untouched s b r s' b' 1 0 (forbidden_end k)
      go (no k) = run (going_end (omega arith))

  -- the numbers, each if and only if its case, by the bytes of the records: record i is the 18 bytes from 18 i on
  module _ (bytes : Bytes s) where
    refused_by_bytes : (k : Checked) → (k ≡ Ok tt → ⊥) → (model_number r ≡ ((answer_of k).number, (answer_of k).value)) ↔ ((last < 128) × ((2048 ≤ length b) × GivenByBytes (barred_pool occupied) s k))
    refused_by_bytes k n =
        other_number (answer_of k).number (answer_of k).value ((2048 ≤ length b) × GivenByBytes (barred_pool occupied) s k) (λ e. omega (arith, (refusal_9_to_12 k n).0)) (λ v.
        let m = run_refused occupied last s b r s' b' v k n in
        let g = given_by_bytes (barred_pool occupied) s bytes k in
        (λ e. ((m.0 e).0, g.0 (m.0 e).1), λ h. m.1 (h.0, g.1 h.1)))

    -- 9: over 2,160 bytes, or no multiple of 18
    pub model_9 : (model_number r ≡ (9, 0)) ↔ ((last < 128) × ((2048 ≤ length b) × ((2160 < length s) ⊎ (length s % 18 ≡ 0 → ⊥))))
    model_9 = refused_by_bytes (Err BadLength) (λ e. zero_is_one (cc e))

    -- 10: the first record whose byte 16 is even or byte 17 above 1
    pub model_10 : (i : ℕ) → (model_number r ≡ (10, i)) ↔ ((last < 128) × ((2048 ≤ length b) × ((LengthIsBad s → ⊥) × FirstOf (EvenOrFlag s) (length s / 18) i)))
    model_10 i = refused_by_bytes (Err (Malformed i)) (λ e. zero_is_one (cc e))

    -- 11: the first record whose 16 bytes of identifier are those of an earlier one
    pub model_11 : (i : ℕ) → (model_number r ≡ (11, i)) ↔ ((last < 128) × ((2048 ≤ length b) × ((LengthIsBad s → ⊥) × NoneOf (EvenOrFlag s) (length s / 18) × FirstOf (SameAsEarlier s) (length s / 18) i)))
    model_11 i = refused_by_bytes (Err (Repeated i)) (λ e. zero_is_one (cc e))

    -- 12: the first fixed target whose address is barred (reserved or occupied), or is that of an earlier fixed one
    pub model_12 : (i : ℕ) → (model_number r ≡ (12, i))
        ↔ ((last < 128) × ((2048 ≤ length b) × ((LengthIsBad s → ⊥) × NoneOf (EvenOrFlag s) (length s / 18) × NoneOf (SameAsEarlier s) (length s / 18) × FirstOf (FixedOnTaken (barred_pool occupied) s) (length s / 18) i)))
    model_12 i = refused_by_bytes (Err (Taken i)) (λ e. zero_is_one (cc e))
