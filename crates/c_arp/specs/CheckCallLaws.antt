-- What a call of hb_check_targets gives, in the scope's numbers.
use Rattle.std.specs.Prelude.{◌≡◌, refl, List, ◌↔◌, ℕ, Ok, Err}
use Rattle.std.proofs.Common.{sym, ap, ◌∙◌}
use Rattle.std.proofs.Math.Logic.Iff.{trans as iff_trans}
use Rattle.pool.specs.Start.{barred_pool}
use Rattle.pool.specs.declared.Pool.{Pool}
use Rattle.targets.specs.Cases.{LengthIsBad, MalformedAt, RepeatedAt, TakenAt, NoneOf, FirstOf, Given}
use Rattle.targets.specs.Numbers.{answer_of}
use Rattle.targets.specs.Records.{record_count}
use Rattle.targets.specs.Refusals.{checked_list}
use Rattle.targets.specs.RefusalLaws.{given_exactly, answers_tell_apart}
use Rattle.targets.specs.Checked.{Checked}
use Rattle.targets.specs.declared.admit.ListError.TheVariants.{BadLength, Malformed, Repeated, Taken}
use Rattle.c_arp.specs.declared.check.HbChecked.{HbChecked}
use Rattle.c_arp.specs.declared.parts.HbPool.{HbPool}
use Rattle.c_arp.specs.Check.{told_checked}
use Rattle.c_arp.specs.Parts.{pool_in}

module _ (occupied : HbPool) (s : List ℕ) (r : HbChecked) (e : r ≡ told_checked (checked_list (barred_pool (pool_in occupied)) s)) where
  abbrev barred : Pool
  barred = barred_pool (record { low = occupied.low; high = occupied.high })

  check_number : (n i : ℕ) (k : Checked) → (answer_of k).number ≡ n → (answer_of k).value ≡ i → ((r.answer ≡ n) × (r.place ≡ i)) ↔ Given barred s k
  check_number n i k en ei = iff_trans (there, back) (given_exactly barred s k)
    where
      there : (r.answer ≡ n) × (r.place ≡ i) → k ≡ checked_list barred s
      there (a, p) =
          let x : (answer_of k).number ≡ (answer_of (checked_list barred s)).number = en ∙ sym a ∙ ap (λ (q : HbChecked). q.answer) e in
          let y : (answer_of k).value ≡ (answer_of (checked_list barred s)).value = ei ∙ sym p ∙ ap (λ (q : HbChecked). q.place) e in
          answers_tell_apart k (checked_list barred s) (λ j. record { number = x j; value = y j })

      back : k ≡ checked_list barred s → (r.answer ≡ n) × (r.place ≡ i)
      back q = (
        ap (λ (x : HbChecked). x.answer) e ∙ ap (λ (x : Checked). (answer_of x).number) (sym q) ∙ en,
        ap (λ (x : HbChecked). x.place) e ∙ ap (λ (x : Checked). (answer_of x).value) (sym q) ∙ ei,
      )

  -- 9: the length; 10, 11 and 12, each with the first such record: malformed, repeated, on a taken address; 0: none of them
  pub hb_check_9 : ((r.answer ≡ 9) × (r.place ≡ 0)) ↔ LengthIsBad s
  hb_check_9 = check_number 9 0 (Err BadLength) refl refl

  pub hb_check_10 : (i : ℕ) → ((r.answer ≡ 10) × (r.place ≡ i)) ↔ ((LengthIsBad s → ⊥) × FirstOf (MalformedAt s) (record_count s) i)
  hb_check_10 i = check_number 10 i (Err (Malformed i)) refl refl

  pub hb_check_11 : (i : ℕ) → ((r.answer ≡ 11) × (r.place ≡ i)) ↔ ((LengthIsBad s → ⊥) × NoneOf (MalformedAt s) (record_count s) × FirstOf (RepeatedAt s) (record_count s) i)
  hb_check_11 i = check_number 11 i (Err (Repeated i)) refl refl

  pub hb_check_12 : (i : ℕ)
      → ((r.answer ≡ 12) × (r.place ≡ i))
      ↔ ((LengthIsBad s → ⊥) × NoneOf (MalformedAt s) (record_count s) × NoneOf (RepeatedAt s) (record_count s) × FirstOf (TakenAt barred s) (record_count s) i)
  hb_check_12 i = check_number 12 i (Err (Taken i)) refl refl

  pub hb_check_0 : ((r.answer ≡ 0) × (r.place ≡ 0))
      ↔ ((LengthIsBad s → ⊥) × NoneOf (MalformedAt s) (record_count s) × NoneOf (RepeatedAt s) (record_count s) × NoneOf (TakenAt barred s) (record_count s))
  hb_check_0 = check_number 0 0 (Ok tt) refl refl
