-- A list that is not refused is a list of at most 120 targets with different identifiers, whose fixed ones have addresses of their own.
use Rattle.std.specs.Prelude.{ℕ, ◌*◌, ◌/◌, ◌%◌, ◌≤◌, ◌<◌, ◌≡◌, Bool, List, length, Ok}
use Rattle.std.proofs.Math.Path.{refl}
use Rattle.std.proofs.Common.{sym, subst, arith}
use Rattle.std.proofs.Math.Bool.{true, false}
use Rattle.std.proofs.Math.Logic.{inl, inr}
use Rattle.std.proofs.Math.Decide.{ℕ_discrete, dec_lt}
use Rattle.lists.specs.Each.{Bytes}
use Rattle.pool.specs.Pools.{member}
use Rattle.pool.specs.declared.Pool.{Pool}
use Rattle.udid.specs.Udids.{value}
use Rattle.udid.proofs.UdidLaws.{fits_at, value_same}
use Rattle.targets.specs.Records.{udid_of, address_byte, flag_of, target_at, record_count, targets_of}
use Rattle.targets.specs.Refusals.{checked_list}
use Rattle.targets.specs.Target.{Sized}
use Rattle.targets.specs.Cases.{LengthIsBad, Given}
use Rattle.targets.specs.RefusalLaws.{given_exactly}
use Rattle.targets.specs.IndexLaws.{target_has_record, pairs_from, length_targets, sized_at}
use Rattle.targets.specs.Admission.{Differ, FixedApart, FixedFree, AdmittedTargets}

-- the list is whole records, 120 at most
pub good_length_whole : (s : List ℕ) → (LengthIsBad s → ⊥) → (length s ≤ 2160) × (length s ≡ record_count s * 18)
good_length_whole s n = go (dec_lt 2160 (length s)) (ℕ_discrete (length s % 18) 0)
  where
    go : Dec (2160 < length s) → Dec (length s % 18 ≡ 0) → (length s ≤ 2160) × (length s ≡ record_count s * 18)
    go (yes h) d = absurd (n (inl h))
    go (no h) (no e) = absurd (n (inr e))
    go (no h) (yes e) = omega arith

module _ (barred : Pool) (s : List ℕ) (b : Bytes s) (e : checked_list barred s ≡ Ok tt) where
  given : Given barred s (Ok tt)
  given = (given_exactly barred s (Ok tt)).0 (sym e)

  -- every record is whole, with its flag 0 or 1 and an odd address byte
  pub admitted_length : (length s ≤ 2160) × (length s ≡ record_count s * 18)
  admitted_length = good_length_whole s given.0

  pub admitted_form : (i : ℕ) → i < record_count s → (address_byte s i % 2 ≡ 1) × (flag_of s i ≤ 1)
  admitted_form i h = go (ℕ_discrete (address_byte s i % 2) 0) (dec_lt 1 (flag_of s i))
    where
      go : Dec (address_byte s i % 2 ≡ 0) → Dec (1 < flag_of s i) → (address_byte s i % 2 ≡ 1) × (flag_of s i ≤ 1)
      go (yes q) d = absurd (given.1 i h (inl q))
      go (no q) (yes l) = absurd (given.1 i h (inr l))
      go (no q) (no l) = omega arith

  pub admitted_differ : (j k : ℕ) → j < k → k < record_count s → value (udid_of s j) ≡ value (udid_of s k) → ⊥
  admitted_differ j k l h q = given.2 k h (j, l, value_same (udid_of s j) (udid_of s k) (fits_at s (j * 18) b).low (fits_at s (k * 18) b).low q)

  fixed_free : (i : ℕ) → i < record_count s → FixedFree barred (target_at s i)
  unfolding target_at
  fixed_free i h f = go (member barred (address_byte s i / 2)) refl
    where
      go : (t : Bool) → member barred (address_byte s i / 2) ≡ t → member barred (address_byte s i / 2) ≡ false
      go true m = absurd (given.3 i h (f, inl m))
      go false m = m

  fixed_apart : (j k : ℕ) → j < k → k < record_count s → FixedApart (target_at s j) (target_at s k)
  unfolding target_at
  fixed_apart j k l h f g q = given.3 k h (g, inr (j, l, f, q))

  apart : (j k : ℕ) → j < k → k < record_count s → Differ (target_at s j) (target_at s k)
  unfolding target_at
  apart j k l h = admitted_differ j k l h

  pub admitted_targets : AdmittedTargets barred (targets_of s)
  admitted_targets = record {
    sized = λ t m. let r = target_has_record s (record_count s) 0 t m in subst Sized r.3 (sized_at s b r.0);
    differ = pairs_from Differ s (record_count s) 0 (λ j k a h l. apart j k h (omega arith));
    fixed_apart = pairs_from FixedApart s (record_count s) 0 (λ j k a h l. fixed_apart j k h (omega arith));
    fixed_free = λ t m. let r = target_has_record s (record_count s) 0 t m in subst (FixedFree barred) r.3 (fixed_free r.0 (omega (arith, r.2)));
    at_most_120 = omega (arith, length_targets s (record_count s) 0, admitted_length.0);
  }
