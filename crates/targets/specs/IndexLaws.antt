-- Targets by the number of their record.
use Rattle.std.specs.Prelude.{ℕ, zero, suc, ◌+◌, ◌*◌, ◌≤◌, ◌<◌, ◌≡◌, refl, List, [], ◌∷◌, ◌++◌, length, get_or, take, drop}
use Rattle.std.proofs.Common.{sym, ap, ◌∙◌, subst, inl, inr, arith, take-add, drop-drop, drop-cons}
use Rattle.std.proofs.Math.Decide.{ℕ_discrete}
use Rattle.lists.specs.Each.{Bytes}
use Rattle.udid.proofs.UdidLaws.{fits_at, bytes_back}
use Rattle.udid.proofs.WindowLaws.{byte_at}
use Rattle.arbitration.specs.Among.{Among}
use Rattle.targets.specs.Target.{Target, Sized}
use Rattle.targets.specs.Records.{target_at, targets_from}
use Rattle.targets.specs.Members.{Pairs}
use Rattle.targets.specs.Reply.{reply_data}

pub target_has_record : (s : List ℕ) (n i : ℕ) (t : Target) → Among t (targets_from s n i) → (j : ℕ) × (i ≤ j) × (j < i + n) × (target_at s j ≡ t)
target_has_record s zero i t x' = elim x' [ ]
target_has_record s (suc n) i t (inl e) = (i, omega arith, omega arith, e)
target_has_record s (suc n) i t (inr m) = let r = target_has_record s n (suc i) t m in (r.0, omega (arith, r.1), omega (arith, r.2), r.3)

pub record_has_target : (s : List ℕ) (n i j : ℕ) → i ≤ j → j < i + n → Among (target_at s j) (targets_from s n i)
record_has_target s zero i j a b = absurd (omega arith)
record_has_target s (suc n) i j a b = go (ℕ_discrete i j) (λ c d. record_has_target s n (suc i) j c d)
  where
    go : Dec (i ≡ j) → (suc i ≤ j → j < suc i + n → Among (target_at s j) (targets_from s n (suc i))) → Among (target_at s j) (targets_from s (suc n) i)
    go (yes e) ih = inl (ap (target_at s) e)
    go (no e) ih = inr (ih (omega arith) (omega arith))

pub pairs_from : (R : Target → Target → Type 0) (s : List ℕ) (n i : ℕ) → ((j k : ℕ) → i ≤ j → j < k → k < i + n → R (target_at s j) (target_at s k)) → Pairs R (targets_from s n i)
pairs_from R s zero i h = tt
pairs_from R s (suc n) i h = (
  (λ x m. let r = target_has_record s n (suc i) x m in subst (R (target_at s i)) r.3 (h i r.0 (omega arith) (omega (arith, r.1)) (omega (arith, r.2)))),
  pairs_from R s n (suc i) (λ j k a b c. h j k (omega arith) b (omega arith)),
)

pub length_targets : (s : List ℕ) (n i : ℕ) → length (targets_from s n i) ≡ n
length_targets s zero i = refl
length_targets s (suc n) i = ap suc (length_targets s n (suc i))

pub sized_at : (s : List ℕ) → Bytes s → (i : ℕ) → Sized (target_at s i)
unfolding target_at
sized_at s b i = record { udid = fits_at s (i * 18) b; address_byte = byte_at s (i * 18 + 16) b }

-- the first 17 bytes of a record are the data of its target's reply
pub record_reply : (s : List ℕ) (i : ℕ) → Bytes s → i * 18 + 17 ≤ length s → take 17 (drop (i * 18) s) ≡ reply_data (target_at s i)
unfolding reply_data target_at
record_reply s i b h =
    let k : i * 18 + 16 < length s = omega arith in
    take-add 16 1 (drop (i * 18) s)
    ∙ ap (λ (x : List ℕ). take 16 (drop (i * 18) s) ++ take 1 x) (drop-drop 16 (i * 18) s ∙ drop-cons s (i * 18 + 16) 0 k)
    ∙ ap (λ (x : List ℕ). x ++ (get_or s (i * 18 + 16) 0 ∷ [])) (sym (bytes_back s (i * 18) b (omega arith)))
