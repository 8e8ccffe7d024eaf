-- What the model run leaves in the records, byte by byte, in terms of the plain rule alone; and that nothing is left open by this.
use Rattle.std.specs.Prelude.{ℕ, ◌+◌, ◌*◌, ◌/◌, ◌%◌, ◌≤◌, ◌<◌, ◌≡◌, length, get_or, take, drop, Ok}
use Rattle.std.proofs.Common.{sym, ap, ◌∙◌, subst, arith, ext_get_or}
use mathlib.Core.List.{List, List-discrete}
use Rattle.std.proofs.Math.Decide.{ℕ_discrete, dec_lt}
use Rattle.lists.specs.Each.{Each, Any, Bytes}
use Rattle.lists.specs.EachLaws.{each_both}
use Rattle.pool.specs.Start.{starting_pool, barred_pool}
use Rattle.pool.specs.declared.Pool.{Pool}
use Rattle.udid.specs.Bytes.{udid_bytes}
use Rattle.targets.specs.Admission.{AdmittedTargets}
use Rattle.targets.specs.AdmissionLaws.{admitted_targets}
use Rattle.targets.specs.Records.{targets_of}
use Rattle.targets.specs.Refusals.{checked_list}
use Rattle.rule.specs.AnyLaws.{any_each, any_constant, any_decided}
use Rattle.rule.specs.PlainRule.{Given, ruled}
use Rattle.rule.specs.Reading.{RecordOf}
use Rattle.rule.specs.RecordsLaws as records
use Rattle.bus.specs.EndLaws.{leaves_rule}
use Rattle.bus.specs.Run.{Leaves, model_end}
use Rattle.bindings.specs.declared.answer.ModelAnswer.{ModelAnswer}

-- a list that is not refused, a buffer that is long enough, and what run_model's contract says of an answer and of the lists left
module _ (occupied : Pool) (last : ℕ) (small : last < 128) (s b : List ℕ) (bytes : Bytes s) (long : 2048 ≤ length b) (e : checked_list (barred_pool occupied) s ≡ Ok tt) (r : ModelAnswer) (s' b' : List ℕ)
    (l : Leaves (model_end occupied last s b) r s' b') where
  admitted : AdmittedTargets (barred_pool occupied) (targets_of s)
  admitted = admitted_targets (barred_pool occupied) s bytes e

  -- the list as long as it was
  pub records_length : length s' ≡ length s
  records_length = ap length (leaves_rule occupied last small s b bytes long e r s' b' l).records_hold ∙ records.same_length occupied last s bytes admitted

  -- a record whose identifier is bound: twice its address plus 1, and flag 1
  pub record_of_bound : (i : ℕ) → i < length s / 18
      → Each (λ (g : Given). RecordOf s i g → (get_or s' (18 * i + 16) 0 ≡ 2 * g.address + 1) × (get_or s' (18 * i + 17) 0 ≡ 1)) (ruled (starting_pool occupied) last (targets_of s)).given
  record_of_bound i h =
      subst (λ (x : List ℕ). Each (λ (g : Given). RecordOf s i g → (get_or x (18 * i + 16) 0 ≡ 2 * g.address + 1) × (get_or x (18 * i + 17) 0 ≡ 1)) (ruled (starting_pool occupied) last (targets_of s)).given)
      (sym (leaves_rule occupied last small s b bytes long e r s' b' l).records_hold) (records.bound_record occupied last s bytes admitted i h)

  -- any other record: its address byte as it was, and flag 0
  pub record_of_unbound : (i : ℕ) → i < length s / 18 → (Any (RecordOf s i) (ruled (starting_pool occupied) last (targets_of s)).given → ⊥)
      → (get_or s' (18 * i + 16) 0 ≡ get_or s (18 * i + 16) 0) × (get_or s' (18 * i + 17) 0 ≡ 0)
  record_of_unbound i h n =
      let q = records.other_record occupied last s bytes admitted i h n in
      let w = (leaves_rule occupied last small s b bytes long e r s' b' l).records_hold in
      (ap (λ (x : List ℕ). get_or x (18 * i + 16) 0) w ∙ q.0, ap (λ (x : List ℕ). get_or x (18 * i + 17) 0) w ∙ q.1)

  -- no other byte changes
  pub other_bytes_kept : (j : ℕ) → j % 18 < 16 → get_or s' j 0 ≡ get_or s j 0
  other_bytes_kept j h = ap (λ (x : List ℕ). get_or x j 0) (leaves_rule occupied last small s b bytes long e r s' b' l).records_hold ∙ records.other_bytes occupied last s bytes admitted j h

-- ---- nothing is left open: two lists of records t and u that are so left of s are equal

module _ (given : List Given) (s t u : List ℕ) (whole : length s ≡ 18 * (length s / 18)) where
  abbrev BoundIn : List ℕ → Type 0
  BoundIn x = (i : ℕ) → i < length s / 18 → Each (λ (g : Given). RecordOf s i g → (get_or x (18 * i + 16) 0 ≡ 2 * g.address + 1) × (get_or x (18 * i + 17) 0 ≡ 1)) given

  abbrev UnboundIn : List ℕ → Type 0
  UnboundIn x = (i : ℕ) → i < length s / 18 → (Any (RecordOf s i) given → ⊥) → (get_or x (18 * i + 16) 0 ≡ get_or s (18 * i + 16) 0) × (get_or x (18 * i + 17) 0 ≡ 0)

  abbrev OthersIn : List ℕ → Type 0
  OthersIn x = (j : ℕ) → j % 18 < 16 → get_or x j 0 ≡ get_or s j 0

  -- the last two bytes of record i
  abbrev Agree : ℕ → Type 0
  Agree i = (get_or t (18 * i + 16) 0 ≡ get_or u (18 * i + 16) 0) × (get_or t (18 * i + 17) 0 ≡ get_or u (18 * i + 17) 0)

  last_two_agree : BoundIn t → BoundIn u → UnboundIn t → UnboundIn u → (i : ℕ) → i < length s / 18 → Agree i
  last_two_agree bt bu ut uu i h = go (any_decided given (λ g. List-discrete ℕ_discrete (take 16 (drop (18 * i) s)) (udid_bytes g.who.udid)))
    where
      both : (g : Given) → (RecordOf s i g → (get_or t (18 * i + 16) 0 ≡ 2 * g.address + 1) × (get_or t (18 * i + 17) 0 ≡ 1))
          → (RecordOf s i g → (get_or u (18 * i + 16) 0 ≡ 2 * g.address + 1) × (get_or u (18 * i + 17) 0 ≡ 1)) → RecordOf s i g → Agree i
      both g x y q = ((x q).0 ∙ sym (y q).0, (x q).1 ∙ sym (y q).1)

      at : (g : Given) → RecordOf s i g → (RecordOf s i g → Agree i) → Agree i
      at g q f = f q

      go : Dec (Any (RecordOf s i) given) → Agree i
      go (no n) = ((ut i h n).0 ∙ sym (uu i h n).0, (ut i h n).1 ∙ sym (uu i h n).1)
      go (yes q) = any_constant given (any_each given at q (each_both given both (bt i h) (bu i h)))

  pub one_records : length t ≡ length s → length u ≡ length s → BoundIn t → BoundIn u → UnboundIn t → UnboundIn u → OthersIn t → OthersIn u → t ≡ u
  one_records lt lu bt bu ut uu ot ou =
      ext_get_or 0 t u (lt ∙ sym lu) (λ k h. go k (omega (arith, h, lt, whole)) (dec_lt (k % 18) 16) (ℕ_discrete (k % 18) 16))
    where
      go : (k : ℕ) → k / 18 < length s / 18 → Dec (k % 18 < 16) → Dec (k % 18 ≡ 16) → get_or t k 0 ≡ get_or u k 0
      go k h (yes m) q = ot k m ∙ sym (ou k m)
      go k h (no m) (yes q) =
          let e : k ≡ 18 * (k / 18) + 16 = omega arith in
          ap (λ (x : ℕ). get_or t x 0) e ∙ (last_two_agree bt bu ut uu (k / 18) h).0 ∙ ap (λ (x : ℕ). get_or u x 0) (sym e)
      go k h (no m) (no q) =
          let e : k ≡ 18 * (k / 18) + 17 = omega arith in
          ap (λ (x : ℕ). get_or t x 0) e ∙ (last_two_agree bt bu ut uu (k / 18) h).1 ∙ ap (λ (x : ℕ). get_or u x 0) (sym e)
