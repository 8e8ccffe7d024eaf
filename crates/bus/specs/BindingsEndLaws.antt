-- Which addresses are bound at the end of the model run, to whom, and what the binding buffer shows, in terms of the plain rule alone.
use Rattle.std.specs.Prelude.{ℕ, ◌*◌, ◌/◌, ◌≤◌, ◌<◌, ◌≡◌, refl, true, false, ◌↔◌, List, [], ◌∷◌, length, get_or, take, drop, replicate, Ok, None}
use Rattle.std.proofs.Common.{sym, ap, ◌∙◌}
use Rattle.lists.specs.AbsurdLaws.{zero_is_one}
use Rattle.lists.specs.ChoiceLaws.{neither}
use Rattle.lists.specs.Each.{Each, Any, Bytes}
use Rattle.lists.specs.EachLaws.{each_both}
use Rattle.wire.specs.Addresses.{is_reserved, is_listed}
use Rattle.pool.specs.Pools.{member}
use Rattle.pool.specs.Start.{starting_pool, barred_pool}
use Rattle.pool.proofs.StartLaws.{member_starting, member_barred}
use Rattle.pool.specs.declared.Pool.{Pool}
use Rattle.udid.specs.Bytes.{udid_bytes}
use Rattle.udid.proofs.UdidLaws.{movable_first}
use Rattle.udid.specs.declared.Udid.{Udid}
use Rattle.arp.specs.BindingLaws.{bound_in_is}
use Rattle.arbitration.specs.Among.{Among}
use Rattle.slots.specs.Finding.{bound_in}
use Rattle.slots.specs.Slots.{held_at}
use Rattle.slots.specs.declared.Binding.{Binding}
use Rattle.slots.specs.declared.Binding.TheVariants as binding
use Rattle.slots.specs.declared.Slots.{Slots}
use Rattle.targets.specs.Admission.{AdmittedTargets}
use Rattle.targets.specs.AdmissionLaws.{admitted_targets}
use Rattle.targets.specs.Records.{targets_of}
use Rattle.targets.specs.Refusals.{checked_list}
use Rattle.bindings.proofs.BoundLaws.{bound_set_has}
use Rattle.bindings.proofs.BufferLaws.{bytes_there, rest_there, nobody_bytes}
use Rattle.bindings.specs.Entries as entries
use Rattle.rule.specs.AnyLaws.{any_map, any_each, any_constant}
use Rattle.rule.specs.PassEndLaws.{given_free_distinct, given_movable_free, given_among_targets}
use Rattle.rule.specs.PassEnd.{pass_end}
use Rattle.rule.specs.PlainRule.{Given, ruled, FreeIn, MovableFreeIn, Distinct}
use Rattle.rule.specs.ReadingLaws.{bound_given, given_bound, served_once}
use Rattle.rule.specs.Reading.{RecordOf, some_of, is_bound, bound_at, OnePerUdid}
use Rattle.rule.specs.RecordsLaws as records
use Rattle.bus.specs.EndLaws.{entry_bound, leaves_rule}
use Rattle.bus.specs.Run.{Leaves, model_end}
use Rattle.report.specs.Report.{entry_for, entry_of, entry_at}
use Rattle.bindings.specs.declared.answer.ModelAnswer.{ModelAnswer}

bound_some : (h : Binding) → is_bound h ≡ true → (u : Udid) × (h ≡ binding.Bound u)
bound_some h e = go (bound_in h) refl e
  where
    go : (us : List Udid) → bound_in h ≡ us → some_of us ≡ true → (u : Udid) × (h ≡ binding.Bound u)
    go [] q e = zero_is_one (cc e)
    go (u ∷ us) q e = (u, bound_in_is h u us q)

-- ---- whom the plain rule gives which address

module _ (occupied : Pool) (last : ℕ) (s : List ℕ) (bytes : Bytes s) (e : checked_list (barred_pool occupied) s ≡ Ok tt) where
  admitted : AdmittedTargets (barred_pool occupied) (targets_of s)
  admitted = admitted_targets (barred_pool occupied) s bytes e

  -- each is a record of the list
  pub given_in_records : Each (λ (g : Given). (i : ℕ) × (i < length s / 18) × RecordOf s i g) (ruled (starting_pool occupied) last (targets_of s)).given
  given_in_records = records.given_records occupied last s bytes admitted

  -- an address below 128, none of the 21 reserved ones and not occupied; that of a movable target, whose first byte is 64 or more, is not listed
  abbrev Assignable : Given → Type 0
  Assignable g = (g.address < 128) × (is_reserved g.address ≡ false) × (member occupied g.address ≡ false) × (64 ≤ get_or (udid_bytes g.who.udid) 0 0 → is_listed g.address ≡ false)

  pub given_assignable : Each Assignable (ruled (starting_pool occupied) last (targets_of s)).given
  given_assignable =
      each_both (ruled (starting_pool occupied) last (targets_of s)).given at (given_free_distinct occupied last (targets_of s) admitted).0
      (each_both (ruled (starting_pool occupied) last (targets_of s)).given (λ g m n. (m, n)) (given_movable_free occupied last (targets_of s) admitted) (given_among_targets occupied last (targets_of s) admitted))
    where
      at : (g : Given) → FreeIn (barred_pool occupied) g → MovableFreeIn (starting_pool occupied) g × Among g.who (targets_of s) → Assignable g
      at g f m =
          let n = neither (is_reserved g.address) (member occupied g.address) (sym (member_barred occupied g.address) ∙ f.1) in
          (f.0, n.0, n.1, λ h. (neither (is_listed g.address) (member occupied g.address) (sym (member_starting occupied g.address) ∙ m.0 ((movable_first g.who.udid (admitted.sized g.who m.1).udid).1 h))).0)

  -- no two addresses are alike, and each identifier is given one once
  pub given_distinct : Distinct (ruled (starting_pool occupied) last (targets_of s)).given
  given_distinct = (given_free_distinct occupied last (targets_of s) admitted).1

  pub given_once : OnePerUdid (ruled (starting_pool occupied) last (targets_of s)).given
  given_once = served_once occupied last (targets_of s) admitted

-- ---- what the run answers and leaves of it: a list that is not refused, a buffer that is long enough, and what run_model's contract says

module _ (occupied : Pool) (last : ℕ) (small : last < 128) (s b : List ℕ) (bytes : Bytes s) (long : 2048 ≤ length b) (e : checked_list (barred_pool occupied) s ≡ Ok tt) (r : ModelAnswer) (s' b' : List ℕ)
    (l : Leaves (model_end occupied last s b) r s' b') where
  abbrev given : List Given
  given = (ruled (starting_pool occupied) last (targets_of s)).given

  abbrev slots : Slots
  slots = (pass_end occupied last (targets_of s)).now.state.slots

  has_bound : (a : ℕ) → a < 128 → member r.bound a ≡ bound_at slots a
  has_bound a h =
      ap (λ (x : ModelAnswer). member x.bound a) (leaves_rule occupied last small s b bytes long e r s' b' l).answered
      ∙ bound_set_has (entry_at slots) a h ∙ entry_bound (held_at slots a)

  -- an address is in the set answered if and only if it was given
  pub bound_exactly : (a : ℕ) → a < 128 → (member r.bound a ≡ true) ↔ Any (λ (g : Given). g.address ≡ a) given
  bound_exactly a h = (
    λ q. (let w = bound_some (held_at slots a) (sym (has_bound a h) ∙ q) in any_map given (λ g p. p.0) (bound_given occupied last (targets_of s) (admitted occupied last s bytes e) a w.0 w.1)),
    λ q. any_constant given (any_each given (λ g p k. has_bound a h ∙ ap (bound_at slots) (sym p) ∙ ap is_bound k) q (given_bound occupied last (targets_of s) (admitted occupied last s bytes e))),
  )

  buffer_at : (a : ℕ) → a < 128 → take 16 (drop (16 * a) b') ≡ entries.entry_bytes (entry_at slots a)
  buffer_at a h =
      ap (λ (x : List ℕ). take 16 (drop (16 * a) x)) (leaves_rule occupied last small s b bytes long e r s' b' l).bindings_hold
      ∙ bytes_there (entry_at slots) (drop 2048 b) a h

  -- who is bound stands at 16 times the address
  pub bytes_of_bound : Each (λ (g : Given). take 16 (drop (16 * g.address) b') ≡ udid_bytes g.who.udid) given
  bytes_of_bound =
      each_both given (λ g k f. buffer_at g.address f.0 ∙ ap (λ (h : Binding). entries.entry_bytes (entry_of h)) k)
      (given_bound occupied last (targets_of s) (admitted occupied last s bytes e)) (given_free_distinct occupied last (targets_of s) (admitted occupied last s bytes e)).0

  -- zeros where nobody is
  pub bytes_of_free : (a : ℕ) → a < 128 → (Any (λ (g : Given). g.address ≡ a) given → ⊥) → take 16 (drop (16 * a) b') ≡ replicate 16 0
  bytes_of_free a h n = buffer_at a h ∙ ap entries.entry_bytes (go (bound_in (held_at slots a)) refl) ∙ nobody_bytes
    where
      go : (us : List Udid) → bound_in (held_at slots a) ≡ us → entry_for us ≡ None
      go [] q = refl
      go (u ∷ us) q = absurd (n (any_map given (λ g p. p.0) (bound_given occupied last (targets_of s) (admitted occupied last s bytes e) a u (bound_in_is (held_at slots a) u us q))))

  -- all after 2,048 bytes as it was
  pub bytes_after_kept : drop 2048 b' ≡ drop 2048 b
  bytes_after_kept = ap (drop 2048) (leaves_rule occupied last small s b bytes long e r s' b' l).bindings_hold ∙ rest_there (entry_at slots) (drop 2048 b)
