-- What a pass leaves in the records, byte by byte: which two bytes of a record it changes, by whether its target was given an address.
use Rattle.std.specs.Prelude.{ℕ, ◌+◌, ◌*◌, ◌/◌, ◌%◌, ◌<◌, ◌≡◌, refl, List, [], ◌∷◌, length, take, drop}
use Rattle.std.proofs.Common.{sym, ◌∙◌, inl, inr, mod-eq_of_lt}
use Rattle.std.proofs.Math.Path.{ap}
use Rattle.std.proofs.Math.Bool.{false}
use native.Mathlib.Omega.{arith}
use Rattle.std.proofs.Math.ListN.{get_or}
use Rattle.lists.specs.Each.{Each, Any, Bytes}
use Rattle.lists.specs.EachLaws.{each_map, each_both}
use Rattle.pool.specs.Start.{starting_pool, barred_pool}
use Rattle.pool.specs.declared.Pool.{Pool}
use Rattle.udid.specs.Bytes.{udid_bytes}
use Rattle.udid.specs.Udids.{same_udid}
use Rattle.udid.proofs.UdidLaws.{bytes_back, same_bytes, other_udid}
use Rattle.arbitration.specs.Among.{Among}
use Rattle.targets.specs.Admission.{AdmittedTargets}
use Rattle.targets.specs.Change.{Changed}
use Rattle.targets.specs.ChangeLaws.{changed_exactly}
use Rattle.targets.specs.IndexLaws.{target_has_record, sized_at}
use Rattle.targets.specs.Records.{target_at, targets_from, record_count, targets_of, records_with}
use Rattle.targets.specs.RecordLaws.{length_put_from, changed_targets, assigned_keeps_udid}
use Rattle.targets.specs.Target.{Target, map_targets, prepared, assigned_to}
use Rattle.rule.specs.PassEndLaws.{given_free_distinct, given_among_targets}
use Rattle.rule.specs.PassEnd.{pass_end}
use Rattle.rule.specs.PlainRule.{Given, ruled, FreeIn}
use Rattle.rule.specs.ReadingLaws.{end_targets, unserved_stays, served_takes_address}
use Rattle.rule.specs.Reading.{RecordOf, served_by, taken, TakenBy}

served_keeps : (gs : List Given) (t : Target) → (served_by gs t).udid ≡ t.udid
served_keeps [] t = refl
served_keeps (g ∷ gs) t = served_keeps gs (assigned_to g.who.udid g.address t) ∙ assigned_keeps_udid g.who.udid g.address t

-- the identifier of a record by its bytes
record_bytes : (s : List ℕ) (i : ℕ) → Bytes s → i < length s / 18 → take 16 (drop (18 * i) s) ≡ udid_bytes (target_at s i).udid
unfolding target_at
record_bytes s i b h =
    let e : 18 * i ≡ i * 18 = omega arith in
    ap (λ (k : ℕ). take 16 (drop k s)) e ∙ sym (bytes_back s (i * 18) b (omega arith))

not_any : {P Q : Given → Type 0} (gs : List Given) → ((g : Given) → (P g → ⊥) → Q g) → (Any P gs → ⊥) → Each Q gs
not_any [] f n = tt
not_any (g ∷ gs) f n = (f g (λ p. n (inl p)), not_any gs f (λ p. n (inr p)))

module _ (occupied : Pool) (last : ℕ) (s : List ℕ) (b : Bytes s) (v : AdmittedTargets (barred_pool occupied) (targets_of s)) where
  abbrev given : List Given
  given = (ruled (starting_pool occupied) last (targets_of s)).given

  -- the records as the pass leaves them
  abbrev after : List ℕ
  after = records_with (pass_end occupied last (targets_of s)).targets s

  changed : Changed (λ (t : Target). served_by given (prepared t)) s after
  changed = (changed_exactly (λ (t : Target). served_by given (prepared t)) (λ t. served_keeps given (prepared t)) s after).0
      (ap (λ (ts : List Target). records_with ts s) (end_targets occupied last (targets_of s)))

  pub same_length : length after ≡ length s
  same_length = changed.same_length

  -- each who was given an address is a record of the list
  pub given_records : Each (λ (g : Given). (i : ℕ) × (i < length s / 18) × RecordOf s i g) given
  given_records = each_map given at (given_among_targets occupied last (targets_of s) v)
    where
      at : (g : Given) → Among g.who (targets_of s) → (i : ℕ) × (i < length s / 18) × RecordOf s i g
      at g m =
          let r = target_has_record s (record_count s) 0 g.who m in
          let h : r.0 < length s / 18 = omega (arith, r.2) in
          (r.0, h, record_bytes s r.0 b h ∙ ap (λ (t : Target). udid_bytes t.udid) r.3)

  last_two_bytes : (i : ℕ) → i < length s / 18 → (t : Target) → served_by given (prepared (target_at s i)) ≡ t
      → (get_or after (18 * i + 16) 0 ≡ t.address_byte) × (get_or after (18 * i + 17) 0 ≡ t.flag)
  unfolding target_at
  last_two_bytes i h t e =
      let a : 18 * i + 16 ≡ i * 18 + 16 = omega arith in
      let f : 18 * i + 17 ≡ i * 18 + 17 = omega arith in (
        ap (λ (k : ℕ). get_or after k 0) a ∙ ap (λ (x : Target). x.address_byte) (changed.records i h ∙ e),
        ap (λ (k : ℕ). get_or after k 0) f ∙ ap (λ (x : Target). x.flag) (changed.records i h ∙ e),
      )

  -- A RECORD WHOSE TARGET IS BOUND ends with twice its address plus 1, and flag 1
  pub bound_record : (i : ℕ) → i < length s / 18
      → Each (λ (g : Given). RecordOf s i g → (get_or after (18 * i + 16) 0 ≡ 2 * g.address + 1) × (get_or after (18 * i + 17) 0 ≡ 1)) given
  bound_record i h =
      each_both given (λ g f. f) (each_both given at (given_free_distinct occupied last (targets_of s) v).0 (given_among_targets occupied last (targets_of s) v)) (served_takes_address occupied last (targets_of s) v (target_at s i))
    where
      at : (g : Given) → FreeIn (barred_pool occupied) g → Among g.who (targets_of s) → TakenBy given (prepared (target_at s i)) g → RecordOf s i g
          → (get_or after (18 * i + 16) 0 ≡ 2 * g.address + 1) × (get_or after (18 * i + 17) 0 ≡ 1)
      at g f m t r =
          let u : (target_at s i).udid ≡ g.who.udid = (same_bytes (target_at s i).udid g.who.udid (sized_at s b i).udid (v.sized g.who m).udid).0 (sym (record_bytes s i b h) ∙ r) in
          let l = last_two_bytes i h (taken (prepared (target_at s i)) g.address) (t u) in
          (l.0 ∙ ap (λ (a : ℕ). 2 * a + 1) (mod-eq_of_lt f.0), l.1)

  -- EVERY OTHER RECORD keeps its address byte, and has flag 0
  pub other_record : (i : ℕ) → i < length s / 18 → (Any (RecordOf s i) given → ⊥)
      → (get_or after (18 * i + 16) 0 ≡ get_or s (18 * i + 16) 0) × (get_or after (18 * i + 17) 0 ≡ 0)
  unfolding target_at
  other_record i h n =
      let e : 18 * i + 16 ≡ i * 18 + 16 = omega arith in
      let l = last_two_bytes i h (prepared (target_at s i)) (unserved_stays given (prepared (target_at s i)) (not_any given at n)) in
      (l.0 ∙ ap (λ (k : ℕ). get_or s k 0) (sym e), l.1)
    where
      at : (g : Given) → (RecordOf s i g → ⊥) → same_udid (target_at s i).udid g.who.udid ≡ false
      at g q = other_udid (target_at s i).udid g.who.udid (λ u. q (record_bytes s i b h ∙ ap udid_bytes u))

  -- NO OTHER BYTE of the list changes
  pub other_bytes : (j : ℕ) → j % 18 < 16 → get_or after j 0 ≡ get_or s j 0
  other_bytes j h = changed.others j (λ i l. (λ e. omega (arith, e), λ e. omega (arith, e)))

-- the records that the pass leaves are those of its targets
pub end_targets_stored : (occupied : Pool) (last : ℕ) (s : List ℕ) → targets_of (records_with (pass_end occupied last (targets_of s)).targets s) ≡ (pass_end occupied last (targets_of s)).targets
end_targets_stored occupied last s =
    let f : Target → Target = λ t. served_by (ruled (starting_pool occupied) last (targets_of s)).given (prepared t) in
    let e : (pass_end occupied last (targets_of s)).targets ≡ map_targets f (targets_of s) = end_targets occupied last (targets_of s) in
    let n : record_count (records_with (map_targets f (targets_of s)) s) ≡ record_count s = ap (λ (k : ℕ). k / 18) (length_put_from (map_targets f (targets_of s)) 0 s) in
    ap (λ (ts : List Target). targets_of (records_with ts s)) e
    ∙ ap (λ (k : ℕ). targets_from (records_with (map_targets f (targets_of s)) s) k 0) n
    ∙ changed_targets f (λ t. served_keeps (ruled (starting_pool occupied) last (targets_of s)).given (prepared t)) (record_count s) 0 s (omega arith)
    ∙ sym e
