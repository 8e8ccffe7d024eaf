-- What Prepare To ARP and Assign Address do to the records, read off their bytes, and that nothing else meets it.
use Rattle.std.specs.Prelude.{ℕ, zero, suc, ◌+◌, ◌*◌, ◌/◌, ◌%◌, ◌≤◌, ◌<◌, ◌≡◌, refl, Bool, true, false, ◌↔◌, List, [], ◌∷◌, length, get_or}
use Rattle.std.proofs.Math.Path.{sym, ap}
use Rattle.std.proofs.Common.{◌∙◌, subst, mod-eq_of_lt, arith, lt-ltb, le-ltb}
use Rattle.std.proofs.Math.Decide.{ℕ_discrete, dec_lt}
use Rattle.std.proofs.Math.Seq.{ext_get_or}
use Rattle.lists.specs.Choice.{pick}
use Rattle.udid.specs.Udids.{same_udid}
use Rattle.udid.specs.declared.Udid.{Udid}
use Rattle.targets.specs.Target.{Target, prepared, assigned_to, map_targets, cleared, resolve}
use Rattle.targets.specs.Records.{address_byte, flag_of, target_at, targets_from, record_count, targets_of, put_target, put_from, records_with, assigned_in}
use Rattle.targets.specs.RecordLaws.{put_keeps_byte, length_put_from, changed_targets, prepared_keeps_udid, assigned_keeps_udid}
use Rattle.targets.specs.Change.{Elsewhere, Changed, FlagsCleared, Assigned}

other_bytes : (ts : List Target) (i : ℕ) (s : List ℕ) (k : ℕ) → ((j : ℕ) → i ≤ j → j < i + length ts → Elsewhere k j) → get_or (put_from ts i s) k 0 ≡ get_or s k 0
other_bytes [] i s k h = refl
other_bytes (t ∷ ts) i s k h =
    let e = h i (omega arith) (omega arith) in
    other_bytes ts (suc i) (put_target i t s) k (λ j a b. h j (omega arith) (omega arith)) ∙ put_keeps_byte i t s k e.0 e.1

at_index : (f : Target → Target) (s t : List ℕ) (n i : ℕ) → targets_from t n i ≡ map_targets f (targets_from s n i) → (j : ℕ) → i ≤ j → j < i + n → target_at t j ≡ f (target_at s j)
at_index f s t zero i e j a b = absurd (omega arith)
at_index f s t (suc n) i e j a b = go (ℕ_discrete i j) (λ c d. at_index f s t n (suc i) (cc e) j c d)
  where
    head : target_at t i ≡ f (target_at s i)
    head = cc e

    go : Dec (i ≡ j) → (suc i ≤ j → j < suc i + n → target_at t j ≡ f (target_at s j)) → target_at t j ≡ f (target_at s j)
    go (yes q) ih = subst (λ (x : ℕ). target_at t x ≡ f (target_at s x)) q head
    go (no q) ih = ih (omega arith) (omega arith)

length_changed : (f : Target → Target) (s : List ℕ) (n i : ℕ) → length (map_targets f (targets_from s n i)) ≡ n
length_changed f s zero i = refl
length_changed f s (suc n) i = ap suc (length_changed f s n (suc i))

module _ (f : Target → Target) (keeps : (t : Target) → (f t).udid ≡ t.udid) (s : List ℕ) where
  changed_holds : Changed f s (records_with (map_targets f (targets_of s)) s)
  changed_holds = record {
    same_length = length_put_from (map_targets f (targets_of s)) 0 s;
    records = λ i h. at_index f s (records_with (map_targets f (targets_of s)) s) (record_count s) 0 (changed_targets f keeps (record_count s) 0 s (omega arith)) i (omega arith) (omega arith);
    others = λ k h. other_bytes (map_targets f (targets_of s)) 0 s k (λ j a b. h j (omega (arith, length_changed f s (record_count s) 0)));
  }

  -- two lists that are so are equal
  changed_unique : (t u : List ℕ) → Changed f s t → Changed f s u → t ≡ u
  unfolding target_at
  changed_unique t u c d = ext_get_or 0 t u (c.same_length ∙ sym d.same_length) (λ k h. go k (dec_lt (k / 18) (record_count s)) (ℕ_discrete (k % 18) 16) (ℕ_discrete (k % 18) 17))
    where
      address : (i : ℕ) → i < record_count s → address_byte t i ≡ address_byte u i
      address i l = ap (λ (x : Target). x.address_byte) (c.records i l ∙ sym (d.records i l))

      flag : (i : ℕ) → i < record_count s → flag_of t i ≡ flag_of u i
      flag i l = ap (λ (x : Target). x.flag) (c.records i l ∙ sym (d.records i l))

      apart : (k : ℕ) → ((i : ℕ) → i < record_count s → Elsewhere k i) → get_or t k 0 ≡ get_or u k 0
      apart k h = c.others k h ∙ sym (d.others k h)

      go : (k : ℕ) → Dec (k / 18 < record_count s) → Dec (k % 18 ≡ 16) → Dec (k % 18 ≡ 17) → get_or t k 0 ≡ get_or u k 0
      go k (no l) p q = apart k (λ i h. (λ e. l (omega (arith, e)), λ e. l (omega (arith, e))))
      go k (yes l) (yes p) q =
          let e : k ≡ k / 18 * 18 + 16 = omega arith in
          ap (λ (x : ℕ). get_or t x 0) e ∙ address (k / 18) l ∙ ap (λ (x : ℕ). get_or u x 0) (sym e)
      go k (yes l) (no p) (yes q) =
          let e : k ≡ k / 18 * 18 + 17 = omega arith in
          ap (λ (x : ℕ). get_or t x 0) e ∙ flag (k / 18) l ∙ ap (λ (x : ℕ). get_or u x 0) (sym e)
      go k (yes l) (no p) (no q) = apart k (λ i h. (λ e. p (omega (arith, e)), λ e. q (omega (arith, e))))

  pub changed_exactly : (t : List ℕ) → (t ≡ records_with (map_targets f (targets_of s)) s) ↔ Changed f s t
  changed_exactly t = (λ e. subst (Changed f s) (sym e) changed_holds, λ c. changed_unique t (records_with (map_targets f (targets_of s)) s) c changed_holds)

cleared_unique : (s t u : List ℕ) → FlagsCleared s t → FlagsCleared s u → t ≡ u
cleared_unique s t u c d = ext_get_or 0 t u (c.same_length ∙ sym d.same_length) (λ k h. go k (dec_lt (k / 18) (length s / 18)) (ℕ_discrete (k % 18) 17))
  where
    apart : (k : ℕ) → ((i : ℕ) → i < length s / 18 → k ≡ 18 * i + 17 → ⊥) → get_or t k 0 ≡ get_or u k 0
    apart k n = c.others k n ∙ sym (d.others k n)

    go : (k : ℕ) → Dec (k / 18 < length s / 18) → Dec (k % 18 ≡ 17) → get_or t k 0 ≡ get_or u k 0
    go k (no l) q = apart k (λ i h e. l (omega (arith, e)))
    go k (yes l) (no q) = apart k (λ i h e. q (omega (arith, e)))
    go k (yes l) (yes q) =
        let e : k ≡ 18 * (k / 18) + 17 = omega arith in
        ap (λ (x : ℕ). get_or t x 0) e ∙ c.flags (k / 18) l ∙ sym (d.flags (k / 18) l) ∙ ap (λ (x : ℕ). get_or u x 0) (sym e)

cleared_bytes : (s t : List ℕ) → Changed prepared s t → FlagsCleared s t
unfolding target_at
cleared_bytes s t c = record {
  same_length = c.same_length;
  flags = λ i h. ap (λ (x : ℕ). get_or t x 0) (turned i 17) ∙ ap (λ (x : Target). x.flag) (c.records i h);
  others = λ k n. go k n (dec_lt (k / 18) (length s / 18)) (ℕ_discrete (k % 18) 16);
}
  where
    turned : (i m : ℕ) → 18 * i + m ≡ i * 18 + m
    turned i m = omega arith

    apart : (k : ℕ) → ((i : ℕ) → i < length s / 18 → k ≡ 18 * i + 17 → ⊥) → ((i : ℕ) → i < length s / 18 → k ≡ i * 18 + 16 → ⊥) → get_or t k 0 ≡ get_or s k 0
    apart k n m = c.others k (λ i h. (m i h, λ e. n i h (e ∙ sym (turned i 17))))

    go : (k : ℕ) → ((i : ℕ) → i < length s / 18 → k ≡ 18 * i + 17 → ⊥) → Dec (k / 18 < length s / 18) → Dec (k % 18 ≡ 16) → get_or t k 0 ≡ get_or s k 0
    go k n (no l) q = apart k n (λ i h e. l (omega (arith, h, e)))
    go k n (yes l) (no q) = apart k n (λ i h e. q (omega (arith, e)))
    go k n (yes l) (yes q) =
        let e : k ≡ k / 18 * 18 + 16 = omega arith in
        ap (λ (x : ℕ). get_or t x 0) e ∙ ap (λ (x : Target). x.address_byte) (c.records (k / 18) l) ∙ ap (λ (x : ℕ). get_or s x 0) (sym e)

cleared_holds : (s : List ℕ) → FlagsCleared s (records_with (cleared (targets_of s)) s)
cleared_holds s = cleared_bytes s (records_with (cleared (targets_of s)) s) ((changed_exactly prepared prepared_keeps_udid s (records_with (cleared (targets_of s)) s)).0 refl)

-- PREPARE CLEARS THE FLAG OF EVERY RECORD, and nothing else changes
pub prepared_exactly : (s t : List ℕ) → (t ≡ records_with (cleared (targets_of s)) s) ↔ FlagsCleared s t
prepared_exactly s t = (λ e. subst (FlagsCleared s) (sym e) (cleared_holds s), λ c. cleared_unique s t (records_with (cleared (targets_of s)) s) c (cleared_holds s))

-- the two cases of Assign
pub assigned_above : (u : Udid) (a : ℕ) (s : List ℕ) → 127 < a → assigned_in u a s ≡ s
assigned_above u a s h = rw (lt-ltb 127 a h)

pub assigned_below : (u : Udid) (a : ℕ) (s : List ℕ) → a ≤ 127 → assigned_in u a s ≡ records_with (resolve u a (targets_of s)) s
assigned_below u a s h = rw (le-ltb 127 a h)

-- ASSIGN REACHES THE TARGETS WITH THAT IDENTIFIER, and with a number above 127 none; nothing else changes
pub assigned_exactly : (u : Udid) (a : ℕ) (s t : List ℕ) → (t ≡ assigned_in u a s) ↔ Assigned u a s t
assigned_exactly u a s t = (
  λ e. record {
    above_127 = λ h. e ∙ assigned_above u a s h;
    taken = λ h. (changed_exactly (assigned_to u a) (assigned_keeps_udid u a) s t).0 (e ∙ assigned_below u a s h);
  },
  λ c. back c (dec_lt 127 a),
)
  where
    back : Assigned u a s t → Dec (127 < a) → t ≡ assigned_in u a s
    back c (yes h) = c.above_127 h ∙ sym (assigned_above u a s h)
    back c (no h) =
        (changed_exactly (assigned_to u a) (assigned_keeps_udid u a) s t).1 (c.taken (omega arith)) ∙ sym (assigned_below u a s (omega arith))

-- what a target takes: twice the address plus 1, and flag 1; a target with another identifier stays
pub takes_address : (u : Udid) (a : ℕ) (t : Target) → a ≤ 127 → same_udid t.udid u ≡ true → assigned_to u a t ≡ record { udid = t.udid; address_byte = 2 * a + 1; flag = 1 }
takes_address u a t h e =
    ap (λ (b : Bool). pick b (record { udid = t.udid; address_byte = 2 * (a % 128) + 1; flag = 1 }) t) e
    ∙ ap (λ (n : ℕ). record { udid = t.udid; address_byte = 2 * n + 1; flag = 1 }) (mod-eq_of_lt (omega arith))

pub others_stay : (u : Udid) (a : ℕ) (t : Target) → same_udid t.udid u ≡ false → assigned_to u a t ≡ t
others_stay u a t e = ap (λ (b : Bool). pick b (record { udid = t.udid; address_byte = 2 * (a % 128) + 1; flag = 1 }) t) e
