-- Records against targets: what a store changes and what it leaves.
use Rattle.std.specs.Prelude.{ℕ, zero, suc, ◌+◌, ◌*◌, ◌%◌, ◌≤◌, ◌<◌, ◌≡◌, refl, Bool, true, false, List, [], ◌∷◌, length, get_or, set}
use Rattle.std.proofs.Common.{sym, ap, ap₂, ◌∙◌, arith, length-set, get_or-set_same, get_or-set_other, set-set}
use Rattle.std.proofs.lemmas.List.{set-get_or, set_comm}
use Rattle.lists.specs.Choice.{pick}
use Rattle.udid.specs.Bytes.{number, bytes_from, udid_at}
use Rattle.udid.specs.Udids.{same_udid}
use Rattle.udid.specs.declared.Udid.{Udid}
use Rattle.targets.specs.Target.{Target, map_targets, prepared, assigned_to}
use Rattle.targets.specs.Records.{udid_of, address_byte, flag_of, target_at, targets_from, put_target, put_from}

-- ---- one record stored

-- a byte that is neither the address byte nor the flag of record i
pub put_keeps_byte : (i : ℕ) (t : Target) (s : List ℕ) (k : ℕ) → (k ≡ i * 18 + 16 → ⊥) → (k ≡ i * 18 + 17 → ⊥) → get_or (put_target i t s) k 0 ≡ get_or s k 0
unfolding put_target
put_keeps_byte i t s k a b = get_or-set_other (set s (i * 18 + 16) t.address_byte) (i * 18 + 17) k _ 0 b ∙ get_or-set_other s (i * 18 + 16) k t.address_byte 0 a

-- bytes that agree are read alike
from_agree : (n : ℕ) (s s' : List ℕ) (k : ℕ) → ((m : ℕ) → k ≤ m → m < k + n → get_or s' m 0 ≡ get_or s m 0) → bytes_from s' k n ≡ bytes_from s k n
unfolding bytes_from
from_agree zero s s' k h = refl
from_agree (suc n) s s' k h = ap₂ ◌∷◌ (h k (omega arith) (omega arith)) (from_agree n s s' (suc k) (λ m a b. h m (omega arith) (omega arith)))

-- no identifier changes
pub put_keeps_udid : (i : ℕ) (t : Target) (s : List ℕ) (j : ℕ) → udid_of (put_target i t s) j ≡ udid_of s j
unfolding udid_at
put_keeps_udid i t s j =
    let a : bytes_from (put_target i t s) (j * 18) 8 ≡ bytes_from s (j * 18) 8 =
    from_agree 8 s (put_target i t s) (j * 18) (λ m h l. put_keeps_byte i t s m (λ e. omega (arith, e)) (λ e. omega (arith, e))) in
    let b : bytes_from (put_target i t s) (j * 18 + 8) 8 ≡ bytes_from s (j * 18 + 8) 8 =
    from_agree 8 s (put_target i t s) (j * 18 + 8) (λ m h l. put_keeps_byte i t s m (λ e. omega (arith, e)) (λ e. omega (arith, e))) in
    λ k. record { high = number (a k); low = number (b k) }

-- the other records stay
pub put_keeps_other : (i : ℕ) (t : Target) (s : List ℕ) (j : ℕ) → (j ≡ i → ⊥) → target_at (put_target i t s) j ≡ target_at s j
unfolding target_at
put_keeps_other i t s j n =
    let a : address_byte (put_target i t s) j ≡ address_byte s j = put_keeps_byte i t s (j * 18 + 16) (λ e. n (omega (arith, e))) (λ e. omega (arith, e)) in
    let b : flag_of (put_target i t s) j ≡ flag_of s j = put_keeps_byte i t s (j * 18 + 17) (λ e. omega (arith, e)) (λ e. n (omega (arith, e))) in
    λ k. record { udid = put_keeps_udid i t s j k; address_byte = a k; flag = b k }

-- record i has the target's address byte and flag
pub put_takes : (i : ℕ) (t : Target) (s : List ℕ) → i * 18 + 18 ≤ length s → t.udid ≡ udid_of s i → target_at (put_target i t s) i ≡ t
unfolding target_at put_target
put_takes i t s h e =
    let p : List ℕ = set s (i * 18 + 16) t.address_byte in
    let a : address_byte (put_target i t s) i ≡ t.address_byte =
    get_or-set_other p (i * 18 + 17) (i * 18 + 16) _ 0 (λ q. omega (arith, q)) ∙ get_or-set_same s (i * 18 + 16) t.address_byte 0 (omega arith) in
    let b : flag_of (put_target i t s) i ≡ t.flag =
    get_or-set_same p (i * 18 + 17) _ 0 (omega (arith, length-set s (i * 18 + 16) t.address_byte)) in
    λ k. record { udid = (put_keeps_udid i t s i ∙ sym e) k; address_byte = a k; flag = b k }

-- storing what stands there changes nothing
pub put_self : (i : ℕ) (s : List ℕ) → put_target i (target_at s i) s ≡ s
unfolding put_target target_at
put_self i s = ap (λ (x : List ℕ). set x (i * 18 + 17) (flag_of s i)) (set-get_or s (i * 18 + 16) 0) ∙ set-get_or s (i * 18 + 17) 0

pub put_prepared : (i : ℕ) (s : List ℕ) → put_target i (prepared (target_at s i)) s ≡ set s (i * 18 + 17) 0
unfolding put_target target_at
put_prepared i s = ap (λ (x : List ℕ). set x (i * 18 + 17) 0) (set-get_or s (i * 18 + 16) 0)

pub length_put : (i : ℕ) (t : Target) (s : List ℕ) → length (put_target i t s) ≡ length s
unfolding put_target
length_put i t s = simp length-set

-- ---- several

pub length_put_from : (ts : List Target) (i : ℕ) (s : List ℕ) → length (put_from ts i s) ≡ length s
length_put_from [] i s = refl
length_put_from (t ∷ ts) i s = length_put_from ts (suc i) (put_target i t s) ∙ length_put i t s

later_targets : (n i j : ℕ) (t : Target) (s : List ℕ) → i < j → targets_from (put_target i t s) n j ≡ targets_from s n j
later_targets zero i j t s h = refl
later_targets (suc n) i j t s h = ap₂ ◌∷◌ (put_keeps_other i t s j (λ e. omega (arith, e))) (later_targets n i (suc j) t s (omega arith))

-- one record more of a change to all
pub change_one_more : (f : Target → Target) (n i : ℕ) (s : List ℕ)
    → put_from (map_targets f (targets_from s (suc n) i)) i s ≡ put_from (map_targets f (targets_from (put_target i (f (target_at s i)) s) n (suc i))) (suc i) (put_target i (f (target_at s i)) s)
change_one_more f n i s =
    ap (λ (x : List Target). put_from (map_targets f x) (suc i) (put_target i (f (target_at s i)) s)) (sym (later_targets n i (suc i) (f (target_at s i)) s (omega arith)))

before_put : (ts : List Target) (i : ℕ) (s : List ℕ) (j : ℕ) → j < i → target_at (put_from ts i s) j ≡ target_at s j
before_put [] i s j h = refl
before_put (t ∷ ts) i s j h = before_put ts (suc i) (put_target i t s) j (omega arith) ∙ put_keeps_other i t s j (λ e. omega (arith, e))

-- the targets of the records in which all were changed
pub changed_targets : (f : Target → Target) → ((t : Target) → (f t).udid ≡ t.udid) → (n i : ℕ) (s : List ℕ) → (i + n) * 18 ≤ length s
    → targets_from (put_from (map_targets f (targets_from s n i)) i s) n i ≡ map_targets f (targets_from s n i)
unfolding target_at
changed_targets f keeps zero i s h = refl
changed_targets f keeps (suc n) i s h =
    let t = f (target_at s i) in
    let s' = put_target i t s in
    let e = change_one_more f n i s in
    ap (λ (x : List ℕ). target_at x i ∷ targets_from x n (suc i)) e
    ∙ ap₂ ◌∷◌
    (before_put (map_targets f (targets_from s' n (suc i))) (suc i) s' i (omega arith) ∙ put_takes i t s (omega arith) (keeps (target_at s i) ∙ at_udid s i))
    (changed_targets f keeps n (suc i) s' (omega (arith, length_put i t s)) ∙ ap (map_targets f) (later_targets n i (suc i) t s (omega arith)))
  where
    at_udid : (s : List ℕ) (i : ℕ) → (target_at s i).udid ≡ udid_of s i
    at_udid s i = refl

-- ---- storing all, and again

-- storing what stands there changes nothing
pub put_all_self : (n i : ℕ) (s : List ℕ) → put_from (targets_from s n i) i s ≡ s
put_all_self zero i s = refl
put_all_self (suc n) i s = ap (put_from (targets_from s n (suc i)) (suc i)) (put_self i s) ∙ put_all_self n (suc i) s

put_comm : (i j : ℕ) (t u : Target) (s : List ℕ) → (i ≡ j → ⊥) → put_target i t (put_target j u s) ≡ put_target j u (put_target i t s)
unfolding put_target
put_comm i j t u s n =
    ap (λ (l : List ℕ). set l (i * 18 + 17) t.flag) (set_comm (set s (j * 18 + 16) u.address_byte) (j * 18 + 17) (i * 18 + 16) u.flag t.address_byte (λ e. omega (arith, e))
    ∙ ap (λ (l : List ℕ). set l (j * 18 + 17) u.flag) (set_comm s (j * 18 + 16) (i * 18 + 16) u.address_byte t.address_byte (λ e. n (omega (arith, e)))))
    ∙ set_comm (set (set s (i * 18 + 16) t.address_byte) (j * 18 + 16) u.address_byte) (j * 18 + 17) (i * 18 + 17) u.flag t.flag (λ e. n (omega (arith, e)))
    ∙ ap (λ (l : List ℕ). set l (j * 18 + 17) u.flag) (set_comm (set s (i * 18 + 16) t.address_byte) (j * 18 + 16) (i * 18 + 17) u.address_byte t.flag (λ e. omega (arith, e)))

put_twice : (i : ℕ) (t u : Target) (s : List ℕ) → put_target i t (put_target i u s) ≡ put_target i t s
unfolding put_target
put_twice i t u s =
    ap (λ (l : List ℕ). set l (i * 18 + 17) t.flag)
    (set_comm (set s (i * 18 + 16) u.address_byte) (i * 18 + 17) (i * 18 + 16) u.flag t.address_byte (λ e. omega (arith, e))
    ∙ ap (λ (l : List ℕ). set l (i * 18 + 17) u.flag) (set-set s (i * 18 + 16) u.address_byte t.address_byte))
    ∙ set-set (set s (i * 18 + 16) t.address_byte) (i * 18 + 17) u.flag t.flag

put_before : (ts : List Target) (j i : ℕ) (t : Target) (s : List ℕ) → i < j → put_target i t (put_from ts j s) ≡ put_from ts j (put_target i t s)
put_before [] j i t s h = refl
put_before (u ∷ ts) j i t s h = put_before ts (suc j) i t (put_target j u s) (omega arith) ∙ ap (put_from ts (suc j)) (put_comm i j t u s (λ e. omega (arith, e)))

-- the later store decides
pub put_again : (ts us : List Target) (i : ℕ) (s : List ℕ) → length us ≡ length ts → put_from ts i (put_from us i s) ≡ put_from ts i s
put_again [] [] i s e = refl
put_again [] (u ∷ us) i s e = absurd (omega arith)
put_again (t ∷ ts) [] i s e = absurd (omega arith)
put_again (t ∷ ts) (u ∷ us) i s e =
    ap (put_from ts (suc i)) (put_before us (suc i) i t (put_target i u s) (omega arith) ∙ ap (put_from us (suc i)) (put_twice i t u s))
    ∙ put_again ts us (suc i) (put_target i t s) (omega arith)

pub put_from_keeps_udid : (ts : List Target) (i : ℕ) (s : List ℕ) (j : ℕ) → udid_of (put_from ts i s) j ≡ udid_of s j
put_from_keeps_udid [] i s j = refl
put_from_keeps_udid (t ∷ ts) i s j = put_from_keeps_udid ts (suc i) (put_target i t s) j ∙ put_keeps_udid i t s j

pub length_map : (f : Target → Target) (ts : List Target) → length (map_targets f ts) ≡ length ts
length_map f [] = refl
length_map f (t ∷ ts) = ap suc (length_map f ts)

pub prepared_keeps_udid : (t : Target) → (prepared t).udid ≡ t.udid
prepared_keeps_udid t = refl

pub assigned_keeps_udid : (u : Udid) (a : ℕ) (t : Target) → (assigned_to u a t).udid ≡ t.udid
assigned_keeps_udid u a t = go (same_udid t.udid u)
  where
    go : (b : Bool) → (pick b (record { udid = t.udid; address_byte = 2 * (a % 128) + 1; flag = 1 }) t).udid ≡ t.udid
    go true = refl
    go false = refl
