-- What the binding buffer holds: the identifier of address a at 16 a, zeros where none is bound, and after its 2,048 bytes what was there.
use Rattle.std.specs.Prelude.{ℕ, zero, suc, ◌+◌, ◌*◌, ◌-◌, ◌≤◌, ◌<◌, ◌≡◌, refl, ◌↔◌, List, [], ◌++◌, length, take, drop, replicate, Option, None}
use Rattle.std.proofs.Common.{sym, ap, ap₂, ◌∙◌, append_assoc, append-nil, add-zero, arith, length-append, length-drop, take-append-drop, take_at, take-add, drop_at, drop-drop, lt-ltb, le-ltb}
use Rattle.udid.specs.Bytes.{bytes_of, udid_bytes, udid_at, put_at}
use Rattle.udid.specs.Udids.{Fits}
use Rattle.udid.proofs.UdidLaws.{length_udid, udid_back}
use Rattle.udid.proofs.WindowLaws.{put_fits}
use Rattle.udid.specs.declared.Udid.{Udid}
use Rattle.bindings.specs.Entries.{buffer_size, entry_udid, entry_bytes, put_entry, read_udid, rows_of, buffer_of}

pub length_entry : (e : Option Udid) → length (entry_bytes e) ≡ 16
length_entry e = length_udid (entry_udid e)

-- ---- one entry written and read: with a number above 127 nothing changes and zeros are read; with an address, at 16 times it

pub put_above : (l : List ℕ) (a : ℕ) (e : Option Udid) → 127 < a → put_entry l a e ≡ l
put_above l a e h = rw (lt-ltb 127 a h)

pub put_below : (l : List ℕ) (a : ℕ) (e : Option Udid) → a ≤ 127 → put_entry l a e ≡ put_at l (16 * a) (entry_bytes e)
put_below l a e h = rw (le-ltb 127 a h)

pub read_above : (l : List ℕ) (a : ℕ) → 127 < a → read_udid l a ≡ record { high = 0; low = 0 }
read_above l a h = rw (lt-ltb 127 a h)

pub read_below : (l : List ℕ) (a : ℕ) → a ≤ 127 → read_udid l a ≡ udid_at l (16 * a)
read_below l a h = rw (le-ltb 127 a h)

-- sixteen zeros
pub nobody_bytes : entry_bytes None ≡ replicate 16 0
unfolding udid_bytes bytes_of
nobody_bytes = refl

pub length_rows : (held : ℕ → Option Udid) (n : ℕ) → length (rows_of held n) ≡ n * 16
unfolding rows_of
length_rows held zero = refl
length_rows held (suc n) = length-append (rows_of held n) (entry_bytes (held n)) ∙ omega (arith, length_rows held n, length_entry (held n))

-- ---- one address after the other is written

pub rows_none : (held : ℕ → Option Udid) (l : List ℕ) → l ≡ rows_of held 0 ++ drop 0 l
unfolding rows_of
rows_none held l = refl

pub rows_more : (held : ℕ → Option Udid) (n : ℕ) (old now : List ℕ) → buffer_size ≤ length old → n < 128 → now ≡ rows_of held n ++ drop (n * 16) old
    → put_entry now n (held n) ≡ rows_of held (suc n) ++ drop (suc n * 16) old
unfolding rows_of
rows_more held n old now h l e =
    let r : length (rows_of held n) ≡ 16 * n = omega (arith, length_rows held n) in
    let k : length (entry_bytes (held n)) ≡ 16 = length_entry (held n) in
    let m : n * 16 + length (entry_bytes (held n)) ≡ suc n * 16 = omega arith in
    let a : take (16 * n) now ≡ rows_of held n = ap (take (16 * n)) e ∙ take_at (rows_of held n) (drop (n * 16) old) (16 * n) r in
    let b : drop (16 * n + length (entry_bytes (held n))) now ≡ drop (suc n * 16) old
    = sym (drop-drop (length (entry_bytes (held n))) (16 * n) now)
    ∙ ap (λ (x : List ℕ). drop (length (entry_bytes (held n))) x) (ap (drop (16 * n)) e ∙ drop_at (rows_of held n) (drop (n * 16) old) (16 * n) r)
    ∙ drop-drop (length (entry_bytes (held n))) (n * 16) old
    ∙ ap (λ (x : ℕ). drop x old) m in
    let s : length now ≡ length old = ap length e ∙ length-append (rows_of held n) (drop (n * 16) old) ∙ omega (arith, length-drop (n * 16) old) in
    put_below now n (held n) (omega arith)
    ∙ put_fits now (entry_bytes (held n)) (16 * n) (omega arith)
    ∙ ap₂ (λ (x y : List ℕ). x ++ (entry_bytes (held n) ++ y)) a b
    ∙ sym (append_assoc (rows_of held n) (entry_bytes (held n)) (drop (suc n * 16) old))

-- ---- what is read

-- the rows of n addresses are those of a fewer, the bytes of a, and the rest
split_rows : (held : ℕ → Option Udid) (a k : ℕ) → (q : List ℕ) × (rows_of held (suc a + k) ≡ rows_of held a ++ (entry_bytes (held a) ++ q))
unfolding rows_of
split_rows held a zero = ([], ap (rows_of held) (add-zero (suc a)) ∙ ap (λ (x : List ℕ). rows_of held a ++ x) (sym (append-nil (entry_bytes (held a)))))
split_rows held a (suc k) =
    let r = split_rows held a k in
    let m : suc a + suc k ≡ suc (suc a + k) = omega arith in (
      r.0 ++ entry_bytes (held (suc a + k)),
      ap (rows_of held) m
          ∙ ap (λ (x : List ℕ). x ++ entry_bytes (held (suc a + k))) r.1
          ∙ append_assoc (rows_of held a) (entry_bytes (held a) ++ r.0) (entry_bytes (held (suc a + k)))
          ∙ ap (λ (x : List ℕ). rows_of held a ++ x) (append_assoc (entry_bytes (held a)) r.0 (entry_bytes (held (suc a + k)))),
    )

module _ (held : ℕ → Option Udid) (rest : List ℕ) (a : ℕ) (h : a < 128) where
  buffer_split : (q : List ℕ) × (buffer_of held ++ rest ≡ rows_of held a ++ (entry_bytes (held a) ++ q))
  buffer_split =
      let r = split_rows held a (127 - a) in
      let m : 128 ≡ suc a + (127 - a) = omega arith in (
        r.0 ++ rest,
        ap (λ (n : ℕ). rows_of held n ++ rest) m
            ∙ ap (λ (x : List ℕ). x ++ rest) r.1
            ∙ append_assoc (rows_of held a) (entry_bytes (held a) ++ r.0) rest
            ∙ ap (λ (x : List ℕ). rows_of held a ++ x) (append_assoc (entry_bytes (held a)) r.0 rest),
      )

  -- the 16 bytes at 16 a are those of what is bound to a
  pub bytes_there : take 16 (drop (16 * a) (buffer_of held ++ rest)) ≡ entry_bytes (held a)
  bytes_there =
      let p = buffer_split in
      ap (λ (x : List ℕ). take 16 (drop (16 * a) x)) p.1
      ∙ ap (take 16) (drop_at (rows_of held a) (entry_bytes (held a) ++ p.0) (16 * a) (omega (arith, length_rows held a)))
      ∙ take_at (entry_bytes (held a)) p.0 16 (length_entry (held a))

  -- and read as an identifier they are that one
  pub udid_there : Fits (entry_udid (held a)) → udid_at (buffer_of held ++ rest) (16 * a) ≡ entry_udid (held a)
  udid_there f =
      let p = buffer_split in
      ap (λ (x : List ℕ). udid_at x (16 * a)) p.1 ∙ udid_back (rows_of held a) p.0 (16 * a) (entry_udid (held a)) f (omega (arith, length_rows held a))

-- after the 2,048 bytes stands what was there
pub rest_there : (held : ℕ → Option Udid) (rest : List ℕ) → drop buffer_size (buffer_of held ++ rest) ≡ rest
rest_there held rest = drop_at (buffer_of held) rest buffer_size (omega (arith, length_rows held 128))

-- ---- a list is that buffer if and only if its bytes are these

rows_by_bytes : (held : ℕ → Option Udid) (l : List ℕ) (n : ℕ) → ((a : ℕ) → a < n → take 16 (drop (16 * a) l) ≡ entry_bytes (held a)) → take (n * 16) l ≡ rows_of held n
unfolding rows_of
rows_by_bytes held l zero h = refl
rows_by_bytes held l (suc n) h =
    let m : suc n * 16 ≡ n * 16 + 16 = omega arith in
    let k : n * 16 ≡ 16 * n = omega arith in
    ap (λ (x : ℕ). take x l) m
    ∙ take-add (n * 16) 16 l
    ∙ ap₂ (λ (x y : List ℕ). x ++ y) (rows_by_bytes held l n (λ a i. h a (omega arith))) (ap (λ (x : ℕ). take 16 (drop x l)) k ∙ h n (omega arith))

pub buffer_exactly : (held : ℕ → Option Udid) (old l : List ℕ)
    → (l ≡ buffer_of held ++ drop buffer_size old) ↔ (((a : ℕ) → a < 128 → take 16 (drop (16 * a) l) ≡ entry_bytes (held a)) × (drop buffer_size l ≡ drop buffer_size old))
buffer_exactly held old l = (
  λ e. (
    (λ a h. ap (λ (x : List ℕ). take 16 (drop (16 * a) x)) e ∙ bytes_there held (drop buffer_size old) a h),
    ap (drop buffer_size) e ∙ rest_there held (drop buffer_size old),
  ),
  λ h. sym (take-append-drop buffer_size l) ∙ ap₂ (λ (x y : List ℕ). x ++ y) (rows_by_bytes held l 128 h.0) h.1,
)
