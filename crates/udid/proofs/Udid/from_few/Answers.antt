use Rattle.std.proofs.Common.{ℕ, ◌-◌, ◌≤◌, ◌≡◌, ◌∙◌, List, ◌++◌, length, take, drop, replicate, add-zero, arith, drop_of_length-le}
use Rattle.std.proofs.lemmas.List.{take_rest, drop-replicate}
use Rattle.udid.specs.Bytes.{number, bytes_from, udid_at}
use Rattle.udid.specs.declared.Udid.{Udid}
use Rattle.udid.proofs.WindowLaws.{from_drop, from_zeros}
use Rattle.udid.proofs.Udid.from_few.Goals as goal
use Rattle.udid.proofs.Udid.from_few.Goals.{then-at-s, else-at-s}

-- what is left of the slice, and zeros
few : (s bytes : List ℕ) (i m h l : ℕ) → bytes ≡ drop i s ++ replicate m 0 → h ≡ number (bytes_from bytes 0 8) → l ≡ number (bytes_from bytes 8 8)
    → ◌≡◌ {A = Udid} (record { high = h; low = l }) (udid_at s i)
unfolding udid_at
few s bytes i m h l e f g = rw (f, g, e, from_zeros (drop i s) m 0 8, from_zeros (drop i s) m 8 8, from_drop s i 0 8, from_drop s i 8 8, add-zero i)

filled : (s xs ys : List ℕ) (i : ℕ) → xs ≡ take (length s - i) (drop i s) → ys ≡ xs ++ drop (length s - i) (replicate 16 0) → ys ≡ drop i s ++ replicate (16 - (length s - i)) 0
filled s xs ys i e f = rw (f, e, take_rest s i, drop-replicate {X = ℕ} (length s - i) 16 0)

bare : (s : List ℕ) (i : ℕ) → length s ≤ i → replicate 16 0 ≡ drop i s ++ replicate 16 0
bare s i h = rw (drop_of_length-le s h)

pub returns : goal.returns
returns c =
    let a = c.args in
    elim c.if-at-s.branch [
      | then-at-s w ↦ few a.s.now c.if-at-s.bytes a.at _ _ _ (filled a.s.now w.copy_from_slice.new.self c.if-at-s.bytes a.at w.copy_from_slice.ensures.after w.bytes-is) c.whole.ensures c.whole-2.ensures
      | else-at-s w ↦ few a.s.now c.if-at-s.bytes a.at 16 _ _ (w.bytes-is ∙ bare a.s.now a.at (omega arith)) c.whole.ensures c.whole-2.ensures
    ]
