use Rattle.std.proofs.Common.{ℕ, zero, suc, ◌+◌, ◌-◌, ◌/◌, ◌%◌, ◌^◌, ◌≤◌, ◌≡◌, refl, sym, ap, ◌∙◌, List, ◌∷◌, ◌++◌, [], length, take, drop, div-one, arith}
use borrow.Rule.Slice.PartMut.{put_mid, Post-is}
use Rattle.std.specs.Int.{bytes_high_first}
use Rattle.udid.specs.Bytes.{bytes_of, udid_bytes}
use Rattle.udid.proofs.ByteLaws.{length_bytes}
use Rattle.udid.proofs.UdidLaws.{length_udid}
use Rattle.udid.proofs.WindowLaws.{put_short, put_two}
use Rattle.udid.proofs.Udid.put_bytes.Goals as goal
use Rattle.udid.proofs.Udid.put_bytes.Goals.{then-out-lt16-via-then-out-lt16, then-out-lt16-via-else-out-lt16+then-at-out}

-- the kit's bytes of a number are these
same_bytes : (k n : ℕ) → bytes_high_first k n ≡ bytes_of k n
unfolding bytes_of
same_bytes zero n = refl
same_bytes (suc zero) n = ap (λ (x : ℕ). x % 256 ∷ []) (sym (div-one n))
same_bytes (suc (suc k)) n = ap (λ (l : List ℕ). n / 256 ^ suc k % 256 ∷ l) (same_bytes (suc k) n)

-- what comes back of a lent part
mid : (l xs ys : List ℕ) (i j k : ℕ) → xs ≡ ys → i ≤ j → j ≡ k → put_mid i (j - i) l xs ≡ take i l ++ (ys ++ drop k l)
mid l xs ys i j k e h m = rw (e, Post-is i j l h, m)

pub returns-then-out-lt16 : goal.returns-then-out-lt16
returns-then-out-lt16 c =
    let a = c.args in
    let n = length_udid a.self in
    let h : length a.out.now ≤ a.at + 15 = elim c.then-out-lt16.branch [
      | then-out-lt16-via-then-out-lt16 w ↦ omega arith
      | then-out-lt16-via-else-out-lt16+then-at-out w ↦ omega arith
    ] in
    sym (put_short a.out.now (udid_bytes a.self) a.at (omega arith))

pub returns : goal.returns
unfolding udid_bytes
returns c =
    let a = c.args in
    let e : c.copy_from_slice.new.self ≡ bytes_of 8 a.self.high = c.copy_from_slice.ensures.after ∙ c.to_be_bytes.ensures ∙ same_bytes 8 a.self.high in
    let f : c.copy_from_slice-2.new.self ≡ bytes_of 8 a.self.low = c.copy_from_slice-2.ensures.after ∙ c.to_be_bytes-2.ensures ∙ same_bytes 8 a.self.low in
    put_two a.out.now (bytes_of 8 a.self.high) (bytes_of 8 a.self.low) _ _ a.at 8 8 (length_bytes 8 a.self.high) (length_bytes 8 a.self.low) (omega arith)
    (mid a.out.now c.copy_from_slice.new.self (bytes_of 8 a.self.high) a.at (a.at + 8) (a.at + 8) e (omega arith) refl)
    (mid _ c.copy_from_slice-2.new.self (bytes_of 8 a.self.low) (a.at + 8) (a.at + 16) (a.at + 8 + 8) f (omega arith) (omega arith))
