-- The decoder over byte pairs: what it reads from the front of its own buffer is what the caller's pairs are.
use mathlib.Core.Path.{◌≡◌, refl, sym, ap, ◌∙◌, subst}
use mathlib.Core.Bool.{Bool, true, false}
use mathlib.Core.List.{List}
use Prim.Native.Nat.{ℕ, ◌/◌, ◌≤◌}
use native.Mathlib.Omega.{arith}
use lib.Dec.{ltb}
use borrow.Author.Tests.{ltb-false}
use lib.ListN.{length, take, drop}
use lib.Seq.{take_at}
use Rattle.lists.specs.Choice.{pick}
use Rattle.lists.specs.Onto.{onto}
use Rattle.scan.specs.Decoded.{Decoded}
use Rattle.decode.specs.Outcome.{Outcome}
use Rattle.c_codec.specs.declared.answer.HbDecoded.{HbDecoded}
use Rattle.pairs.specs.Pairs.{symbols_in, Got}
use Rattle.pairs.specs.PairLaws.{length_symbols, fewer_symbols_front}
use Rattle.c_codec.specs.Codec.{told_decoded, ReadSymbols}
use Rattle.decode.specs.LongTraceLaws.{of_front}

pub front_is : (n : ℕ) (bytes zeros filled : List ℕ) → filled ≡ onto (symbols_in n bytes) zeros → take n filled ≡ symbols_in n bytes
front_is n bytes zeros filled e = ap (take n) e ∙ take_at (symbols_in n bytes) (drop (length (symbols_in n bytes)) zeros) n (length_symbols n bytes)

module _ (protocol : ℕ) (pec : Bool) (bytes zeros filled s₀ r₀ : List ℕ) (a : Decoded) (s r : List ℕ) where
  abbrev whole : List ℕ
  whole = symbols_in (length bytes / 2) bytes

  -- n is the smaller of the symbols there are and 526
  pub from_pairs : (n : ℕ) → length zeros ≡ 526 → Got bytes zeros n filled → Outcome protocol pec (take n filled) s₀ r₀ a s r → Outcome protocol pec whole s₀ r₀ a s r
  from_pairs n z g o =
      let e : n ≡ pick (ltb (length bytes / 2) 526) (length bytes / 2) 526 =
      g.number ∙ ap (λ (k : ℕ). pick (ltb (length bytes / 2) k) (length bytes / 2) k) z in
      go (ltb (length bytes / 2) 526) refl
      (subst (λ (l : List ℕ). Outcome protocol pec l s₀ r₀ a s r) (front_is n bytes zeros filled g.output ∙ ap (λ (k : ℕ). symbols_in k bytes) e) o)
    where
      go : (b : Bool) → ltb (length bytes / 2) 526 ≡ b → Outcome protocol pec (symbols_in (pick (ltb (length bytes / 2) 526) (length bytes / 2) 526) bytes) s₀ r₀ a s r
          → Outcome protocol pec whole s₀ r₀ a s r
      go true h o = subst (λ (b : Bool). Outcome protocol pec (symbols_in (pick b (length bytes / 2) 526) bytes) s₀ r₀ a s r) h o
      go false h o =
          let l : 526 ≤ length bytes / 2 = ltb-false (length bytes / 2) 526 h in
          let t : symbols_in (pick (ltb (length bytes / 2) 526) (length bytes / 2) 526) bytes ≡ take 526 whole =
          ap (λ (b : Bool). symbols_in (pick b (length bytes / 2) 526) bytes) h ∙ sym (fewer_symbols_front 526 (length bytes / 2) bytes l) in
          of_front protocol pec whole (omega (arith, length_symbols (length bytes / 2) bytes)) s₀ r₀ a s r
          (subst (λ (q : List ℕ). Outcome protocol pec q s₀ r₀ a s r) t o)

-- the answer as numbers
pub told_read : (protocol : ℕ) (pec : Bool) (tr s₀ r₀ : List ℕ) (a : Decoded) (s r : List ℕ) (h : HbDecoded)
    → Outcome protocol pec tr s₀ r₀ a s r → h ≡ told_decoded a → ReadSymbols protocol pec tr s₀ r₀ h s r
told_read protocol pec tr s₀ r₀ a s r h o e = record { answer = a; outcome = o; is_told = e }
