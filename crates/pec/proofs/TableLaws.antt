-- The rule of the table, at each of its entries by one test over the whole of it; that there is one such table only; and that a byte more,
-- and bytes more, by such a table are the packet error code's.
use Rattle.std.specs.Prelude.{◌≡◌, true, ◌↔◌, ℕ, ◌+◌, ◌*◌, ◌≤◌, ◌<◌, length, drop, get_or}
use Rattle.std.proofs.Math.Path.{refl, ap}
use Rattle.std.proofs.Common.{sym, ◌∙◌, arith, add-one, drop_of_length-le, drop-cons, ext_get_or, eqb-true}
use mathlib.Core.List.{List, [], ◌∷◌}
use Rattle.std.specs.Int.Bits.{bit_xor}
use Rattle.std.proofs.lemmas.Nat.{xor_lt}
use Rattle.lists.specs.All.{all_placed}
use Rattle.lists.specs.AllLaws.{at_place}
use Rattle.lists.specs.Each.{Bytes}
use Rattle.pec.specs.Pec.{pec_step, pec_from}
use Rattle.pec.proofs.PecLaws.{step_byte}
use Rattle.pec.specs.PecDivision.{times_g}
use Rattle.pec.proofs.PecDivisionLaws.{step_is_remainder}
use Rattle.pec.specs.Table.{Remainders, is_remainder, step_by, from_by}

-- ---- the entries

-- a list of 256 numbers that all pass the test is the table
pub all_entries : (t : List ℕ) → length t ≡ 256 → all_placed is_remainder t ≡ true → Remainders t
unfolding is_remainder
all_entries t l e k h = eqb-true (get_or t k 0) (pec_step 0 k) (at_place is_remainder t 0 e k (rw l h))

-- the code so far enters with the byte
step_alone : (c b : ℕ) → pec_step 0 (bit_xor c b) ≡ pec_step c b
unfolding pec_step
step_alone c b = refl

module _ (t : List ℕ) (r : Remainders t) where
  pub entry_is_step : (k : ℕ) → k < 256 → get_or t k 0 ≡ pec_step 0 k
  entry_is_step k h = r k h

  pub entry_byte : (k : ℕ) → k < 256 → get_or t k 0 < 256
  entry_byte k h = rw (entry_is_step k h) (step_byte 0 k (omega arith) h)

  -- the entry of k is the remainder of k times x^8: a byte is what k times x^8 leaves if and only if it is the entry
  pub entry_is_remainder : (k x : ℕ) → k < 256 → x < 256 → ((q : ℕ) × (256 * k ≡ bit_xor (times_g q) x)) ↔ (x ≡ get_or t k 0)
  entry_is_remainder k x h g = rw (entry_is_step k h) (step_is_remainder 0 k x (omega arith) h g)

  -- the code of one byte more is the entry at the code so far xor the byte
  pub step_by_lem : (c b : ℕ) → c < 256 → b < 256 → step_by t c b ≡ pec_step c b
  unfolding step_by
  step_by_lem c b h g = entry_is_step (bit_xor c b) (xor_lt 8 c b h g) ∙ step_alone c b

  pub from_by_lem : (c : ℕ) (bs : List ℕ) → c < 256 → Bytes bs → from_by t c bs ≡ pec_from c bs
  unfolding from_by pec_from
  from_by_lem c [] h g = refl
  from_by_lem c (b ∷ bs) h g = ap (λ (z : ℕ). from_by t z bs) (step_by_lem c b h g.0) ∙ from_by_lem (pec_step c b) bs (step_byte c b h g.0) g.1

-- there is one table only
pub one_table : (s t : List ℕ) → length s ≡ 256 → length t ≡ 256 → Remainders s → Remainders t → s ≡ t
one_table s t l m r q =
    ext_get_or 0 s t (l ∙ sym m) (λ k h. let g : k < 256 = rw (← l) h in entry_is_step s r k g ∙ sym (entry_is_step t q k g))

-- a turn of a loop over a slice, and its end
pub by_turn : (t s : List ℕ) (c i : ℕ) → i < length s → from_by t c (drop i s) ≡ from_by t (step_by t c (get_or s i 0)) (drop (i + 1) s)
unfolding from_by
by_turn t s c i h = rw (add-one, drop-cons s i 0)

pub by_end : (t s : List ℕ) (c i : ℕ) → length s ≤ i → from_by t c (drop i s) ≡ c
unfolding from_by
by_end t s c i h = rw drop_of_length-le
