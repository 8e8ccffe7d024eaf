-- NOT CAUGHT: changes that leave the PEC right. Of 16 bytes the very first and the very last bit; of two bytes four bits that lie among nine.
use Rattle.std.specs.Prelude.{◌≡◌, refl, Bool, true, false, List, [], ◌∷◌, ◌++◌, ℕ, ◌+◌, ◌*◌, ◌/◌, ◌%◌, ◌≤◌, ◌<◌, eqb, leb, length, replicate}
use Rattle.std.proofs.Common.{ap₂, subst, arith, eqb-true}
use Rattle.lists.specs.All.{all_below}
use Rattle.lists.specs.AllLaws.{at_below}
use Rattle.lists.specs.Choice.{or}
use Rattle.lists.specs.EachLaws.{zeros_bytes}
use Rattle.lists.specs.Passing.{passing}
use Rattle.lists.specs.TestLaws.{leb_is}
use Rattle.pec.specs.Pec.{bit_step, pec_step, pec_from}
use Rattle.catches.specs.Changes.{bit_of, Flipped, RightPec, Came, Within, TwoBits, how_many}
use Rattle.catches.proofs.FlippedLaws.{inside}
use Rattle.catches.proofs.FlipLaws.{two_bits_are}
use Rattle.catches.proofs.PairLaws.{one_pair_of_sixteen}

-- the bit of a place is the same in both, or the place passes a test
abbrev same_or : (ℕ → Bool) → List ℕ → List ℕ → ℕ → Bool
same_or test xs ys n = or (eqb (bit_of xs (n / 8) (n % 8)) (bit_of ys (n / 8) (n % 8))) (test n)

-- where that is so of each place, each flipped bit's place passes the test
flipped_passes : (test : ℕ → Bool) (xs ys : List ℕ) → length ys ≡ length xs → all_below (same_or test xs ys) (8 * length xs) ≡ true
    → (i j : ℕ) → j < 8 → Flipped xs ys i j → test (8 * i + j) ≡ true
flipped_passes test xs ys e a i j h f =
    let l = inside xs ys e i j f in
    let s = at_below (same_or test xs ys) (8 * length xs) a (8 * i + j) (omega (arith, l, h)) in
    go _ refl (subst (λ (p : ℕ × ℕ). or (eqb (bit_of xs p.0 p.1) (bit_of ys p.0 p.1)) (test (8 * i + j)) ≡ true) (ap₂ (λ (a b : ℕ). (a, b)) (byte i j h) (bit i j h)) s)
  where
    byte : (i j : ℕ) → j < 8 → (8 * i + j) / 8 ≡ i
    byte i j h = omega arith

    bit : (i j : ℕ) → j < 8 → (8 * i + j) % 8 ≡ j
    bit i j h = omega arith

    go : (b : Bool) → eqb (bit_of xs i j) (bit_of ys i j) ≡ b → or b (test (8 * i + j)) ≡ true → test (8 * i + j) ≡ true
    go true q s = absurd (f (eqb-true (bit_of xs i j) (bit_of ys i j) q))
    go false q s = s

-- ---- 16 bytes: zeros, and the very first and the very last bit flipped

abbrev pub sixteen_zeros : List ℕ
sixteen_zeros = replicate 16 0

abbrev pub sixteen_came : List ℕ
sixteen_came = 0x80 ∷ (replicate 14 0 ++ 0x01 ∷ [])

sixteen_zeros_right : RightPec sixteen_zeros
unfolding bit_step pec_step pec_from
sixteen_zeros_right = (replicate 15 0, refl)

-- such a pair of messages there is
pub sixteen_escape : Came sixteen_zeros sixteen_came × (length sixteen_zeros ≡ 16) × TwoBits sixteen_zeros sixteen_came 0 0 15 7 × RightPec sixteen_came
sixteen_escape =
    let f = two_bits_are sixteen_zeros (zeros_bytes 16) sixteen_zeros_right 0 0 15 7 (omega arith) (omega arith) (omega arith) (omega arith) in
    (f.0, refl, f.1, (one_pair_of_sixteen sixteen_zeros sixteen_came f.0 0 0 15 7 f.1 refl).1 (refl, refl, refl, refl))

-- ---- two bytes: zeros, and x^8+x^2+x+1 flipped, four bits among nine

abbrev pub two_zeros : List ℕ
two_zeros = 0x00 ∷ 0x00 ∷ []

abbrev pub two_came : List ℕ
two_came = 0x01 ∷ 0x07 ∷ []

two_came_lem : Came two_zeros two_came
unfolding bit_step pec_step pec_from
two_came_lem = record { sent = (omega arith, (omega arith, tt)); right = (0x00 ∷ [], refl); came = (omega arith, (omega arith, tt)); as_many = refl }

two_right : RightPec two_came
unfolding bit_step pec_step pec_from
two_right = (0x01 ∷ [], refl)

two_within_nine : Within 9 two_zeros two_came
two_within_nine =
    record {
      from = 7;
      among = λ i j h f. in_nine i j h (inside two_zeros two_came refl i j f) ((leb_is 7 (8 * i + j)).0 (flipped_passes (leb 7) two_zeros two_came refl refl i j h f));
      byte = 0;
      bit = 7;
      in_byte = omega arith;
      one = λ e. omega (arith, e);
    }
  where
    in_nine : (i j : ℕ) → j < 8 → i < 2 → 7 ≤ 8 * i + j → (7 ≤ 8 * i + j) × (8 * i + j < 7 + 9)
    in_nine i j h l g = (g, omega arith)

two_four : how_many two_zeros two_came ≡ 4
unfolding passing
two_four = refl

pub nine_bits_escape : Came two_zeros two_came × Within 9 two_zeros two_came × (how_many two_zeros two_came ≡ 4) × RightPec two_came
nine_bits_escape = (two_came_lem, two_within_nine, two_four, two_right)
