-- The proofs of the page's records on what the PEC catches.
use Rattle.std.specs.Prelude.{◌≡◌, refl, true, List, ◌⊎◌, ℕ, ◌-◌, ◌≤◌, length}
use Rattle.std.proofs.Common.{subst, inl, inr}
use Rattle.trace.specs.Table.{TraceOf}
use Rattle.trace.specs.Trace.{Message}
use Rattle.scan.specs.BytesIn.{bytes_in}
use Rattle.scan.specs.Fitting.{Whole}
use Rattle.scan.specs.Numbers.{decode_number}
use Rattle.scan.specs.Decoded.{Decoded}
use Rattle.decode.specs.Outcome.{Entered, Outcome}
use Rattle.catches.proofs.BurstLaws.{eight_bits_caught}
use Rattle.catches.specs.Changes.{RightPec, Within, TwoBits}
use Rattle.catches.proofs.EscapeLaws.{sixteen_zeros, sixteen_came, sixteen_escape, two_zeros, two_came, nine_bits_escape}
use Rattle.catches.proofs.FlipLaws.{one_bit_is, two_bits_are}
use Rattle.catches.proofs.HowManyLaws.{two_are_two}
use Rattle.catches.proofs.MultiplesLaws.{right_exactly, escapes_exactly}
use Rattle.catches.proofs.OddLaws.{odd_caught}
use Rattle.catches.proofs.PairLaws.{pair_escapes_exactly, two_bits_caught, one_pair_of_sixteen}
use Rattle.garbled.specs.Places.{Changed}
use Rattle.garbled.proofs.PlacesLaws.{has_command, has_sent, has_received, has_pec}
use Rattle.garbled.proofs.StaysLaws.{stays as whole-still}
use Rattle.garbled.specs.VerdictLaws.{came, verdict_0, verdict_7, caught_is_seven}
use Rattle.promises.specs.Demands.{Catches, Garbled, Stays}

pub catches : Catches
catches = record {
  right = right_exactly;
  escapes = escapes_exactly;
  eight_bits = eight_bits_caught;
  odd = odd_caught;
  two_bits = λ xs ys c i j k l t. two_bits_caught xs ys c i j k l t;
  sixteen = λ xs ys c i j k l t. one_pair_of_sixteen xs ys c i j k l t;
  sixteen_is = (sixteen_zeros, sixteen_came, sixteen_escape.0, sixteen_escape.1, sixteen_escape.2, sixteen_escape.3);
  any_bit = λ xs h r i j l g. (let f = one_bit_is xs h r i j l g in (_, f.0, f.1));
  any_two = λ xs h r i j k l a b o m. (let f = two_bits_are xs h r i j k l a b o m in (_, f.0, f.1, two_are_two xs _ f.0 i j k l f.1));
  pairs = λ xs ys c i j k l t. pair_escapes_exactly xs ys c i j k l t;
  nine_bits = (two_zeros, two_came, nine_bits_escape.0, refl, nine_bits_escape.1, nine_bits_escape.2, nine_bits_escape.3);
}

pub garbled : (protocol : ℕ) (m : Message) (tr tr' sent₀ received₀ : List ℕ) (a : Decoded) (sent received : List ℕ) (sends : TraceOf protocol true m tr) (whole : Whole protocol true tr')
    (as_many : length (bytes_in tr') ≡ length (bytes_in tr)) (entered : Entered protocol true sent₀ received₀) (contract : Outcome protocol true tr' sent₀ received₀ a sent received)
    → Garbled protocol m tr tr' sent₀ received₀ a sent received sends whole as_many entered contract
garbled protocol m tr tr' sent₀ received₀ a sent received s w n h o =
    let c = came protocol m tr tr' s n in
    let seven = caught_is_seven protocol tr' sent₀ received₀ a sent received o h w in
    record {
      verdict_0 = verdict_0 protocol tr' sent₀ received₀ a sent received o h w;
      verdict_7 = verdict_7 protocol tr' sent₀ received₀ a sent received o h w;
      came = c;
      eight_bits = λ b. seven (eight_bits_caught (bytes_in tr) (bytes_in tr') c b);
      odd = λ z. seven (odd_caught (bytes_in tr) (bytes_in tr') c z);
      two_bits = λ i j k l t b. seven (two_bits_caught (bytes_in tr) (bytes_in tr') c i j k l t b);
      sixteen = λ i j k l t e f. seven (λ r. f ((one_pair_of_sixteen (bytes_in tr) (bytes_in tr') c i j k l t e).0 r));
    }

pub stays : (protocol : ℕ) (m : Message) (tr : List ℕ) (sends : TraceOf protocol true m tr) → Stays protocol m tr sends
stays protocol m tr s = record {
  stays = whole-still protocol m tr s;
  seven = λ tr' c b sent₀ received₀ a sent received h o.
      subst (λ (n : ℕ). (decode_number a ≡ (7, n - 3)) × (sent ≡ sent₀) × (received ≡ received₀)) c.as_long
      (caught_is_seven protocol tr' sent₀ received₀ a sent received o h (whole-still protocol m tr s tr' c).0 (wrong tr' c b));
  command = has_command protocol m tr s;
  sent = has_sent protocol m tr s;
  received = has_received protocol m tr s;
  pec = has_pec protocol m tr s;
}
  where
    wrong : (tr' : List ℕ) → Changed protocol m tr tr'
        → Within 8 (bytes_in tr) (bytes_in tr') ⊎ ((i : ℕ) × (j : ℕ) × (k : ℕ) × (l : ℕ) × TwoBits (bytes_in tr) (bytes_in tr') i j k l × (length (bytes_in tr) ≤ 15)) → RightPec (bytes_in tr') → ⊥
    wrong tr' c (inl b) = eight_bits_caught (bytes_in tr) (bytes_in tr') (came protocol m tr tr' s (whole-still protocol m tr s tr' c).1) b
    wrong tr' c (inr (i, j, k, l, t, n)) = two_bits_caught (bytes_in tr) (bytes_in tr') (came protocol m tr tr' s (whole-still protocol m tr s tr' c).1) i j k l t n
