-- The tests on a part, in numbers: nothing is no part; a fixed length has no count; a count adds as many bytes as it says.
use Rattle.std.specs.Prelude.{◌≡◌, true, false, ℕ, leb, eqb}
use Rattle.trace.specs.declared.shape.Part.TheVariants.{Nothing, Fixed, Counted}
use Rattle.trace.specs.Shapes.{some, is_counted, count_in, least_of}
use Rattle.trace.specs.Allowed.{length_fits}

pub record Parts : Type 0 where
  pub nothing_there : some Nothing ≡ false
  pub fixed_there : (k : ℕ) → some (Fixed k) ≡ true
  pub counted_there : some Counted ≡ true
  pub nothing_counted : is_counted Nothing ≡ false
  pub fixed_counted : (k : ℕ) → is_counted (Fixed k) ≡ false
  pub counted_counted : is_counted Counted ≡ true
  pub nothing_adds : (n : ℕ) → count_in Nothing n ≡ 0
  pub fixed_adds : (k n : ℕ) → count_in (Fixed k) n ≡ 0
  pub counted_adds : (n : ℕ) → count_in Counted n ≡ n
  pub nothing_least : (k : ℕ) → least_of Nothing k ≡ 0
  pub fixed_least : (j k : ℕ) → least_of (Fixed j) k ≡ 0
  pub counted_least : (k : ℕ) → least_of Counted k ≡ k
  pub nothing_fits : (least n : ℕ) → length_fits least Nothing n ≡ eqb n 0
  pub fixed_fits : (least k n : ℕ) → length_fits least (Fixed k) n ≡ eqb n k
  pub counted_fits : (least n : ℕ) → length_fits least Counted n ≡ leb least n
