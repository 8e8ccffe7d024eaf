-- A wrong symbol is of one kind alone, and of the same kind wherever the same fits.
use Rattle.std.specs.Prelude.{◌≡◌, refl, ◌↔◌, ℕ, ◌<◌}
use Rattle.std.proofs.Common.{inl, inr, arith}
use Rattle.misfit.specs.Cases.{IsSwapped, IsMisaddressed, IsMiscounted, Means}
use Rattle.misfit.specs.declared.kind.Kind.{Kind}
use Rattle.misfit.specs.declared.kind.Kind.TheVariants.{Swapped, Misaddressed, Miscounted, Other}

-- what is swapped is no byte
pub swapped_is_no_byte : (fit : ℕ → Type 0) (x : ℕ) → IsSwapped fit x → x < 256 → ⊥
swapped_is_no_byte fit x (inl (e, f)) h = omega (arith, e, h)
swapped_is_no_byte fit x (inr (e, f)) h = omega (arith, e, h)

module _ (fit : ℕ → Type 0) (start host : Type 0) (x : ℕ) where
  pub one_kind : (k l : Kind) → Means fit start host x k → Means fit start host x l → k ≡ l
  one_kind Swapped Swapped a b = refl
  one_kind Swapped Misaddressed a b = absurd (swapped_is_no_byte fit x a b.0)
  one_kind Swapped Miscounted a b = absurd (swapped_is_no_byte fit x a b.0)
  one_kind Swapped Other a b = absurd (b.0 a)
  one_kind Misaddressed Swapped a b = absurd (swapped_is_no_byte fit x b a.0)
  one_kind Misaddressed Misaddressed a b = refl
  one_kind Misaddressed Miscounted a b = absurd (b.1 a.1)
  one_kind Misaddressed Other a b = absurd (b.1 a)
  one_kind Miscounted Swapped a b = absurd (swapped_is_no_byte fit x b a.0)
  one_kind Miscounted Misaddressed a b = absurd (a.1 b.1)
  one_kind Miscounted Miscounted a b = refl
  one_kind Miscounted Other a b = absurd (b.2 a)
  one_kind Other Swapped a b = absurd (a.0 b)
  one_kind Other Misaddressed a b = absurd (a.1 b)
  one_kind Other Miscounted a b = absurd (a.2 b)
  one_kind Other Other a b = refl

-- said one way, each kind holds where it holds said the other way
module _ (f g : ℕ → Type 0) (s t h i : Type 0) (same : (y : ℕ) → f y ↔ g y) (start : s ↔ t) (host : h ↔ i) (x : ℕ) where
  swapped_there : IsSwapped f x → IsSwapped g x
  swapped_there (inl (e, a)) = inl (e, (same 259).0 a)
  swapped_there (inr (e, a)) = inr (e, (same 258).0 a)

  swapped_back : IsSwapped g x → IsSwapped f x
  swapped_back (inl (e, a)) = inl (e, (same 259).1 a)
  swapped_back (inr (e, a)) = inr (e, (same 258).1 a)

  misaddressed_same : IsMisaddressed s h x ↔ IsMisaddressed t i x
  misaddressed_same = (λ a. (a.0, start.0 a.1, λ q. a.2 (host.1 q)), λ a. (a.0, start.1 a.1, λ q. a.2 (host.0 q)))

  miscounted_same : IsMiscounted f s h x ↔ IsMiscounted g t i x
  miscounted_same = (
    λ a. (a.0, λ q. a.1 (start.1 q), λ q. a.2 (host.1 q), (a.3.0, a.3.1, (same a.3.0).0 a.3.2)),
    λ a. (a.0, λ q. a.1 (start.0 q), λ q. a.2 (host.0 q), (a.3.0, a.3.1, (same a.3.0).1 a.3.2)),
  )

  pub same_kinds : (k : Kind) → Means f s h x k ↔ Means g t i x k
  same_kinds Swapped = (swapped_there, swapped_back)
  same_kinds Misaddressed = misaddressed_same
  same_kinds Miscounted = miscounted_same
  same_kinds Other = (
    λ a. (λ q. a.0 (swapped_back q), λ q. a.1 (misaddressed_same.1 q), λ q. a.2 (miscounted_same.1 q)),
    λ a. (λ q. a.0 (swapped_there q), λ q. a.1 (misaddressed_same.0 q), λ q. a.2 (miscounted_same.0 q)),
  )
