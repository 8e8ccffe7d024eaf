-- A trace is refused for the same reasons wherever the same fits.
use Rattle.std.specs.Prelude.{List, ◌↔◌, ℕ, get_or}
use Rattle.misfit.specs.CasesLaws.{same_kinds}
use Rattle.misfit.specs.declared.kind.Kind.{Kind}
use Rattle.misfit.specs.declared.kind.Kind.TheVariants.{Swapped, Misaddressed, Miscounted, Other}
use Rattle.scan.specs.Because.{Cases, AfterStart, Wrong, OfKind, Because}
use Rattle.scan.specs.Refusal.{refusal_of}
use Rattle.scan.specs.declared.answer.Refusal.{Refusal}
use Rattle.scan.specs.declared.answer.Refusal.TheVariants.{Forbidden, BufferTooShort, NoSymbol, EndsEarly, Unexpected, NotAcknowledged, PecDiffers, AfterStop, WrongAck, WrongAddress, WrongCount}

-- what is said one way holds if and only if what is said the other way does
pub record Agree (c d : Cases) : Type 0 where
  pub fits : c.fits ↔ d.fits
  pub member : c.member ↔ d.member
  pub member_to : (k : ℕ) → c.member_to k ↔ d.member_to k
  pub breaks : (k : ℕ) → c.breaks k ↔ d.breaks k
  pub cut : (b : ℕ) → c.cut b ↔ d.cut b
  pub other_pec : (k : ℕ) → c.other_pec k ↔ d.other_pec k
  pub next : (k y : ℕ) → c.next k y ↔ d.next k y
  pub to_host : c.to_host ↔ d.to_host

-- a wrong symbol of a kind is refused for it
pub of_kind : (c : Cases) (tr : List ℕ) (k : ℕ) (w : Kind) → Wrong c tr k → OfKind c tr k w → Because c tr (refusal_of w) k
of_kind c tr k Swapped h m = (h, m)
of_kind c tr k Misaddressed h m = (h, m)
of_kind c tr k Miscounted h m = (h, m)
of_kind c tr k Other h m = (h, m)

module _ (c d : Cases) (s : Agree c d) (tr : List ℕ) (k : ℕ) where
  pub wrong_agrees : Wrong c tr k ↔ Wrong d tr k
  wrong_agrees = (λ x. ((s.breaks k).0 x.0, λ m. x.1 ((s.member_to k).1 m), x.2), λ x. ((s.breaks k).1 x.0, λ m. x.1 ((s.member_to k).0 m), x.2))

  kind_agrees : (w : Kind) → (Wrong c tr k × OfKind c tr k w) ↔ (Wrong d tr k × OfKind d tr k w)
  kind_agrees w =
      let m = same_kinds (c.next k) (d.next k) (AfterStart tr k) (AfterStart tr k) c.to_host d.to_host (s.next k) (λ x. x, λ x. x) s.to_host (get_or tr k 0) w in
      (λ x. (wrong_agrees.0 x.0, m.0 x.1), λ x. (wrong_agrees.1 x.0, m.1 x.1))

pub because_agrees : (c d : Cases) → Agree c d → (tr : List ℕ) (w : Refusal) (k : ℕ) → Because c tr w k ↔ Because d tr w k
because_agrees c d s tr Forbidden k = (λ x. x, λ x. x)
because_agrees c d s tr BufferTooShort k = (λ x. x, λ x. x)
because_agrees c d s tr NoSymbol k = (λ x. ((s.breaks k).0 x.0, x.1), λ x. ((s.breaks k).1 x.0, x.1))
because_agrees c d s tr EndsEarly k = (λ x. (s.fits.0 x.0, λ m. x.1 (s.member.1 m), x.2), λ x. (s.fits.1 x.0, λ m. x.1 (s.member.0 m), x.2))
because_agrees c d s tr Unexpected k = kind_agrees c d s tr k Other
because_agrees c d s tr NotAcknowledged k = s.cut k
because_agrees c d s tr PecDiffers k = s.other_pec k
because_agrees c d s tr AfterStop k = (λ x. (x.0, (s.member_to k).0 x.1, x.2), λ x. (x.0, (s.member_to k).1 x.1, x.2))
because_agrees c d s tr WrongAck k = kind_agrees c d s tr k Swapped
because_agrees c d s tr WrongAddress k = kind_agrees c d s tr k Misaddressed
because_agrees c d s tr WrongCount k = kind_agrees c d s tr k Miscounted
