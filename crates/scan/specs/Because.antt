-- Why a trace is refused, by what fits and what does not. Answers says with it what fits by a shape, Fitting by the table of the protocols.
use Rattle.std.specs.Prelude.{List, ◌≡◌, ℕ, suc, ◌≤◌, ◌<◌, length, get_or}
use Rattle.misfit.specs.Cases.{Means}
use Rattle.misfit.specs.declared.kind.Kind.{Kind}
use Rattle.misfit.specs.declared.kind.Kind.TheVariants.{Swapped, Misaddressed, Miscounted, Other}
use Rattle.scan.specs.declared.answer.Refusal.{Refusal}
use Rattle.scan.specs.declared.answer.Refusal.TheVariants.{Forbidden, BufferTooShort, NoSymbol, EndsEarly, Unexpected, NotAcknowledged, PecDiffers, AfterStop, WrongAck, WrongAddress, WrongCount}

-- what is said of a trace
pub record Cases : Type 1 where
  -- it is the beginning of a member; it is a member; its first k symbols are one
  pub fits : Type 0
  pub member : Type 0
  pub member_to : ℕ → Type 0
  -- the place k is the first whose beginning does not fit
  pub breaks : ℕ → Type 0
  -- the target cut it at byte b
  pub cut : ℕ → Type 0
  -- it is whole but for its PEC, whose place is k
  pub other_pec : ℕ → Type 0
  -- its first k symbols fit with y behind them
  pub next : ℕ → ℕ → Type 0
  -- its protocol goes to the host alone
  pub to_host : Type 0

-- the place k is right after a START
abbrev pub AfterStart : List ℕ → ℕ → Type 0
AfterStart tr k = (j : ℕ) × (k ≡ suc j) × (get_or tr j 0 ≡ 256)

-- a wrong symbol stands at k, in a trace that is not over there
abbrev pub Wrong : Cases → List ℕ → ℕ → Type 0
Wrong c tr k = c.breaks k × (c.member_to k → ⊥) × (get_or tr k 0 ≤ 259)

-- and of which kind it is
abbrev pub OfKind : Cases → List ℕ → ℕ → Kind → Type 0
OfKind c tr k w = Means (c.next k) (AfterStart tr k) c.to_host (get_or tr k 0) w

-- why the trace tr is refused, with the place k; 1 and 2 are given before a trace is read
abbrev pub Because : Cases → List ℕ → Refusal → ℕ → Type 0
Because c tr Forbidden k = ⊥
Because c tr BufferTooShort k = ⊥
Because c tr NoSymbol k = c.breaks k × (259 < get_or tr k 0)
Because c tr EndsEarly k = c.fits × (c.member → ⊥) × (k ≡ length tr)
Because c tr Unexpected k = Wrong c tr k × OfKind c tr k Other
Because c tr NotAcknowledged k = c.cut k
Because c tr PecDiffers k = c.other_pec k
Because c tr AfterStop k = (k < length tr) × c.member_to k × (get_or tr k 0 ≤ 259)
Because c tr WrongAck k = Wrong c tr k × OfKind c tr k Swapped
Because c tr WrongAddress k = Wrong c tr k × OfKind c tr k Misaddressed
Because c tr WrongCount k = Wrong c tr k × OfKind c tr k Miscounted
