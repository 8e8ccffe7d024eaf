-- Reset and power on, kind by kind.
use Prim.Native.Nat.{ℕ, zero, suc, ◌+◌, ◌*◌, ◌/◌, ◌%◌, ◌^◌, ◌<◌, ◌≤◌}
use Rattle.std.specs.Prelude.{◌≡◌, Bool, true, ◌++◌, take}
use Rattle.std.proofs.Math.Path.{refl, ap}
use Rattle.std.proofs.Common.{sym, ◌∙◌, arith}
use Rattle.std.proofs.Math.Bool.{false}
use Rattle.std.proofs.Math.Dec.{ltb}
use borrow.Author.Tests.{lt-ltb, le-ltb}
use Rattle.lists.specs.Choice.{pick}
use Rattle.udid.specs.Bytes.{bytes_of, udid_bytes}
use Rattle.udid.specs.Udids.{Fits, top_bits, kind_of_bits}
use Rattle.udid.proofs.UdidLaws.{top_of_first}
use Rattle.udid.specs.declared.Udid.{Udid}
use Rattle.udid.specs.declared.kind.AddressKind.{AddressKind}
use Rattle.udid.specs.declared.kind.AddressKind.TheVariants.{Fixed, Persistent, Volatile, Random}
use Rattle.module.specs.declared.state.Lasting.{Lasting}
use Rattle.module.specs.State.{silent_in}
use Rattle.module.specs.Reset.{having, at_home, renewed, reset_as, reset_kind, reset, stored, powered}
use Rattle.module.specs.Packets.{kind_of, Resets, PowersOn}

-- ---- the last four bytes of an identifier

-- byte k of a low half whose lower 32 bits are f: one of f for k up to 3, and one of the old half above
module _ (l f : ℕ) (h : f < 2 ^ 32) where
  abbrev n : ℕ
  n = l / 2 ^ 32 * 2 ^ 32 + f

  byte_7 : n / 256 ^ 7 % 256 ≡ l / 256 ^ 7 % 256
  byte_7 = omega arith

  byte_6 : n / 256 ^ 6 % 256 ≡ l / 256 ^ 6 % 256
  byte_6 = omega arith

  byte_5 : n / 256 ^ 5 % 256 ≡ l / 256 ^ 5 % 256
  byte_5 = omega arith

  byte_4 : n / 256 ^ 4 % 256 ≡ l / 256 ^ 4 % 256
  byte_4 = omega arith

  byte_3 : n / 256 ^ 3 % 256 ≡ f / 256 ^ 3 % 256
  byte_3 = omega arith

  byte_2 : n / 256 ^ 2 % 256 ≡ f / 256 ^ 2 % 256
  byte_2 = omega arith

  byte_1 : n / 256 ^ 1 % 256 ≡ f / 256 ^ 1 % 256
  byte_1 = omega arith

  byte_0 : n / 256 ^ 0 % 256 ≡ f / 256 ^ 0 % 256
  byte_0 = omega arith

renewed_bytes : (u : Udid) (f : ℕ) → f < 2 ^ 32 → udid_bytes (renewed u f) ≡ take 12 (udid_bytes u) ++ bytes_of 4 f
unfolding udid_bytes bytes_of
renewed_bytes u f h =
    let l : ℕ = u.low in
    rw (byte_7 l f h, byte_6 l f h, byte_5 l f h, byte_4 l f h, byte_3 l f h, byte_2 l f h, byte_1 l f h, byte_0 l f h)

-- ---- RESET, kind by kind

reset_at : (o : Lasting) (k : ℕ) → top_bits o.udid ≡ k → reset o ≡ reset_kind k o
unfolding reset
reset_at o k e = ap (λ (n : ℕ). reset_kind n o) e

home_one : (o : Lasting) → o.home < 128 → at_home o ≡ having o o.udid true o.home false
home_one o h = rw (lt-ltb o.home 128 h)

home_none : (o : Lasting) → 127 < o.home → at_home o ≡ having o o.udid false 0 false
home_none o h = rw (le-ltb o.home 128 (omega arith))

pub resets : (o : Lasting) → Fits o.udid → o.fresh < 2 ^ 32 → Resets o (reset o)
resets o f g =
    let t : top_bits o.udid ≡ kind_of o.udid = top_of_first o.udid f in
    let random : kind_of o.udid ≡ 3 → reset o ≡ having o (renewed o.udid o.fresh) false 0 false = λ e. reset_at o 3 (t ∙ e) in (
      λ e h. reset_at o 0 (t ∙ e) ∙ home_one o h,
      (
        λ e h. reset_at o 0 (t ∙ e) ∙ home_none o h,
        (
          λ e. reset_at o 1 (t ∙ e),
          (
            λ e. reset_at o 2 (t ∙ e),
            λ e. (
              random e ∙ ap (λ (u : Udid). having o u false 0 false) (sym (ap (λ (x : Lasting). x.udid) (random e))),
              ap (λ (x : Lasting). udid_bytes x.udid) (random e) ∙ renewed_bytes o.udid o.fresh g,
            ),
          ),
        ),
      ),
    )

-- ---- POWER ON, kind by kind

module _ (u : Udid) (a f : ℕ) (w : Fits u) (g : f < 2 ^ 32) where
  abbrev before : Lasting
  before = stored u a f

  powered_own : (powered u a f).own ≡ reset before
  unfolding powered
  powered_own = refl

  rests : (k : ℕ) → ((reset_kind k before).resolved ≡ false) × (((reset_kind k before).home ≡ a) × ((reset_kind k before).fresh ≡ f))
  rests k = go (kind_of_bits k)
    where
      go : (p : AddressKind) → let x = reset_as p before in (x.resolved ≡ false) × ((x.home ≡ a) × (x.fresh ≡ f))
      go Fixed = (refl, (refl, refl))
      go Persistent = (refl, (refl, refl))
      go Volatile = (refl, (refl, refl))
      go Random = (refl, (refl, refl))

  kind : top_bits u ≡ kind_of u
  kind = top_of_first u w

  -- a fixed one and a persistent one
  standing : kind_of u ≤ 1 → ((reset before).udid ≡ u) × (((reset before).valid ≡ ltb a 128) × ((reset before).address ≡ pick (ltb a 128) a 0))
  unfolding reset
  standing h = go (top_bits u) (let k = kind in omega arith)
    where
      go : (k : ℕ) → k ≤ 1 → ((reset_kind k before).udid ≡ u) × (((reset_kind k before).valid ≡ ltb a 128) × ((reset_kind k before).address ≡ pick (ltb a 128) a 0))
      go zero l = (refl, (refl, refl))
      go (suc zero) l = (refl, (refl, refl))
      go (suc (suc k)) l = absurd (omega arith)

  rested : ((reset before).resolved ≡ false) × (((reset before).home ≡ a) × ((reset before).fresh ≡ f))
  unfolding reset
  rested = rests (top_bits u)

  pub powers_on : PowersOn u a f (powered u a f).own
  unfolding powered
  powers_on =
      let random : kind_of u ≡ 3 → reset before ≡ having before (renewed u f) false 0 false = λ e. reset_at before 3 (kind ∙ e) in
      let volatile : kind_of u ≡ 2 → reset before ≡ having before u false 0 false = λ e. reset_at before 2 (kind ∙ e) in (
        rested,
        (
          λ k h. ((standing k).0, ((standing k).1.0 ∙ lt-ltb a 128 h, (standing k).1.1 ∙ ap (λ (t : Bool). pick t a 0) (lt-ltb a 128 h))),
          (
            λ k h. let b : ltb a 128 ≡ false = le-ltb a 128 (omega arith) in ((standing k).0, ((standing k).1.0 ∙ b, (standing k).1.1 ∙ ap (λ (t : Bool). pick t a 0) b)),
            (
              λ e. (ap (λ (x : Lasting). x.udid) (volatile e), (ap (λ (x : Lasting). x.valid) (volatile e), ap (λ (x : Lasting). x.address) (volatile e))),
              λ e. (ap (λ (x : Lasting). udid_bytes x.udid) (random e) ∙ renewed_bytes u f g, (ap (λ (x : Lasting). x.valid) (random e), ap (λ (x : Lasting). x.address) (random e))),
            ),
          ),
        ),
      )

-- as after STOP
pub powered_silent : (u : Udid) (a f : ℕ) → powered u a f ≡ silent_in (powered u a f).own
unfolding powered
powered_silent u a f = refl
