-- A module from a record: each number if and only if its case, and that the module is as the record says.
use Rattle.std.specs.Prelude.{ℕ, ◌+◌, ◌*◌, ◌/◌, ◌%◌, ◌≤◌, ◌<◌, ◌≡◌, refl, Bool, true, false, ◌⊎◌, ◌↔◌, Result, Ok, Err, ltb, eqb, get_or}
use Rattle.std.proofs.Common.{sym, ap, ◌∙◌, inl, inr, arith, eqb-true, eq-eqb, ne_eqb, ltb-false}
use Rattle.std.proofs.Math.Logic.Iff.{trans as iff_trans}
use Rattle.std.proofs.lemmas.Bool.{eqb-false}
use Rattle.lists.specs.Choice.{pick, not}
use Rattle.lists.specs.ChoiceLaws.{false_not_true, not_both}
use Rattle.lists.specs.TestLaws.{eqb_is, ltb_is, or_is, and_is, false_is}
use Rattle.udid.specs.Bytes.{udid_bytes}
use Rattle.udid.specs.Udids.{Fits, is_fixed}
use Rattle.udid.proofs.UdidLaws.{fixed_first}
use Rattle.udid.specs.declared.Udid.{Udid}
use Rattle.module.specs.declared.resume.RecordError.{RecordError}
use Rattle.module.specs.declared.resume.RecordError.TheVariants.{Malformed, NoHome}
use Rattle.module.specs.declared.state.Lasting.{Lasting}
use Rattle.module.specs.declared.state.Module.{Module}
use Rattle.module.specs.State.{silent_in}
use Rattle.module.specs.Supply.{address_byte}
use Rattle.module.specs.Resume.{is_malformed, lacks_home, recorded, resumed, resumed_number, AsRecorded}

-- ---- the numbers of a choice

abbrev chosen : Bool → Bool → Module → Result Module RecordError
chosen x y m = pick x (Err Malformed) (pick y (Err NoHome) (Ok m))

ten : (x y : Bool) (m : Module) → (resumed_number (chosen x y m) ≡ 10) ↔ (x ≡ true)
ten true y m = (λ e. refl, λ e. refl)
ten false true m = (λ e. absurd (omega (arith, e)), λ e. false_not_true e)
ten false false m = (λ e. absurd (omega (arith, e)), λ e. false_not_true e)

twelve : (x y : Bool) (m : Module) → (resumed_number (chosen x y m) ≡ 12) ↔ ((x ≡ false) × (y ≡ true))
twelve true y m = (λ e. absurd (omega (arith, e)), λ e. not_both e.0 refl)
twelve false true m = (λ e. (refl, refl), λ e. refl)
twelve false false m = (λ e. absurd (omega (arith, e)), λ e. false_not_true e.1)

none : (x y : Bool) (m : Module) → (resumed_number (chosen x y m) ≡ 0) ↔ ((x ≡ false) × (y ≡ false))
none true y m = (λ e. absurd (omega (arith, e)), λ e. not_both e.0 refl)
none false true m = (λ e. absurd (omega (arith, e)), λ e. not_both e.1 refl)
none false false m = (λ e. (refl, refl), λ e. refl)

both_iff : {P Q R S : Type 0} → P ↔ Q → R ↔ S → (P × R) ↔ (Q × S)
both_iff f g = (λ h. (f.0 h.0, g.0 h.1), λ h. (f.1 h.0, g.1 h.1))

-- ---- EACH NUMBER, IF AND ONLY IF ITS CASE

module _ (u : Udid) (b g f : ℕ) (w : Fits u) where
  -- the byte is even, or the flag above 1
  abbrev pub Bad : Type 0
  Bad = (b % 2 ≡ 0) ⊎ (1 < g)

  -- it is fixed, and the byte is FFh
  abbrev pub Homeless : Type 0
  Homeless = (get_or (udid_bytes u) 0 0 < 64) × (b ≡ 0xFF)

  bad_is : (is_malformed b g ≡ true) ↔ Bad
  bad_is = or_is (eqb (b % 2) 0) (ltb 1 g) (eqb_is (b % 2) 0) (ltb_is 1 g)

  homeless_is : (lacks_home u b ≡ true) ↔ Homeless
  homeless_is = and_is (is_fixed u) (eqb b 0xFF) (fixed_first u w) (eqb_is b 0xFF)

  pub resume_10 : (resumed_number (resumed u b g f) ≡ 10) ↔ Bad
  unfolding resumed
  resume_10 = iff_trans (ten (is_malformed b g) (lacks_home u b) (silent_in (recorded u b g f))) bad_is

  pub resume_12 : (resumed_number (resumed u b g f) ≡ 12) ↔ ((Bad → ⊥) × Homeless)
  unfolding resumed
  resume_12 = iff_trans (twelve (is_malformed b g) (lacks_home u b) (silent_in (recorded u b g f))) (both_iff (false_is (is_malformed b g) bad_is) homeless_is)

  pub resume_0 : (resumed_number (resumed u b g f) ≡ 0) ↔ ((Bad → ⊥) × (Homeless → ⊥))
  unfolding resumed
  resume_0 = iff_trans (none (is_malformed b g) (lacks_home u b) (silent_in (recorded u b g f))) (both_iff (false_is (is_malformed b g) bad_is) (false_is (lacks_home u b) homeless_is))

-- ---- THE MODULE IS AS THE RECORD SAYS

ready_tests : (x y : Bool) (n m : Module) → chosen x y n ≡ Ok m → (x ≡ false) × ((y ≡ false) × (m ≡ n))
ready_tests true y n m e = absurd (let z : ◌≡◌ {A = ℕ} 10 0 = ap resumed_number e in omega arith)
ready_tests false true n m e = absurd (let z : ◌≡◌ {A = ℕ} 12 0 = ap resumed_number e in omega arith)
ready_tests false false n m e = (refl, (refl, let z : m ≡ n = cc e in z))

byte_recorded : (u : Udid) (b g f : ℕ) → b < 256 → (b % 2 ≡ 0 → ⊥) → address_byte (recorded u b g f) ≡ b
unfolding address_byte
byte_recorded u b g f l h = go (eqb b 0xFF) refl
  where
    go : (t : Bool) → eqb b 0xFF ≡ t → pick (not t) (2 * (pick t 0 (b / 2) % 128) + 1) 0xFF ≡ b
    go true e = sym (eqb-true b 0xFF e)
    go false e = omega arith

address_recorded : (u : Udid) (b g f : ℕ) → (b ≡ 0xFF → ⊥) → ((recorded u b g f).address ≡ b / 2) × ((recorded u b g f).home ≡ b / 2)
address_recorded u b g f h = (rw (ne_eqb b 0xFF h), rw (ne_eqb b 0xFF h))

none_recorded : (u : Udid) (b g f : ℕ) → b ≡ 0xFF → (recorded u b g f).address ≡ 0
none_recorded u b g f h = rw (eq-eqb b 0xFF h)

flag_recorded : (g : ℕ) → g ≤ 1 → pick (eqb g 1) 1 0 ≡ g
flag_recorded g l = go (eqb g 1) refl
  where
    go : (t : Bool) → eqb g 1 ≡ t → pick t 1 0 ≡ g
    go true e = sym (eqb-true g 1 e)
    go false e = let n = eqb-false g 1 e in omega arith

not_true_is : (t : Bool) → (not t ≡ true) ↔ (t ≡ false)
not_true_is true = (λ e. false_not_true e, λ e. not_both e refl)
not_true_is false = (λ e. refl, λ e. refl)

pub as_recorded : (u : Udid) (b g f : ℕ) → Fits u → b < 256 → (m : Module) → resumed u b g f ≡ Ok m → AsRecorded u b g f m
unfolding resumed
as_recorded u b g f w l m e =
    let t = ready_tests (is_malformed b g) (lacks_home u b) (silent_in (recorded u b g f)) m e in
    let bad : Bad u b g f w → ⊥ = (false_is (is_malformed b g) (bad_is u b g f w)).0 t.0 in
    let q : m ≡ silent_in (recorded u b g f) = t.1.1 in
    let o : m.own ≡ recorded u b g f = ap (λ (x : Module). x.own) q in
    let small : g ≤ 1 = at_most g (λ h. bad (inr h)) in
    record {
      silent = q ∙ ap silent_in (sym o);
      udid = ap (λ (x : Lasting). x.udid) o;
      byte = ap address_byte o ∙ byte_recorded u b g f l (λ h. bad (inl h));
      flag = ap (λ (x : Lasting). pick x.resolved 1 0) o ∙ flag_recorded g small;
      valid = iff_trans (to_recorded (λ (x : Lasting). x.valid) o) (iff_trans (not_true_is (eqb b 0xFF)) (false_is (eqb b 0xFF) (eqb_is b 0xFF)));
      address = λ h. (ap (λ (x : Lasting). x.address) o ∙ (address_recorded u b g f h).0, ap (λ (x : Lasting). x.home) o ∙ (address_recorded u b g f h).1);
      none = λ h. ap (λ (x : Lasting). x.address) o ∙ none_recorded u b g f h;
      fresh = ap (λ (x : Lasting). x.fresh) o;
    }
  where
    at_most : (g : ℕ) → (1 < g → ⊥) → g ≤ 1
    at_most g h = go (ltb 1 g) refl
      where
        go : (t : Bool) → ltb 1 g ≡ t → g ≤ 1
        go true e = absurd (h ((ltb_is 1 g).0 e))
        go false e = ltb-false 1 g e

    to_recorded : (p : Lasting → Bool) → {x y : Lasting} → x ≡ y → (p x ≡ true) ↔ (p y ≡ true)
    to_recorded p r = (λ e. sym (ap p r) ∙ e, λ e. ap p r ∙ e)
