use Rattle.std.proofs.Common.{ℕ, ◌+◌, ◌*◌, ◌^◌, ◌≤◌, ◌<◌, ◌≡◌, sym, ap, ◌∙◌, true, false, Option, Some, None, List, arith, le-ltb, eq-eqb, ne_eqb, rules}
use Rattle.std.proofs.lemmas.Bool.{lt-leb}
use Rattle.udid.specs.Udids.{is_below, value}
use Rattle.udid.specs.declared.Udid.{Udid}
use Rattle.targets.specs.Records.{udid_of, flag_of}
use Rattle.targets.specs.Search.{place_of, Holds}
use Rattle.targets.specs.Winner.{is_better}
use Rattle.targets.specs.declared.winner.Best.{Best}
use Rattle.targets.proofs.winner.is_better.Goals as goal

resolved : (s : List ℕ) (i : ℕ) (b : Option ℕ) → flag_of s i ≡ 1 → false ≡ is_better s i b
unfolding is_better
resolved s i b e = simp (eq-eqb (flag_of s i) 1 e)

first_one : (s : List ℕ) (i : ℕ) (o : Option Best) → (flag_of s i ≡ 1 → ⊥) → o ≡ None → true ≡ is_better s i (place_of o)
unfolding is_better
first_one s i None h e = simp (ne_eqb (flag_of s i) 1 h)
first_one s i (Some b) h e = absurd (cc e)

against : (s : List ℕ) (i : ℕ) (o : Option Best) (b : Best) → (flag_of s i ≡ 1 → ⊥) → o ≡ Some b → Holds s o → is_below (udid_of s i) b.udid ≡ is_better s i (place_of o)
unfolding is_better
against s i None b h e k = absurd (cc e)
against s i (Some x) b h e k =
    let q : x ≡ b = cc e in
    rw (ne_eqb (flag_of s i) 1 h) (ap (is_below (udid_of s i)) (ap (λ (y : Best). y.udid) (sym q) ∙ k))

-- a larger high half tells
above : (a b c d : ℕ) → d < 2 ^ 64 → c < a → c * 2 ^ 64 + d ≤ a * 2 ^ 64 + b
above a b c d h l = omega arith

not_below : (u v : Udid) → v.low < 2 ^ 64 → v.high < u.high → is_below u v ≡ false
not_below u v h l = le-ltb (value u) (value v) (above u.high u.low v.high v.low h l)

pub returns-then-flag-eq1 : goal.returns-then-flag-eq1
returns-then-flag-eq1 c = resolved _ _ _ (sym c.flag.ensures ∙ c.if-flag-eq1.true)

pub returns-in_default : goal.returns-in_default
returns-in_default c = first_one c.args.records.now c.args.i c.args.best (λ q. c.if-flag-eq1.false (c.flag.ensures ∙ q)) c.in_default.is

pub returns-then-high-held : goal.returns-then-high-held
returns-then-high-held c =
    c.beats.ensures ∙ ap (λ (u : Udid). is_below u c.in-Some.held.udid) c.udid.ensures
    ∙ against c.args.records.now c.args.i c.args.best c.in-Some.held (λ q. c.if-flag-eq1.false (c.flag.ensures ∙ q)) c.in-Some.is c.requires

pub returns-else-high-held : goal.returns-else-high-held
returns-else-high-held c =
    let a = c.args in
    let l : c.in-Some.held.udid.high < (udid_of c.args.records.now c.args.i).high = rw (← c.high.ensures) c.if-high-held.false in
    lt-leb _ _ c.if-high-held.false ∙ sym (not_below (udid_of c.args.records.now c.args.i) c.in-Some.held.udid (search rules) l)
    ∙ against a.records.now a.i a.best c.in-Some.held (λ q. c.if-flag-eq1.false (c.flag.ensures ∙ q)) c.in-Some.is c.requires
