-- The tests of refusal 1 find exactly the cases that are listed, all of them and no other.
use Rattle.std.specs.Prelude.{◌≡◌, refl, ◌↔◌, Bool, true, false, ℕ, ◌≤◌, ◌<◌, ltb, leb, eqb, length}
use Rattle.std.proofs.Common.{sym, ◌∙◌, arith, ltb-false, leb-true, leb-false, eqb-true, le-ltb, le-leb, ne_eqb}
use Rattle.std.proofs.Math.Path.{ap}
use Rattle.std.proofs.lemmas.Bool.{eqb-false, lt-leb}
use Rattle.lists.specs.Choice.{pick, or, and, not}
use Rattle.lists.specs.ChoiceLaws.{false_not_true, not_both, or_last}
use Rattle.trace.specs.declared.shape.Shape.{Shape}
use Rattle.trace.specs.Shapes.{protocols, shape_of, forbidden, writes, reads}
use Rattle.trace.proofs.FieldLaws.{address_of_row, command_of_row, direction_of_row}
use Rattle.trace.proofs.ForbiddenLaws.{forbidden_is}
use Rattle.trace.proofs.DataFitsLaws.{listed_lengths_fit, fitting_lengths_listed}
use Rattle.trace.specs.Trace.{Message}
use Rattle.trace.specs.Allowed.{lengths_fit, address_fits, direction_fits, command_fits, allowed}
use Rattle.encode.specs.Encode.{refused_by, refused}
use Rattle.encode.specs.Listed.{Listed, unknown_protocol, address_above_127, direction_above_1, quick_with_pec, lacking_command, lacking_direction, forbidden_length}

-- ---- the tests one by one

-- whatever the tests before it say
fail_2 : (b a : Bool) → or b (not (and a false)) ≡ true
fail_2 b true = or_last b
fail_2 b false = or_last b

fail_3 : (b a d : Bool) → or b (not (and a (and d false))) ≡ true
fail_3 b a true = fail_2 b a
fail_3 b a false = fail_2 b a

fail_4 : (b a d c : Bool) → or b (not (and a (and d (and c false)))) ≡ true
fail_4 b a d true = fail_3 b a d
fail_4 b a d false = fail_3 b a d

module _ (protocol : ℕ) (pec : Bool) (t : Message) where
  abbrev sh : Shape
  sh = shape_of protocol

  -- one test that fails is a refusal
  refused_by_lem : (b a d c l : Bool) → forbidden protocol pec ≡ b → address_fits sh t.address ≡ a → direction_fits sh t.direction ≡ d → command_fits sh t.command ≡ c
      → lengths_fit sh (length t.sent) (length t.received) ≡ l → refused protocol pec t ≡ or b (not (and a (and d (and c l))))
  unfolding refused_by allowed
  refused_by_lem b a d c l eb ea ed ec el =
      ap (λ (x : Bool). or x (not (and (address_fits sh t.address) (and (direction_fits sh t.direction) (and (command_fits sh t.command) (lengths_fit sh (length t.sent) (length t.received))))))) eb
      ∙ ap (λ (x : Bool). or b (not (and x (and (direction_fits sh t.direction) (and (command_fits sh t.command) (lengths_fit sh (length t.sent) (length t.received))))))) ea
      ∙ ap (λ (x : Bool). or b (not (and a (and x (and (command_fits sh t.command) (lengths_fit sh (length t.sent) (length t.received))))))) ed
      ∙ ap (λ (x : Bool). or b (not (and a (and d (and x (lengths_fit sh (length t.sent) (length t.received))))))) ec
      ∙ ap (λ (x : Bool). or b (not (and a (and d (and c x))))) el

  above_refused : protocols ≤ protocol → refused protocol pec t ≡ true
  above_refused h = refused_by_lem true _ _ _ _ (rw (le-leb protocols protocol h)) refl refl refl refl

  -- or the protocol is unknown
  below_or_refused : (protocol < protocols → refused protocol pec t ≡ true) → refused protocol pec t ≡ true
  below_or_refused f = go (leb protocols protocol) refl
    where
      go : (b : Bool) → leb protocols protocol ≡ b → refused protocol pec t ≡ true
      go true e = above_refused (leb-true protocols protocol e)
      go false e = f (leb-false protocols protocol e)

  below_or_listed : (protocol < protocols → Listed protocol pec t) → Listed protocol pec t
  below_or_listed f = go (leb protocols protocol) refl
    where
      go : (b : Bool) → leb protocols protocol ≡ b → Listed protocol pec t
      go true e = unknown_protocol (leb-true protocols protocol e)
      go false e = f (leb-false protocols protocol e)

  pub listed_refused : Listed protocol pec t → refused protocol pec t ≡ true
  listed_refused (unknown_protocol h) = above_refused h
  listed_refused (address_above_127 h) = refused_by_lem _ false _ _ _ refl (address_of_row protocol t.address ∙ le-ltb t.address 128 h) refl refl refl ∙ or_last (forbidden protocol pec)
  listed_refused (direction_above_1 h) = refused_by_lem _ _ false _ _ refl refl (go (or (writes sh) (reads sh))) refl refl ∙ fail_2 (forbidden protocol pec) (address_fits sh t.address)
    where
      go : (b : Bool) → pick b (eqb t.direction 0) (leb t.direction 1) ≡ false
      go true = ne_eqb t.direction 0 (λ e. omega arith)
      go false = lt-leb t.direction 1 h
  listed_refused (quick_with_pec e q) = refused_by_lem true _ _ _ _ (rw (e, q)) refl refl refl refl
  listed_refused (lacking_command h z) =
      let e : command_fits sh t.command ≡ false = command_of_row protocol t.command (omega arith) ∙ rw (le-ltb 2 protocol h) (ne_eqb t.command 0 z) in
      refused_by_lem _ _ _ false _ refl refl refl e refl ∙ fail_3 (forbidden protocol pec) (address_fits sh t.address) (direction_fits sh t.direction)
  listed_refused (lacking_direction q z) = below_or_refused go
    where
      go : protocol < protocols → refused protocol pec t ≡ true
      go h =
          let e : direction_fits sh t.direction ≡ false = direction_of_row protocol t.direction h ∙ rw (ne_eqb protocol 0 q) (ne_eqb t.direction 0 z) in
          refused_by_lem _ _ false _ _ refl refl e refl refl ∙ fail_2 (forbidden protocol pec) (address_fits sh t.address)
  listed_refused (forbidden_length z) = below_or_refused (λ h. go h (lengths_fit sh (length t.sent) (length t.received)) refl)
    where
      go : protocol < protocols → (l : Bool) → lengths_fit sh (length t.sent) (length t.received) ≡ l → refused protocol pec t ≡ true
      go h true e = absurd (z (fitting_lengths_listed protocol h (length t.sent) (length t.received) e))
      go h false e =
          refused_by_lem _ _ _ _ false refl refl refl refl e ∙ fail_4 (forbidden protocol pec) (address_fits sh t.address) (direction_fits sh t.direction) (command_fits sh t.command)

  -- which of the cases it is
  pec_listed : forbidden protocol pec ≡ true → Listed protocol pec t
  pec_listed f = below_or_listed (λ h. go (eqb protocol 0) refl pec refl (sym (forbidden_is protocol pec h) ∙ f))
    where
      go : (b : Bool) → eqb protocol 0 ≡ b → (q : Bool) → pec ≡ q → and q (not (not b)) ≡ true → Listed protocol pec t
      go true e true g k = quick_with_pec (eqb-true protocol 0 e) g
      go true e false g k = false_not_true k
      go false e true g k = false_not_true k
      go false e false g k = false_not_true k

  address_listed : address_fits sh t.address ≡ false → Listed protocol pec t
  address_listed e = address_above_127 (ltb-false t.address 128 (sym (address_of_row protocol t.address) ∙ e))

  direction_listed : direction_fits sh t.direction ≡ false → Listed protocol pec t
  direction_listed e = below_or_listed (λ h. go (eqb protocol 0) refl (sym (direction_of_row protocol t.direction h) ∙ e))
    where
      go : (b : Bool) → eqb protocol 0 ≡ b → pick (not b) (eqb t.direction 0) (leb t.direction 1) ≡ false → Listed protocol pec t
      go true g f = direction_above_1 (leb-false t.direction 1 f)
      go false g f = lacking_direction (eqb-false protocol 0 g) (eqb-false t.direction 0 f)

  command_listed : command_fits sh t.command ≡ false → Listed protocol pec t
  command_listed e = below_or_listed (λ h. go (ltb 2 protocol) refl (sym (command_of_row protocol t.command h) ∙ e))
    where
      go : (b : Bool) → ltb 2 protocol ≡ b → pick b true (eqb t.command 0) ≡ false → Listed protocol pec t
      go true g f = not_both f refl
      go false g f = lacking_command (ltb-false 2 protocol g) (eqb-false t.command 0 f)

  length_listed : lengths_fit sh (length t.sent) (length t.received) ≡ false → Listed protocol pec t
  length_listed e = forbidden_length (λ d. not_both e (listed_lengths_fit protocol (length t.sent) (length t.received) d))

  pub refused_listed : refused protocol pec t ≡ true → Listed protocol pec t
  refused_listed e =
      go (forbidden protocol pec) refl (address_fits sh t.address) refl (direction_fits sh t.direction) refl (command_fits sh t.command) refl
      (lengths_fit sh (length t.sent) (length t.received)) refl
    where
      go : (b : Bool) → forbidden protocol pec ≡ b → (a : Bool) → address_fits sh t.address ≡ a → (d : Bool) → direction_fits sh t.direction ≡ d
          → (c : Bool) → command_fits sh t.command ≡ c → (l : Bool) → lengths_fit sh (length t.sent) (length t.received) ≡ l → Listed protocol pec t
      go true eb a ea d ed c ec l el = pec_listed eb
      go false eb false ea d ed c ec l el = address_listed ea
      go false eb true ea false ed c ec l el = direction_listed ed
      go false eb true ea true ed false ec l el = command_listed ec
      go false eb true ea true ed true ec false el = length_listed el
      go false eb true ea true ed true ec true el = not_both (refused_by_lem false true true true true eb ea ed ec el) e

-- the tests find the listed cases, all of them and no other
pub refused_exactly : (protocol : ℕ) (pec : Bool) (t : Message) → (refused protocol pec t ≡ true) ↔ Listed protocol pec t
refused_exactly protocol pec t = (refused_listed protocol pec t, listed_refused protocol pec t)
