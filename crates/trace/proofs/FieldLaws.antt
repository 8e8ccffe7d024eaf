-- What the tests on parts and on fields say: for each kind of part, for shapes in general, and for each row of the table.
use Rattle.std.specs.Prelude.{◌≡◌, refl, Bool, true, false, ◌↔◌, ℕ, ◌+◌, ◌%◌, ◌≤◌, ◌<◌, ltb, leb, eqb}
use Rattle.std.proofs.Common.{ap, ◌∙◌}
use Rattle.std.proofs.Math.ListN.{get_or-eq_default}
use borrow.Author.Tests.{leb-true, le-leb}
use Rattle.lists.specs.Choice.{pick, or, not}
use Rattle.lists.specs.ChoiceLaws.{both_true}
use Rattle.trace.specs.declared.shape.Shape.{Shape}
use Rattle.trace.specs.Shapes.{some, count_in, writes, reads, shapes, protocols, no_row, shape_of}
use Rattle.trace.specs.Parts.{Parts}
use Rattle.trace.specs.Allowed.{length_fits, lengths_fit, address_fits, direction_fits, sender_fits, command_fits}
use Rattle.trace.proofs.ShapeLaws.{row_is, none_to_host}

-- ---- parts

pub parts_in_numbers : Parts
parts_in_numbers =
    record {
      nothing_there = refl;
      fixed_there = λ k. refl;
      counted_there = refl;
      nothing_counted = refl;
      fixed_counted = λ k. refl;
      counted_counted = refl;
      nothing_adds = λ n. refl;
      fixed_adds = λ k n. refl;
      counted_adds = λ n. refl;
      nothing_least = λ k. refl;
      fixed_least = λ j k. refl;
      counted_least = λ k. refl;
      nothing_fits = λ least n. refl;
      fixed_fits = λ least k n. refl;
      counted_fits = λ least n. refl;
    }

-- ---- shapes: one that goes to the host alone has the address 08h and a sender's byte, which is even, as its command

module _ (sh : Shape) where
  pub to_any : (a : ℕ) → sh.tohost ≡ false → address_fits sh a ≡ ltb a 128
  to_any a e = ap (λ (b : Bool). pick b (eqb a 0x08) (ltb a 128)) e

  pub to_host : (a : ℕ) → sh.tohost ≡ true → address_fits sh a ≡ eqb a 0x08
  to_host a e = ap (λ (b : Bool). pick b (eqb a 0x08) (ltb a 128)) e

  pub any_sender : (c : ℕ) → sh.tohost ≡ false → sender_fits sh c ≡ true
  any_sender c e = ap (λ (b : Bool). pick b (eqb (c % 2) 0) true) e

  pub even_sender : (c : ℕ) → sh.tohost ≡ true → sender_fits sh c ≡ eqb (c % 2) 0
  even_sender c e = ap (λ (b : Bool). pick b (eqb (c % 2) 0) true) e

  pub has_command : (c : ℕ) → sh.command ≡ true → command_fits sh c ≡ sender_fits sh c
  has_command c e = ap (λ (b : Bool). pick b (sender_fits sh c) (eqb c 0)) e

  pub lacks_command : (c : ℕ) → sh.command ≡ false → command_fits sh c ≡ eqb c 0
  lacks_command c e = ap (λ (b : Bool). pick b (sender_fits sh c) (eqb c 0)) e

  -- a write phase: a command or data are sent; a read phase: data are received
  pub command_writes : sh.command ≡ true → writes sh ≡ true
  command_writes e = ap (λ (b : Bool). or b (some sh.sent)) e

  pub sent_writes : sh.command ≡ false → writes sh ≡ some sh.sent
  sent_writes e = ap (λ (b : Bool). or b (some sh.sent)) e

  pub received_reads : reads sh ≡ some sh.received
  received_reads = refl

  -- with either the direction is zero; with neither it is 0 or 1
  pub has_phase : (d : ℕ) → or (writes sh) (reads sh) ≡ true → direction_fits sh d ≡ eqb d 0
  has_phase d e = ap (λ (b : Bool). pick b (eqb d 0) (leb d 1)) e

  pub lacks_phase : (d : ℕ) → or (writes sh) (reads sh) ≡ false → direction_fits sh d ≡ leb d 1
  lacks_phase d e = ap (λ (b : Bool). pick b (eqb d 0) (leb d 1)) e

  -- each length fits its part, and the counts together are at most the most
  pub lengths_exactly : (m n : ℕ) → (lengths_fit sh m n ≡ true)
      ↔ ((length_fits sh.least sh.sent m ≡ true) × (length_fits sh.least sh.received n ≡ true) × (count_in sh.sent m + count_in sh.received n ≤ sh.most))
  unfolding lengths_fit
  lengths_exactly m n = (
    λ e. (
        let a = both_true (length_fits sh.least sh.sent m) _ e in
        let b = both_true (length_fits sh.least sh.received n) _ a.1 in
        (a.0, b.0, leb-true (count_in sh.sent m + count_in sh.received n) sh.most b.1)
        ),
    λ h. rw (h.0, h.1) (le-leb (count_in sh.sent m + count_in sh.received n) sh.most h.2),
  )

-- a number that is in no row has Quick's shape
pub shape_above : (n : ℕ) → protocols ≤ n → shape_of n ≡ shape_of 0
shape_above n h = get_or-eq_default shapes no_row h

-- every row goes to any address; a command is lacking in Quick, Send Byte and Receive Byte; a direction in all but Quick
pub address_of_row : (n a : ℕ) → address_fits (shape_of n) a ≡ ltb a 128
address_of_row n a = to_any (shape_of n) a (none_to_host n)

pub command_of_row : (n c : ℕ) → n < protocols → command_fits (shape_of n) c ≡ pick (ltb 2 n) true (eqb c 0)
command_of_row n c h =
    ap (λ (x : Bool). pick (shape_of n).command x (eqb c 0)) (any_sender (shape_of n) c (none_to_host n))
    ∙ ap (λ (b : Bool). pick b true (eqb c 0)) (row_is n h).1

pub direction_of_row : (n d : ℕ) → n < protocols → direction_fits (shape_of n) d ≡ pick (not (eqb n 0)) (eqb d 0) (leb d 1)
direction_of_row n d h = ap (λ (b : Bool). pick b (eqb d 0) (leb d 1)) (row_is n h).2
