-- The tests on lengths pass exactly for the lengths of the table's lines.
use Rattle.std.specs.Prelude.{◌≡◌, refl, Bool, true, false, ℕ, ◌<◌, eqb, ltb, length, replicate}
use Rattle.std.proofs.Common.{sym, ap, ap₂, ◌∙◌, subst, arith}
use Rattle.std.proofs.Math.ListN.{length-replicate}
use Rattle.lists.specs.Choice.{pick, or}
use Rattle.lists.specs.EachLaws.{zeros_bytes}
use Rattle.wire.specs.Addresses.{host_address}
use Rattle.trace.specs.declared.shape.Shape.{Shape}
use Rattle.trace.specs.Allowed.{lengths_fit, allowed}
use Rattle.trace.specs.DataFits.{DataFits}
use Rattle.trace.specs.Rows.{message}
use Rattle.trace.specs.Shapes.{protocols, shape_of, writes, reads}
use Rattle.trace.proofs.TableLaws.{row_means, valid_exactly}
use Rattle.trace.specs.Trace.{Message, Valid}
use Rattle.trace.proofs.ValidLaws.{allowed_valid, lengths_of_valid}

pub listed_lengths_fit : (protocol m n : ℕ) → DataFits protocol m n → lengths_fit (shape_of protocol) m n ≡ true
listed_lengths_fit protocol m n (x, r, e, s, t) =
    ap₂ (λ (i j : ℕ). lengths_fit (shape_of protocol) i j) (sym s) (sym t)
    ∙ lengths_of_valid (shape_of protocol) x.message (subst (λ (p : ℕ). Valid (shape_of p) x.message) e (row_means _ x r).valid)

-- a message of zeros: to the host where only the host is addressed
module _ (sh : Shape) (m n : ℕ) where
  abbrev zeros : Message
  zeros = message (pick sh.tohost host_address 0) 0 0 (replicate m 0) (replicate n 0)

  address_fits : (b : Bool) → pick b (eqb (pick b host_address 0) host_address) (ltb (pick b host_address 0) 128) ≡ true
  address_fits true = refl
  address_fits false = refl

  direction_fits : (b : Bool) → pick b (eqb 0 0) true ≡ true
  direction_fits true = refl
  direction_fits false = refl

  command_fits : (b h : Bool) → pick b (pick h (eqb 0 0) true) (eqb 0 0) ≡ true
  command_fits true true = refl
  command_fits true false = refl
  command_fits false h = refl

  zeros_valid : lengths_fit sh m n ≡ true → Valid sh zeros
  unfolding allowed
  zeros_valid h =
      allowed_valid sh zeros (omega arith) (zeros_bytes m) (zeros_bytes n)
      (rw (address_fits sh.tohost, direction_fits (or (writes sh) (reads sh)), command_fits sh.command sh.tohost, length-replicate {A = ℕ} m 0, length-replicate {A = ℕ} n 0, h))

pub fitting_lengths_listed : (protocol : ℕ) → protocol < protocols → (m n : ℕ) → lengths_fit (shape_of protocol) m n ≡ true → DataFits protocol m n
fitting_lengths_listed protocol k m n h =
    let z = zeros (shape_of protocol) m n in
    let x = (valid_exactly protocol k z).0 (zeros_valid (shape_of protocol) m n h) in
    (x.0, x.1, x.2, ap (λ (t : Message). length t.sent) x.3 ∙ length-replicate {A = ℕ} m 0, ap (λ (t : Message). length t.received) x.3 ∙ length-replicate {A = ℕ} n 0)
