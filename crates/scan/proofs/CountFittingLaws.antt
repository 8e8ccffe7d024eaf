-- A wrong count over the table is what it is worked out to be: a Block Process Call's count received, too much with the count sent.
use Rattle.std.specs.Prelude.{◌≡◌, refl, Bool, true, List, [], ◌↔◌, ℕ, ◌<◌, eqb, take, get_or}
use Rattle.std.proofs.Common.{sym, subst, arith, eqb-true}
use Rattle.lists.specs.AllLaws.{at_place}
use Rattle.lists.specs.Choice.{or, and, not}
use Rattle.trace.specs.Rows.{message}
use Rattle.trace.proofs.ShapeLaws.{sane, none_to_host, limits_of_row}
use Rattle.trace.specs.Shapes.{shapes, protocols, no_row, shape_of, is_counted}
use Rattle.trace.specs.declared.shape.Shape.{Shape}
use Rattle.scan.specs.Answers.{Because}
use Rattle.scan.proofs.CompletionLaws.{zero_byte}
use Rattle.scan.proofs.CountLaws.{TooMuch, wrong_count_is, is_wrong_count}
use Rattle.scan.specs.Fitting.{CountTooHigh}
use Rattle.scan.specs.declared.answer.Refusal.TheVariants.{WrongCount}

-- one row alone has both counts
only_ten : (n : ℕ) → n < protocols → is_counted (shape_of n).sent ≡ true → is_counted (shape_of n).received ≡ true → n ≡ 10
only_ten n h s r =
    go (is_counted (shape_of n).sent) (is_counted (shape_of n).received) s r
    (at_place (λ (i : ℕ) (sh : Shape). or (not (and (is_counted sh.sent) (is_counted sh.received))) (eqb i 10)) shapes no_row refl n h)
  where
    go : (a b : Bool) → a ≡ true → b ≡ true → or (not (and a b)) (eqb n 10) ≡ true → n ≡ 10
    go a b s r e = eqb-true n 10 (subst (λ (u : Bool). or (not (and u true)) (eqb n 10) ≡ true) s (subst (λ (u : Bool). or (not (and a u)) (eqb n 10) ≡ true) r e))

module _ (p : ℕ) (pec : Bool) (h : p < protocols) (tr : List ℕ) (k : ℕ) where
  there : Because (shape_of p) pec tr WrongCount k → CountTooHigh p tr k
  there w =
      let t = wrong_count_is (shape_of p) (sane p) (limits_of_row p) pec tr k w in
      let e = only_ten p h t.both.0 t.both.1 in
      subst (λ (n : ℕ). CountTooHigh n tr k) (sym e) (fields (subst (λ (n : ℕ). TooMuch (shape_of n) pec (take k tr) (get_or tr k 0)) e t))
    where
      fields : TooMuch (shape_of 10) pec (take k tr) (get_or tr k 0) → CountTooHigh 10 tr k
      fields t = (
        refl,
        w.0.0.inside,
        w.1.0,
        (t.message.address, t.message.command, t.message.sent, t.valid.address, t.valid.command.0, t.valid.sent_bytes, omega (arith, t.valid.counts), t.sum, t.before),
      )

  back : CountTooHigh p tr k → Because (shape_of p) pec tr WrongCount k
  back (e, l, b, (a, c, d, ha, hc, hd, hl, s, w)) =
      is_wrong_count (shape_of p) (sane p) (limits_of_row p) pec tr k (none_to_host p) l b
      (subst (λ (n : ℕ). TooMuch (shape_of n) pec (take k tr) (get_or tr k 0)) (sym e) (record {
        message = message a 0 c d [];
        valid = record {
          address = ha;
          direction = refl;
          command = (hc, tt);
          sent_length_lem = omega arith;
          sent_bytes = hd;
          received_length_lem = omega arith;
          received_bytes = tt;
          counts = omega (arith, hl);
        };
        pec = 0;
        byte = zero_byte pec;
        before = w;
        both = (refl, refl);
        sum = s;
      }))

  pub count_too_high : CountTooHigh p tr k ↔ Because (shape_of p) pec tr WrongCount k
  count_too_high = (back, there)
