-- What is handed back, case by case as the scope lists them: data received, data sent, or the empty part. The contract leaves one part.
use Rattle.std.specs.Prelude.{◌≡◌, Bool, ◌↔◌, ℕ, length, take, ltb, leb}
use Rattle.std.proofs.Math.Path.{refl}
use Rattle.std.proofs.Common.{sym, ◌∙◌, ltb-true, leb-true, lt-ltb, le-leb}
use Rattle.std.proofs.Math.Bool.{true, false}
use mathlib.Core.List.{List, []}
use Rattle.lists.specs.ChoiceLaws.{both_true}
use Rattle.trace.specs.declared.transaction.Transaction.{Transaction}
use Rattle.trace.specs.Shapes.{protocols, reads, shape_of}
use Rattle.trace.specs.Allowed.{lengths_fit}
use Rattle.trace.proofs.DataFitsLaws.{listed_lengths_fit, fitting_lengths_listed}
use Rattle.last.specs.Last.{belongs, last_data, last_place, Whole, Gives}

-- the tests pass exactly for a whole transaction
pub belongs_exactly : (t : Transaction) (s r : ℕ) → (belongs t s r ≡ true) ↔ Whole t s r
belongs_exactly t s r = (
  λ h. (
      let a = both_true (ltb t.protocol protocols) _ h in
      let b = both_true (lengths_fit (shape_of t.protocol) t.sent t.received) _ a.1 in
      let c = both_true (leb t.sent s) _ b.1 in
      record { known = ltb-true t.protocol protocols a.0; lengths = fitting_lengths_listed t.protocol (ltb-true t.protocol protocols a.0) t.sent t.received b.0; sent = leb-true t.sent s c.0; received = leb-true t.received r c.1 }
      ),
  λ w. rw (lt-ltb t.protocol protocols w.known, listed_lengths_fit t.protocol t.sent t.received w.lengths, le-leb t.sent s w.sent, le-leb t.received r w.received),
)

module _ (t : Transaction) (s r : List ℕ) (p q : ℕ × ℕ) where
  -- where it is whole: the front of the buffer of its last data phase
  pub gives_received : Whole t (length s) (length r) → reads (shape_of t.protocol) ≡ true → Gives t s r p q (take t.received r) q
  gives_received w e = let h = (belongs_exactly t (length s) (length r)).1 w in (rw (h, e), rw (h, e))

  pub gives_sent : Whole t (length s) (length r) → reads (shape_of t.protocol) ≡ false → Gives t s r p q (take t.sent s) p
  gives_sent w e = let h = (belongs_exactly t (length s) (length r)).1 w in (rw (h, e), rw (h, e))

  -- anything else: the empty part at the front of the sent buffer
  pub gives_empty : (Whole t (length s) (length r) → ⊥) → Gives t s r p q [] p
  gives_empty n = go (belongs t (length s) (length r)) refl
    where
      go : (b : Bool) → belongs t (length s) (length r) ≡ b → Gives t s r p q [] p
      go true h = absurd (n ((belongs_exactly t (length s) (length r)).0 h))
      go false h = (rw h, rw h)

-- two parts that meet the contract for the same buffers and transaction are the same part
pub one_part : (t : Transaction) (s r : List ℕ) (p q : ℕ × ℕ) (l m : List ℕ) (a b : ℕ × ℕ)
    → l ≡ last_data t s r → a ≡ last_place t (length s) (length r) p q → m ≡ last_data t s r → b ≡ last_place t (length s) (length r) p q
    → (l ≡ m) × (a ≡ b)
one_part t s r p q l m a b el ea em eb = (el ∙ sym em, ea ∙ sym eb)
