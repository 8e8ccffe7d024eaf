-- An address is listed if and only if a row of the table covers it, for a write or for a read.
use Rattle.std.specs.Prelude.{ℕ, ◌+◌, ◌*◌, ◌<◌, ◌≡◌, refl, Bool, true, false, ◌↔◌, List, [], ◌∷◌}
use Rattle.std.proofs.Common.{sym, ◌∙◌, arith}
use Rattle.std.proofs.Math.Decide.{dec_lt}
use Rattle.lists.specs.All.{all_below}
use Rattle.lists.specs.AllLaws.{at_below}
use Rattle.lists.specs.Choice.{or, same}
use Rattle.lists.specs.Each.{Any}
use Rattle.lists.specs.ChoiceLaws.{false_not_true, same_true, not_both}
use Rattle.lists.specs.TestLaws.{or_is}
use Rattle.wire.specs.AddressTable.{Bit, table17, covers, Covers}
use Rattle.wire.specs.Addresses.{is_reserved, is_preassigned, is_listed}
use Rattle.wire.proofs.AddressLaws.{listed_above}

-- `Covers` as a test, and whether one of some rows covers
abbrev covers_either : ℕ → List Bit → Bool
covers_either a row = or (covers row (2 * a)) (covers row (2 * a + 1))

abbrev some_covers : ℕ → List (List Bit) → Bool
some_covers a [] = false
some_covers a (row ∷ rows) = or (covers_either a row) (some_covers a rows)

some_covers_is : (a : ℕ) (rows : List (List Bit)) → (some_covers a rows ≡ true) ↔ Any (Covers a) rows
some_covers_is a [] = (λ e. false_not_true e, λ n. absurd n)
some_covers_is a (row ∷ rows) = or_is (covers_either a row) (some_covers a rows) (or_is _ _ (λ e. e, λ e. e) (λ e. e, λ e. e)) (some_covers_is a rows)

all_listed : all_below (λ a. same (is_listed a) (some_covers a table17)) 128 ≡ true
unfolding is_reserved is_preassigned is_listed
all_listed = refl

-- AN ADDRESS IS LISTED IF AND ONLY IF A ROW COVERS IT
pub listed_is : (a : ℕ) → (is_listed a ≡ true) ↔ ((a < 128) × Any (Covers a) table17)
listed_is a = go (dec_lt a 128)
  where
    at : a < 128 → is_listed a ≡ some_covers a table17
    at h = same_true _ _ (at_below (λ a. same (is_listed a) (some_covers a table17)) 128 all_listed a h)

    go : Dec (a < 128) → (is_listed a ≡ true) ↔ ((a < 128) × Any (Covers a) table17)
    go (yes h) = (λ e. (h, (some_covers_is a table17).0 (sym (at h) ∙ e)), λ c. at h ∙ (some_covers_is a table17).1 c.1)
    go (no h) = (λ e. not_both (listed_above a (omega arith)) e, λ c. absurd (h c.0))
