-- A page with text added to it, and a byte as digits in small letters or capitals.
use Rattle.std.specs.Prelude.{ℕ, ◌+◌, ◌/◌, ◌%◌, List, [], ◌∷◌, ltb, length}
use Rattle.lists.specs.Choice.{pick}
use Rattle.writing.specs.declared.page.Case.{Case}
use Rattle.writing.specs.declared.page.Case.TheVariants.{Lower, Upper}
use Rattle.writing.specs.declared.page.Page.{Page}
use Rattle.writing.specs.Written.{after, written, glyph}

-- a page with a text: its characters stand from the page's place on, as far as there is room, and the new place is the one after them; all
-- else of the buffer is as it was, and it is the same lent buffer
unfoldable pub with_text : Page → List ℕ → Page
with_text p xs = record p { out = record p.out { now = written p.out.now p.at xs }; at = after (length p.out.now) p.at xs }

-- the character of a digit below 16: `0` to `9`, `A` to `F`
abbrev pub capital : ℕ → ℕ
capital d = pick (ltb d 10) (48 + d) (55 + d)

-- the same by the case of its letters, and a byte as two of them
abbrev pub glyph_in : Case → ℕ → ℕ
glyph_in Lower d = glyph d
glyph_in Upper d = capital d

abbrev pub digits_of : Case → ℕ → List ℕ
digits_of case b = glyph_in case (b / 16) ∷ glyph_in case (b % 16) ∷ []
