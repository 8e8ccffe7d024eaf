-- What each symbol's text says: read as letters and digits, it is that symbol. Prepare To ARP as an example.
use Rattle.std.specs.Prelude.{ℕ, ◌+◌, ◌*◌, ◌-◌, ◌/◌, ◌%◌, ◌<◌, ◌≡◌, refl, Bool, true, false, List, [], ◌∷◌, ltb, leb, eqb}
use Rattle.std.proofs.Common.{sym, ◌∙◌, mod-eq_of_lt, arith}
use Rattle.std.proofs.Math.Path.{ap}
use borrow.Author.Tests.{eqb-true, eq-eqb, ne_eqb, ltb-true}
use Rattle.lists.specs.AllLaws.{at_below}
use Rattle.lists.specs.Choice.{pick, and}
use Rattle.text.specs.Chars.{chars}
use Rattle.text.specs.Words.{part_of}
use Rattle.std.specs.Prelude.{Ok}
use Rattle.writing.specs.Written.{decimal_of}
use Rattle.writing.specs.Pages.{capital}
use Rattle.pieces.specs.Pieces.{texts, below}
use Rattle.letters.specs.Letters.{capitals, sign_text, letter_text, letters_text, encoded_letters}

-- ---- a reader of its own: a digit, `0` to `9` or `A` to `F`, else 256; a letter; two digits
unfoldable pub digit_read : ℕ → ℕ
digit_read c = pick (and (leb 48 c) (leb c 57)) (c - 48) (pick (and (leb 65 c) (leb c 70)) (c - 55) 256)

-- 83 is S, 80 P, 65 A and 78 N
unfoldable pub sign_read : ℕ → ℕ
sign_read c = pick (eqb c 83) 256 (pick (eqb c 80) 257 (pick (eqb c 65) 258 (pick (eqb c 78) 259 260)))

unfoldable pub symbol_read : List ℕ → ℕ
symbol_read [] = 260
symbol_read (c ∷ []) = sign_read c
symbol_read (c ∷ d ∷ []) = 16 * digit_read c + digit_read d
symbol_read (c ∷ d ∷ e ∷ s) = 260

read_right : ℕ → Bool
read_right x = eqb (symbol_read (letter_text x)) x

pub symbol_read_back : (x : ℕ) → x < 260 → symbol_read (letter_text x) ≡ x
unfolding digit_read sign_read symbol_read read_right letter_text sign_text
symbol_read_back x h = eqb-true (symbol_read (letter_text x)) x (at_below read_right 260 refl x h)

-- so two symbols never have the same text
pub symbols_differ : (x y : ℕ) → x < 260 → y < 260 → letter_text x ≡ letter_text y → x ≡ y
symbols_differ x y h g e = sym (symbol_read_back x h) ∙ ap symbol_read e ∙ symbol_read_back y g

-- ---- by letters
pub start_is_S : letter_text 256 ≡ chars "S"
unfolding letter_text sign_text
start_is_S = refl

pub stop_is_P : letter_text 257 ≡ chars "P"
unfolding letter_text sign_text
stop_is_P = refl

pub ack_is_A : letter_text 258 ≡ chars "A"
unfolding letter_text sign_text
ack_is_A = refl

pub nack_is_N : letter_text 259 ≡ chars "N"
unfolding letter_text sign_text
nack_is_N = refl

-- Prepare To ARP
abbrev pub prepare : List ℕ
prepare = 256 ∷ 194 ∷ 258 ∷ 1 ∷ 258 ∷ 192 ∷ 258 ∷ 257 ∷ []

pub prepare_in_letters : letters_text prepare ≡ chars " S C2 A 01 A C0 A P"
unfolding below texts letter_text sign_text
prepare_in_letters = refl

pub prepare_encoded : encoded_letters (Ok 8) prepare ≡ chars "0 trace S C2 A 01 A C0 A P\n"
unfolding below texts part_of letter_text sign_text
prepare_encoded = refl

-- ---- case by case

capital_low : (d : ℕ) → d < 16 → capital (d % 16) ≡ capital d
capital_low d h = ap capital (mod-eq_of_lt h)

pub capitals_are : (b : ℕ) {x y : ℕ} → b < 256 → x ≡ capital (b / 16 % 16) → y ≡ capital (b % 16 % 16) → x ∷ y ∷ [] ≡ capitals b
capitals_are b {x} {y} h e f = cc (e, f, capital_low (b / 16) (omega arith), capital_low (b % 16) (omega arith))

pub letter_byte : (x : ℕ) {t : Bool} → t ≡ ltb x 256 → t ≡ true → capitals (x % 256) ≡ letter_text x
unfolding letter_text
letter_byte x e f = let h : x % 256 ≡ x = mod-eq_of_lt (ltb-true x 256 (sym e ∙ f)) in rw (h, sym e ∙ f)

pub letter_sign : (x : ℕ) {t : Bool} → t ≡ ltb x 256 → t ≡ false → sign_text x ≡ letter_text x
unfolding letter_text
letter_sign x e f = rw (sym e ∙ f)

pub sign_start : (x : ℕ) → x ≡ 256 → chars "S" ≡ sign_text x
unfolding sign_text
sign_start x a = rw (eq-eqb x 256 a)

module _ (x : ℕ) (a : x ≡ 256 → ⊥) where
  pub sign_stop : x ≡ 257 → chars "P" ≡ sign_text x
  unfolding sign_text
  sign_stop b = rw (ne_eqb x 256 a, eq-eqb x 257 b)

  module _ (b : x ≡ 257 → ⊥) where
    pub sign_ack : x ≡ 258 → chars "A" ≡ sign_text x
    unfolding sign_text
    sign_ack c = rw (ne_eqb x 256 a, ne_eqb x 257 b, eq-eqb x 258 c)

    module _ (c : x ≡ 258 → ⊥) where
      pub sign_nack : x ≡ 259 → chars "N" ≡ sign_text x
      unfolding sign_text
      sign_nack d = rw (ne_eqb x 256 a, ne_eqb x 257 b, ne_eqb x 258 c, eq-eqb x 259 d)

      pub sign_number : (x ≡ 259 → ⊥) → {n : ℕ} → n ≡ x → decimal_of n ≡ sign_text x
      unfolding sign_text
      sign_number d {n} e = ap decimal_of e ∙ rw (ne_eqb x 256 a, ne_eqb x 257 b, ne_eqb x 258 c, ne_eqb x 259 d)
