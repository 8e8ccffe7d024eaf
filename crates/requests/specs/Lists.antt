-- Lists of numbers in a line: the numbers below a limit, of which at most k are looked at, and the place of the first word that is none.
use Rattle.std.specs.Prelude.{ℕ, zero, suc, List, [], ◌∷◌, Result, Ok, Err}
use Rattle.words.specs.Said.{number_at}
use Rattle.words.specs.declared.word.Word.{Word}

abbrev pub number_on : {A : Type 0} → Result (Word ℕ) ℕ → (ℕ → ℕ → A) → (ℕ → A) → A
number_on (Ok w) more end = more w.value w.to
number_on (Err at) more end = end at

unfoldable pub numbers_from : ℕ → ℕ → List ℕ → ℕ → List ℕ
numbers_from limit zero line at = []
numbers_from limit (suc k) line at = number_on (number_at limit line at) (λ (x next : ℕ). x ∷ numbers_from limit k line next) (λ (end : ℕ). [])

unfoldable pub numbers_end : ℕ → ℕ → List ℕ → ℕ → ℕ
numbers_end limit zero line at = at
numbers_end limit (suc k) line at = number_on (number_at limit line at) (λ (x next : ℕ). numbers_end limit k line next) (λ (end : ℕ). end)

-- bytes, and symbols
abbrev pub bytes_from : ℕ → List ℕ → ℕ → List ℕ
bytes_from k line at = numbers_from 256 k line at

abbrev pub bytes_end : ℕ → List ℕ → ℕ → ℕ
bytes_end k line at = numbers_end 256 k line at

abbrev pub symbols_from : ℕ → List ℕ → ℕ → List ℕ
symbols_from k line at = numbers_from 65536 k line at

abbrev pub symbols_end : ℕ → List ℕ → ℕ → ℕ
symbols_end k line at = numbers_end 65536 k line at
