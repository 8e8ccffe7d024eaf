-- A list of numbers, word after word.
use Rattle.std.specs.Prelude.{ℕ, zero, suc, ◌≡◌, refl, List, [], ◌∷◌, ◌++◌, Ok, Err}
use Rattle.std.proofs.Common.{sym, ap, ◌∙◌}
use Rattle.words.specs.Said.{number_at, byte_at, symbol_at}
use Rattle.words.specs.declared.word.Word.{Word}
use Rattle.requests.specs.Lists.{numbers_from, numbers_end, bytes_from, bytes_end, symbols_from, symbols_end}

module _ (limit : ℕ) where
  from_step : (k : ℕ) (line : List ℕ) (at : ℕ) (w : Word ℕ) → Ok w ≡ number_at limit line at → numbers_from limit (suc k) line at ≡ (w.value ∷ []) ++ numbers_from limit k line w.to
  unfolding numbers_from
  from_step k line at w e = rw (← e)

  -- a number, and then those after it
  pub numbers_on : (k m : ℕ) (line : List ℕ) (at : ℕ) (w : Word ℕ) → k ≡ suc m → Ok w ≡ number_at limit line at
      → numbers_from limit k line at ≡ (w.value ∷ []) ++ numbers_from limit m line w.to
  numbers_on k m line at w h e = ap (λ (i : ℕ). numbers_from limit i line at) h ∙ from_step m line at w e

  -- another word ends the list, and so does the end of the room
  pub numbers_over : (k : ℕ) (line : List ℕ) (at end : ℕ) → Err end ≡ number_at limit line at → numbers_from limit k line at ≡ []
  unfolding numbers_from
  numbers_over zero line at end e = refl
  numbers_over (suc k) line at end e = rw (← e)

  pub numbers_full : (k : ℕ) (line : List ℕ) (at : ℕ) → k ≡ 0 → numbers_from limit k line at ≡ []
  unfolding numbers_from
  numbers_full k line at h = rw h

  end_step : (k : ℕ) (line : List ℕ) (at : ℕ) (w : Word ℕ) → Ok w ≡ number_at limit line at → numbers_end limit (suc k) line at ≡ numbers_end limit k line w.to
  unfolding numbers_end
  end_step k line at w e = rw (← e)

  -- the end is past a number
  pub end_on : (k m : ℕ) (line : List ℕ) (at : ℕ) (w : Word ℕ) → k ≡ suc m → Ok w ≡ number_at limit line at → numbers_end limit k line at ≡ numbers_end limit m line w.to
  end_on k m line at w h e = ap (λ (i : ℕ). numbers_end limit i line at) h ∙ end_step m line at w e

  end_stop : (k : ℕ) (line : List ℕ) (at end : ℕ) → Err end ≡ number_at limit line at → numbers_end limit (suc k) line at ≡ end
  unfolding numbers_end
  end_stop k line at end e = rw (← e)

  -- at another word
  pub end_over : (k m : ℕ) (line : List ℕ) (at end : ℕ) → k ≡ suc m → Err end ≡ number_at limit line at → numbers_end limit k line at ≡ end
  end_over k m line at end h e = ap (λ (i : ℕ). numbers_end limit i line at) h ∙ end_stop m line at end e

  pub end_full : (k : ℕ) (line : List ℕ) (at : ℕ) → k ≡ 0 → numbers_end limit k line at ≡ at
  unfolding numbers_end
  end_full k line at h = rw h

-- ---- bytes

bytes_step : (k : ℕ) (line : List ℕ) (at : ℕ) (w : Word ℕ) → byte_at line at ≡ Ok w → bytes_from (suc k) line at ≡ (w.value ∷ []) ++ bytes_from k line w.to
bytes_step k line at w e = from_step 256 k line at w (sym e)

-- a byte, and then those after it
pub bytes_on_lem : (k m : ℕ) (line : List ℕ) (at : ℕ) (w : Word ℕ) → k ≡ suc m → byte_at line at ≡ Ok w → bytes_from k line at ≡ (w.value ∷ []) ++ bytes_from m line w.to
bytes_on_lem k m line at w h e = ap (λ (i : ℕ). bytes_from i line at) h ∙ bytes_step m line at w e

-- another word ends the list, and so does the end of the room
pub bytes_over : (k : ℕ) (line : List ℕ) (at place : ℕ) → byte_at line at ≡ Err place → bytes_from k line at ≡ []
bytes_over k line at place e = numbers_over 256 k line at place (sym e)

pub bytes_full : (k : ℕ) (line : List ℕ) (at : ℕ) → k ≡ 0 → bytes_from k line at ≡ []
bytes_full k line at h = numbers_full 256 k line at h

bytes_end_step : (k : ℕ) (line : List ℕ) (at : ℕ) (w : Word ℕ) → byte_at line at ≡ Ok w → bytes_end (suc k) line at ≡ bytes_end k line w.to
bytes_end_step k line at w e = end_step 256 k line at w (sym e)

-- the end is past a byte
pub bytes_end_on : (k m : ℕ) (line : List ℕ) (at : ℕ) (w : Word ℕ) → k ≡ suc m → byte_at line at ≡ Ok w → bytes_end k line at ≡ bytes_end m line w.to
bytes_end_on k m line at w h e = ap (λ (i : ℕ). bytes_end i line at) h ∙ bytes_end_step m line at w e

bytes_end_stop : (k : ℕ) (line : List ℕ) (at place : ℕ) → byte_at line at ≡ Err place → bytes_end (suc k) line at ≡ place
bytes_end_stop k line at place e = end_stop 256 k line at place (sym e)

-- at another word
pub bytes_end_over : (k m : ℕ) (line : List ℕ) (at place : ℕ) → k ≡ suc m → byte_at line at ≡ Err place → bytes_end k line at ≡ place
bytes_end_over k m line at place h e = ap (λ (i : ℕ). bytes_end i line at) h ∙ bytes_end_stop m line at place e

pub bytes_end_full : (k : ℕ) (line : List ℕ) (at : ℕ) → k ≡ 0 → bytes_end k line at ≡ at
bytes_end_full k line at h = end_full 256 k line at h

-- ---- symbols

symbols_step : (k : ℕ) (line : List ℕ) (at : ℕ) (w : Word ℕ) → symbol_at line at ≡ Ok w → symbols_from (suc k) line at ≡ (w.value ∷ []) ++ symbols_from k line w.to
symbols_step k line at w e = from_step 65536 k line at w (sym e)

-- a symbol, and then those after it
pub symbols_on : (k m : ℕ) (line : List ℕ) (at : ℕ) (w : Word ℕ) → k ≡ suc m → symbol_at line at ≡ Ok w → symbols_from k line at ≡ (w.value ∷ []) ++ symbols_from m line w.to
symbols_on k m line at w h e = ap (λ (i : ℕ). symbols_from i line at) h ∙ symbols_step m line at w e

-- another word ends the list, and so does the end of the room
pub symbols_over : (k : ℕ) (line : List ℕ) (at place : ℕ) → symbol_at line at ≡ Err place → symbols_from k line at ≡ []
symbols_over k line at place e = numbers_over 65536 k line at place (sym e)

pub symbols_full : (k : ℕ) (line : List ℕ) (at : ℕ) → k ≡ 0 → symbols_from k line at ≡ []
symbols_full k line at h = numbers_full 65536 k line at h

symbols_end_step : (k : ℕ) (line : List ℕ) (at : ℕ) (w : Word ℕ) → symbol_at line at ≡ Ok w → symbols_end (suc k) line at ≡ symbols_end k line w.to
symbols_end_step k line at w e = end_step 65536 k line at w (sym e)

-- the end is past a symbol
pub symbols_end_on : (k m : ℕ) (line : List ℕ) (at : ℕ) (w : Word ℕ) → k ≡ suc m → symbol_at line at ≡ Ok w → symbols_end k line at ≡ symbols_end m line w.to
symbols_end_on k m line at w h e = ap (λ (i : ℕ). symbols_end i line at) h ∙ symbols_end_step m line at w e

symbols_end_stop : (k : ℕ) (line : List ℕ) (at place : ℕ) → symbol_at line at ≡ Err place → symbols_end (suc k) line at ≡ place
symbols_end_stop k line at place e = end_stop 65536 k line at place (sym e)

-- at another word
pub symbols_end_over : (k m : ℕ) (line : List ℕ) (at place : ℕ) → k ≡ suc m → symbol_at line at ≡ Err place → symbols_end k line at ≡ place
symbols_end_over k m line at place h e = ap (λ (i : ℕ). symbols_end i line at) h ∙ symbols_end_stop m line at place e

pub symbols_end_full : (k : ℕ) (line : List ℕ) (at : ℕ) → k ≡ 0 → symbols_end k line at ≡ at
symbols_end_full k line at h = end_full 65536 k line at h
