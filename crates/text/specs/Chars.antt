-- The characters of a text that a definition quotes, as the bytes that a program has.
use Rattle.std.specs.Prelude.{ℕ, List}
use Prim.Native.Char.{code}
use Prim.Native.String.{String, [], ◌∷◌}
use mathlib.Core.List as list

abbrev pub chars : String → List ℕ
chars [] = list.[]
chars (c ∷ cs) = list.◌∷◌ (code c) (chars cs)
