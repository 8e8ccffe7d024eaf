-- The controller's table.
use Rattle.std.specs.Prelude.{ℕ, ◌+◌, ◌*◌, ◌%◌, List, ◌++◌}
use Rattle.lists.specs.Choice.{pick}
use Rattle.pool.specs.declared.Pool.{Pool}
use Rattle.pool.specs.Pools.{member}
use Rattle.pool.specs.Start.{starting_pool}
use Rattle.text.specs.Chars.{chars}
use Rattle.writing.specs.Written.{pair_of}
use Rattle.arp.specs.Lookup.{looked_up}
use Rattle.arp.specs.declared.lookup.Found.{Found}
use Rattle.arp.specs.declared.lookup.Found.TheVariants as found
use Rattle.arp.specs.declared.state.Controller.{Controller}
use Rattle.pieces.specs.Pieces.{newline, below}
use Rattle.lookups.specs.declared.grid.Cell.{Cell}
use Rattle.lookups.specs.declared.grid.Cell.TheVariants.{Free, InUse, Claimed, Left, Bound}

-- what stands at an address
abbrev pub free_of : Pool → ℕ → Cell
free_of occupied a = pick (member (starting_pool occupied) a) InUse Free

abbrev pub cell_is : Pool → ℕ → Found → Cell
cell_is occupied a (found.Bound u) = Bound
cell_is occupied a found.Nobody = free_of occupied a
cell_is occupied a found.Two = Claimed
cell_is occupied a found.Left = Left
cell_is occupied a found.NoAddress = free_of occupied a

unfoldable pub cell_of : Controller → ℕ → Cell
cell_of c a = cell_is c.occupied a (looked_up c a)

abbrev pub cell_text : Cell → ℕ → List ℕ
cell_text Free a = chars " --"
cell_text InUse a = chars " UU"
cell_text Claimed a = chars " XX"
cell_text Left a = chars " LL"
cell_text Bound a = chars " " ++ pair_of a

-- the 16 addresses from one on
abbrev pub cell_at : Controller → ℕ → ℕ → List ℕ
cell_at c first k = cell_text (cell_of c (first % 128 + k)) (first % 128 + k)

abbrev pub cells_text : Controller → ℕ → List ℕ
cells_text c first = below (cell_at c first) 0 16

-- a row, and the 8 rows
abbrev pub row_text : Controller → ℕ → List ℕ
row_text c first = ((pair_of first ++ chars ":") ++ cells_text c first) ++ newline

abbrev pub row_at : Controller → ℕ → List ℕ
row_at c row = row_text c (16 * row)

abbrev pub rows_text : Controller → List ℕ
rows_text c = below (row_at c) 0 8

unfoldable pub grid_text : Controller → List ℕ
grid_text c = chars "0 grid\n     0  1  2  3  4  5  6  7  8  9  a  b  c  d  e  f\n" ++ rows_text c
