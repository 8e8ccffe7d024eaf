-- Sizes of the model run.
use Rattle.std.specs.Prelude.{ℕ}

-- room in symbols for every trace of a pass
abbrev pub trace_room : ℕ
trace_room = 64
