-- The answer of a model run.
use Rattle.std.specs.Prelude.{ℕ, ◌+◌, ◌*◌, ◌/◌, Bool, List, [], ◌++◌, eqb, ltb, leb, length, get_or}
use Rattle.lists.specs.Choice.{pick, and}
use Rattle.pool.specs.declared.Pool.{Pool}
use Rattle.pool.specs.Pools.{member}
use Rattle.udid.specs.Bytes.{udid_at}
use Rattle.text.specs.Chars.{chars}
use Rattle.writing.specs.Written.{decimal_of, pair_of}
use Rattle.bindings.specs.declared.answer.ModelAnswer.{ModelAnswer}
use Rattle.pieces.specs.Pieces.{newline, udid_text, below}

-- a bound address and its target, which stands in the binding buffer at 16 times the address
abbrev pub bound_text : List ℕ → ℕ → List ℕ
bound_text bindings a = (chars " 0x" ++ pair_of a) ++ ((chars " " ++ udid_text (udid_at bindings (16 * a))) ++ newline)

abbrev pub address_text : Pool → List ℕ → ℕ → List ℕ
address_text bound bindings a = pick (member bound a) (bound_text bindings a) []

abbrev pub bindings_text : Pool → List ℕ → List ℕ
bindings_text bound bindings = below (address_text bound bindings) 0 128

-- a record of 18 bytes: its index, its address byte and its flag
abbrev pub record_text : List ℕ → ℕ → List ℕ
record_text records i =
    ((chars " target " ++ decimal_of i) ++ (chars " 0x" ++ pair_of (get_or records (18 * i + 16) 0)))
    ++ ((chars " " ++ decimal_of (get_or records (18 * i + 17) 0)) ++ newline)

abbrev pub records_text : List ℕ → List ℕ
records_text records = below (record_text records) 0 (length records / 18)

-- how it ended: with 13, the identifier that found no address
abbrev pub ending_text : ModelAnswer → List ℕ
ending_text a = decimal_of a.answer ++ pick (eqb a.answer 13) (chars " udid " ++ udid_text a.udid) []

-- the first line, which ends in the last pick
abbrev pub first_text : ModelAnswer → List ℕ
first_text a =
    ((ending_text a ++ (chars " bound " ++ decimal_of a.count)) ++ (chars " get " ++ decimal_of a.gets))
    ++ ((chars " last 0x" ++ pair_of a.picked) ++ newline)

-- a refusal: those from 10 on are of a record, and have its index
abbrev pub refusal_text : ModelAnswer → List ℕ
refusal_text a = decimal_of a.answer ++ pick (ltb a.answer 10) newline ((chars " record " ++ decimal_of a.place) ++ newline)

-- refusals are 1 to 12
abbrev pub is_refusal : ℕ → Bool
is_refusal n = and (leb 1 n) (leb n 12)

unfoldable pub run_text : ModelAnswer → List ℕ → List ℕ → List ℕ
run_text a bindings records =
    pick (is_refusal a.answer) (refusal_text a) ((first_text a ++ bindings_text a.bound bindings) ++ records_text records)
