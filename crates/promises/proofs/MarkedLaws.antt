-- The marked cases are so. M1 to M7 are computed on the definitions. M8 to M10 are computed on the end that demand 3 gives.
use Rattle.std.specs.Prelude.{refl, true, false, List, [], ℕ, ◌≤◌, length}
use Rattle.std.proofs.Common.{ap, ◌∙◌, arith}
use Rattle.pec.specs.Pec.{bit_step, pec_step, pec_from}
use Rattle.trace.specs.Shapes.{shape_of}
use Rattle.trace.specs.Table.{receive_byte, block_read}
use Rattle.scan.specs.Numbers.{decode_number}
use Rattle.decode.specs.NumberLaws.{entered_taken, entered_long}
use Rattle.decode.specs.OutcomeLaws.{answer_by_trace}
use Rattle.promises.specs.Demands.{Marked}
use Rattle.promises.proofs.MarkedCasesLaws.{run8, run9, run10, run_vacated, run_round, shows, comes_8, comes_9, comes_10, comes_vacated, comes_round, empty_trace, block, numbered, too_many, just_enough}

-- whatever binding buffer of at least 2,048 bytes is lent
pub marked : (b : List ℕ) (room : 2048 ≤ length b) → Marked b room
unfolding pec_from pec_step bit_step
marked b room = record {
  m1 = (refl, refl, refl);
  m2 = refl;
  m3 = (_, receive_byte 0x0C 0x4F (omega arith) (omega arith) refl, refl, refl, refl);
  m4 = refl;
  m5 = (_, block_read 0x10 0x07 [] (omega arith) (omega arith) tt (omega arith) refl, refl, refl, refl);
  m6 = λ before r after l. (
    numbered false (block 55) 0 523 just_enough.0 before r after l,
    numbered true (block 55) 0 525 just_enough.1 before r after l,
    λ pec. numbered pec (block 56) 1 0 (too_many pec) before r after l,
  );
  m7 = λ protocol pec sent₀ received₀ a sent received h o.
      ap decode_number
      (answer_by_trace protocol pec [] sent₀ received₀ a sent received o (entered_taken protocol pec [] sent₀ received₀ a sent received o h) (entered_long protocol pec [] sent₀ received₀ a sent received o h))
      ∙ empty_trace protocol (shape_of protocol) pec;
  m8 = shows run8 comes_8 b room;
  m9 = shows run9 comes_9 b room;
  m10 = shows run10 comes_10 b room;
  vacated = shows run_vacated comes_vacated b room;
  round = shows run_round comes_round b room;
}
