use Rattle.std.proofs.Common.{ℕ, ◌≡◌, sym, ap, ◌∙◌, List, arith, take}
use Rattle.commands.specs.SendingLaws.{get_sent}
use Rattle.lists.specs.EachLaws.{all_bytes}
use Rattle.bus.specs.Turn.{lent_part}
use Rattle.bus.specs.TurnLaws.{get_silence, get_winner_part, get_length, winner_inside, winner_part_lent}
use Rattle.bus.proofs.traces.put_get.Goals as goal

front : (r : ℕ) (l : List ℕ) → r ≡ 9 → take r l ≡ take 9 l
front r l e = ap (λ (n : ℕ). take n l) e

pub returns-in_default : goal.returns-in_default
returns-in_default c = (omega (arith, c.put_silence.ensures.0), front c.put_silence.result c.put_silence.new.out c.put_silence.ensures.0 ∙ c.put_silence.ensures.1 ∙ sym (get_silence c.args.records.now (all_bytes c.args.records.now (λ i. omega (arith, c.shared_slice_known-1.given i))) c.requires.0 c.requires.1 (sym c.in_default.is ∙ c.find.ensures)))

pub overflow_mul-at : goal.overflow_mul-at
overflow_mul-at c = omega (arith, winner_inside c.args.records.now c.requires.0 _ (sym c.in-Some.is ∙ c.find.ensures))

pub overflow_add-end : goal.overflow_add-end
overflow_add-end c = omega (arith, winner_inside c.args.records.now c.requires.0 _ (sym c.in-Some.is ∙ c.find.ensures))

pub slice_bounds-put_whole-end : goal.slice_bounds-put_whole-end
slice_bounds-put_whole-end c = omega (arith, winner_inside c.args.records.now c.requires.0 _ (sym c.in-Some.is ∙ c.find.ensures))

pub put_whole-requires : goal.put_whole-requires
put_whole-requires c =
    let x = winner_part_lent c.args.records.now (all_bytes c.args.records.now (λ i. omega (arith, c.shared_slice_known-1.given i))) c.requires.0 c.in-Some.w (sym c.in-Some.is ∙ c.find.ensures) in
    let xs : List ℕ = lent_part c.args.records.now c.in-Some.w in
    λ r after w. get_sent (lent_part c.args.records.now c.in-Some.w) c.args.out.now r after x.bytes (omega (arith, x.long)) w (omega (arith, get_length xs x.long, c.requires.2))

pub returns : goal.returns
returns c =
    let x = winner_part_lent c.args.records.now (all_bytes c.args.records.now (λ i. omega (arith, c.shared_slice_known-1.given i))) c.requires.0 c.in-Some.w (sym c.in-Some.is ∙ c.find.ensures) in
    (omega (arith, c.put_whole.ensures.0, get_length (lent_part c.args.records.now c.in-Some.w) x.long), c.put_whole.ensures.1 ∙ sym (get_winner_part c.args.records.now (all_bytes c.args.records.now (λ i. omega (arith, c.shared_slice_known-1.given i))) c.requires.0 c.in-Some.w (sym c.in-Some.is ∙ c.find.ensures)))
