use Rattle.headboarded.proofs.Sizes.{front}
use Rattle.headboarded.proofs.numbers.symbols.Goals as goal

pub slice_bounds-result-end : goal.slice_bounds-result-end
slice_bounds-result-end c = front c.read_symbols-n.ensures
