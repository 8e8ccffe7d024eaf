use Rattle.text.specs.Words.{start_from, word_from}
use Rattle.text.proofs.word.next_word.Goals as goal

pub returns : goal.returns
unfolding start_from word_from
returns c = rw (c.word_end-to.ensures, c.word_start-from.ensures)
