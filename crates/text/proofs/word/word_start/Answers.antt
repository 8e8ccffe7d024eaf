use Rattle.std.proofs.Common.{rules, tests, ◌≡◌, ℕ, ◌∙◌, drop, not}
use Rattle.std.proofs.lemmas.Iterator.{YieldsList-from_slice}
use Rattle.std.proofs.lemmas.Iterator.Consumers.{count_from_yields_List}
use Rattle.std.proofs.lemmas.Iterator.Search.{YieldsList-from_take_while}
use Rattle.std.proofs.lemmas.List.Folds.{length-prefix_len}
use Rattle.std.specs.List.{prefix_len}
use Rattle.text.specs.Words.{outside}
use Rattle.text.specs.WordLaws.{before_prefix}
use Rattle.text.proofs.word.word_start.Goals as goal

pub returns : goal.returns
returns c =
    let e : c.count.result ≡ prefix_len (λ (x : ℕ). not (outside x)) c.rest_of.result.now =
    count_from_yields_List c.take_while.result _ c.count.ensures.ran
    (YieldsList-from_take_while _ (λ (x : ℕ). not (outside x)) (YieldsList-from_slice c.rest_of.result.now cc) c.take_while.ensures.closure c.take_while.ensures.done (λ x b q k. search (rules, tests)))
    ∙ length-prefix_len (λ (x : ℕ). not (outside x)) c.rest_of.result.now in
    rw (e, c.rest_of.ensures, before_prefix outside (drop c.args.at c.args.s.now))
