use Rattle.std.proofs.Common.{◌≡◌, take}
use Rattle.writing.specs.Pages.{with_text}
use Rattle.writing.specs.Written.{pairs_of}
use Rattle.writing.proofs.page.Page.put_pairs.Given as goal

abbrev pub invariant-loop-b : goal.invariant-loop-b
invariant-loop-b l = l.self ≡ with_text l.initial.self (pairs_of (take l.b-index l.s))
