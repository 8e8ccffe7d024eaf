use Rattle.std.proofs.Common.{◌≡◌, take}
use Rattle.writing.specs.Pages.{with_text}
use Rattle.writing.proofs.page.Page.put.Given as goal

abbrev pub invariant-loop-c : goal.invariant-loop-c
invariant-loop-c l = l.self ≡ with_text l.initial.self (take l.c-index l.s)
