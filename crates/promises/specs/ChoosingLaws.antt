-- The proofs of the page's records on choosing apart from sending.
use Rattle.std.specs.Prelude.{ℕ, List}
use Rattle.std.proofs.Common.{ap, ◌∙◌}
use Rattle.arp.proofs.BetweenLaws.{halves_in_a_run, report_between, declined_until_start}
use Rattle.arp.specs.Numbers.{command_number}
use Rattle.arp.proofs.SettleLaws.{issue_is, decline_is, none_to_issue, none_to_decline, issue_21, decline_21, chosen_exactly, waits_in_its_state, issued_is_the_step, alone_is_the_step, same_number, waiting_refuses, halves_throughout}
use Rattle.arp.proofs.WaitingLaws.{waiting_unbound, claimed_is_own, claimed_marks}
use Rattle.arp.specs.declared.state.Controller.{Controller}
use Rattle.arp.specs.declared.state.Stepped.{Stepped}
use Rattle.targets.specs.Records.{targets_of}
use Rattle.commands.specs.declared.command.End.TheVariants.{Chosen}
use Rattle.commands.specs.declared.command.Handed.TheVariants.{Wait}
use Rattle.rule.specs.AnyBus.{beginning_over}
use Rattle.rule.specs.Bus.{model_bus}
use Rattle.rule.specs.HalvesLaws.{run_by_halves_lem}
use Rattle.promises.specs.Demands.{Halves, Settling, Choosing}
use Rattle.promises.specs.OneHalfLaws.{chosen_on_reply}

halves_of_lem : (s : Controller) (tr : List ℕ) → Halves s tr
halves_of_lem s tr = record {
  chosen = chosen_exactly s tr;
  waits = λ u a x e. (waits_in_its_state s tr u a x e, issued_is_the_step s tr u a x e);
  alone = alone_is_the_step s tr;
  numbers = same_number s tr;
}

settling_of : (s : Controller) → Settling s
settling_of s = record {
  issue = λ u a x e. (ap (λ (r : Stepped). r.command) (issue_is s u a x e), ap (λ (r : Stepped). r.state) (issue_is s u a x e));
  decline = λ u a x e. (
    ap (λ (r : Stepped). command_number r.command) (decline_is s u a x e),
    ap (λ (r : Stepped). r.command) (decline_is s u a x e),
    ap (λ (r : Stepped). r.state) (decline_is s u a x e),
  );
  issue_21 = issue_21 s;
  decline_21 = decline_21 s;
  untouched = λ n. (ap (λ (r : Stepped). r.state) (none_to_issue s n), ap (λ (r : Stepped). r.state) (none_to_decline s n));
  waiting = λ w tr. waiting_refuses s tr w;
}

pub choosing : Choosing
choosing = record {
  halves = halves_of_lem;
  settling = settling_of;
  throughout = halves_throughout;
  in_a_pass = λ occupied last s n. run_by_halves_lem model_bus n (beginning_over occupied last (targets_of s));
  in_a_run = λ occupied last es tr n. halves_in_a_run occupied last es tr n;
  report_between = λ occupied last es a. report_between occupied last es a;
  reasons = chosen_on_reply;
  marks = λ occupied last es tr l u b f h q a x c. (
    claimed_marks occupied last es tr l u b f h q a x c,
    λ e. claimed_is_own occupied last es tr l u b f h q a (c ∙ ap (λ y. Wait (Chosen u a y)) e),
  );
  unbound = λ occupied last es u a x e i. waiting_unbound occupied last es u a x e i;
  declined = λ occupied last es u a x e later n. declined_until_start occupied last u es a x e later n;
}
