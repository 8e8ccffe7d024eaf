use Rattle.std.proofs.Common.{ap, ◌∙◌, ◌++◌, drop, rules}
use Rattle.arp.specs.declared.state.Stepped.{Stepped}
use Rattle.bindings.specs.Entries.{buffer_size, buffer_of}
use Rattle.report.specs.Report.{entry_at, reported}
use Rattle.report.specs.BufferEndLaws.{long_enough}
use Rattle.bus.proofs.run.run_admitted.Goals as goal

pub returns : goal.returns
returns c = record {
  answered = c.report.ensures ∙ ap reported c.run_pass-end.ensures.controller;
  records_hold = c.run_pass-end.ensures.stored;
  bindings_hold =
      c.put_bindings.ensures ∙ long_enough c.run_pass-end.result.state.slots c.args.bindings.now (search rules)
      ∙ ap (λ (x : Stepped). buffer_of (entry_at x.state.slots) ++ drop buffer_size c.args.bindings.now) c.run_pass-end.ensures.controller;
}
