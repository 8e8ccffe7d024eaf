-- The words of the page (Demands), each from the file that defines it.
pub use Rattle.lists.specs.Choice.{not}
pub use Rattle.lists.specs.Each.{Each, Any, Bytes}
-- the codec
pub use Rattle.wire.specs.Addresses.{is_reserved, is_preassigned, is_listed}
pub use Rattle.wire.specs.AddressTable.{table17, Covers}
pub use Rattle.pec.specs.Pec.{pec_of}
pub use Rattle.wire.specs.declared.address.Address.{Address}
pub use Rattle.trace.specs.Rows.{message}
pub use Rattle.trace.specs.Table.{last_protocol, TraceOf}
pub use Rattle.trace.specs.Trace.{Message}
pub use Rattle.encode.specs.Encode.{encode_number, Wrote}
pub use Rattle.encode.specs.Encode.{Encoded}
pub use Rattle.scan.specs.Answers.{summary}
pub use Rattle.misfit.specs.Cases.{IsSwapped, IsMisaddressed, IsMiscounted, IsOther}
pub use Rattle.scan.specs.Because.{AfterStart}
pub use Rattle.scan.specs.Fitting.{Member, Fits, Breaks, CutAt, OtherPec, FitsNext, ToHost, Wrong, BitSwapped, CountTooHigh}
pub use Rattle.scan.specs.Decoded.{Decoded}
pub use Rattle.scan.specs.Numbers.{decode_number}
pub use Rattle.decode.specs.Outcome.{Entered, Outcome}
-- what the PEC catches
pub use Rattle.pec.specs.PecDivision.{times_g, polynomial}
pub use Rattle.scan.specs.BytesIn.{bytes_in}
pub use Rattle.scan.specs.Fitting.{Whole}
pub use Rattle.catches.specs.Changes.{RightPec, Came, Within, TwoBits, FirstAndLast, how_many}
pub use Rattle.garbled.specs.Places.{sent_from, MayDiffer, Changed}
-- the controller
pub use Rattle.pool.specs.NextFree.{next_free, Next}
pub use Rattle.pool.specs.Picks.{Pick, Picks, latest_of, FreeAtEach, Picked}
pub use Rattle.pool.specs.Counts.{count}
pub use Rattle.pool.specs.Free.{used}
pub use Rattle.pool.specs.Pools.{member}
pub use Rattle.pool.specs.Start.{empty_pool, starting_pool, barred_pool}
pub use Rattle.pool.specs.declared.Pool.{Pool}
pub use Rattle.udid.specs.Bytes.{udid_bytes}
pub use Rattle.udid.specs.Udids.{Fits as In128}
pub use Rattle.udid.specs.declared.Udid.{Udid}
pub use Rattle.slots.specs.Slots.{held_at}
pub use Rattle.commands.specs.CommandTraces.{prepare_trace, reply_trace, assign_trace}
pub use Rattle.arp.specs.Controller.{new_controller, started, stepped}
pub use Rattle.arp.specs.Gone.{reported}
pub use Rattle.arp.specs.Choosing.{first_half, issuing, declining, steps_over, halves_over}
pub use Rattle.arp.specs.History.{By, Step, Choose, Event, Received, Gone, Issue, Decline, NoStart, run}
pub use Rattle.arp.specs.Lookup.{looked_up}
pub use Rattle.arp.specs.Replay.{handed_out}
pub use Rattle.arp.specs.RunPicks.{picks_of}
pub use Rattle.arp.specs.SinceStart.{Completes, BoundSince, LeftSince}
pub use Rattle.arp.specs.Account.{binds, unbindings, removals, known_in}
pub use Rattle.arp.specs.Numbers.{command_number, lookup_number}
pub use Rattle.arp.specs.Reasons.{Reasons}
pub use Rattle.arp.specs.State.{with_last}
pub use Rattle.arp.specs.Waits.{Waits}
pub use Rattle.arp.specs.OneStep.{Asks, Binds, Continues, EndsWith, Replies, Removes, Rest}
pub use Rattle.commands.specs.Requests.{protocol_for, message_of, trace_of}
pub use Rattle.commands.specs.declared.command.Command.TheVariants.{Prepare, GetUdid, Assign}
pub use Rattle.commands.specs.declared.command.End.TheVariants.{Nothing, Ended, Abandoned, NotOutstanding, Chosen}
pub use Rattle.commands.specs.declared.command.Reason.{Reason}
pub use Rattle.commands.specs.declared.command.Reason.TheVariants.{Claimed as ByTwo}
pub use Rattle.commands.specs.declared.command.Handed.{Handed}
pub use Rattle.commands.specs.declared.command.Handed.TheVariants.{Send, Wait}
pub use Rattle.slots.specs.declared.Binding.TheVariants.{Open, Bound, Claimed, Left}
pub use Rattle.arp.specs.declared.gone.Reported.{Reported}
pub use Rattle.arp.specs.declared.state.Controller.{Controller}
pub use Rattle.arp.specs.declared.state.Stepped.{Stepped}
-- the model
pub use Rattle.targets.specs.ByteCases.{EvenOrFlag, SameAsEarlier, FixedOnTaken}
pub use Rattle.targets.specs.Cases.{LengthIsBad, NoneOf, FirstOf}
pub use Rattle.targets.specs.Records.{targets_of}
pub use Rattle.rule.specs.AllBound.{movable, left_free}
pub use Rattle.arbitration.specs.Among.{Among}
pub use Rattle.targets.specs.Target.{map_targets}
pub use Rattle.rule.specs.Acknowledge.{on_bus}
pub use Rattle.rule.specs.AnyBus.{beginning_over, run_over}
pub use Rattle.rule.specs.Halves.{run_by_halves}
pub use Rattle.rule.specs.Bus.{pass, model_bus}
pub use Rattle.rule.specs.Effect.{effect}
pub use Rattle.rule.specs.PlainRule.{Given, Ending, served, none_free, Distinct, ruled}
pub use Rattle.rule.specs.Reading.{RecordOf, OnePerUdid}
pub use Rattle.rule.specs.Sent.{gets_on_bus, history_on_bus}
pub use Rattle.report.specs.Report.{model_number}
pub use Rattle.bus.specs.Run.{Leaves, model_end}
pub use Rattle.bindings.specs.declared.answer.ModelAnswer.{ModelAnswer}
-- the module's end
pub use Rattle.module.specs.declared.state.Lasting.{Lasting}
pub use Rattle.module.specs.declared.state.Module.{Module}
pub use Rattle.module.specs.State.{silent_in}
pub use Rattle.module.specs.Reset.{having, powered, refreshed}
pub use Rattle.module.specs.Resume.{resumed, resumed_number, AsRecorded}
pub use Rattle.module.specs.Receive.{starts, stops, loses, receives}
pub use Rattle.module.specs.Supply.{supplies, byte_out}
pub use Rattle.module.specs.Obeys.{heard_all, prepare_order, reset_order, directed_reset, assign_order}
pub use Rattle.module.specs.Acknowledges.{acked, get_order}
pub use Rattle.module.specs.Says.{says, after_asking, asked, reply_to}
pub use Rattle.module.specs.Packets.{Begins, Reachable, Known, Resets, PowersOn, PecDue}
pub use Rattle.exchange.specs.Exchange.{exchange, records_of, Fitting, after_bytes}
pub use Rattle.exchange.specs.Pass.{run_on, pass_on, gets_on}
pub use Rattle.exchange.specs.Sending.{asked_all}
-- the marked cases
pub use Rattle.promises.specs.MarkedWords.{identifier, holding, Shows}
