use Rattle.std.proofs.Common.{◌∙◌, refl, sym, inl}
use Rattle.command_words.specs.Words.{command_of}
use Rattle.top_call.specs.declared.statuses.Status.TheVariants as S
use Rattle.top_call.specs.Run.{TellsRefused, IsFaultless}
use Rattle.top_call.specs.Exact.{Exact}
use Rattle.top_call.specs.GoesOn.{GoesOn}
use Rattle.top_call.proofs.Commands.{of_said, not_said, usage_told, starved, refused_starved, no_store, no_sink, unread, read_in_memory}
use Rattle.top_call.proofs.Endings.{ends_starved, store_faulted, sink_faulted}
use Rattle.top_call.proofs.Readings.{tells_refused, faultless}
use Rattle.top_call.specs.Promise.{KeepsSound, KeepsOwn, SparesSound, SparesOwn}
use Rattle.top_call.proofs.Promises.{keeps-sound, keeps-own, spares-sound, spares-own, unplayed}
use Rattle.top_call.proofs.Apart.{exactly, goes-on, untouched-on}
use Rattle.top_call.proofs.running.run.Goals as goal

pub returns-in-Ok-clause-usage : goal.returns-in-Ok-clause-usage
returns-in-Ok-clause-usage g c = λ fault k. not_said c.in-Ok.ensures.says k

pub returns-in-Ok-clause-exact : goal.returns-in-Ok-clause-exact
returns-in-Ok-clause-exact g c = of_said _ _ c.in-Ok.ensures.says (λ command. Exact c.args.draw command (record { input = g.I.Source.at c.args.input.now; store = g.S.Viewed.view c.args.store; out = g.K.Sink.at c.args.out.now }) (record { input = g.I.Source.at c.run_command.new.input; store = g.S.Viewed.view c.run_command.result.store; out = g.K.Sink.at c.run_command.new.out }) c.run_command.result.status) (exactly c.args.draw (record { input = g.I.Source.at c.args.input.now; store = g.S.Viewed.view c.args.store; out = g.K.Sink.at c.args.out.now }) (record { input = g.I.Source.at c.run_command.new.input; store = g.S.Viewed.view c.run_command.result.store; out = g.K.Sink.at c.run_command.new.out }) c.in-Ok.command c.run_command.result.status c.run_command.ensures.ends)

pub returns-in-Ok-clause-goes_on : goal.returns-in-Ok-clause-goes_on
returns-in-Ok-clause-goes_on g c = of_said _ _ c.in-Ok.ensures.says (λ command. GoesOn c.args.draw command (record { input = g.I.Source.at c.args.input.now; store = g.S.Viewed.view c.args.store; out = g.K.Sink.at c.args.out.now }) (record { input = g.I.Source.at c.run_command.new.input; store = g.S.Viewed.view c.run_command.result.store; out = g.K.Sink.at c.run_command.new.out })) (goes-on c.args.draw (record { input = g.I.Source.at c.args.input.now; store = g.S.Viewed.view c.args.store; out = g.K.Sink.at c.args.out.now }) (record { input = g.I.Source.at c.run_command.new.input; store = g.S.Viewed.view c.run_command.result.store; out = g.K.Sink.at c.run_command.new.out }) c.in-Ok.command c.run_command.result.status c.run_command.ensures.ends)

pub returns-in-Ok-clause-refused : goal.returns-in-Ok-clause-refused
returns-in-Ok-clause-refused g c = of_said _ _ c.in-Ok.ensures.says (λ command. TellsRefused command (g.I.Source.at c.args.input.now) c.run_command.result.status)
    (tells_refused c.args.draw (g.I.Source.at c.args.input.now) (g.I.Source.at c.run_command.new.input) (g.S.Viewed.view c.args.store) (g.S.Viewed.view c.run_command.result.store) (g.K.Sink.at c.args.out.now) (g.K.Sink.at c.run_command.new.out) c.run_command.result.status c.in-Ok.command c.run_command.ensures.ends)

pub returns-in-Ok-clause-store_fault : goal.returns-in-Ok-clause-store_fault
returns-in-Ok-clause-store_fault g c = store_faulted c.args.draw (g.I.Source.at c.args.input.now) (g.I.Source.at c.run_command.new.input) (g.S.Viewed.view c.args.store) (g.S.Viewed.view c.run_command.result.store) (g.K.Sink.at c.args.out.now) (g.K.Sink.at c.run_command.new.out) c.run_command.result.status c.in-Ok.command c.run_command.ensures.ends

pub returns-in-Ok-clause-write_fault : goal.returns-in-Ok-clause-write_fault
returns-in-Ok-clause-write_fault g c = sink_faulted c.args.draw (g.I.Source.at c.args.input.now) (g.I.Source.at c.run_command.new.input) (g.S.Viewed.view c.args.store) (g.S.Viewed.view c.run_command.result.store) (g.K.Sink.at c.args.out.now) (g.K.Sink.at c.run_command.new.out) c.run_command.result.status c.in-Ok.command c.run_command.ensures.ends

pub returns-in-Ok-clause-calm : goal.returns-in-Ok-clause-calm
returns-in-Ok-clause-calm g c = λ command k. faultless c.args.draw (g.I.Source.at c.args.input.now) (g.I.Source.at c.run_command.new.input) (g.S.Viewed.view c.args.store) (g.S.Viewed.view c.run_command.result.store) (g.K.Sink.at c.args.out.now) (g.K.Sink.at c.run_command.new.out) c.run_command.result.status c.in-Ok.command c.run_command.ensures.ends

pub returns-in-Err-clause-usage : goal.returns-in-Err-clause-usage
returns-in-Err-clause-usage g c = rw c.from.ensures (λ fault k. (usage_told (command_of c.args.words.now) c.in-Err.fault c.in-Err.ensures.says fault k, refl, refl, refl))

pub returns-in-Err-clause-exact : goal.returns-in-Err-clause-exact
returns-in-Err-clause-exact g c = rw c.from.ensures (λ command k. starved (command_of c.args.words.now) c.in-Err.fault c.in-Err.ensures.says (λ status. Exact c.args.draw command (record { input = g.I.Source.at c.args.input.now; store = g.S.Viewed.view c.args.store; out = g.K.Sink.at c.args.out.now }) (record { input = g.I.Source.at c.args.input.now; store = g.S.Viewed.view c.args.store; out = g.K.Sink.at c.args.out.now }) status) (exactly c.args.draw (record { input = g.I.Source.at c.args.input.now; store = g.S.Viewed.view c.args.store; out = g.K.Sink.at c.args.out.now }) (record { input = g.I.Source.at c.args.input.now; store = g.S.Viewed.view c.args.store; out = g.K.Sink.at c.args.out.now }) command S.NoMemory (ends_starved c.run_law.ensures command c.args.draw (g.I.Source.at c.args.input.now) (g.S.Viewed.view c.args.store) (g.K.Sink.at c.args.out.now))) command k)

pub returns-in-Err-clause-goes_on : goal.returns-in-Err-clause-goes_on
returns-in-Err-clause-goes_on g c = λ command k. untouched-on c.run_law.ensures c.args.draw command (record { input = g.I.Source.at c.args.input.now; store = g.S.Viewed.view c.args.store; out = g.K.Sink.at c.args.out.now })

pub returns-in-Err-clause-refused : goal.returns-in-Err-clause-refused
returns-in-Err-clause-refused g c = rw c.from.ensures (λ command k. starved (command_of c.args.words.now) c.in-Err.fault c.in-Err.ensures.says (TellsRefused command (g.I.Source.at c.args.input.now)) (refused_starved command (g.I.Source.at c.args.input.now)) command k)

pub returns-in-Err-clause-store_fault : goal.returns-in-Err-clause-store_fault
returns-in-Err-clause-store_fault g c = λ k. no_store c.in-Err.fault (sym c.from.ensures ∙ k)

pub returns-in-Err-clause-write_fault : goal.returns-in-Err-clause-write_fault
returns-in-Err-clause-write_fault g c = λ k. no_sink c.in-Err.fault (sym c.from.ensures ∙ k)

pub returns-in-Err-clause-calm : goal.returns-in-Err-clause-calm
returns-in-Err-clause-calm g c = rw c.from.ensures (λ command k calm. starved (command_of c.args.words.now) c.in-Err.fault c.in-Err.ensures.says IsFaultless tt command k)

pub returns-in-Ok-clause-promise : goal.returns-in-Ok-clause-promise
returns-in-Ok-clause-promise g c = of_said _ _ c.in-Ok.ensures.says (λ command. KeepsSound c.args.draw command (record { input = g.I.Source.at c.args.input.now; store = g.S.Viewed.view c.args.store; out = g.K.Sink.at c.args.out.now }) (record { input = g.I.Source.at c.run_command.new.input; store = g.S.Viewed.view c.run_command.result.store; out = g.K.Sink.at c.run_command.new.out }) c.run_command.result.status) (keeps-sound c.args.draw (record { input = g.I.Source.at c.args.input.now; store = g.S.Viewed.view c.args.store; out = g.K.Sink.at c.args.out.now }) (record { input = g.I.Source.at c.run_command.new.input; store = g.S.Viewed.view c.run_command.result.store; out = g.K.Sink.at c.run_command.new.out }) c.in-Ok.command c.run_command.result.status c.run_command.ensures.ends)

pub returns-in-Ok-clause-ours : goal.returns-in-Ok-clause-ours
returns-in-Ok-clause-ours g c = of_said _ _ c.in-Ok.ensures.says (λ command. KeepsOwn c.args.draw command (record { input = g.I.Source.at c.args.input.now; store = g.S.Viewed.view c.args.store; out = g.K.Sink.at c.args.out.now }) (record { input = g.I.Source.at c.run_command.new.input; store = g.S.Viewed.view c.run_command.result.store; out = g.K.Sink.at c.run_command.new.out }) c.run_command.result.status) (keeps-own c.args.draw (record { input = g.I.Source.at c.args.input.now; store = g.S.Viewed.view c.args.store; out = g.K.Sink.at c.args.out.now }) (record { input = g.I.Source.at c.run_command.new.input; store = g.S.Viewed.view c.run_command.result.store; out = g.K.Sink.at c.run_command.new.out }) c.nothing_law.ensures c.in-Ok.command c.run_command.result.status c.run_command.ensures.ends)

pub returns-in-Ok-clause-spares : goal.returns-in-Ok-clause-spares
returns-in-Ok-clause-spares g c = of_said _ _ c.in-Ok.ensures.says (λ command. SparesSound c.args.draw command (record { input = g.I.Source.at c.args.input.now; store = g.S.Viewed.view c.args.store; out = g.K.Sink.at c.args.out.now }) (record { input = g.I.Source.at c.run_command.new.input; store = g.S.Viewed.view c.run_command.result.store; out = g.K.Sink.at c.run_command.new.out }) c.run_command.result.status) (spares-sound c.args.draw (record { input = g.I.Source.at c.args.input.now; store = g.S.Viewed.view c.args.store; out = g.K.Sink.at c.args.out.now }) (record { input = g.I.Source.at c.run_command.new.input; store = g.S.Viewed.view c.run_command.result.store; out = g.K.Sink.at c.run_command.new.out }) c.in-Ok.command c.run_command.result.status c.run_command.ensures.ends)

pub returns-in-Ok-clause-spares_ours : goal.returns-in-Ok-clause-spares_ours
returns-in-Ok-clause-spares_ours g c = of_said _ _ c.in-Ok.ensures.says (λ command. SparesOwn c.args.draw command (record { input = g.I.Source.at c.args.input.now; store = g.S.Viewed.view c.args.store; out = g.K.Sink.at c.args.out.now }) (record { input = g.I.Source.at c.run_command.new.input; store = g.S.Viewed.view c.run_command.result.store; out = g.K.Sink.at c.run_command.new.out }) c.run_command.result.status) (spares-own c.args.draw (record { input = g.I.Source.at c.args.input.now; store = g.S.Viewed.view c.args.store; out = g.K.Sink.at c.args.out.now }) (record { input = g.I.Source.at c.run_command.new.input; store = g.S.Viewed.view c.run_command.result.store; out = g.K.Sink.at c.run_command.new.out }) c.nothing_law.ensures c.in-Ok.command c.run_command.result.status c.run_command.ensures.ends)

pub returns-in-Err-clause-promise : goal.returns-in-Err-clause-promise
returns-in-Err-clause-promise g c = rw c.from.ensures (λ command k. starved (command_of c.args.words.now) c.in-Err.fault c.in-Err.ensures.says (λ status. KeepsSound c.args.draw command (record { input = g.I.Source.at c.args.input.now; store = g.S.Viewed.view c.args.store; out = g.K.Sink.at c.args.out.now }) (record { input = g.I.Source.at c.args.input.now; store = g.S.Viewed.view c.args.store; out = g.K.Sink.at c.args.out.now }) status) (unplayed c.args.draw (record { input = g.I.Source.at c.args.input.now; store = g.S.Viewed.view c.args.store; out = g.K.Sink.at c.args.out.now }) (record { input = g.I.Source.at c.args.input.now; store = g.S.Viewed.view c.args.store; out = g.K.Sink.at c.args.out.now }) command _ (record { out = refl; store = inl refl })) command k)

pub returns-in-Err-clause-ours : goal.returns-in-Err-clause-ours
returns-in-Err-clause-ours g c = rw c.from.ensures (λ command k. starved (command_of c.args.words.now) c.in-Err.fault c.in-Err.ensures.says (λ status. KeepsOwn c.args.draw command (record { input = g.I.Source.at c.args.input.now; store = g.S.Viewed.view c.args.store; out = g.K.Sink.at c.args.out.now }) (record { input = g.I.Source.at c.args.input.now; store = g.S.Viewed.view c.args.store; out = g.K.Sink.at c.args.out.now }) status) (unplayed c.args.draw (record { input = g.I.Source.at c.args.input.now; store = g.S.Viewed.view c.args.store; out = g.K.Sink.at c.args.out.now }) (record { input = g.I.Source.at c.args.input.now; store = g.S.Viewed.view c.args.store; out = g.K.Sink.at c.args.out.now }) command _ (record { out = refl; store = inl refl })) command k)

pub returns-in-Err-clause-spares : goal.returns-in-Err-clause-spares
returns-in-Err-clause-spares g c = rw c.from.ensures (λ command k. starved (command_of c.args.words.now) c.in-Err.fault c.in-Err.ensures.says (λ status. SparesSound c.args.draw command (record { input = g.I.Source.at c.args.input.now; store = g.S.Viewed.view c.args.store; out = g.K.Sink.at c.args.out.now }) (record { input = g.I.Source.at c.args.input.now; store = g.S.Viewed.view c.args.store; out = g.K.Sink.at c.args.out.now }) status) (unplayed c.args.draw (record { input = g.I.Source.at c.args.input.now; store = g.S.Viewed.view c.args.store; out = g.K.Sink.at c.args.out.now }) (record { input = g.I.Source.at c.args.input.now; store = g.S.Viewed.view c.args.store; out = g.K.Sink.at c.args.out.now }) command _ (record { out = refl; store = inl refl })) command k)

pub returns-in-Err-clause-spares_ours : goal.returns-in-Err-clause-spares_ours
returns-in-Err-clause-spares_ours g c = rw c.from.ensures (λ command k. starved (command_of c.args.words.now) c.in-Err.fault c.in-Err.ensures.says (λ status. SparesOwn c.args.draw command (record { input = g.I.Source.at c.args.input.now; store = g.S.Viewed.view c.args.store; out = g.K.Sink.at c.args.out.now }) (record { input = g.I.Source.at c.args.input.now; store = g.S.Viewed.view c.args.store; out = g.K.Sink.at c.args.out.now }) status) (unplayed c.args.draw (record { input = g.I.Source.at c.args.input.now; store = g.S.Viewed.view c.args.store; out = g.K.Sink.at c.args.out.now }) (record { input = g.I.Source.at c.args.input.now; store = g.S.Viewed.view c.args.store; out = g.K.Sink.at c.args.out.now }) command _ (record { out = refl; store = inl refl })) command k)

pub returns-in-Ok-clause-memory : goal.returns-in-Ok-clause-memory
returns-in-Ok-clause-memory g c = read_in_memory c.args.words.now c.in-Ok.command c.run_command.result.status c.in-Ok.ensures.says c.run_command.ensures.memory

pub returns-in-Err-clause-memory : goal.returns-in-Err-clause-memory
returns-in-Err-clause-memory g c = λ k. inl (unread c.in-Err.fault c.in-Err.ensures.memory (sym c.from.ensures ∙ k))
