use Rattle.command_words.specs.declared.reading.Command.TheVariants as C
use Rattle.top_call.proofs.running.run_input.Goals as goal

pub returns-in-Ok-clause-ends : goal.returns-in-Ok-clause-ends
returns-in-Ok-clause-ends g c = c.play_and_report.ensures C.Play (g.I.Source.at c.args.input.now) (g.I.Source.at c.read_script.new.input) tt c.in-Ok.ensures.reads
