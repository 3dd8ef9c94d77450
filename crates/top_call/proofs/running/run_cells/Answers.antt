use Rattle.command_words.specs.declared.reading.Command.TheVariants as C
use Rattle.top_call.proofs.Endings.{ends_unread}
use Rattle.top_call.proofs.running.run_cells.Goals as goal

pub returns-in-Ok : goal.returns-in-Ok
returns-in-Ok g c = λ at. c.play_and_report.ensures (C.Cells c.args.words.now) at at tt (c.in-Ok.ensures.reads at)

pub returns-in-Err : goal.returns-in-Err
returns-in-Err g c = λ at. ends_unread (C.Cells c.args.words.now) c.args.draw at at (g.S.Viewed.view c.args.store) (g.K.Sink.at c.args.out.now) c.in-Err.status (c.in-Err.ensures.reads at)
