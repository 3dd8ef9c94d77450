use Rattle.session.specs.Editing.{prop_added}
use Rattle.play_tasks.proofs.Locals.{leaves-local, prop_local}
use Rattle.play_tasks.proofs.lines.add_prop.Goals as goal

pub returns-clause-local : goal.returns-clause-local
returns-clause-local c =
    leaves-local (prop_added c.args.session.now c.as_str.result.now c.as_str-2.result.now) c.args.session.now c.add_prop.new.self c.add_prop.result (prop_local c.args.session.now c.as_str.result.now c.as_str-2.result.now) c.add_prop.ensures
