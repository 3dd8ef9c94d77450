use Rattle.std.proofs.Common.{rules}
use Rattle.object_files.proofs.Reading.{id_found, id_missing}
use Rattle.object_files.proofs.names.id_after.Goals as goal

pub returns-in-Ok : goal.returns-in-Ok
returns-in-Ok c = id_found c.args.text.now c.args.start.now c.in_ok-rest.rest.now c.in-Ok.id (search rules) (search rules)

pub returns-in-Err : goal.returns-in-Err
returns-in-Err c = id_missing c.args.text.now c.args.start.now c.in_ok-rest.rest.now c.in-Err.field-0 (search rules) (search rules)
