use Rattle.std.proofs.Common.{rules}
use Rattle.object_files.proofs.Reading.{name_found}
use Rattle.object_files.proofs.names.name_between.Goals as goal

pub returns-in-Some : goal.returns-in-Some
returns-in-Some c = name_found c.args.text.now c.args.start.now c.in-Some.name.now c.args.end.now c.name_in.result (search rules) c.name_in.ensures
