use Rattle.std.proofs.Common.{rules}
use Rattle.object_files.proofs.Reading.{between_found}
use Rattle.object_files.proofs.names.between.Goals as goal

pub returns : goal.returns
returns c = between_found c.args.text.now c.args.start.now c.in_ok-after.field-0.now c.args.end.now c.before-2.result (search rules) (search rules)
