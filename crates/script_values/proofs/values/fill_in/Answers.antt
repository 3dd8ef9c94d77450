use Rattle.std.proofs.Common.{◌≡◌, true, Err}
use Rattle.script_values.specs.Values.{is_digits, magnitude}
use Rattle.script_values.proofs.Fills.{read_fill}
use Rattle.script_values.proofs.values.fill_in.Goals as goal

pub returns-in-Err : goal.returns-in-Err
returns-in-Err c =
    let digits : is_digits (magnitude c.args.word.now) ≡ true = cc in
    read_fill c.args.word.now (Err c.in-Err.field-0) c.in-Err.ensures.value.0 digits
