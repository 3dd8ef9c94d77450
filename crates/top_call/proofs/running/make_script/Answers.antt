use Rattle.std.proofs.Common.{◌≡◌, refl, arith}
use Rattle.grow_script.specs.Script.{script_text}
use Rattle.command_words.specs.declared.reading.Command.TheVariants.{Grow}
use Rattle.top_call.proofs.Scripts.{script_read, refused_read}
use Rattle.top_call.proofs.running.make_script.Goals as goal

pub returns-in_err-read-clause-reads : goal.returns-in_err-read-clause-reads
returns-in_err-read-clause-reads c = λ at.
    let same : c.as_bytes.result.now ≡ script_text c.args.tasks = grind (arith, c.as_bytes.ensures.value, c.in_ok-text.ensures) in
    let told = c.from_residual-in_err-read in
    refused_read (Grow c.args.tasks) at (script_text c.args.tasks) c.as_bytes.result.now refl same told.result c.in_err-read.field-0.0 c.in_err-read.ensures.reads told.ensures.0 told.ensures.1

pub returns-clause-reads : goal.returns-clause-reads
returns-clause-reads c = λ at.
    let same : c.as_bytes.result.now ≡ script_text c.args.tasks = grind (arith, c.as_bytes.ensures.value, c.in_ok-text.ensures) in
    script_read (Grow c.args.tasks) at (script_text c.args.tasks) c.as_bytes.result.now refl same c.in_ok-read.field-0 c.in_ok-read.ensures.reads
