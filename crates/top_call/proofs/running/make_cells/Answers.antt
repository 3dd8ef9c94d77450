use Rattle.std.proofs.Common.{◌≡◌, refl, arith}
use Rattle.cells_script.specs.Script.{cells_text}
use Rattle.command_words.specs.declared.reading.Command.TheVariants.{Cells}
use Rattle.top_call.proofs.Scripts.{script_read, refused_read}
use Rattle.top_call.proofs.running.make_cells.Goals as goal

pub returns-in_err-read-clause-reads : goal.returns-in_err-read-clause-reads
returns-in_err-read-clause-reads c = λ at.
    let box = c.args.words.now in
    let text = cells_text box.branch box.path box.from box.to in
    let same : c.as_bytes.result.now ≡ text = grind (arith, c.as_bytes.ensures.value, c.in_ok-text.ensures, c.as_str.ensures, c.as_str-2.ensures, c.as_str-3.ensures, c.as_str-4.ensures) in
    let told = c.from_residual-in_err-read in
    refused_read (Cells box) at text c.as_bytes.result.now refl same told.result c.in_err-read.field-0.0 c.in_err-read.ensures.reads told.ensures.0 told.ensures.1

pub returns-clause-reads : goal.returns-clause-reads
returns-clause-reads c = λ at.
    let box = c.args.words.now in
    let text = cells_text box.branch box.path box.from box.to in
    let same : c.as_bytes.result.now ≡ text = grind (arith, c.as_bytes.ensures.value, c.in_ok-text.ensures, c.as_str.ensures, c.as_str-2.ensures, c.as_str-3.ensures, c.as_str-4.ensures) in
    script_read (Cells box) at text c.as_bytes.result.now refl same c.in_ok-read.field-0 c.in_ok-read.ensures.reads
