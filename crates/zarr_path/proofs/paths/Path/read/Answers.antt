use Rattle.std.proofs.Common.{◌≡◌, Some, Ok, Err, inr, sym}
use Rattle.std.specs.String.{string_bytes}
use Rattle.zarr_path.specs.declared.paths.PathFault.TheVariants.{NoMemory}
use Rattle.zarr_path.specs.Paths.{path_fault}
use Rattle.zarr_path.proofs.GrammarLaws.{reads_words, unforced}
use Rattle.zarr_path.proofs.paths.Path.read.Goals as goal

pub returns-in-Some-clause-spelled : goal.returns-in-Some-clause-spelled
returns-in-Some-clause-spelled c = reads_words c.args.text.now (Err c.in-Some.fault) (inr (sym c.in-Some.ensures))

pub returns-in_ok-from_str-in-None-clause-spelled :
    goal.returns-in_ok-from_str-in-None-clause-spelled
returns-in_ok-from_str-in-None-clause-spelled c =
    reads_words c.args.text.now (Ok (string_bytes c.in_ok-from_str-in-None.field-0)) (c.in_ok-from_str-in-None.ensures.ok, sym c.in-None.ensures)

pub returns-in-Some-clause-memory : goal.returns-in-Some-clause-memory
returns-in-Some-clause-memory c = λ is. let told : path_fault c.args.text.now ≡ Some NoMemory = cc in absurd (unforced c.args.text.now told)
