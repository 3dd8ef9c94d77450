use Rattle.whole_files.proofs.Folders.{splits}
use Rattle.whole_files.proofs.places.folder_of.Goals as goal

pub returns : goal.returns
returns c = splits c.args.path.now c.in_ok-folder.folder.now c.in_ok-folder.field-0-1.now c.in_ok-folder.ensures.cases
