use Rattle.std.proofs.Common.{ap, ◌∙◌}
use Rattle.std.specs.Prelude.{is_some}
use Rattle.ice_ids.specs.Text.{same_id12}
use Rattle.held_snapshot.proofs.Found.{any_by_find}
use Rattle.held_snapshot.proofs.files.HeldFiles.has.Goals as goal

pub returns : goal.returns
returns c = c.is_some.ensures ∙ ap is_some c.find.ensures ∙ any_by_find (λ file. same_id12 file.id c.args.id.now) c.args.self.now
