use Rattle.std.proofs.Common.{sym, ◌∙◌}
use Rattle.zarr_path.specs.Paths.{same_path}
use Rattle.held_snapshot.proofs.Found.{found_by, found_none}
use Rattle.held_snapshot.proofs.nodes.HeldNodes.find.Goals as goal

pub returns-in-None : goal.returns-in-None
returns-in-None c = sym (found_none (λ row. same_path row.path c.args.path.now) c.args.self.now (sym c.place.ensures ∙ c.in-None.is))

pub returns-in-Some : goal.returns-in-Some
returns-in-Some c = sym (found_by (λ row. same_path row.path c.args.path.now) c.args.self.now c.in-Some.i c.at.result (sym c.place.ensures ∙ c.in-Some.is) c.at.ensures)
