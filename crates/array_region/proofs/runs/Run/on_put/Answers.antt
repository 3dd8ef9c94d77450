use Rattle.std.proofs.Common.{◌∙◌, ◌++◌, ℕ, List, [], ◌∷◌, ap}
use Rattle.manifest_file.specs.declared.manifest.Place.TheVariants.{Object}
use Rattle.object_store.specs.declared.events.New.{New}
use Rattle.object_store.specs.declared.events.Reply.TheVariants.{New as Is_new}
use Rattle.zarr_changes.specs.declared.placing.Placed.{Placed}
use Rattle.array_region.proofs.RunTaking.{run_put}
use Rattle.array_region.proofs.runs.Run.on_put.Goals as goal

pub returns-in-Ok-clause-took : goal.returns-in-Ok-clause-took
returns-in-Ok-clause-took c =
    let m = c.args.self.now in
    let l : List Placed = m.placed.items in
    let is = c.in-Ok.ensures.items ∙ ap (λ (n : ℕ). l ++ (record { index = c.args.index; place = Object c.args.id 0 n }) ∷ []) c.len.ensures in
    run_put m c.go_on.new.self c.go_on.result c.args.index c.args.bytes c.args.id c.push.new.self.items is c.args.reply c.in_default-new.field-0 c.in_default-new.field-1 (c.in-New.is ∙ ap (λ (n : New). Is_new n) c.in_default-new.is) c.go_on.ensures.lands
