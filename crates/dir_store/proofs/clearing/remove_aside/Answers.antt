use Rattle.std.proofs.Common.{◌∙◌}
use Rattle.dir_store.proofs.Leftovers.{only-aside}
use Rattle.dir_store.proofs.clearing.remove_aside.Goals as goal

pub returns : goal.returns
returns g c = λ tells.
    only-aside c.args.folder.now c.args.name.now c.as_str.result.now (g.F.Folder.files c.args.tree.now) (g.F.Folder.files c.remove_plain.new.tree)
    (c.is_aside.ensures.0 c.if-not-is_aside.false) (c.as_str.ensures.value ∙ c.in_ok-path.ensures) (c.remove_plain.ensures tells)
