use Rattle.std.proofs.Common.{ap, sym, ◌∙◌}
use Rattle.dir_store.specs.Contents.{object_at}
use Rattle.dir_store.specs.Losing.{tell_more}
use Rattle.dir_store.proofs.HoldsMore.{holds-more}
use Rattle.dir_store.proofs.losing.holds_more.Goals as goal

pub returns-in-Ok : goal.returns-in-Ok
returns-in-Ok g c = λ tells is.
    holds-more (object_at (g.F.Folder.files c.args.tree.now) c.args.root.now) c.args.part c.in-Ok.entries (c.in-Ok.ensures.all tells) (ap tell_more (sym c.as_slice.ensures) ∙ sym c.tell_more.ensures ∙ is)
