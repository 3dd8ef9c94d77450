use Rattle.std.proofs.Common.{◌≡◌, sym, ap, subst, ◌∙◌, None, option_map}
use Rattle.std.specs.Option.{option_copied}
use Rattle.zarr_tree.specs.Held.{entry_in}
use Rattle.session.specs.Sessions.{SessionState}
use Rattle.session.proofs.ReadSteps.{first_begins}
use Rattle.session.proofs.session.Session.first_read.Goals as goal

pub returns-in_ok-ids-in-None : goal.returns-in_ok-ids-in-None
returns-in_ok-ids-in-None c =
    let none = subst (λ (s : SessionState). entry_in s.held.chunks c.args.at.node c.args.index.now ≡ None) c.self.view_is (sym c.chunk.ensures ∙ ap (option_map option_copied) c.in-None.is) in
    first_begins c.args.self.now c.args.path.now c.args.index.now c.args.at c.manifests.result c.in_ok-ids-in-None.ids c.first_listed.result none c.manifests.ensures c.in_ok-ids-in-None.ensures (c.first_listed.ensures _ _ _)
